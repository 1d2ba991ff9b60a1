-- The machine of a file and the flat file have the same closed stripes after every log.
use Rattle.std.proofs.Common.{◌≡◌, ℕ, ◌+◌, ◌*◌, ◌<◌, ◌≤◌, Bool, true, false, cond, None, Some, List, [], ◌∷◌, refl, sym, ◌∙◌, ap, subst, arith, inr}
use Rattle.std.specs.Prelude.{nat_lt}
use Rattle.std.proofs.lemmas.Bool.Decides.{nat_tests}
use Rattle.ec_attr.specs.declared.config.Config.{Config}
use Rattle.ec_attr.specs.declared.geometry.Geometry.{Geometry}
use Rattle.ec_brick.specs.State.{State as Brick}
use Rattle.ec_conduct.specs.Given.{quorum}
use Rattle.ec_history.specs.Accounts.{Books, Leaving, booked, books, no_books}
use Rattle.ec_history.specs.Flat.{Flat as FlatFile, Opener, Tree, from_before, opened_before}
use Rattle.ec_history.specs.Flat.Opener.{Nobody, One, Several}
use Rattle.ec_history.specs.IsRun.{IsRun}
use Rattle.ec_history.specs.Run.{Net, after as net_after, fresh, run}
use Rattle.ec_history.specs.Starts.{IsStart}
use Rattle.ec_history.specs.Story.{Story, opening, story, told}
use Rattle.ec_stripe.specs.Span.{stripe_bytes}
use Rattle.ec_store.specs.Records.{Records}
use Rattle.ec_wire.specs.declared.entry.Entry.{Entry}
use Rattle.ec_law_ballots.specs.Begin.{begin}
use Rattle.ec_law_net.specs.Start.{first_heads, is_new}
use Rattle.ec_law_net.specs.Turns.{View, acts, seen_after}
use Rattle.ec_law_pieces.specs.File.{Flat, Form}
use Rattle.ec_law_turns.specs.Laws.{Always}
use Rattle.ec_law_turns.specs.Orderly.{ArePlain, IsOrderly}
use Rattle.ec_law_turns.proofs.Basics.{some_none}
use Rattle.ec_law_turns.proofs.Origins.{unversioned}
use Rattle.ec_law_turns.proofs.Runs.{Kept, kept_there, plain_first}
use Rattle.ec_law_data.specs.Deeds.{file, file_after}
use Rattle.ec_law_data.specs.Forms.{Coder, Piece, Shape}
use Rattle.ec_law_data.specs.Laws.{begun, begun_file}
use Rattle.ec_law_data.specs.Reading.{Plans}
use Rattle.ec_law_data.specs.Versions.{PostsInOneTurn}
use Rattle.ec_law_data.proofs.Cores.{entry_heads}
use Rattle.ec_law_data.proofs.FlatVersions.{SamePosts}
use Rattle.ec_law_data.proofs.Reaching.{Reaches, reaches_start, reaches_then}
use Rattle.ec_law_flats.specs.Plans.{AllPlans, AreBuilt, EntryPlans}
use Rattle.ec_law_flats.specs.Stripes.{AllSized, CutsKeep, DataInOneTurn, StripePlan, StripesAgree, file_flat, of_file_by}
use Rattle.ec_law_flats.specs.StripeLaws.{FlatStripeLaws, HoldStripes, IsByteForm}
use Rattle.ec_law_flats.proofs.Calls.{AllBuilt, AllPlain, built_first, built_then, plain_then}
use Rattle.ec_matrix.specs.Inverse.{IsByteRow}
use Rattle.ec_law_data.specs.Coding.{by_rows}
use Rattle.ec_law_data.specs.Link.{HoldClosed}
use Rattle.ec_law_flats.proofs.LowStripes.{code_chunk, code_elements, code_is_chunk, code_there, low_byte, low_combined, low_is_stripe, low_stripe, same_bytes}
use Rattle.ec_law_flats.proofs.Planning.{ArePlanned}
use Rattle.ec_law_flats.proofs.PlanRuns.{planned_then}
use Rattle.ec_law_flats.proofs.Posting.{posts_then}
use Rattle.ec_law_flats.proofs.StripeRuns.{StripeFits, calls_kept, file_no_write, stripes_are_stable, stripes_then}
use Rattle.ec_law_flats.proofs.StripeSteps.{Below, StripedFile, StripesBelow, is_several}

-- the PostOps of a call are of one turn, as all that it sends of data is
posts_once : (g : ℕ) (m : Net) (v : View) → DataInOneTurn g m v → PostsInOneTurn g m v
posts_once g m v one i j x y q r is its body its_body on its_on = one i j x y q r is its body its_body (inr on) (inr its_on)

module _ (coder : Coder) (form : Form ℕ (List (List ℕ)) Piece ℕ Shape) (plans : Plans ℕ (List (List ℕ)) ℕ Shape) (geometry : Geometry) (left : ℕ → Leaving) (none : (a : ℕ) → (left a).kept ≡ None) (first : ℕ) (origins : ℕ → ℕ) (new : (h : ℕ) → first ≤ h → origins h ≡ 0) (g : ℕ) where
  always_first : (law : Net → View → Type 0) (es : List Entry) (m : Net) (v : View) → Always law g es m v → law m v
  always_first law [] m v a = a
  always_first law (e ∷ es) m v a = a.0

  stripes_agree : (es : List Entry) (m : Net) (vs : ℕ → View) (t : Story) (b : Books) (f : StripedFile) → IsRun geometry.n es m → ArePlain es → AreBuilt es → Kept geometry left none (books geometry left es m t b) → Reaches geometry first origins m vs t b → f.heads ≡ (vs g).core → ((a : ℕ) → (vs g).core.call a ≡ a) → SamePosts g m.said (vs g).of t (vs g).core → ArePlanned (of_file_by (quorum geometry) coder form) (StripeFits (quorum geometry) g plans.took) g m.said (vs g).of m t f → AllBuilt m → AllPlain m → StripesBelow (quorum geometry) g m.said (vs g).of f.flat (t.tree g) → Always (DataInOneTurn g) g es m (vs g) → Always (CutsKeep g) g es m (vs g) → AllPlans (of_file_by (quorum geometry) coder form) (StripePlan (quorum geometry) g plans.took) plans geometry g es m (vs g) t f → AllSized plans.took geometry g es m (vs g) t → StripesAgree (quorum geometry) (file (of_file_by (quorum geometry) coder form) plans geometry.n (quorum geometry) g es m (vs g) f).flat ((story geometry es m t).tree g)
  stripes_agree [] m vs t b f runs plain built kept k heads own posts planned all_built all_plain agree one cuts fits sized = record {
    version = agree.version;
    closed = λ s e. subst (λ (o : Opener). Below g m.said (vs g).of (f.flat.opener s) o) e (agree.below s);
    bytes = λ s i v e lt known. agree.bytes s i v (ap is_several e) lt known;
  }
  stripes_agree (e ∷ es) m vs t b f runs plain built kept k heads own posts planned all_built all_plain agree one cuts fits sized =
      let p = plain_first e es plain in
      let c = built_first e es built in
      let may = kept_there geometry left none e es m t b runs plain (k.reached g).known.numbers kept in
      stripes_agree es (net_after m e) (λ h. seen_after h m (vs h) e) (told geometry m t e) (booked geometry left m t b e) (file_after (of_file_by (quorum geometry) coder form) plans geometry.n (quorum geometry) g m (vs g) f e) runs.1 p.1 c.1 kept
      (reaches_then geometry left none first origins new m vs t b e p.0 runs.0 may k)
      (entry_heads (of_file_by (quorum geometry) coder form) plans geometry.n (quorum geometry) g m (vs g) f e heads)
      (λ a. ap (λ (z : ℕ → ℕ). z a) (calls_kept (acts g m (vs g) e) (vs g).core) ∙ own a)
      (posts_then geometry left none first origins new g m vs t b e p.0 runs.0 may k posts (posts_once g m (vs g) one.0) (posts_once g (net_after m e) (seen_after g m (vs g) e) (always_first (DataInOneTurn g) es (net_after m e) (seen_after g m (vs g) e) one.1)))
      (planned_then (of_file_by (quorum geometry) coder form) plans file_no_write geometry left none first origins new g m vs t b e p.0 runs.0 may k f (StripeFits (quorum geometry) g plans.took) (stripes_are_stable (quorum geometry) g coder form plans.took) all_built planned e refl (λ msg is. subst (λ (z : Entry). EntryPlans (of_file_by (quorum geometry) coder form) (StripePlan (quorum geometry) g plans.took) plans geometry g m (vs g) t f z) is fits.0))
      (built_then m e c.0 all_built)
      (plain_then m e p.0 all_plain)
      (stripes_then coder form plans geometry left none first origins new g m vs t b e p.0 runs.0 may k f heads own posts planned all_plain one.0 cuts.0 sized.0 agree)
      one.1 cuts.1 fits.1 sized.1

module _ (coder : Coder) (form : Form ℕ (List (List ℕ)) Piece ℕ Shape) (plans : Plans ℕ (List (List ℕ)) ℕ Shape) (config : Config) (records : ℕ → Records) (bricks : ℕ → Brick) (tree : Tree) (next g : ℕ) (es : List Entry) (start : IsStart config records bricks tree next) (runs : IsRun config.geometry.n es (fresh bricks)) (plain : ArePlain es) (built : AreBuilt es) (orderly : IsOrderly config.geometry es (fresh bricks) (opening tree next)) (one : Always (DataInOneTurn g) g es (fresh bricks) (begun config records tree next g)) (cuts : Always (CutsKeep g) g es (fresh bricks) (begun config records tree next g)) (flat : Flat ℕ ℕ Shape) (shape : ℕ → Shape) (piece : ℕ → ℕ → Piece) (value : ℕ → List (List ℕ)) (begins : StripesAgree (quorum config.geometry) flat (from_before (tree g))) (fits : AllPlans (of_file_by (quorum config.geometry) coder form) (StripePlan (quorum config.geometry) g plans.took) plans config.geometry g es (fresh bricks) (begun config records tree next g) (opening tree next) (begun_file (of_file_by (quorum config.geometry) coder form) config records g flat shape piece value)) (sized : AllSized plans.took config.geometry g es (fresh bricks) (begun config records tree next g) (opening tree next)) where
  most : config.geometry.n < quorum config.geometry + quorum config.geometry
  most = let h = config.geometry.majority in omega (arith, h)

  -- no stripe is open to a call of the log
  at_first : StripesBelow (quorum config.geometry) g (fresh bricks).said (begun config records tree next g).of flat (from_before (tree g))
  at_first = record { version = begins.version; below = λ s. below s ((tree g).opener s) refl; bytes = λ s i v few lt known. begins.bytes s i v (few_closed ((tree g).opener s) few) lt known }
    where
      below : (s : ℕ) (o : Opener) → (tree g).opener s ≡ o → Below g (fresh bricks).said (begun config records tree next g).of (flat.opener s) (opened_before ((tree g).opener s))
      below s Nobody e = subst (λ (z : Opener). Below g (fresh bricks).said (begun config records tree next g).of (flat.opener s) (opened_before z)) (sym e) (begins.closed s (ap opened_before e))
      below s (One c) e = subst (λ (z : Opener). Below g (fresh bricks).said (begun config records tree next g).of (flat.opener s) (opened_before z)) (sym e) tt
      below s Several e = subst (λ (z : Opener). Below g (fresh bricks).said (begun config records tree next g).of (flat.opener s) (opened_before z)) (sym e) tt

      few_closed : (o : Opener) → is_several (opened_before o) ≡ false → opened_before o ≡ Nobody
      few_closed Nobody e = refl
      few_closed (One c) e = absurd (cc)
      few_closed Several e = absurd (cc)

  after_log : StripesAgree (quorum config.geometry) (file (of_file_by (quorum config.geometry) coder form) plans config.geometry.n (quorum config.geometry) g es (fresh bricks) (begun config records tree next g) (begun_file (of_file_by (quorum config.geometry) coder form) config records g flat shape piece value)).flat ((story config.geometry es (fresh bricks) (opening tree next)).tree g)
  after_log =
      stripes_agree coder form plans config.geometry orderly.left orderly.none_kept next (λ h. (tree h).version) (λ h le. unversioned config records bricks tree next h start le) g es (fresh bricks) (λ h. begun config records tree next h) (opening tree next) no_books (begun_file (of_file_by (quorum config.geometry) coder form) config records g flat shape piece value) runs plain built
      (λ a given h. (orderly.conduct a given h, orderly.order a given h))
      (reaches_start config records bricks tree next (λ a. a) most start)
      (ap (λ (origin : ℕ). begin config.geometry.n origin (first_heads config.geometry.n records g) (is_new config.geometry.n records g) (λ a. a)) begins.version)
      (λ a. refl)
      (record { posted = λ i x q e body on b. absurd (some_none x (sym e)); from = λ a b e. absurd (cc) })
      (record { asked = λ i x e on. absurd (some_none x (sym e)); plan = λ a e. absurd (cc) })
      (λ c. refl) (λ c. refl) at_first one cuts fits sized

  held : (rows : ℕ → ℕ → ℕ) → ((b : ℕ) → b < config.geometry.n → IsByteRow (quorum config.geometry) config.geometry.algorithm b (rows b)) → IsByteForm (quorum config.geometry) rows form → HoldClosed (of_file_by (quorum config.geometry) coder form) config.geometry.n g (run es (fresh bricks)) (file (of_file_by (quorum config.geometry) coder form) plans config.geometry.n (quorum config.geometry) g es (fresh bricks) (begun config records tree next g) (begun_file (of_file_by (quorum config.geometry) coder form) config records g flat shape piece value)) → HoldStripes config.geometry g (run es (fresh bricks)) ((story config.geometry es (fresh bricks) (opening tree next)).tree g)
  held rows are by_bytes h s shut =
      let x = h s (after_log.closed s shut) in
      record {
        stripe = low_stripe (quorum config.geometry) x.0;
        is_stripe = low_is_stripe (quorum config.geometry) x.0;
        bytes = λ i v lt known. low_byte (quorum config.geometry) x.0 i lt ∙ (sym (by_bytes.units x.0 i lt) ∙ x.1.units i v (after_log.bytes s i v shut lt known));
        codes = λ b r lt is at.
            let row = are b lt in
            record {
              chunk = code_chunk (quorum config.geometry) (rows b) x.0;
              piece = record {
                is_chunk = code_is_chunk (quorum config.geometry) (rows b) x.0;
                bytes = λ i l. same_bytes (r.piece s) (λ i. Some (by_rows (quorum config.geometry) rows x.0 b i)) (x.1.codes b r lt is at.0 (at.1 ∙ sym after_log.version) ∙ by_bytes.codes x.0 b) i l ∙ ap (λ (z : ℕ). Some z) (sym (code_there (quorum config.geometry) (rows b) x.0 i l));
              };
              code = record {
                row = rows b;
                bytes = row.bytes;
                is_row = row.is_row;
                elements = λ e l. code_elements (quorum config.geometry) (rows b) x.0 row.bytes e l ∙ sym (low_combined (quorum config.geometry) x.0 (rows b) e l);
              };
            };
      }

-- a file of the tree, as the machine begins with it
begins_so : (k : ℕ) (x : FlatFile) → StripesAgree k (file_flat k x) (from_before x)
begins_so k x = record { version = refl; closed = λ s e. e; bytes = λ s i v e lt known. ap (λ (c : Bool). cond c (x.byte (stripe_bytes k * s + i)) None) (inside i (stripe_bytes k) lt) ∙ known }
  where
    inside : (i n : ℕ) → i < n → nat_lt i n ≡ true
    inside i n lt = grind (arith, nat_tests)

pub flat_stripe_laws : FlatStripeLaws
flat_stripe_laws = record { begins = begins_so; agree = after_log; held = held }
