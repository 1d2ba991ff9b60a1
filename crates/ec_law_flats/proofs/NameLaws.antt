-- The machine of a directory and the flat file have the same closed names after every log.
use Rattle.std.proofs.Common.{◌≡◌, ℕ, ◌+◌, ◌<◌, ◌≤◌, Bool, true, false, cond, Option, None, List, [], ◌∷◌, refl, sym, ◌∙◌, subst, arith}
use Rattle.ec_attr.specs.declared.config.Config.{Config}
use Rattle.ec_attr.specs.declared.geometry.Geometry.{Geometry}
use Rattle.ec_attr.specs.declared.kind.Child.{Child}
use Rattle.ec_brick.specs.State.{State as Brick}
use Rattle.ec_conduct.specs.Given.{quorum}
use Rattle.ec_history.specs.Accounts.{Books, Leaving, booked, books, no_books}
use Rattle.ec_history.specs.Flat.{Tree}
use Rattle.ec_history.specs.Flat.Opener.{Several, Nobody}
use Rattle.ec_history.specs.IsRun.{IsRun}
use Rattle.ec_history.specs.Run.{Net, after as net_after, fresh, run}
use Rattle.ec_history.specs.Starts.{IsStart}
use Rattle.ec_history.specs.Story.{Story, opening, story, told}
use Rattle.ec_store.specs.Records.{Records}
use Rattle.ec_wire.specs.declared.entry.Entry.{Entry}
use Rattle.ec_law_net.specs.Turns.{View, seen_after}
use Rattle.ec_law_turns.specs.Laws.{Always}
use Rattle.ec_law_turns.specs.Orderly.{ArePlain, IsOrderly}
use Rattle.ec_law_turns.proofs.Basics.{some_none}
use Rattle.ec_law_turns.proofs.Origins.{unversioned}
use Rattle.ec_law_turns.proofs.Runs.{Kept, kept_there, plain_first}
use Rattle.ec_law_data.specs.Deeds.{file, file_after}
use Rattle.ec_law_data.specs.Forms.{Shape, of_directory}
use Rattle.ec_law_data.specs.Laws.{begun, directory_begun}
use Rattle.ec_law_data.specs.Link.{HoldClosed}
use Rattle.ec_law_data.specs.Reading.{Plans}
use Rattle.ec_law_data.specs.Versions.{PostsInOneTurn}
use Rattle.ec_law_data.proofs.Cores.{entry_heads}
use Rattle.ec_law_data.proofs.FlatVersions.{SamePosts}
use Rattle.ec_law_data.proofs.Reaching.{Reaches, reaches_start, reaches_then}
use Rattle.ec_law_flats.specs.Laws.{FlatNameLaws, HoldNames, NamesAgree}
use Rattle.ec_law_flats.specs.Plans.{AllPlans, AreBuilt, EntryPlans, NamePlan}
use Rattle.ec_law_flats.proofs.BuiltLogs.{built_log}
use Rattle.ec_law_flats.proofs.Calls.{AllBuilt, built_first, built_then}
use Rattle.ec_law_flats.proofs.NameRuns.{Directory, NameFits, names_stable, names_then, no_write}
use Rattle.ec_law_flats.proofs.Planning.{ArePlanned}
use Rattle.ec_law_flats.proofs.PlanRuns.{planned_then}
use Rattle.ec_law_flats.proofs.Posting.{posts_then}

-- what holds of a turn as it plans is what the entry's plan has to be
module _ (plans : Plans (List ℕ) (Option Child) (Option Child) Shape) (geometry : Geometry) (left : ℕ → Leaving) (none : (a : ℕ) → (left a).kept ≡ None) (first : ℕ) (origins : ℕ → ℕ) (new : (h : ℕ) → first ≤ h → origins h ≡ 0) (g : ℕ) where
  always_first : (es : List Entry) (m : Net) (v : View) → Always (PostsInOneTurn g) g es m v → PostsInOneTurn g m v
  always_first [] m v a = a
  always_first (e ∷ es) m v a = a.0

  names_agree : (es : List Entry) (m : Net) (vs : ℕ → View) (t : Story) (b : Books) (f : Directory) → IsRun geometry.n es m → ArePlain es → AreBuilt es → Kept geometry left none (books geometry left es m t b) → Reaches geometry first origins m vs t b → f.heads ≡ (vs g).core → SamePosts g m.said (vs g).of t (vs g).core → ArePlanned of_directory (NameFits (quorum geometry) g) g m.said (vs g).of m t f → AllBuilt m → NamesAgree f.flat (t.tree g) → Always (PostsInOneTurn g) g es m (vs g) → AllPlans of_directory (NamePlan (quorum geometry) g) plans geometry g es m (vs g) t f → NamesAgree (file of_directory plans geometry.n (quorum geometry) g es m (vs g) f).flat ((story geometry es m t).tree g)
  names_agree [] m vs t b f runs plain built kept k heads posts planned all agree one fits = agree
  names_agree (e ∷ es) m vs t b f runs plain built kept k heads posts planned all agree one fits =
      let p = plain_first e es plain in
      let c = built_first e es built in
      let may = kept_there geometry left none e es m t b runs plain (k.reached g).known.numbers kept in
      names_agree es (net_after m e) (λ h. seen_after h m (vs h) e) (told geometry m t e) (booked geometry left m t b e) (file_after of_directory plans geometry.n (quorum geometry) g m (vs g) f e) runs.1 p.1 c.1 kept
      (reaches_then geometry left none first origins new m vs t b e p.0 runs.0 may k)
      (entry_heads of_directory plans geometry.n (quorum geometry) g m (vs g) f e heads)
      (posts_then geometry left none first origins new g m vs t b e p.0 runs.0 may k posts one.0 (always_first es (net_after m e) (seen_after g m (vs g) e) one.1))
      (planned_then of_directory plans no_write geometry left none first origins new g m vs t b e p.0 runs.0 may k f (NameFits (quorum geometry) g) (names_stable (quorum geometry) g) all planned e refl (λ msg is. subst (λ (z : Entry). EntryPlans of_directory (NamePlan (quorum geometry) g) plans geometry g m (vs g) t f z) is fits.0))
      (built_then m e c.0 all)
      (names_then plans geometry left none first origins new g m vs t b e p.0 runs.0 may k f heads posts planned one.0 agree)
      one.1 fits.1

module _ (plans : Plans (List ℕ) (Option Child) (Option Child) Shape) (config : Config) (records : ℕ → Records) (bricks : ℕ → Brick) (tree : Tree) (next g : ℕ) (es : List Entry) (start : IsStart config records bricks tree next) (runs : IsRun config.geometry.n es (fresh bricks)) (plain : ArePlain es) (built : AreBuilt es) (orderly : IsOrderly config.geometry es (fresh bricks) (opening tree next)) (one : Always (PostsInOneTurn g) g es (fresh bricks) (begun config records tree next g)) (fits : AllPlans of_directory (NamePlan (quorum config.geometry) g) plans config.geometry g es (fresh bricks) (begun config records tree next g) (opening tree next) (directory_begun config records tree g)) where
  most : config.geometry.n < quorum config.geometry + quorum config.geometry
  most = let h = config.geometry.majority in omega (arith, h)

  at_first : NamesAgree (directory_begun config records tree g).flat ((opening tree next).tree g)
  at_first = record { version = refl; closed = λ n e. shut ((tree g).is_name_open n) e; child = λ n e. refl }
    where
      shut : (c : Bool) → c ≡ false → cond c Several Nobody ≡ Nobody
      shut true e = absurd (cc)
      shut false e = refl

  after_log : NamesAgree (file of_directory plans config.geometry.n (quorum config.geometry) g es (fresh bricks) (begun config records tree next g) (directory_begun config records tree g)).flat ((story config.geometry es (fresh bricks) (opening tree next)).tree g)
  after_log =
      names_agree plans config.geometry orderly.left orderly.none_kept next (λ h. (tree h).version) (λ h le. unversioned config records bricks tree next h start le) g es (fresh bricks) (λ h. begun config records tree next h) (opening tree next) no_books (directory_begun config records tree g) runs plain built
      (λ a given h. (orderly.conduct a given h, orderly.order a given h))
      (reaches_start config records bricks tree next (λ a. a) most start) refl
      (record { posted = λ i x q e body on b. absurd (some_none x (sym e)); from = λ a b e. absurd (cc) })
      (record { asked = λ i x e on. absurd (some_none x (sym e)); plan = λ a e. absurd (cc) })
      (λ c. refl) at_first one fits

  held : HoldClosed of_directory config.geometry.n g (run es (fresh bricks)) (file of_directory plans config.geometry.n (quorum config.geometry) g es (fresh bricks) (begun config records tree next g) (directory_begun config records tree g)) → HoldNames config.geometry.n g (run es (fresh bricks)) ((story config.geometry es (fresh bricks) (opening tree next)).tree g)
  held h b r name lt is unmarked at shut =
      let x = h name (after_log.closed name shut) in
      x.1.codes b r lt is unmarked (at ∙ sym after_log.version) ∙ x.1.units 0 (((story config.geometry es (fresh bricks) (opening tree next)).tree g).child name) (after_log.child name shut)

pub flat_name_laws : FlatNameLaws
flat_name_laws = record { agree = after_log; held = held; built = built_log }
