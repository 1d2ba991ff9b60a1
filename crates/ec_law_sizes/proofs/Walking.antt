-- Along a log, for plans by which Takes and Creates owe nothing: where a call commits, its turn's group had the flat file's shape; and at
-- the end the machine without data has the flat file's version and shape.
use Rattle.std.proofs.Common.{◌≡◌, ℕ, ◌<◌, ◌≤◌, true, Some, None, List, [], ◌∷◌, ◌++◌, sym, ◌∙◌, ap, subst}
use Rattle.ec_attr.specs.declared.geometry.Geometry.{Geometry}
use Rattle.ec_conduct.specs.Given.{quorum}
use Rattle.ec_history.specs.Accounts.{Books, Leaving, booked, books}
use Rattle.ec_history.specs.IsRun.{IsRun}
use Rattle.ec_history.specs.Run.{Net, after as net_after, run}
use Rattle.ec_history.specs.Story.{Story, op_of, story, told}
use Rattle.ec_wire.specs.declared.entry.Entry.{Entry}
use Rattle.ec_wire.specs.declared.entry.Entry.TheVariants.{Executed}
use Rattle.ec_wire.specs.declared.message.Body.TheVariants.{ToBrick}
use Rattle.ec_wire.specs.declared.message.Message.{Message}
use Rattle.ec_wire.specs.declared.op.Op.{Op}
use Rattle.ec_wire.specs.declared.request.Request.{Request}
use Rattle.ec_law_base.specs.State.{State}
use Rattle.ec_law_pieces.specs.Deed.{Deed, after as after_deeds, step}
use Rattle.ec_law_pieces.specs.File.{File, Form}
use Rattle.ec_law_net.specs.Turns.{View, seen_after, view}
use Rattle.ec_law_turns.specs.Laws.{Always}
use Rattle.ec_law_turns.specs.Orderly.{ArePlain}
use Rattle.ec_law_turns.proofs.Numbered.{IsPlainEntry}
use Rattle.ec_law_turns.proofs.Runs.{Kept, kept_there, plain_first}
use Rattle.ec_law_turns.proofs.Steps.{EntryKept}
use Rattle.ec_law_data.specs.Deeds.{all_deeds, deeds, file, file_after, is_post_on}
use Rattle.ec_law_data.specs.Forms.{Shape}
use Rattle.ec_law_data.specs.Reading.{Plans, Reading}
use Rattle.ec_law_data.specs.Versions.{PostsInOneTurn}
use Rattle.ec_law_data.proofs.Cores.{entry_heads}
use Rattle.ec_law_data.proofs.FlatVersions.{SamePosts}
use Rattle.ec_law_data.proofs.Reaching.{Reaches, gone, reached_then, reaches_then}
use Rattle.ec_law_flats.proofs.Posting.{post_turn, posts_then}
use Rattle.ec_law_heads.proofs.Blank.{IsUnmade, unmade_goes}
use Rattle.ec_law_shapes.specs.Fitting.{AllOweShape}
use Rattle.ec_law_shapes.specs.Shadows.{Bare, of_shapes}
use Rattle.ec_law_shapes.specs.Shapes.{shape_after}
use Rattle.ec_law_shapes.proofs.Shadowing.{bare_plans}
use Rattle.ec_law_sizes.proofs.Becoming.{AsBecomes, as_entry}
use Rattle.ec_law_sizes.proofs.Beside.{Beside, beside_then}
use Rattle.ec_law_sizes.proofs.Later.{ops_log, still_log}
use Rattle.ec_law_sizes.proofs.Steps.{EntryShaped, IsPart, Tracks, shaped_now, tracks_then}
use Rattle.ec_law_sizes.proofs.Taking.{AsTook, entry_takes}
use Rattle.ec_law_sizes.proofs.Telling.{MakesNew}

pub owe_shape_both : {P V C U S : Type 0} (form : Form P V C U S) (n k : ℕ) (xs ys : List (Deed P V C U S)) (f : File P V C U S) → AllOweShape form n k (xs ++ ys) f → AllOweShape form n k xs f × AllOweShape form n k ys (after_deeds form n k xs f)
owe_shape_both form n k [] ys f h = (tt, h)
owe_shape_both form n k (x ∷ xs) ys f h = let o = owe_shape_both form n k xs ys (step form n k f x) h.1 in ((h.0, o.0), o.1)

-- where a call commits on the gfid by an entry of the log, this part of the flat file's shape is that of the turn's group
abbrev pub AllShaped : {X : Type 0} → (Shape → X) → (ℕ → Shape) → Geometry → ℕ → List Entry → Net → View → Story → Type 0
AllShaped part took geometry g [] m v t = Unit {0}
AllShaped part took geometry g (e ∷ es) m v t = EntryShaped part took geometry g m v t e × AllShaped part took geometry g es (net_after m e) (seen_after g m v e) (told geometry m t e)

always_first : (law : Net → View → Type 0) (g : ℕ) (es : List Entry) (m : Net) (v : View) → Always law g es m v → law m v
always_first law g [] m v h = h
always_first law g (e ∷ es) m v h = h.0

-- the plans of turns whose PostOps were sent become what their calls make of the shapes that they have for the turns' groups
abbrev pub PlanParts : {P V U X : Type 0} → (Shape → X) → Plans P V U Shape → ℕ → Net → View → Type 0
PlanParts part plans g m v = (i : ℕ) (x : Message) (q : Request) → m.said i ≡ Some x → x.body ≡ ToBrick q → is_post_on g q ≡ true → part (plans.plan (v.of i)).becomes ≡ part (shape_after (op_of m x.call) (plans.took (v.of i)))

-- each Make of the gfid makes a record of this shape
abbrev pub MakesAre : {X : Type 0} → (Shape → X) → Shape → ℕ → Net → Type 0
MakesAre part new g m = (i : ℕ) (x : Message) (q : Request) → m.said i ≡ Some x → x.body ≡ ToBrick q → MakesNew part new g q

module _ {P V C U X : Type 0} (origin : ℕ) (part : Shape → X) (R : Reading P V C U Shape) (plans : Plans P V U Shape) (geometry : Geometry) (g : ℕ) where
  -- what is known at a moment of a log
  pub record Front (m : Net) (vs : ℕ → View) (t : Story) (f : File P V C U Shape) (s : Bare) : Type 0 where
    pub heads : f.heads ≡ (vs g).core
    pub beside : Beside geometry.n (quorum geometry) g m (vs g) f s
    pub posts : SamePosts g m.said (vs g).of t (vs g).core
    pub unmade : (t.tree g).kind ≡ None → IsUnmade geometry.n g m (t.tree g)
    pub becomes : AsBecomes R plans geometry.n (quorum geometry) g f
    pub took : AsTook R plans geometry.n (quorum geometry) g f
    pub track : Tracks origin part R.new s (t.tree g)

  -- and at its end
  pub record Ends (m : Net) (v : View) (t : Story) (f : File P V C U Shape) : Type 0 where
    pub machine : Bare
    pub beside : Beside geometry.n (quorum geometry) g m v f machine
    pub track : Tracks origin part R.new machine (t.tree g)

module _ {P V C U X : Type 0} (origin : ℕ) (part : Shape → X) (goes : IsPart part) (R : Reading P V C U Shape) (plans : Plans P V U Shape) (geometry : Geometry) (left : ℕ → Leaving) (none : (a : ℕ) → (left a).kept ≡ None) (first : ℕ) (origins : ℕ → ℕ) (new_origins : (h : ℕ) → first ≤ h → origins h ≡ 0) (g : ℕ) where
  abbrev n : ℕ
  n = geometry.n

  abbrev q' : ℕ
  q' = quorum geometry

  -- an entry of a log, before others
  module _ (e : Entry) (es : List Entry) (m : Net) (vs : ℕ → View) (t : Story) (b : Books) (f : File P V C U Shape) (s : Bare) (runs : IsRun geometry.n (e ∷ es) m) (plain : ArePlain (e ∷ es)) (kept : Kept geometry left none (books geometry left (e ∷ es) m t b)) (k : Reaches geometry first origins m vs t b) (at : Front origin part R plans geometry g m vs t f s) (one : Always (PostsInOneTurn g) g (e ∷ es) m (vs g)) (makes : MakesAre part R.new g (run (e ∷ es) m)) (ops : PlanParts part plans g (run (e ∷ es) m) (view g (e ∷ es) m (vs g))) where
    p : IsPlainEntry e × ArePlain es
    p = plain_first e es plain

    kept' : EntryKept m b e
    kept' = kept_there geometry left none e es m t b runs plain (k.reached g).known.numbers kept

    k' : Reaches geometry first origins (net_after m e) (λ h. seen_after h m (vs h) e) (told geometry m t e) (booked geometry left m t b e)
    k' = reaches_then geometry left none first origins new_origins m vs t b e p.0 runs.0 kept' k

    -- of a PostOp that was sent
    module _ (i : ℕ) (x : Message) (q : Request) (is : m.said i ≡ Some x) (body : x.body ≡ ToBrick q) (on : is_post_on g q ≡ true) where
      its_plan : f.becomes ((vs g).of i) ≡ (plans.plan ((vs g).of i)).becomes
      its_plan = at.becomes ((vs g).of i) (at.beside.is.plan ((vs g).of i) (at.beside.posted i x q is body on)).0

      its_group : f.took ((vs g).of i) ≡ plans.took ((vs g).of i)
      its_group = at.took ((vs g).of i) (post_turn geometry left none first origins new_origins g m vs t b e p.0 runs.0 kept' k i x q is body on) (subst (λ (z : State). 0 < (z.ballot ((vs g).of i)).number) at.beside.is.heads (at.beside.good.planned_number ((vs g).of i) (at.beside.posted i x q is body on)).0)

      its_op : part (f.becomes ((vs g).of i)) ≡ part (shape_after (op_of m x.call) (f.took ((vs g).of i)))
      its_op =
          let o = still_log geometry left none first origins new_origins g (e ∷ es) m vs t b runs plain kept k i x is in
          let same = ops_log geometry left none first origins new_origins g (e ∷ es) m vs t b runs plain kept k i x is in
          ap part its_plan
          ∙ (subst (λ (a : ℕ). part (plans.plan a).becomes ≡ part (shape_after (op_of (run (e ∷ es) m) x.call) (plans.took a))) o.1 (ops i x q o.0 body on)
          ∙ (ap (λ (op : Op). part (shape_after op (plans.took ((vs g).of i)))) same
          ∙ ap (λ (z : Shape). part (shape_after (op_of m x.call) z)) (sym its_group)))

    now_makes : (i : ℕ) (x : Message) (q : Request) → m.said i ≡ Some x → x.body ≡ ToBrick q → MakesNew part R.new g q
    now_makes i x q is body = makes i x q (still_log geometry left none first origins new_origins g (e ∷ es) m vs t b runs plain kept k i x is).0 body

    one_now : PostsInOneTurn g m (vs g)
    one_now = always_first (PostsInOneTurn g) g (e ∷ es) m (vs g) one

    one_then : PostsInOneTurn g (net_after m e) (seen_after g m (vs g) e)
    one_then = always_first (PostsInOneTurn g) g es (net_after m e) (seen_after g m (vs g) e) one.1

    abbrev file_next : File P V C U Shape
    file_next = file_after R plans n q' g m (vs g) f e

    abbrev bare_next : Bare
    bare_next = file_after (of_shapes R.new) (bare_plans plans f) n q' g m (vs g) s e

    shaped : EntryShaped part plans.took geometry g m (vs g) t e
    shaped = by e (shaped_now origin part goes R plans geometry left none first origins new_origins g m vs t b e p.0 runs.0 kept' k f s at.heads at.beside at.posts one_now at.unmade now_makes its_op at.track)
      where
        by : (z : Entry) → EntryShaped part f.took geometry g m (vs g) t z → EntryShaped part plans.took geometry g m (vs g) t z
        by (Executed i version failed) h = λ y q its body on w. ap part (sym (its_group i y q its body on)) ∙ h y q its body on w
        by z h = tt

    next : AllOweShape R.form n q' (deeds R plans n q' g m (vs g) f e) f → Front origin part R plans geometry g (net_after m e) (λ h. seen_after h m (vs h) e) (told geometry m t e) file_next bare_next
    next owes = record {
      heads = entry_heads R plans n q' g m (vs g) f e at.heads;
      beside = beside_then R plans geometry g left m (vs g) t b f s (k.reached g) at.heads at.beside e runs.0 (gone geometry left none first origins new_origins m vs t b e p.0 runs.0 kept' k g).runs (reached_then geometry left none first origins new_origins m vs t b e p.0 runs.0 kept' k g) owes;
      posts = posts_then geometry left none first origins new_origins g m vs t b e p.0 runs.0 kept' k at.posts one_now one_then;
      unmade = unmade_goes geometry g m (vs g) b t e runs.0 (k.reached g) at.unmade;
      becomes = as_entry R plans n q' g m (vs g) f e at.becomes;
      took = entry_takes R plans n q' g m (vs g) f e at.took;
      track = tracks_then origin part goes R plans geometry left none first origins new_origins g m vs t b e p.0 runs.0 kept' k f s at.heads at.beside at.posts one_now at.unmade now_makes its_op at.track;
    }

  pub walk : (es : List Entry) (m : Net) (vs : ℕ → View) (t : Story) (b : Books) (f : File P V C U Shape) (s : Bare) → IsRun geometry.n es m → ArePlain es → Kept geometry left none (books geometry left es m t b) → Reaches geometry first origins m vs t b → Front origin part R plans geometry g m vs t f s → Always (PostsInOneTurn g) g es m (vs g)
      → AllOweShape R.form geometry.n (quorum geometry) (all_deeds R plans geometry.n (quorum geometry) g es m (vs g) f) f
      → MakesAre part R.new g (run es m) → PlanParts part plans g (run es m) (view g es m (vs g))
      → AllShaped part plans.took geometry g es m (vs g) t × Ends origin part R plans geometry g (run es m) (view g es m (vs g)) (story geometry es m t) (file R plans geometry.n (quorum geometry) g es m (vs g) f)
  walk [] m vs t b f s runs plain kept k at one owe makes ops = (tt, record { machine = s; beside = at.beside; track = at.track })
  walk (e ∷ es) m vs t b f s runs plain kept k at one owe makes ops =
      let owes = owe_shape_both R.form n q' (deeds R plans n q' g m (vs g) f e) (all_deeds R plans n q' g es (net_after m e) (seen_after g m (vs g) e) (file_after R plans n q' g m (vs g) f e)) f owe in
      let rest = walk es (net_after m e) (λ h. seen_after h m (vs h) e) (told geometry m t e) (booked geometry left m t b e) (file_after R plans n q' g m (vs g) f e) (file_after (of_shapes R.new) (bare_plans plans f) n q' g m (vs g) s e) runs.1 (p e es m vs t b f s runs plain kept k at one makes ops).1 kept
      (k' e es m vs t b f s runs plain kept k at one makes ops) (next e es m vs t b f s runs plain kept k at one makes ops owes.0) one.1 owes.1 makes ops in
      ((shaped e es m vs t b f s runs plain kept k at one makes ops, rest.0), rest.1)
