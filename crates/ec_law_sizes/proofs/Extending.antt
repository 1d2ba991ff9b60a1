-- Plans of shapes for a whole log, chosen entry by entry: by them its Takes and Creates owe nothing, and turns plan what their calls make.
use Rattle.std.proofs.Common.{◌≡◌, ⊎_elim, ◌⊎◌, ℕ, ◌+◌, ◌^◌, ◌<◌, ◌≤◌, true, Option, Some, None, List, [], ◌∷◌, ◌++◌, refl, sym, ◌∙◌, ap, subst, arith, inl, inr}
use Rattle.std.specs.Option.{unwrap_or}
use Rattle.ec_attr.specs.declared.attr.Attr.{Attr}
use Rattle.ec_attr.specs.declared.geometry.Geometry.{Geometry}
use Rattle.ec_attr.specs.declared.gfid.Gfid.{Gfid}
use Rattle.ec_conduct.specs.Given.{quorum}
use Rattle.ec_history.specs.Accounts.{Books, Leaving, booked, books}
use Rattle.ec_history.specs.IsRun.{IsRun, May as MayEnter, MaySay}
use Rattle.ec_history.specs.Run.{Net, after as net_after, run}
use Rattle.ec_history.specs.Story.{Story, op_of, told}
use Rattle.ec_wire.specs.declared.entry.Entry.{Entry}
use Rattle.ec_wire.specs.declared.entry.Entry.TheVariants.{Sent, Executed, Heard, Torn}
use Rattle.ec_wire.specs.declared.message.Body.{Body}
use Rattle.ec_wire.specs.declared.message.Body.TheVariants.{ToBrick}
use Rattle.ec_wire.specs.declared.message.Message.{Message}
use Rattle.ec_wire.specs.declared.op.Op.{Op}
use Rattle.ec_wire.specs.declared.request.Request.{Request}
use Rattle.ec_wire.specs.declared.request.Request.TheVariants.{PostOp}
use Rattle.ec_law_base.specs.State.{State}
use Rattle.ec_law_ballots.specs.Act.{Act}
use Rattle.ec_law_ballots.specs.Guard.{Runs}
use Rattle.ec_law_pieces.specs.Deed.{Deed, after as after_deeds, step}
use Rattle.ec_law_pieces.specs.File.{File, Form}
use Rattle.ec_law_net.specs.Turns.{Maker, View, acts, seen_after, turn_after, turn_of, view}
use Rattle.ec_law_turns.specs.Orderly.{ArePlain}
use Rattle.ec_law_turns.specs.Reached.{Reached}
use Rattle.ec_law_turns.proofs.Basics.{equal, put_here, some_none}
use Rattle.ec_law_turns.proofs.Numbered.{IsPlainEntry}
use Rattle.ec_law_turns.proofs.Runs.{Kept, kept_there, plain_first}
use Rattle.ec_law_turns.proofs.Sends.{adds}
use Rattle.ec_law_turns.proofs.Steps.{EntryKept, executed_same, heard_same, torn_same}
use Rattle.ec_law_turns.proofs.Tracks.{Adds}
use Rattle.ec_law_data.specs.Deeds.{all_deeds, deeds, file, file_after, is_post_on}
use Rattle.ec_law_data.specs.Forms.{Shape}
use Rattle.ec_law_data.specs.Link.{Fits}
use Rattle.ec_law_data.specs.Reading.{Reading}
use Rattle.ec_law_data.proofs.Cores.{entry_heads}
use Rattle.ec_law_data.proofs.Reaching.{Reaches, gone, reached_then, reaches_then}
use Rattle.ec_law_flats.proofs.Calls.{calls_stay}
use Rattle.ec_law_flats.proofs.Posting.{post_begun}
use Rattle.ec_law_plans.specs.Extend.{Agree}
use Rattle.ec_law_plans.proofs.Agreeing.{first_file, same_deeds}
use Rattle.ec_law_plans.proofs.Steady.{number_acts, planned_deeds}
use Rattle.ec_law_shapes.specs.Fitting.{AllOweShape, EntryFits}
use Rattle.ec_law_shapes.specs.Shadows.{Bare, HasShapes, bare_form, of_shapes}
use Rattle.ec_law_shapes.specs.Shapes.{shape_after}
use Rattle.ec_law_shapes.proofs.Beside.{shadow_then}
use Rattle.ec_law_shapes.proofs.Facts.{Facts, facts}
use Rattle.ec_law_shapes.proofs.Steps.{has_entry, owe_entry}
use Rattle.ec_law_sizes.proofs.Asked.{HaveOps, ops_then}
use Rattle.ec_law_sizes.proofs.Becoming.{AsBecomes, as_entry}
use Rattle.ec_law_sizes.proofs.Choosing.{ShapePlans, agree, chosen_at, fits}
use Rattle.ec_law_sizes.proofs.Later.{still_entry, still_log}
use Rattle.ec_law_sizes.proofs.Taking.{AsTook, entry_takes}
use Rattle.ec_law_sizes.proofs.Telling.{MakesNew}
use Rattle.ec_law_sizes.proofs.Walking.{MakesAre, PlanParts}

pub shapes_fit : (new : Shape) → Fits (of_shapes new)
shapes_fit new = record {
  writers = λ g q e. absurd (cc);
  headed = λ r h p. refl;
  made = λ h p b. refl;
  bytes = λ x n first chunks r p w. absurd p;
  unset = λ x n first count chunks r p le e. refl;
  cut = λ x n keep count r p. absurd p;
  name = λ x n name child r p. absurd p;
  names = λ x n start upto list r p e. refl;
}

owe_shape_join : {P V C U S : Type 0} (form : Form P V C U S) (n k : ℕ) (xs ys : List (Deed P V C U S)) (f : File P V C U S) → AllOweShape form n k xs f → AllOweShape form n k ys (after_deeds form n k xs f) → AllOweShape form n k (xs ++ ys) f
owe_shape_join form n k [] ys f h i = i
owe_shape_join form n k (x ∷ xs) ys f h i = (h.0, owe_shape_join form n k xs ys (step form n k f x) h.1 i)

append_none : {X : Type 0} (xs : List X) → xs ++ [] ≡ xs
append_none [] = refl
append_none (x ∷ xs) = ap (λ (ys : List _). x ∷ ys) (append_none xs)

-- the shape, all of it
abbrev pub whole : Shape → Shape
whole s = s

-- a message that was said was so before the entry, or it is by it
newly : (geometry : Geometry) (g : ℕ) (m : Net) (v : View) (e : Entry) → MayEnter geometry.n m e → ((msg : Message) → e ≡ Sent msg → Adds m.said (net_after m e).said v.of (seen_after g m v e).of msg.no msg) → (i : ℕ) (x : Message) → (net_after m e).said i ≡ Some x → (m.said i ≡ Some x) ⊎ ((msg : Message) × (e ≡ Sent msg) × (i ≡ msg.no) × (msg ≡ x))
newly geometry g m v (Sent msg) may more i x is = ⊎_elim (λ z. inr (msg, refl, z.0, z.1)) (λ z. inl z) ((more msg refl).newest i x is)
newly geometry g m v (Executed j version failed) may more i x is = inl (sym (ap (λ (f : ℕ → Option Message). f i) (executed_same m (m.said j) version failed).0) ∙ is)
newly geometry g m v (Heard j) may more i x is = inl (sym (ap (λ (f : ℕ → Option Message). f i) (heard_same m (m.said j)).0) ∙ is)
newly geometry g m v (Torn j bytes version) may more i x is = inl (sym (ap (λ (f : ℕ → Option Message). f i) (torn_same m (m.said j) bytes version).0) ∙ is)
newly geometry g m v e may more i x is = inl is

-- a call's turn, once it has one
turn_is : (g : ℕ) (v : View) (msg : Message) → 2 ^ 61 ≤ turn_of g v msg → turn_after g v msg msg.call ≡ Some (turn_of g v msg)
turn_is g v msg begun = by (turn_after g v msg msg.call) refl
  where
    by : (o : Option ℕ) → turn_after g v msg msg.call ≡ o → turn_after g v msg msg.call ≡ Some (turn_of g v msg)
    by None e = absurd (let z : turn_of g v msg ≡ 0 = ap (λ (o : Option ℕ). unwrap_or o 0) e in omega (arith, z, begun))
    by (Some t) e = e ∙ ap (λ (y : ℕ). Some y) (sym (ap (λ (o : Option ℕ). unwrap_or o 0) e))

-- a PostOp on the gfid
pub post_is : (g : ℕ) (q : Request) → is_post_on g q ≡ true → {P : Type 0} → ((y : Gfid) (k at version size : ℕ) (attr : Option Attr) → q ≡ PostOp y k at version size attr → y.0 ≡ g → P) → P
post_is g (PostOp y k at version size attr) on f = f y k at version size attr refl (equal y.0 g on)
post_is g q on f = absurd (cc)

module _ (new : Shape) (geometry : Geometry) (left : ℕ → Leaving) (none : (a : ℕ) → (left a).kept ≡ None) (first : ℕ) (origins : ℕ → ℕ) (new_origins : (h : ℕ) → first ≤ h → origins h ≡ 0) (g : ℕ) where
  abbrev n : ℕ
  n = geometry.n

  abbrev k' : ℕ
  k' = quorum geometry

  abbrev R : Reading ⊥ (Unit {0}) (Unit {0}) (Unit {0}) Shape
  R = of_shapes new

  -- what is known at a moment of plans that were chosen so far
  pub record Has (plans : ShapePlans) (m : Net) (vs : ℕ → View) (b : Books) (f : Bare) : Type 0 where
    pub heads : f.heads ≡ (vs g).core
    pub shapes : HasShapes geometry.n (quorum geometry) first g new m (vs g) b f
    pub parts : PlanParts whole plans g m (vs g)
    pub ops : HaveOps m b
    pub becomes : AsBecomes (of_shapes new) plans geometry.n (quorum geometry) g f
    pub took : AsTook (of_shapes new) plans geometry.n (quorum geometry) g f

  -- Plans that agree with those so far, by which the rest owes nothing.
  pub record Extends (old : ShapePlans) (es : List Entry) (m : Net) (v : View) (t : Story) (b : Books) (f : Bare) : Type 0 where
    pub plans : ShapePlans
    pub agrees : Agree f old plans
    pub owe : AllOweShape bare_form geometry.n (quorum geometry) (all_deeds (of_shapes new) plans geometry.n (quorum geometry) g es m v f) f
    pub shapes : HasShapes geometry.n (quorum geometry) first g new (run es m) (view g es m v) (books geometry left es m t b) (file (of_shapes new) plans geometry.n (quorum geometry) g es m v f)
    pub parts : PlanParts whole plans g (run es m) (view g es m v)

  module _ (e : Entry) (es : List Entry) (m : Net) (vs : ℕ → View) (t : Story) (b : Books) (f : Bare) (old : ShapePlans) (runs : IsRun geometry.n (e ∷ es) m) (plain : ArePlain (e ∷ es)) (kept : Kept geometry left none (books geometry left (e ∷ es) m t b)) (k : Reaches geometry first origins m vs t b) (has : Has old m vs b f) (makes : MakesAre whole new g (run (e ∷ es) m)) where
    p : IsPlainEntry e × ArePlain es
    p = plain_first e es plain

    kept' : EntryKept m b e
    kept' = kept_there geometry left none e es m t b runs plain (k.reached g).known.numbers kept

    next_reaches : Reaches geometry first origins (net_after m e) (λ h. seen_after h m (vs h) e) (told geometry m t e) (booked geometry left m t b e)
    next_reaches = reaches_then geometry left none first origins new_origins m vs t b e p.0 runs.0 kept' k

    abbrev chosen : ShapePlans
    chosen = chosen_at g (vs g) b f e old

    abbrev f' : Bare
    f' = file_after R chosen n k' g m (vs g) f e

    abbrev m' : Net
    m' = net_after m e

    abbrev v' : View
    v' = seen_after g m (vs g) e

    abbrev b' : Books
    b' = booked geometry left m t b e

    agreed : Agree f old chosen
    agreed = agree g (vs g) b f old e

    now_makes : (i : ℕ) (x : Message) (q : Request) → m.said i ≡ Some x → x.body ≡ ToBrick q → MakesNew whole new g q
    now_makes i x q is body = makes i x q (still_log geometry left none first origins new_origins g (e ∷ es) m vs t b runs plain kept k i x is).0 body

    act_runs : Runs n k' (acts g m (vs g) e) (vs g).core
    act_runs = (gone geometry left none first origins new_origins m vs t b e p.0 runs.0 kept' k g).runs

    reached' : Reached geometry g m' v' b'
    reached' = reached_then geometry left none first origins new_origins m vs t b e p.0 runs.0 kept' k g

    -- ## Shapes go on

    most : geometry.n < quorum geometry + quorum geometry
    most = let h = geometry.majority in omega (arith, h)

    new_gfid : (x : Maker) → (vs g).maker ≡ Some x → first ≤ g
    new_gfid x is = ⊎_elim (λ no_one. absurd (some_none x (sym is ∙ no_one))) (λ le. le) (k.fresh g).taken

    known : Facts geometry.n (quorum geometry) f
    known = facts geometry.n (quorum geometry) g most (omega arith) m (vs g) f has.shapes.shadow

    fitting : EntryFits (of_shapes new) chosen g m (vs g) b f e
    fitting = fits g (vs g) b f old new m e has.heads now_makes

    owes : AllOweShape bare_form n k' (deeds R chosen n k' g m (vs g) f e) f
    owes = owe_entry R (shapes_fit new) chosen geometry g first left m (vs g) t b f (k.reached g) has.shapes.follow known e runs.0 kept' act_runs reached' new_gfid fitting

    shapes_next : HasShapes geometry.n (quorum geometry) first g new m' v' b' f'
    shapes_next = record {
      follow = has_entry R (shapes_fit new) chosen geometry g first left m (vs g) t b f (k.reached g) has.shapes.follow known e runs.0 kept' act_runs reached' new_gfid fitting;
      shadow = shadow_then R (shapes_fit new) chosen geometry g first left m (vs g) t b f (k.reached g) has.shapes.follow known has.shapes.shadow e runs.0 kept' act_runs reached' fitting owes;
    }

    -- ## What turns plan

    becomes_next : AsBecomes R chosen n k' g f'
    becomes_next = as_entry R chosen n k' g m (vs g) f e (λ a planned. has.becomes a planned ∙ ap (λ plan. plan.becomes) (sym (agreed.plan a planned)))

    took_next : AsTook R chosen n k' g f'
    took_next = entry_takes R chosen n k' g m (vs g) f e (λ a begun number. has.took a begun number ∙ sym (agreed.took a number))

    heads_next : f'.heads ≡ v'.core
    heads_next = entry_heads R chosen n k' g m (vs g) f e has.heads

    ops_next : HaveOps m' b'
    ops_next = ops_then geometry left m t b (k.reached g).known.numbers has.ops e runs.0

    -- a PostOp that was sent before
    old_part : (i : ℕ) (x : Message) (q : Request) → m.said i ≡ Some x → x.body ≡ ToBrick q → is_post_on g q ≡ true → whole (chosen.plan (v'.of i)).becomes ≡ whole (shape_after (op_of m' x.call) (chosen.took (v'.of i)))
    old_part i x q is body on =
        let planned = post_is g q on (λ y j at version size attr same here. (has.shapes.follow.posts i x y j at version size attr is (body ∙ ap (λ (r : Request). ToBrick r) same) here).0) in
        let number = subst (λ (z : State). 0 < (z.ballot ((vs g).of i)).number) (sym has.heads) (has.shapes.follow.numbered ((vs g).of i) planned) in
        let still = (still_entry geometry g m (vs g) b e runs.0 (k.reached g).known i x is).1 in
        let same = (calls_stay geometry m t e runs.0).op x.call ((k.reached g).known.numbers.said_below i x is) in
        subst (λ (a : ℕ). (chosen.plan a).becomes ≡ shape_after (op_of m' x.call) (chosen.took a)) (sym still)
        (ap (λ plan. plan.becomes) (agreed.plan ((vs g).of i) planned)
        ∙ (has.parts i x q is body on
        ∙ (ap (λ (op : Op). shape_after op (old.took ((vs g).of i))) (sym same)
        ∙ ap (λ (z : Shape). shape_after (op_of m' x.call) z) (sym (agreed.took ((vs g).of i) number)))))

    -- and one that goes out by the entry
    new_part : (msg : Message) → e ≡ Sent msg → (q : Request) → msg.body ≡ ToBrick q → is_post_on g q ≡ true → whole (chosen.plan (v'.of msg.no)).becomes ≡ whole (shape_after (op_of m' msg.call) (chosen.took (v'.of msg.no)))
    new_part msg sent q body on =
        let said = subst (λ (x : Entry). (net_after m x).said msg.no ≡ Some msg) (sym sent) (put_here m.said msg.no (Some msg) msg.no refl) in
        let of = subst (λ (x : Entry). (seen_after g m (vs g) x).of msg.no ≡ turn_of g (vs g) msg) (sym sent) (put_here (vs g).of msg.no (turn_of g (vs g) msg) msg.no refl) in
        let begun = post_begun g m'.said v'.of v'.core.moment msg.call msg.brick msg.no q on (reached'.known.sound msg.no msg q said body) in
        let turn = subst (λ (x : Entry). (seen_after g m (vs g) x).turn msg.call ≡ Some (turn_of g (vs g) msg)) (sym sent) (turn_is g (vs g) msg (subst (λ (a : ℕ). 2 ^ 61 ≤ a) of begun)) in
        let planned = post_is g q on (λ y j at version size attr same here. (shapes_next.follow.posts msg.no msg y j at version size attr said (body ∙ ap (λ (r : Request). ToBrick r) same) here).0) in
        let number = subst (λ (z : State). 0 < (z.ballot (v'.of msg.no)).number) (sym heads_next) (shapes_next.follow.numbered (v'.of msg.no) planned) in
        let may = subst (λ (x : Entry). MayEnter geometry.n m x) sent runs.0 in
        let asker = subst (λ (z : Body). MaySay geometry.n m msg z) body may.1 in
        let given = reached'.known.numbers.made msg.call asker.asker (subst (λ (x : Entry). (net_after m x).asker msg.call ≡ Some asker.asker) (sym sent) asker.made) in
        let plan = shapes_next.follow.plans msg.call given.1 (v'.of msg.no) given.2 (turn ∙ ap (λ (a : ℕ). Some a) (sym of)) planned in
        sym (becomes_next (v'.of msg.no) planned)
        ∙ (plan
        ∙ (ap (λ (op : Op). shape_after op (f'.took (v'.of msg.no))) (ops_next msg.call given.1 given.2)
        ∙ ap (λ (z : Shape). shape_after (op_of m' msg.call) z) (took_next (v'.of msg.no) begun number)))

    more : (msg : Message) → e ≡ Sent msg → Adds m.said m'.said (vs g).of v'.of msg.no msg
    more msg sent = subst (λ (x : Entry). Adds m.said (net_after m x).said (vs g).of (seen_after g m (vs g) x).of msg.no msg) (sym sent) (adds geometry.n g m (vs g) msg (subst (λ (x : Entry). MayEnter geometry.n m x) sent runs.0).0 (k.reached g).known.messages)

    parts_next : PlanParts whole chosen g m' v'
    parts_next i x q is body on = ⊎_elim
        (λ was. old_part i x q was body on)
        (λ z. subst (λ (j : ℕ). whole (chosen.plan (v'.of j)).becomes ≡ whole (shape_after (op_of m' x.call) (chosen.took (v'.of j)))) (sym z.2)
        (subst (λ (y : Message). whole (chosen.plan (v'.of z.0.no)).becomes ≡ whole (shape_after (op_of m' y.call) (chosen.took (v'.of z.0.no)))) z.3
        (new_part z.0 z.1 q (ap (λ (y : Message). y.body) z.3 ∙ body) on)))
        (newly geometry g m (vs g) e runs.0 more i x is)

    next : Has chosen m' (λ h. seen_after h m (vs h) e) b' f'
    next = record { heads = heads_next; shapes = shapes_next; parts = parts_next; ops = ops_next; becomes = becomes_next; took = took_next }

    -- what is chosen for the rest is for all
    whole_log : Extends chosen es m' v' (told geometry m t e) b' f' → Extends old (e ∷ es) m (vs g) t b f
    whole_log x = record {
      plans = x.plans;
      agrees = record {
        took = λ a number. x.agrees.took a (subst (λ (z : State). 0 < (z.ballot a).number) (sym heads_next) (number_acts n k' (acts g m (vs g) e) (vs g).core a act_runs (subst (λ (z : State). 0 < (z.ballot a).number) has.heads number))) ∙ agreed.took a number;
        plan = λ a planned. x.agrees.plan a (planned_deeds bare_form n k' (deeds R chosen n k' g m (vs g) f e) f a planned) ∙ agreed.plan a planned;
      };
      owe = subst (λ (z : Bare). AllOweShape bare_form n k' (deeds R x.plans n k' g m (vs g) f e ++ all_deeds R x.plans n k' g es m' v' z) f) (sym same_file)
          (subst (λ (ds : List (Deed ⊥ (Unit {0}) (Unit {0}) (Unit {0}) Shape)). AllOweShape bare_form n k' (ds ++ all_deeds R x.plans n k' g es m' v' f') f) (sym deeds_same)
          (owe_shape_join bare_form n k' (deeds R chosen n k' g m (vs g) f e) (all_deeds R x.plans n k' g es m' v' f') f owes x.owe));
      shapes = subst (λ (z : Bare). HasShapes geometry.n (quorum geometry) first g new (run es m') (view g es m' v') (books geometry left es m' (told geometry m t e) b') (file R x.plans n k' g es m' v' z)) (sym same_file) x.shapes;
      parts = x.parts;
    }
      where
        one_runs : Runs n k' (acts g m (vs g) e ++ []) (vs g).core
        one_runs = subst (λ (es : List Act). Runs n k' es (vs g).core) (sym (append_none (acts g m (vs g) e))) act_runs

        same_file : file_after R x.plans n k' g m (vs g) f e ≡ f'
        same_file = first_file R chosen x.plans n k' g e [] m (vs g) f has.heads one_runs x.agrees

        deeds_same : deeds R x.plans n k' g m (vs g) f e ≡ deeds R chosen n k' g m (vs g) f e
        deeds_same = sym (append_none (deeds R x.plans n k' g m (vs g) f e)) ∙ (same_deeds R chosen x.plans n k' g (e ∷ []) m (vs g) f has.heads one_runs x.agrees ∙ append_none (deeds R chosen n k' g m (vs g) f e))

  pub extended : (es : List Entry) (m : Net) (vs : ℕ → View) (t : Story) (b : Books) (f : Bare) (old : ShapePlans) → IsRun geometry.n es m → ArePlain es → Kept geometry left none (books geometry left es m t b) → Reaches geometry first origins m vs t b → Has old m vs b f → MakesAre whole new g (run es m) → Extends old es m (vs g) t b f
  extended [] m vs t b f old runs plain kept k has makes = record { plans = old; agrees = record { took = λ a number. refl; plan = λ a planned. refl }; owe = tt; shapes = has.shapes; parts = has.parts }
  extended (e ∷ es) m vs t b f old runs plain kept k has makes =
      whole_log e es m vs t b f old runs plain kept k has makes
      (extended es (net_after m e) (λ h. seen_after h m (vs h) e) (told geometry m t e) (booked geometry left m t b e) (file_after (of_shapes new) (chosen_at g (vs g) b f e old) geometry.n (quorum geometry) g m (vs g) f e) (chosen_at g (vs g) b f e old) runs.1 (p e es m vs t b f old runs plain kept k has makes).1 kept
      (next_reaches e es m vs t b f old runs plain kept k has makes) (next e es m vs t b f old runs plain kept k has makes) makes)
