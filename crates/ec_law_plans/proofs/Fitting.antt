-- Plans fit where they are chosen, and go on fitting as long as they agree.
use Rattle.std.proofs.Common.{◌≡◌, ℕ, ◌<◌, Bool, true, false, not, cond, ◌==◌, ◌&&◌, Option, Some, List, [], ◌∷◌, ◌++◌, refl, sym, ◌∙◌, ap, subst}
use Rattle.ec_attr.specs.Marks.{stripped}
use Rattle.ec_attr.specs.declared.geometry.Geometry.{Geometry}
use Rattle.ec_attr.specs.declared.head.Head.{Head}
use Rattle.ec_conduct.specs.Given.{Given}
use Rattle.ec_conduct.specs.Opened.{account}
use Rattle.ec_conduct.specs.Standing.{group_of}
use Rattle.ec_history.specs.Accounts.{Books, Leaving, booked, books}
use Rattle.ec_history.specs.Run.{Net, after as net_after, run}
use Rattle.ec_history.specs.Story.{Story, told}
use Rattle.ec_wire.specs.declared.entry.Entry.{Entry}
use Rattle.ec_wire.specs.declared.entry.Entry.TheVariants.{Sent}
use Rattle.ec_wire.specs.declared.message.Body.{Body}
use Rattle.ec_wire.specs.declared.message.Body.TheVariants.{ToBrick, ToClient}
use Rattle.ec_wire.specs.declared.message.Message.{Message}
use Rattle.ec_wire.specs.declared.request.Request.{Request}
use Rattle.ec_wire.specs.declared.request.Request.TheVariants.{PreOp}
use Rattle.ec_law_base.specs.State.{Ballot, State}
use Rattle.ec_law_ballots.specs.Act.{after as after_acts}
use Rattle.ec_law_ballots.specs.Act.Act.{Choose}
use Rattle.ec_law_ballots.specs.Guard.{Runs}
use Rattle.ec_law_pieces.specs.Deed.{Plan}
use Rattle.ec_law_pieces.specs.File.{File}
use Rattle.ec_law_net.specs.Turns.{View, acts, acts_sent, all_acts, seen_after, turn_of, view}
use Rattle.ec_law_turns.proofs.Basics.{itself, some_is}
use Rattle.ec_law_data.specs.Deeds.{file, file_after}
use Rattle.ec_law_data.specs.Forms.{Shape, of_directory}
use Rattle.ec_law_data.specs.Reading.{Plans, Reading}
use Rattle.ec_law_data.proofs.Cores.{entry_heads}
use Rattle.ec_law_data.proofs.Settling.{newly_planned}
use Rattle.ec_law_plans.specs.Extend.{Agree}
use Rattle.ec_law_plans.specs.Given.{AllFit, EntryFits, SentFits, TookFits}
use Rattle.ec_law_plans.specs.Naming.{NameFile, NamePlans, chosen_at, chosen_by, group_shape, head_shape, name_plan, shape_after, shape_of}
use Rattle.ec_law_plans.proofs.Agreeing.{agree_first, first_file, later_heads, later_runs, put_itself}
use Rattle.ec_law_plans.proofs.Steady.{runs_first}

-- a turn that takes its ballot has one then
ballot_after : (n k : ℕ) (s : State) (a : ℕ) (t u : Bool) (p : Ballot) → t ≡ true → u ≡ true → Runs n k (cond t (cond u (Choose a p ∷ []) []) []) s → 0 < ((after_acts (cond t (cond u (Choose a p ∷ []) []) []) s).ballot a).number
ballot_after n k s a true true p e f runs = subst (λ (q : Ballot). 0 < q.number) (sym (put_itself s.ballot a p)) runs.0.1
ballot_after n k s a true false p e f runs = absurd (cc)
ballot_after n k s a false u p e f runs = absurd (cc)

same_number : (x y : ℕ) → x ≡ y → (x == y) ≡ true
same_number x y e = subst (λ (z : ℕ). (x == z) ≡ true) e (itself x)

module _ {P V C U : Type 0} (R : Reading P V C U Shape) (old new : Plans P V U Shape) (n k g : ℕ) where
  module _ (m : Net) (v : View) (b : Books) (f : File P V C U Shape) (heads : f.heads ≡ v.core) where
    sent_same : (msg : Message) → Runs n k (acts g m v (Sent msg)) v.core → Agree (file_after R old n k g m v f (Sent msg)) old new → (z : Body) → msg.body ≡ z → SentFits R old g v b f msg z → SentFits R new g v b f msg z
    sent_same msg runs agree (ToClient re reply) is h = tt
    sent_same msg runs agree (ToBrick q) is h = (took q is h.0, λ w none given head made group. ap (λ (p : Plan P V U Shape). p.becomes) (agree.plan (turn_of g v msg) (newly_planned R old n k g m v f msg q is w)) ∙ h.1 w none given head made group)
      where
        took : (q : Request) → msg.body ≡ ToBrick q → TookFits R old g v b msg q → TookFits R new g v b msg q
        took (PreOp x i at number) is h = λ on none given head made group.
            agree.took (turn_of g v msg) (subst (λ (s : State). 0 < (s.ballot (turn_of g v msg)).number) (sym (entry_heads R old n k g m v f (Sent msg) heads))
            (subst (λ (z : Body). 0 < ((after_acts (acts_sent g v.core (turn_of g v msg) z) v.core).ballot (turn_of g v msg)).number) (sym is)
            (ballot_after n k v.core (turn_of g v msg) (x.0 == g) ((v.core.ballot (turn_of g v msg)).number == 0) (record { base = stripped at; number = number }) (same_number x.0 g on) (same_number (v.core.ballot (turn_of g v msg)).number 0 none)
            (subst (λ (z : Body). Runs n k (acts_sent g v.core (turn_of g v msg) z) v.core) is runs))))
            ∙ h on none given head made group
        took q is h = tt

    entry_same : (e : Entry) → Runs n k (acts g m v e) v.core → Agree (file_after R old n k g m v f e) old new → EntryFits R old g m v b f e → EntryFits R new g m v b f e
    entry_same (Sent msg) runs agree h = sent_same msg runs agree msg.body refl h
    entry_same e runs agree h = h

  -- plans that agree with plans that fit fit
  pub same_fits : (geometry : Geometry) (left : ℕ → Leaving) (es : List Entry) (m : Net) (v : View) (t : Story) (b : Books) (f : File P V C U Shape) → f.heads ≡ v.core → Runs n k (all_acts g es m v) v.core → Agree (file R old n k g es m v f) old new → AllFit R old g n k geometry left es m v t b f → AllFit R new g n k geometry left es m v t b f
  same_fits geometry left [] m v t b f heads runs agree h = tt
  same_fits geometry left (e ∷ es) m v t b f heads runs agree h = (
    entry_same m v b f heads e (runs_first n k (acts g m v e) (all_acts g es (net_after m e) (seen_after g m v e)) v.core runs).0 (agree_first R old new n k g e es m v f heads runs agree) h.0,
    subst (λ (z : File P V C U Shape). AllFit R new g n k geometry left es (net_after m e) (seen_after g m v e) (told geometry m t e) (booked geometry left m t b e) z) (sym (first_file R old new n k g e es m v f heads runs agree))
        (same_fits geometry left es (net_after m e) (seen_after g m v e) (told geometry m t e) (booked geometry left m t b e) (file_after R old n k g m v f e) (later_heads R old new n k g e es m v f heads runs agree) (later_runs R old new n k g e es m v f heads runs agree) agree h.1),
  )

-- and of one entry more
pub fits_last : {P V C U : Type 0} (R : Reading P V C U Shape) (plans : Plans P V U Shape) (n k g : ℕ) (geometry : Geometry) (left : ℕ → Leaving) (e : Entry) (es : List Entry) (m : Net) (v : View) (t : Story) (b : Books) (f : File P V C U Shape) → AllFit R plans g n k geometry left es m v t b f → EntryFits R plans g (run es m) (view g es m v) (books geometry left es m t b) (file R plans n k g es m v f) e → AllFit R plans g n k geometry left (es ++ e ∷ []) m v t b f
fits_last R plans n k g geometry left e [] m v t b f h i = (i, tt)
fits_last R plans n k g geometry left e (x ∷ es) m v t b f h i = (h.0, fits_last R plans n k g geometry left e es (net_after m x) (seen_after g m v x) (told geometry m t x) (booked geometry left m t b x) (file_after R plans n k g m v f x) h.1 i)

-- ## Plans that are chosen

module _ (g : ℕ) (v : View) (b : Books) (f : NameFile) (old : NamePlans) (msg : Message) (given : Given) (made : b.given msg.call ≡ Some given) where
  abbrev a : ℕ
  a = turn_of g v msg

  abbrev new : NamePlans
  new = chosen_at g v b f (Sent msg) old

  here : {X : Type 0} (t u : Bool) (x y : X) → t ≡ true → u ≡ true → cond (t && u) x y ≡ x
  here true true x y e h = refl
  here true false x y e h = absurd (cc)
  here false u x y e h = absurd (cc)

  pub took_is : (f.heads.ballot a).number ≡ 0 → new.took a ≡ group_shape given (b.own msg.call) g
  took_is none = ap (λ (o : Option Given). (chosen_by g v b f msg o old).took a) made ∙ here (a == a) ((f.heads.ballot a).number == 0) (group_shape given (b.own msg.call) g) (old.took a) (itself a) (same_number (f.heads.ballot a).number 0 none)

  pub plan_is : f.planned a ≡ false → new.plan a ≡ name_plan given (group_shape given (b.own msg.call) g)
  plan_is none = ap (λ (o : Option Given). (chosen_by g v b f msg o old).plan a) made ∙ here (a == a) (not (f.planned a)) (name_plan given (group_shape given (b.own msg.call) g)) (old.plan a) (itself a) (ap not none)

  pub sent_fits : f.heads ≡ v.core → (z : Body) → SentFits of_directory new g v b f msg z
  sent_fits heads (ToClient re reply) = tt
  sent_fits heads (ToBrick q) = (took q, λ w none given' head is group. ap (λ p. p.becomes) (plan_is none) ∙ becomes given' head is group)
    where
      same : (given' : Given) → b.given msg.call ≡ Some given' → given ≡ given'
      same given' is = some_is given given' (sym made ∙ is)

      shape : (given' : Given) (head : Head) → b.given msg.call ≡ Some given' → group_of (account given' (b.own msg.call)) g ≡ Some head → group_shape given (b.own msg.call) g ≡ head_shape head
      shape given' head is group = ap (λ (x : Given). group_shape x (b.own msg.call) g) (same given' is) ∙ ap shape_of group

      becomes : (given' : Given) (head : Head) → b.given msg.call ≡ Some given' → group_of (account given' (b.own msg.call)) g ≡ Some head → shape_after given.op (group_shape given (b.own msg.call) g) ≡ shape_after given'.op (head_shape head)
      becomes given' head is group = ap (λ (s : Shape). shape_after given.op s) (shape given' head is group) ∙ ap (λ (x : Given). shape_after x.op (head_shape head)) (same given' is)

      took : (q : Request) → TookFits of_directory new g v b msg q
      took (PreOp x i at number) = λ on none given' head is group. took_is (ap (λ (s : State). (s.ballot a).number) heads ∙ none) ∙ shape given' head is group
      took q = tt
