-- Plans of shapes that are chosen as a call sends a message: its turn takes the shape of its group as long as it has no ballot, and plans
-- what its call makes of it as long as it hasn't planned. They fit at each entry.
use Rattle.std.proofs.Common.{◌≡◌, ℕ, ◌<◌, Bool, true, false, not, cond, ◌==◌, ◌&&◌, Option, Some, None, refl, ◌∙◌, ap}
use Rattle.std.proofs.lemmas.Bool.Decides.{nat_tests}
use Rattle.std.proofs.Common.{arith}
use Rattle.ec_attr.specs.declared.head.Head.{Head}
use Rattle.ec_conduct.specs.Given.{Given}
use Rattle.ec_conduct.specs.Opened.{account}
use Rattle.ec_conduct.specs.Standing.{group_of}
use Rattle.ec_history.specs.Accounts.{Books}
use Rattle.ec_history.specs.Run.{Net}
use Rattle.ec_wire.specs.declared.entry.Entry.{Entry}
use Rattle.ec_wire.specs.declared.entry.Entry.TheVariants.{Executed, Sent}
use Rattle.ec_wire.specs.declared.message.Body.{Body}
use Rattle.ec_wire.specs.declared.message.Body.TheVariants.{ToBrick, ToClient}
use Rattle.ec_wire.specs.declared.message.Message.{Message}
use Rattle.ec_wire.specs.declared.request.Request.{Request}
use Rattle.ec_wire.specs.declared.request.Request.TheVariants.{Make, PreOp}
use Rattle.ec_law_base.specs.State.{State}
use Rattle.ec_law_net.specs.Turns.{View, turn_of}
use Rattle.ec_law_turns.proofs.Basics.{itself}
use Rattle.ec_law_data.specs.Forms.{Shape}
use Rattle.ec_law_data.specs.Reading.{Plans}
use Rattle.ec_law_plans.specs.Extend.{Agree}
use Rattle.ec_law_shapes.specs.Fitting.{BodyFits, EntryFits, MessageFits, SentFits, TookFits}
use Rattle.ec_law_shapes.specs.Shadows.{Bare, of_shapes}
use Rattle.ec_law_shapes.specs.Shapes.{head_shape, shape_after}
use Rattle.ec_law_shapes.proofs.Shadowing.{bare_plan}
use Rattle.ec_law_sizes.proofs.Telling.{MakesNew}

abbrev pub ShapePlans : Type 0
ShapePlans = Plans ⊥ (Unit {0}) (Unit {0}) Shape

abbrev pub chosen_with : ℕ → Given → Option Head → Bare → ShapePlans → ShapePlans
chosen_with a given None f plans = plans
chosen_with a given (Some head) f plans = record {
  took = λ x. cond ((x == a) && ((f.heads.ballot x).number == 0)) (head_shape head) (plans.took x);
  plan = λ x. cond ((x == a) && not (f.planned x)) (bare_plan (shape_after given.op (head_shape head))) (plans.plan x);
}

abbrev pub chosen_by : ℕ → View → Books → Bare → Message → Option Given → ShapePlans → ShapePlans
chosen_by g v b f msg None plans = plans
chosen_by g v b f msg (Some given) plans = chosen_with (turn_of g v msg) given (group_of (account given (b.own msg.call)) g) f plans

abbrev pub chosen_at : ℕ → View → Books → Bare → Entry → ShapePlans → ShapePlans
chosen_at g v b f (Sent msg) plans = chosen_by g v b f msg (b.given msg.call) plans
chosen_at g v b f e plans = plans

shut : (t u : Bool) → u ≡ false → (t && u) ≡ false
shut true u e = e
shut false u e = refl

skip : {X : Type 0} (t : Bool) (x y : X) → t ≡ false → cond t x y ≡ y
skip false x y e = refl
skip true x y e = absurd (cc)

pick : {X : Type 0} (t : Bool) (x y : X) → t ≡ true → cond t x y ≡ x
pick true x y e = refl
pick false x y e = absurd (cc)

both : (t u : Bool) → t ≡ true → u ≡ true → (t && u) ≡ true
both true true e f = refl
both true false e f = absurd (cc)
both false u e f = absurd (cc)

above_none : (x : ℕ) → 0 < x → (x == 0) ≡ false
above_none x lt = grind (arith, nat_tests)

is_none : (x : ℕ) → x ≡ 0 → (x == 0) ≡ true
is_none x e = grind (arith, nat_tests)

module _ (g : ℕ) (v : View) (b : Books) (f : Bare) (plans : ShapePlans) where
  agree_none : Agree f plans plans
  agree_none = record { took = λ a lt. refl; plan = λ a p. refl }

  agree_with : (a : ℕ) (given : Given) (o : Option Head) → Agree f plans (chosen_with a given o f plans)
  agree_with a given None = agree_none
  agree_with a given (Some head) = record {
    took = λ x lt. skip ((x == a) && ((f.heads.ballot x).number == 0)) (head_shape head) (plans.took x) (shut (x == a) ((f.heads.ballot x).number == 0) (above_none (f.heads.ballot x).number lt));
    plan = λ x p. skip ((x == a) && not (f.planned x)) (bare_plan (shape_after given.op (head_shape head))) (plans.plan x) (shut (x == a) (not (f.planned x)) (ap not p));
  }

  -- what the machine has read of the plans stays
  pub agree : (e : Entry) → Agree f plans (chosen_at g v b f e plans)
  agree (Sent msg) = by (b.given msg.call)
    where
      by : (o : Option Given) → Agree f plans (chosen_by g v b f msg o plans)
      by None = agree_none
      by (Some given) = agree_with (turn_of g v msg) given (group_of (account given (b.own msg.call)) g)
  agree e = agree_none

  -- what is chosen for the turn
  module _ (msg : Message) (given : Given) (head : Head) (made : b.given msg.call ≡ Some given) (group : group_of (account given (b.own msg.call)) g ≡ Some head) where
    chosen_took : (f.heads.ballot (turn_of g v msg)).number ≡ 0 → (chosen_at g v b f (Sent msg) plans).took (turn_of g v msg) ≡ head_shape head
    chosen_took zero =
        ap (λ (o : Option Given). (chosen_by g v b f msg o plans).took (turn_of g v msg)) made
        ∙ (ap (λ (o : Option Head). (chosen_with (turn_of g v msg) given o f plans).took (turn_of g v msg)) group
        ∙ pick ((turn_of g v msg == turn_of g v msg) && ((f.heads.ballot (turn_of g v msg)).number == 0)) (head_shape head) (plans.took (turn_of g v msg)) (both (turn_of g v msg == turn_of g v msg) ((f.heads.ballot (turn_of g v msg)).number == 0) (itself (turn_of g v msg)) (is_none (f.heads.ballot (turn_of g v msg)).number zero)))

    chosen_plan : f.planned (turn_of g v msg) ≡ false → ((chosen_at g v b f (Sent msg) plans).plan (turn_of g v msg)).becomes ≡ shape_after given.op (head_shape head)
    chosen_plan free =
        ap (λ (o : Option Given). ((chosen_by g v b f msg o plans).plan (turn_of g v msg)).becomes) made
        ∙ (ap (λ (o : Option Head). ((chosen_with (turn_of g v msg) given o f plans).plan (turn_of g v msg)).becomes) group
        ∙ ap (λ p. p.becomes) (pick ((turn_of g v msg == turn_of g v msg) && not (f.planned (turn_of g v msg))) (bare_plan (shape_after given.op (head_shape head))) (plans.plan (turn_of g v msg)) (both (turn_of g v msg == turn_of g v msg) (not (f.planned (turn_of g v msg))) (itself (turn_of g v msg)) (ap not free))))

  -- the plans fit
  pub fits : (new : Shape) (m : Net) (e : Entry) → f.heads ≡ v.core → ((i : ℕ) (x : Message) (q : Request) → m.said i ≡ Some x → x.body ≡ ToBrick q → MakesNew (λ (s : Shape). s) new g q) → EntryFits (of_shapes new) (chosen_at g v b f e plans) g m v b f e
  fits new m (Sent msg) heads makes = body msg.body
    where
      took : (q : Request) → TookFits (of_shapes new) (chosen_at g v b f (Sent msg) plans) g v b msg q
      took (PreOp x i at number) = λ on zero given head made group. chosen_took msg given head made group (ap (λ (s : State). (s.ballot (turn_of g v msg)).number) heads ∙ zero)
      took q = tt

      body : (z : Body) → SentFits (of_shapes new) (chosen_at g v b f (Sent msg) plans) g v b f msg z
      body (ToClient re reply) = tt
      body (ToBrick q) = (took q, λ on free given head made group. chosen_plan msg given head made group free)
  fits new m (Executed i version failed) heads makes = message (m.said i) refl
    where
      made_by : (q : Request) → MakesNew (λ (s : Shape). s) new g q → BodyFits (of_shapes new) plans g (ToBrick q)
      made_by (Make x n child) h = h
      made_by q h = tt

      message : (o : Option Message) → m.said i ≡ o → MessageFits (of_shapes new) plans g o
      message None is = tt
      message (Some msg) is = body msg.body refl
        where
          body : (z : Body) → msg.body ≡ z → BodyFits (of_shapes new) plans g z
          body (ToClient re reply) own = tt
          body (ToBrick q) own = made_by q (makes i msg q is own)
  fits new m e heads makes = tt
