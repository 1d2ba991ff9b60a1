-- Plans that are chosen entry by entry.
use Rattle.std.proofs.Common.{◌≡◌, ℕ, ◌<◌, Bool, true, false, not, cond, ◌==◌, ◌&&◌, Option, Some, None, refl, sym, ◌∙◌, ap, arith}
use Rattle.std.proofs.lemmas.Bool.Decides.{nat_tests}
use Rattle.ec_attr.specs.declared.head.Head.{Head}
use Rattle.ec_brick.specs.State.{State as Brick}
use Rattle.ec_conduct.specs.Given.{Given}
use Rattle.ec_conduct.specs.Opened.{account}
use Rattle.ec_conduct.specs.Standing.{group_of}
use Rattle.ec_history.specs.Accounts.{Books, no_books}
use Rattle.ec_history.specs.Run.{fresh}
use Rattle.ec_wire.specs.declared.entry.Entry.{Entry}
use Rattle.ec_wire.specs.declared.entry.Entry.TheVariants.{Sent}
use Rattle.ec_wire.specs.declared.message.Body.{Body}
use Rattle.ec_wire.specs.declared.message.Body.TheVariants.{ToBrick, ToClient}
use Rattle.ec_wire.specs.declared.message.Message.{Message}
use Rattle.ec_law_net.specs.Turns.{View, turn_of}
use Rattle.ec_law_files.specs.Filing.{BodyChosen, EntryChosen, FilePlans, HaveFilePlans, StripeFile, chosen_at, chosen_by, chosen_with, plan_of}
use Rattle.ec_law_files.specs.Stripes.{Making}

itself : (x : ℕ) → (x == x) ≡ true
itself x = grind (arith, nat_tests)

pick : {X : Type 0} (t u : Bool) (x y : X) → t ≡ true → u ≡ true → cond (t && u) x y ≡ x
pick true true x y e f = refl
pick true false x y e f = absurd (cc)
pick false u x y e f = absurd (cc)

skip : {X : Type 0} (t u : Bool) (x y : X) → u ≡ false → cond (t && u) x y ≡ y
skip true false x y e = refl
skip false u x y e = refl
skip true true x y e = absurd (cc)

none_some : {X : Type 0} (x : X) → None ≡ Some x → ⊥
none_some x e = cc

module _ (makings : ℕ → Making) (g : ℕ) (v : View) (b : Books) (f : StripeFile) (plans : FilePlans) where
  module _ (msg : Message) where
    -- the plans of a call that began, whose group has a head
    with_head : (given : Given) (head : Head) → b.given msg.call ≡ Some given → group_of (account given (b.own msg.call)) g ≡ Some head → chosen_by makings g v b f msg (b.given msg.call) plans ≡ chosen_with makings (turn_of g v msg) msg.call given (Some head) f plans
    with_head given head made group = ap (λ (o : Option Given). chosen_by makings g v b f msg o plans) made ∙ ap (λ (o : Option Head). chosen_with makings (turn_of g v msg) msg.call given o f plans) group

    body_chosen : (z : Body) → BodyChosen makings g v b f (chosen_by makings g v b f msg (b.given msg.call) plans) msg z
    body_chosen (ToClient re reply) = tt
    body_chosen (ToBrick q) = λ on none given head made group.
        ap (λ (p : FilePlans). p.plan (turn_of g v msg)) (with_head given head made group)
        ∙ pick (turn_of g v msg == turn_of g v msg) (not (f.planned (turn_of g v msg))) (plan_of makings msg.call given head) (plans.plan (turn_of g v msg)) (itself (turn_of g v msg)) (ap not none)

    pub took_now : (given : Given) (head : Head) → b.given msg.call ≡ Some given → group_of (account given (b.own msg.call)) g ≡ Some head → (f.heads.ballot (turn_of g v msg)).number ≡ 0
        → (chosen_by makings g v b f msg (b.given msg.call) plans).took (turn_of g v msg) ≡ record { size = head.size; attr = head.attr }
    took_now given head made group zero =
        ap (λ (p : FilePlans). p.took (turn_of g v msg)) (with_head given head made group)
        ∙ pick (turn_of g v msg == turn_of g v msg) ((f.heads.ballot (turn_of g v msg)).number == 0) (record { size = head.size; attr = head.attr }) (plans.took (turn_of g v msg)) (itself (turn_of g v msg)) (ap (λ (n : ℕ). n == 0) zero)

    with_plan : (a : ℕ) (given : Given) (o : Option Head) → f.planned a ≡ true → (chosen_with makings (turn_of g v msg) msg.call given o f plans).plan a ≡ plans.plan a
    with_plan a given None e = refl
    with_plan a given (Some head) e = skip (a == turn_of g v msg) (not (f.planned a)) (plan_of makings msg.call given head) (plans.plan a) (ap not e)

    by_plan : (a : ℕ) (o : Option Given) → f.planned a ≡ true → (chosen_by makings g v b f msg o plans).plan a ≡ plans.plan a
    by_plan a None e = refl
    by_plan a (Some given) e = with_plan a given (group_of (account given (b.own msg.call)) g) e

    above : (n : ℕ) → 0 < n → (n == 0) ≡ false
    above n lt = grind (arith, nat_tests)

    with_took : (a : ℕ) (given : Given) (o : Option Head) → 0 < (f.heads.ballot a).number → (chosen_with makings (turn_of g v msg) msg.call given o f plans).took a ≡ plans.took a
    with_took a given None lt = refl
    with_took a given (Some head) lt = skip (a == turn_of g v msg) ((f.heads.ballot a).number == 0) (record { size = head.size; attr = head.attr }) (plans.took a) (above (f.heads.ballot a).number lt)

    by_took : (a : ℕ) (o : Option Given) → 0 < (f.heads.ballot a).number → (chosen_by makings g v b f msg o plans).took a ≡ plans.took a
    by_took a None lt = refl
    by_took a (Some given) lt = with_took a given (group_of (account given (b.own msg.call)) g) lt

  pub chosen : (e : Entry) → EntryChosen makings g v b f (chosen_at makings g v b f e plans) e
  chosen (Sent msg) = body_chosen msg msg.body
  chosen e = tt

  pub plan_stays : (e : Entry) (a : ℕ) → f.planned a ≡ true → (chosen_at makings g v b f e plans).plan a ≡ plans.plan a
  plan_stays (Sent msg) a p = by_plan msg a (b.given msg.call) p
  plan_stays e a p = refl

  pub took_stays : (e : Entry) (a : ℕ) → 0 < (f.heads.ballot a).number → (chosen_at makings g v b f e plans).took a ≡ plans.took a
  took_stays (Sent msg) a lt = by_took msg a (b.given msg.call) lt
  took_stays e a lt = refl

pub begun : (makings : ℕ → Making) (g : ℕ) (bricks : ℕ → Brick) (v : View) (f : StripeFile) → ((a : ℕ) → f.planned a ≡ false) → HaveFilePlans makings g (fresh bricks) v no_books f
begun makings g bricks v f none = record {
  has = λ a p. absurd (let z = sym p ∙ none a in cc);
  sent = λ i x q is body on. absurd (none_some x is);
  put = λ i x q is body on. absurd (none_some x is);
}
