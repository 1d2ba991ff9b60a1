-- What the lines of a script order, one line more.
use Rattle.std.proofs.Common.{◌≡◌, ℕ, suc, ◌+◌, ◌<◌, ◌≤◌, List, [], ◌∷◌, ◌++◌, Option, Some, None, Err, length, refl, ap, ◌∙◌, arith}
use Rattle.std.specs.Prelude.{option_and_then}
use Rattle.std.proofs.lemmas.Bool.{le-ltb, lt-ltb}
use Rattle.ec_script.specs.Lines.{line_event}
use Rattle.ec_script.specs.declared.fault.LineFault.TheVariants.{TooLong, TooMany}
use Rattle.ec_wire.specs.declared.event.Event.{Event}
use Rattle.ec_play.specs.Orders.{line_order, orders, with_order}

-- a line that isn't beyond the last one
pub order_within : (number : ℕ) (line : List ℕ) → number ≤ 1048576 → line_order number line ≡ line_event line
order_within number line within = rw (le-ltb 1048576 number within) refl

pub order_beyond : (number : ℕ) (line : List ℕ) → 1048576 < number → line_order number line ≡ Err TooMany
order_beyond number line beyond = rw (lt-ltb 1048576 number beyond) refl

event_long : (line : List ℕ) → 2200000 < length line → line_event line ≡ Err TooLong
unfolding line_event
event_long line long = rw (lt-ltb 2200000 (length line) long) refl

pub order_long : (number : ℕ) (line : List ℕ) → number ≤ 1048576 → 2200000 < length line → line_order number line ≡ Err TooLong
order_long number line within long = order_within number line within ∙ event_long line long

pub no_orders : (events : List Event) (number : ℕ) → orders [] events number ≡ Some events
unfolding orders
no_orders events number = refl

and_then_some : {X : Type 0} (o : Option X) → option_and_then (λ x. Some x) o ≡ o
and_then_some None = refl
and_then_some (Some x) = refl

orders_more : (ls : List (List ℕ)) (line : List ℕ) (events : List Event) (number : ℕ)
    → orders (ls ++ line ∷ []) events number ≡ option_and_then (λ after. with_order after (line_order (number + length ls) line)) (orders ls events number)
unfolding orders
orders_more [] line events number =
    and_then_some (with_order events (line_order number line)) ∙ ap (λ m. with_order events (line_order m line)) (let e : number ≡ number + 0 = omega arith in e)
orders_more (l ∷ ls) line events number =
    let P : Option (List Event) → Type 0 = λ o.
    option_and_then (λ after. orders (ls ++ line ∷ []) after (number + 1)) o
    ≡ option_and_then (λ after. with_order after (line_order (number + suc (length ls)) line)) (option_and_then (λ after. orders ls after (number + 1)) o) in
    let place : number + 1 + length ls ≡ number + suc (length ls) = omega arith in
    elim (with_order events (line_order number l)) as P [
      | None ↦ refl
      | Some after ↦
          orders_more ls line after (number + 1)
          ∙ ap (λ m. option_and_then (λ later. with_order later (line_order m line)) (orders ls after (number + 1))) place
    ]

-- the next line, where it has no fault
pub orders_next : (front : List (List ℕ)) (line : List ℕ) (events after : List Event) (number : ℕ) → number ≡ length front + 1
    → orders front [] 1 ≡ Some events → with_order events (line_order number line) ≡ Some after → orders (front ++ line ∷ []) [] 1 ≡ Some after
orders_next front line events after number at before here =
    let place : 1 + length front ≡ number = omega arith in
    orders_more front line [] 1
    ∙ ap (option_and_then (λ (so_far : List Event). with_order so_far (line_order (1 + length front) line))) before
    ∙ ap (λ m. with_order events (line_order m line)) place
    ∙ here
