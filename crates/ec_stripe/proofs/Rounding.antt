-- Division that rounds up.
use Rattle.std.proofs.Common.{◌≡◌, ℕ, ◌+◌, ◌-◌, ◌*◌, ◌/◌, ◌%◌, ◌<◌, ◌≤◌, arith}
use Rattle.std.proofs.Math.Nat.{mod-lt, div-add-mod, mul-div-le, lt_of_mul-lt-mul_left}
use Rattle.ec_stripe.specs.Span.{HoldsJust, stripe_bytes}

enough : (b size : ℕ) → 0 < b → size ≤ b * ((size + b - 1) / b)
enough b size h =
    let small : (size + b - 1) % b < b = mod-lt (size + b - 1) h in
    let whole : b * ((size + b - 1) / b) + (size + b - 1) % b ≡ size + b - 1 = div-add-mod (size + b - 1) b in
    omega arith

least : (b size fewer : ℕ) → 0 < b → size ≤ b * fewer → (size + b - 1) / b ≤ fewer
least b size fewer h l =
    let at_most : b * ((size + b - 1) / b) ≤ size + b - 1 = mul-div-le (size + b - 1) b in
    let below : b * ((size + b - 1) / b) < b * (fewer + 1) = omega arith in
    let less : (size + b - 1) / b < fewer + 1 = lt_of_mul-lt-mul_left b below in
    omega arith

-- so many stripes of b bytes hold size bytes
pub rounded_up : (k b size : ℕ) → b ≡ stripe_bytes k → 0 < b → HoldsJust k size ((size + b - 1) / b)
rounded_up k b size e h = record {
  enough = rw (← e) (enough b size h);
  least = λ fewer l. least b size fewer h (rw e l);
}
