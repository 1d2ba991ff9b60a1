-- Which stripes lie below a size.
use Rattle.std.proofs.Common.{◌≡◌, inl, inr, ℕ, ◌+◌, ◌-◌, ◌*◌, ◌/◌, ◌%◌, ◌<◌, ◌≤◌, ◌==◌, ◌&&◌, not, Bool, true, refl, ap, arith}
use Rattle.std.proofs.Math.Nat.{div-add-mod, lt_of_mul-lt-mul_left, mod-lt, mul-div-le}
use Rattle.std.proofs.lemmas.Bool.{cases_lt}
use Rattle.std.proofs.lemmas.Bool.Decides.{nat_tests}
use Rattle.ec_conduct.specs.Changes.{stripes_of}
use Rattle.ec_stripe.specs.Span.{stripe_bytes}
use Rattle.ec_law_files.specs.Plans.{is_tail}

-- one of so many stripes begins below the size
pub begins_below : (k x s : ℕ) → 0 < stripe_bytes k → s < stripes_of k x → stripe_bytes k * s < x
begins_below k x s pos less = elim (cases_lt (stripe_bytes k * s) x) [
  | inl l ↦ l
  | inr l ↦
      let w : ℕ = stripe_bytes k in
      let n : ℕ = stripes_of k x in
      let under : w * n ≤ x + (w - 1) = mul-div-le (x + (w - 1)) w in
      let next : w * (s + 1) ≡ w * s + w = omega arith in
      let m : n < s + 1 = lt_of_mul-lt-mul_left w (omega (arith, under, next, l, pos)) in
      let same : n ≡ stripes_of k x = refl in
      absurd (omega (arith, m, less, same))
]

-- and one that begins below is one of them
pub is_below : (k x s : ℕ) → 0 < stripe_bytes k → stripe_bytes k * s < x → s < stripes_of k x
is_below k x s pos less =
    let w : ℕ = stripe_bytes k in
    let a : ℕ = x + (w - 1) in
    let n : ℕ = a / w in
    let parts : w * (a / w) + a % w ≡ a = div-add-mod a w in
    let last : a % w < w = mod-lt a pos in
    let next : w * (s + 1) ≡ w * s + w = omega arith in
    let after : w * (n + 1) ≡ w * n + w = omega arith in
    let m : s + 1 < n + 1 = lt_of_mul-lt-mul_left w (omega (arith, parts, last, next, after, less, pos)) in
    let same : n ≡ stripes_of k x = refl in
    omega (arith, m, same)

-- the stripe of a size that lies within it begins below the size
pub tail_below : (k low s : ℕ) → is_tail k low s ≡ true → stripe_bytes k * s < low
tail_below k low s e =
    let w : ℕ = stripe_bytes k in
    let parts : w * (low / w) + low % w ≡ low = div-add-mod low w in
    let is : s ≡ low / w = second (low % w) (low / w) e in
    let some : 0 < low % w = first (low % w) (s == low / w) e in
    let same : w * s ≡ w * (low / w) = ap (λ (n : ℕ). w * n) is in
    omega (arith, parts, some, same)
  where
    second : (r n : ℕ) → (not (r == 0) && (s == n)) ≡ true → s ≡ n
    second r n e = grind (arith, nat_tests)

    first : (r : ℕ) (u : Bool) → (not (r == 0) && u) ≡ true → 0 < r
    first r u e = grind (arith, nat_tests)
