-- The bytes of the new stripes are those that the conduct wants, and what was there is known where it stays.
use Rattle.std.proofs.Common.{◌≡◌, ◌⊎◌, inl, inr, ℕ, zero, suc, ◌+◌, ◌-◌, ◌*◌, ◌/◌, ◌<◌, ◌≤◌, ◌&&◌, ◌||◌, not, nat_lt, nat_le, Bool, true, false, cond, refl, sym, ◌∙◌, ap, arith, List, length}
use Rattle.std.specs.Prelude.{slice_index}
use Rattle.std.proofs.Math.Nat.{div-add-mod, lt_of_mul-lt-mul_left, mod-lt, mul-div-le}
use Rattle.std.proofs.lemmas.Bool.{cases_Bool}
use Rattle.std.proofs.lemmas.Bool.Decides.{nat_tests}
use Rattle.ec_stripe.specs.Span.{stripe_bytes}
use Rattle.ec_write.specs.Range.{count_stripes, first_stripe, head_of, kept_bytes, new_byte, reach, reads_first, reads_last}
use Rattle.ec_write.specs.Numbers.{choose_byte, same_le, same_lt}

-- whether byte `place` is one of the range
abbrev pub is_inside : ℕ → ℕ → ℕ → Bool
is_inside off len place = nat_le off place && nat_lt place (off + len)

same_below : (b y p q : ℕ) → p ≡ b + y → nat_lt p q ≡ nat_lt y (q - b)
same_below b y p q e = elim (cases_Bool (nat_lt y (q - b))) [
  | inl t ↦ let u : nat_lt p q ≡ true = grind (arith, nat_tests) in u ∙ sym t
  | inr t ↦ let u : nat_lt p q ≡ false = grind (arith, nat_tests) in u ∙ sym t
]

module _ (k off : ℕ) (bytes : List ℕ) (size i p : ℕ) (pos : 0 < stripe_bytes k) where
  -- the begin of the first stripe
  abbrev pub base : ℕ
  base = stripe_bytes k * first_stripe k off

  off_is : off ≡ base + head_of k off
  off_is = sym (div-add-mod off (stripe_bytes k))

  pub place_is : stripe_bytes k * (first_stripe k off + i) + p ≡ base + (stripe_bytes k * i + p)
  place_is = (let u : stripe_bytes k * (first_stripe k off + i) ≡ stripe_bytes k * first_stripe k off + stripe_bytes k * i = omega arith in omega (arith, u))

  inside_is : (nat_le (head_of k off) (stripe_bytes k * i + p) && nat_lt (stripe_bytes k * i + p) (reach k off (length bytes))) ≡ is_inside off (length bytes) (stripe_bytes k * (first_stripe k off + i) + p)
  inside_is =
      let a = same_le base (head_of k off) (stripe_bytes k * i + p) off (stripe_bytes k * (first_stripe k off + i) + p) off_is place_is in
      let e : off + length bytes ≡ base + reach k off (length bytes) = (let o = off_is in omega (arith, o)) in
      let b = same_lt base (stripe_bytes k * i + p) (reach k off (length bytes)) (stripe_bytes k * (first_stripe k off + i) + p) (off + length bytes) place_is e in
      sym (λ j. a j && b j)

  below_is : nat_lt (stripe_bytes k * i + p) (kept_bytes k off size) ≡ nat_lt (stripe_bytes k * (first_stripe k off + i) + p) size
  below_is = sym (same_below base (stripe_bytes k * i + p) (stripe_bytes k * (first_stripe k off + i) + p) size place_is)

  byte_at : stripe_bytes k * i + p - head_of k off ≡ stripe_bytes k * (first_stripe k off + i) + p - off
  byte_at = (let o = off_is in let q = place_is in omega (arith, o, q))

  pub new_is : (old : ℕ) → new_byte k off bytes size old (stripe_bytes k * i + p)
      ≡ cond (nat_lt (stripe_bytes k * (first_stripe k off + i) + p) size && not (is_inside off (length bytes) (stripe_bytes k * (first_stripe k off + i) + p))) old
      (cond (is_inside off (length bytes) (stripe_bytes k * (first_stripe k off + i) + p)) (slice_index bytes (stripe_bytes k * (first_stripe k off + i) + p - off)) 0)
  new_is old =
      (λ j. cond (inside_is j) (slice_index bytes (byte_at j)) (cond (below_is j) old 0))
      ∙ choose_byte (is_inside off (length bytes) (stripe_bytes k * (first_stripe k off + i) + p)) (nat_lt (stripe_bytes k * (first_stripe k off + i) + p) size) (slice_index bytes (stripe_bytes k * (first_stripe k off + i) + p - off)) old

-- where the range reaches no further, this is the last stripe
last_is : (k off len i p : ℕ) → 0 < stripe_bytes k → p < stripe_bytes k → i < count_stripes k off len → reach k off len ≤ stripe_bytes k * i + p → count_stripes k off len ≡ i + 1
last_is k off len i p pos l less past =
    let w : ℕ = stripe_bytes k in
    let a : ℕ = reach k off len + (w - 1) in
    let n : ℕ = a / w in
    let under : w * n ≤ a = mul-div-le a w in
    let next : w * (i + 2) ≡ w * i + w + w = omega arith in
    let under2 : w * n < w * (i + 2) = omega (arith, under, next, past, l, pos) in
    let m : n < i + 2 = lt_of_mul-lt-mul_left w under2 in
    let same : n ≡ count_stripes k off len = refl in
    omega (arith, m, same, less)

-- the stripe is the first one, and in part, or the last one, and in part
abbrev pub IsEdge : ℕ → ℕ → ℕ → ℕ → ℕ → Type 0
IsEdge k off len size i = ((i ≡ 0) × (reads_first k off len size ≡ true)) ⊎ ((0 < i) × (i ≡ count_stripes k off len - 1) × (reads_last k off len size ≡ true))

and_both : (a b : Bool) → a ≡ true → b ≡ true → (a && b) ≡ true
and_both true b e f = f
and_both false b e f = absurd (cc)

or_one : (a b : Bool) → a ≡ true → (a || b) ≡ true
or_one true b e = refl
or_one false b e = absurd (cc)

or_two : (a b : Bool) → b ≡ true → (a || b) ≡ true
or_two true b e = refl
or_two false b e = e

no_stripe_before : (w i p h : ℕ) → h < w → w * i + p < h → i ≡ 0
no_stripe_before w zero p h l m = refl
no_stripe_before w (suc i) p h l m = absurd (let u : w * (suc i) ≡ w * i + w = omega arith in omega (arith, u, l, m))

-- a byte that stays is in such a stripe
pub stays_at_edge : (k off len size i p : ℕ) → 0 < stripe_bytes k → p < stripe_bytes k → i < count_stripes k off len
    → stripe_bytes k * i + p < kept_bytes k off size → (stripe_bytes k * i + p < head_of k off) ⊎ (reach k off len ≤ stripe_bytes k * i + p) → IsEdge k off len size i
stays_at_edge k off len size i p pos l less kept (inl before) =
    let z : i ≡ 0 = no_stripe_before (stripe_bytes k) i p (head_of k off) (mod-lt off pos) before in
    let a : nat_lt 0 (head_of k off) ≡ true = grind (arith, nat_tests) in
    let b : nat_lt 0 (kept_bytes k off size) ≡ true = grind (arith, nat_tests) in
    inl (z, and_both (nat_lt 0 (head_of k off) || nat_lt (reach k off len) (stripe_bytes k)) (nat_lt 0 (kept_bytes k off size)) (or_one (nat_lt 0 (head_of k off)) (nat_lt (reach k off len) (stripe_bytes k)) a) b)
stays_at_edge k off len size zero p pos l less kept (inr past) =
    let u : stripe_bytes k * 0 + p ≡ p = omega arith in
    let r : reach k off len < stripe_bytes k = omega (arith, past, l, u) in
    let a : nat_lt (reach k off len) (stripe_bytes k) ≡ true = grind (arith, nat_tests) in
    let b : nat_lt 0 (kept_bytes k off size) ≡ true = grind (arith, nat_tests) in
    inl (refl, and_both (nat_lt 0 (head_of k off) || nat_lt (reach k off len) (stripe_bytes k)) (nat_lt 0 (kept_bytes k off size)) (or_two (nat_lt 0 (head_of k off)) (nat_lt (reach k off len) (stripe_bytes k)) a) b)
stays_at_edge k off len size (suc i) p pos l less kept (inr past) =
    let n : count_stripes k off len ≡ suc i + 1 = last_is k off len (suc i) p pos l less past in
    let w : ℕ = stripe_bytes k in
    let wide : w * count_stripes k off len ≡ w * suc i + w = ap (λ (m : ℕ). w * m) n ∙ omega arith in
    let ends : w * (count_stripes k off len - 1) ≡ w * suc i = (let v : count_stripes k off len - 1 ≡ suc i = omega (arith, n) in ap (λ (m : ℕ). w * m) v) in
    let some : 1 < count_stripes k off len = omega (arith, n) in
    let r : reach k off len < w * count_stripes k off len = omega (arith, wide, past, l) in
    let q : w * (count_stripes k off len - 1) < kept_bytes k off size = omega (arith, ends, kept) in
    let a : nat_lt 1 (count_stripes k off len) ≡ true = grind (arith, nat_tests) in
    let b : nat_lt (reach k off len) (w * count_stripes k off len) ≡ true = grind (arith, nat_tests) in
    let c : nat_lt (w * (count_stripes k off len - 1)) (kept_bytes k off size) ≡ true = grind (arith, nat_tests) in
    inr (omega arith, omega (arith, n), rw (a, b, c) refl)
