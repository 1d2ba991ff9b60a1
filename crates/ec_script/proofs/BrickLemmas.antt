-- Sets of bricks that rise, and the sides of a hyphen.
use Rattle.std.proofs.Common.{◌≡◌, ℕ, suc, ◌+◌, ◌*◌, ◌<◌, ◌≤◌, ◌^◌, ◌%◌, inl, inr, ◌||◌, List, [], ◌∷◌, Option, Some, None, length, refl, sym, ap, ◌∙◌, arith, zero-add, lit<}
use Rattle.std.specs.Prelude.{nat_eq, bit_xor, option_and_then}
use Rattle.std.specs.Option.{option_map}
use Rattle.std.specs.Int.{bit_at}
use Rattle.std.specs.Int.Bits.{xor_shifted}
use Rattle.std.specs.List.{slice_split}
use Rattle.std.proofs.lemmas.Bool.{cases_eq, ne_eqb, eq-eqb}
use Rattle.std.proofs.Math.Nat.{one-mul, pow-suc, pow-le-pow_right, mod-eq_of_lt}
use Rattle.std.proofs.lemmas.Nat.Bits.{bit_at_xor, bit_at-pow_same, bit_at-pow_other, bit_at_above, bit_at-lt}
use Rattle.ec_attr.specs.Bricks.{is_in}
use Rattle.ec_attr.proofs.Sets as sets
use Rattle.ec_script.specs.Words.{pieces}
use Rattle.ec_script.specs.Bricks.{brick_from, rising_bits, via_bits}
use Rattle.std.proofs.lemmas.List.Splits.{length-slice_split}

bit_of_plus : (bits b c : ℕ) → bits < 2 ^ b → bit_at (bits + 2 ^ b) c ≡ (bit_at (2 ^ b) c + bit_at bits c) % 2
bit_of_plus bits b c small =
    let apart : bit_xor (1 * 2 ^ b) bits ≡ 1 * 2 ^ b + bits = xor_shifted 1 b bits small in
    let is : bits + 2 ^ b ≡ bit_xor (2 ^ b) bits = omega (arith, rw one-mul at apart) in
    ap (λ x. bit_at x c) is ∙ bit_at_xor (2 ^ b) bits c

is_in_above : (bits b c : ℕ) → bits < 2 ^ b → is_in (bits + 2 ^ b) c ≡ (nat_eq c b || is_in bits c)
is_in_above bits b c small =
    elim (cases_eq c b) [
      | inl same ↦
          let here : bit_at (bits + 2 ^ b) c ≡ 1 =
          bit_of_plus bits b c small ∙ rw (same, bit_at-pow_same b, bit_at_above bits b b small (omega arith)) refl in
          rw (eq-eqb c b same, here) refl
      | inr other ↦
          let here : bit_at (bits + 2 ^ b) c ≡ bit_at bits c =
          bit_of_plus bits b c small ∙ rw (bit_at-pow_other b c other) (rw (zero-add (bit_at bits c)) (mod-eq_of_lt (bit_at-lt bits c))) in
          rw (ne_eqb c b other, here) refl
    ]

-- bricks below one of at most 31
pub within : (bits least : ℕ) → bits < 2 ^ least → least ≤ 31 → bits < 2 ^ 31
within bits least small most =
    let l : 2 ^ least ≤ 2 ^ 31 = pow-le-pow_right (lit< tt) {i = least} {j = 31} most in
    omega (arith, small, l)

-- a brick above all others in a set
pub plus_above : (bits b new : ℕ) → bits < 2 ^ b → b ≤ 30 → new < 2 ^ 31 → ((c : ℕ) → is_in new c ≡ (nat_eq c b || is_in bits c)) → new ≡ bits + 2 ^ b
plus_above bits b new small most bound members =
    let twice : 2 ^ suc b ≡ 2 ^ b * 2 = pow-suc 2 b in
    sets.bits new (bits + 2 ^ b) bound (within (bits + 2 ^ b) (suc b) (omega (arith, small, twice)) (omega (arith, most))) (λ c h. members c ∙ sym (is_in_above bits b c small))

pub smaller : (bits least b : ℕ) → bits < 2 ^ least → least ≤ b → bits < 2 ^ b
smaller bits least b small l =
    let low : 2 ^ least ≤ 2 ^ b = pow-le-pow_right (lit< tt) {i = least} {j = b} l in
    omega (arith, small, low)

pub below_next : (bits b : ℕ) → bits < 2 ^ b → bits + 2 ^ b < 2 ^ (b + 1)
below_next bits b small =
    let twice : 2 ^ suc b ≡ 2 ^ b * 2 = pow-suc 2 b in
    let same : b + 1 ≡ suc b = omega arith in
    rw same (omega (arith, small, twice))

-- the bits so far with those of the rest
abbrev pub with_bits : ℕ → Option ℕ → Option ℕ
with_bits bits more = option_map (λ m. bits + m) more

pub rising_done : (least bits : ℕ) → with_bits bits (rising_bits least []) ≡ Some bits
unfolding rising_bits
rising_done least bits = ap (λ n. Some n) (omega arith)

add_bits : (bits b : ℕ) (more : Option ℕ) → with_bits bits (option_map (λ m. 2 ^ b + m) more) ≡ with_bits (bits + 2 ^ b) more
add_bits bits b None = refl
add_bits bits b (Some m) = ap (λ n. Some n) (omega arith)

-- a part more, where it is a brick
pub rising_next : (least bits b : ℕ) (o : Option (List ℕ)) (text part : List ℕ) (rest : Option (List ℕ)) → o ≡ Some text → slice_split (λ b. nat_eq b 44) text ≡ part ∷ pieces (λ b. nat_eq b 44) rest → brick_from least part ≡ Some b
    → with_bits bits (rising_bits least (pieces (λ b. nat_eq b 44) o)) ≡ with_bits (bits + 2 ^ b) (rising_bits (b + 1) (pieces (λ b. nat_eq b 44) rest))
unfolding rising_bits
rising_next least bits b o text part rest e f g =
    ap (λ o. with_bits bits (rising_bits least (pieces (λ b. nat_eq b 44) o))) e ∙ ap (λ ps. with_bits bits (rising_bits least ps)) f
    ∙ ap (λ (x : Option ℕ). with_bits bits (option_and_then (λ b. option_map (λ bits. 2 ^ b + bits) (rising_bits (b + 1) (pieces (λ b. nat_eq b 44) rest))) x)) g
    ∙ add_bits bits b (rising_bits (b + 1) (pieces (λ b. nat_eq b 44) rest))

-- and where it is none
pub rising_stops : (least bits : ℕ) (o : Option (List ℕ)) (text part : List ℕ) (rest : Option (List ℕ)) → o ≡ Some text → slice_split (λ b. nat_eq b 44) text ≡ part ∷ pieces (λ b. nat_eq b 44) rest → brick_from least part ≡ None
    → with_bits bits (rising_bits least (pieces (λ b. nat_eq b 44) o)) ≡ None
unfolding rising_bits
rising_stops least bits o text part rest e f g =
    ap (λ o. with_bits bits (rising_bits least (pieces (λ b. nat_eq b 44) o))) e ∙ ap (λ ps. with_bits bits (rising_bits least ps)) f
    ∙ ap (λ (x : Option ℕ). with_bits bits (option_and_then (λ b. option_map (λ bits. 2 ^ b + bits) (rising_bits (b + 1) (pieces (λ b. nat_eq b 44) rest))) x)) g

pub with_no_bits : (o : Option ℕ) → o ≡ with_bits 0 o
with_no_bits None = refl
with_no_bits (Some m) = ap (λ n. Some n) (omega arith)

-- bricks are one at least
bits_some : (b : ℕ) (more : Option ℕ) (bits : ℕ) → option_map (λ m. 2 ^ b + m) more ≡ Some bits → 0 < bits
bits_some b None bits e = cc
bits_some b (Some m) bits e =
    let same : 2 ^ b + m ≡ bits = cc in
    let low : 2 ^ 0 ≤ 2 ^ b = pow-le-pow_right (lit< tt) {i = 0} {j = b} (omega arith) in omega (arith, same, low)

rising_some : (least : ℕ) (parts : List (List ℕ)) (bits : ℕ) → 0 < length parts → rising_bits least parts ≡ Some bits → 0 < bits
unfolding rising_bits
rising_some least [] bits l e = absurd (omega (arith, l))
rising_some least (part ∷ parts) bits l e = found (brick_from least part) e where
  found : (o : Option ℕ) → option_and_then (λ b. option_map (λ bits. 2 ^ b + bits) (rising_bits (b + 1) parts)) o ≡ Some bits → 0 < bits
  found None h = cc
  found (Some b) h = bits_some b (rising_bits (b + 1) parts) bits h

pub via_some : (word : List ℕ) (bits : ℕ) → Some bits ≡ via_bits word → 0 < bits
via_some word bits e = rising_some 0 (slice_split (λ b. nat_eq b 44) word) bits (omega (arith, length-slice_split (λ b. nat_eq b 44) word)) (sym e)
