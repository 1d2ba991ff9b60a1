-- A number and its bits.
use Rattle.std.proofs.Common.{◌≡◌, ℕ, zero, suc, ◌+◌, ◌-◌, ◌*◌, ◌/◌, ◌%◌, ◌^◌, ◌<◌, ◌⊎◌, inl, inr, refl, ap, sym, ◌∙◌, arith, add-zero, zero-add}
use Rattle.std.specs.Prelude.{bit_xor}
use Rattle.std.specs.Int.{bit_at}
use Rattle.std.specs.Int.Bits.{xor_shifted}
use Rattle.std.proofs.lemmas.Bool.{cases_lt}
use Rattle.std.proofs.Math.Nat.{zero-mul, one-mul, mod-lt, mod-eq_of_lt}
use Rattle.std.proofs.Math.Pow.{pow-lt}
use Rattle.std.proofs.lemmas.Nat.{xor_comm, mod-pow-add, pow_pos}
use Rattle.std.proofs.lemmas.Nat.Bits.{bit_at_lowest, bit_at_xor, bit_at_cat_low, bit_at_cat_high, bit_at_above, bit_at-zero}
use Rattle.ec_field.specs.Field.{sum_below, IsByte}
use Rattle.ec_field.proofs.Sums.{sum_lt, sum_ext}
use Rattle.ec_field.proofs.Linear.{IsLinear, linear-zero, linear-sum, bit_cases, below_two}

-- the n lowest bits of a number, each at its place
pub low_bits : (n a : ℕ) → sum_below n (λ i. bit_at a i * 2 ^ i) ≡ a % 2 ^ n
unfolding sum_below
low_bits zero a = let l : a % 1 < 1 = mod-lt a (omega arith) in omega arith
low_bits (suc n) a =
    let place : bit_xor (bit_at a n * 2 ^ n) (a % 2 ^ n) ≡ bit_at a n * 2 ^ n + a % 2 ^ n = xor_shifted (bit_at a n) n (a % 2 ^ n) (mod-lt a (pow_pos n)) in
    let split : a % 2 ^ (1 + n) ≡ a / 2 ^ n % 2 ^ 1 * 2 ^ n + a % 2 ^ n = mod-pow-add a 1 n in
    rw (low_bits n a, xor_comm (a % 2 ^ n) (bit_at a n * 2 ^ n), place)
    (sym split ∙ ap (λ k. a % 2 ^ k) (let e : 1 + n ≡ suc n = omega arith in e))

-- a byte is the sum of its bits, each at its place
pub byte_by_bits : (a : ℕ) → IsByte a → sum_below 8 (λ i. bit_at a i * 2 ^ i) ≡ a
byte_by_bits a h = low_bits 8 a ∙ mod-eq_of_lt h

same_at_bit : (h g : ℕ → ℕ) → IsLinear h → IsLinear g → (p x : ℕ) → (p ≡ 0) ⊎ (p ≡ 1) → h x ≡ g x → h (p * x) ≡ g (p * x)
same_at_bit h g lh lg p x (inl e) same = rw (e, zero-mul x, linear-zero h lh, linear-zero g lg) refl
same_at_bit h g lh lg p x (inr e) same = rw (e, one-mul x) same

-- Two linear functions that agree at the powers of two agree at each byte.
pub same_at_bytes : (h g : ℕ → ℕ) → IsLinear h → IsLinear g → ((i : ℕ) → i < 8 → h (2 ^ i) ≡ g (2 ^ i)) → (a : ℕ) → IsByte a → h a ≡ g a
same_at_bytes h g lh lg e a byte =
    let as_sum : sum_below 8 (λ i. bit_at a i * 2 ^ i) ≡ a = byte_by_bits a byte in
    ap h (sym as_sum)
    ∙ linear-sum h lh 8 (λ i. bit_at a i * 2 ^ i)
    ∙ sum_ext 8 (λ i. h (bit_at a i * 2 ^ i)) (λ i. g (bit_at a i * 2 ^ i)) (λ i l. same_at_bit h g lh lg (bit_at a i) (2 ^ i) (bit_cases a i) (e i l))
    ∙ sym (linear-sum g lg 8 (λ i. bit_at a i * 2 ^ i))
    ∙ ap g as_sum

pub bit_lt : (n b i : ℕ) → (b ≡ 0) ⊎ (b ≡ 1) → i < n → b * 2 ^ i < 2 ^ n
bit_lt n b i (inl e) l = rw (e, zero-mul (2 ^ i)) (pow_pos n)
bit_lt n b i (inr e) l = rw (e, one-mul (2 ^ i)) (pow-lt l)

pub bits_lt : (n : ℕ) (bits : ℕ → ℕ) → ((i : ℕ) → i < n → bits i < 2) → sum_below n (λ j. bits j * 2 ^ j) < 2 ^ n
bits_lt n bits two = sum_lt n n (λ j. bits j * 2 ^ j) (λ i l. bit_lt n (bits i) i (below_two (bits i) (two i l)) l)

-- the bits of a number that is made from bits
pub bit_of_sum : (n : ℕ) (bits : ℕ → ℕ) → ((i : ℕ) → i < n → bits i < 2) → (i : ℕ) → i < n → bit_at (sum_below n (λ j. bits j * 2 ^ j)) i ≡ bits i
unfolding sum_below
bit_of_sum zero bits two i h = absurd (omega (arith, h))
bit_of_sum (suc n) bits two i h =
    let low : sum_below n (λ j. bits j * 2 ^ j) < 2 ^ n = bits_lt n bits (λ j l. two j (omega arith)) in
    rw (bit_at_xor (sum_below n (λ j. bits j * 2 ^ j)) (bits n * 2 ^ n) i)
    (elim (cases_lt i n) [
      | inl below ↦
          let rest : bit_at (bits n * 2 ^ n + 0) i ≡ bit_at 0 i = bit_at_cat_low (bits n) n 0 i below in
          let here : bit_at (sum_below n (λ j. bits j * 2 ^ j)) i ≡ bits i = bit_of_sum n bits (λ j l. two j (omega arith)) i below in
          let less : bits i < 2 = two i h in
          let none : bit_at (bits n * 2 ^ n) i ≡ 0 = simp add-zero at rest ∙ bit_at-zero i in
          rw (here, none) (simp add-zero (mod-eq_of_lt less))
      | inr above ↦
          let same : i ≡ n = omega arith in
          let rest : bit_at (bits n * 2 ^ n + 0) n ≡ bit_at (bits n) (n - n) = bit_at_cat_high (bits n) n 0 n (pow_pos n) (omega arith) in
          let less : bits n < 2 = two n (omega arith) in
          let first : bit_at (sum_below n (λ j. bits j * 2 ^ j)) n ≡ 0 = bit_at_above (sum_below n (λ j. bits j * 2 ^ j)) n n low (omega arith) in
          let self : n - n ≡ 0 = omega arith in
          let here : bit_at (bits n * 2 ^ n) n ≡ bits n = simp add-zero at rest ∙ ap (bit_at (bits n)) self ∙ bit_at_lowest (bits n) ∙ mod-eq_of_lt less in
          rw (same, first, here) (simp zero-add (mod-eq_of_lt less))
    ])
