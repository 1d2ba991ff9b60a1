-- Functions of numbers that respect the exclusive or.
use Rattle.std.proofs.Common.{◌≡◌, ℕ, zero, suc, ◌+◌, ◌*◌, ◌%◌, ◌^◌, ◌<◌, ◌⊎◌, inl, inr, refl, sym, ◌∙◌, arith, add-zero}
use Rattle.std.specs.Prelude.{bit_xor}
use Rattle.std.specs.Int.{bit_at}
use Rattle.std.specs.Int.Bits.{xor_self, xor_zero_l, xor_zero_r}
use Rattle.std.proofs.Math.Nat.{zero-mul}
use Rattle.std.proofs.lemmas.Nat.{xor_block, pow_pos}
use Rattle.std.proofs.lemmas.Nat.Bits.{bit_at_xor, bit_at-lt}
use Rattle.ec_field.specs.Field.{sum_below}

pub record IsLinear (h : ℕ → ℕ) : Type 0 where
  pub xor : (a b : ℕ) → h (bit_xor a b) ≡ bit_xor (h a) (h b)

pub below_two : (n : ℕ) → n < 2 → (n ≡ 0) ⊎ (n ≡ 1)
below_two zero h = inl refl
below_two (suc zero) h = inr refl
below_two (suc (suc n)) h = absurd (omega arith)

-- a bit is 0 or 1
pub bit_cases : (n i : ℕ) → (bit_at n i ≡ 0) ⊎ (bit_at n i ≡ 1)
bit_cases n i = below_two (bit_at n i) (bit_at-lt n i)

pub linear-zero : (h : ℕ → ℕ) → IsLinear h → h 0 ≡ 0
linear-zero h l = l.xor 0 0 ∙ xor_self (h 0)

pub linear-sum : (h : ℕ → ℕ) → IsLinear h → (n : ℕ) (f : ℕ → ℕ) → h (sum_below n f) ≡ sum_below n (λ i. h (f i))
unfolding sum_below
linear-sum h l zero f = linear-zero h l
linear-sum h l (suc n) f =
    rw (l.xor (sum_below n f) (f n), linear-sum h l n f) refl

-- a shift is linear
pub shift-linear : (k : ℕ) → IsLinear (λ a. a * 2 ^ k)
shift-linear k = record {
  xor = λ a b.
      let e : bit_xor (a * 2 ^ k + 0) (b * 2 ^ k + 0) ≡ bit_xor a b * 2 ^ k + bit_xor 0 0 = xor_block k a b 0 0 (pow_pos k) (pow_pos k) in
      sym (simp (add-zero, xor_zero_l) at e);
}

times_cases : (p q x : ℕ) → (p ≡ 0) ⊎ (p ≡ 1) → (q ≡ 0) ⊎ (q ≡ 1) → (p + q) % 2 * x ≡ bit_xor (p * x) (q * x)
times_cases p q x (inl e) (inl f) = rw (e, f) (zero-mul x ∙ sym (xor_self (0 * x)))
times_cases p q x (inl e) (inr f) = rw (e, f, zero-mul x, xor_zero_l (1 * x)) refl
times_cases p q x (inr e) (inl f) = rw (e, f, zero-mul x, xor_zero_r (1 * x)) refl
times_cases p q x (inr e) (inr f) = rw (e, f) (zero-mul x ∙ sym (xor_self (1 * x)))

-- one bit of a number, as 0 or as another number
pub bit_times-linear : (i x : ℕ) → IsLinear (λ a. bit_at a i * x)
bit_times-linear i x = record {
  xor = λ a b.
      rw (bit_at_xor a b i) (times_cases (bit_at a i) (bit_at b i) x (bit_cases a i) (bit_cases b i));
}
