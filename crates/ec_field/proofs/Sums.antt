-- Sums of a number of terms, by exclusive or.
use Rattle.std.proofs.Common.{◌≡◌, ℕ, zero, suc, ◌+◌, ◌^◌, ◌<◌, refl, sym, inl, inr, arith, add-one}
use Rattle.std.specs.Prelude.{bit_xor}
use Rattle.std.proofs.lemmas.Bool.{cases_lt}
use Rattle.std.proofs.lemmas.Nat.{xor_comm, xor_lt, pow_pos}
use Rattle.std.specs.Int.Bits.{xor_assoc, xor_zero_l, xor_zero_r, xor_self}
use Rattle.ec_field.specs.Field.{sum_below}

pub sum_none : (f : ℕ → ℕ) → sum_below 0 f ≡ 0
unfolding sum_below
sum_none f = refl

pub sum_more : (n : ℕ) (f : ℕ → ℕ) → sum_below (n + 1) f ≡ bit_xor (sum_below n f) (f n)
unfolding sum_below
sum_more n f = rw add-one refl

pub sum_suc : (n : ℕ) (f : ℕ → ℕ) → sum_below (suc n) f ≡ bit_xor (sum_below n f) (f n)
unfolding sum_below
sum_suc n f = refl

-- the two equations by which a loop adds its terms
pub ruleset sums = (sum_none, sum_more)

-- (a + b) + (c + d) = (a + c) + (b + d)
pub xor_exchange : (a b c d : ℕ) → bit_xor (bit_xor a b) (bit_xor c d) ≡ bit_xor (bit_xor a c) (bit_xor b d)
xor_exchange a b c d =
    rw (xor_assoc a b (bit_xor c d), ← xor_assoc b c d, xor_comm b c, xor_assoc c b d, ← xor_assoc a c (bit_xor b d)) refl

-- a + (a + b) = b
pub xor_cancel : (a b : ℕ) → bit_xor a (bit_xor a b) ≡ b
xor_cancel a b = rw (← xor_assoc a a b, xor_self a, xor_zero_l b) refl

pub sum_ext : (n : ℕ) (f g : ℕ → ℕ) → ((i : ℕ) → i < n → f i ≡ g i) → sum_below n f ≡ sum_below n g
unfolding sum_below
sum_ext zero f g e = refl
sum_ext (suc n) f g e =
    rw (sum_ext n f g (λ i h. e i (omega arith)), e n (omega arith)) refl

pub sum_zeros : (n : ℕ) (f : ℕ → ℕ) → ((i : ℕ) → i < n → f i ≡ 0) → sum_below n f ≡ 0
unfolding sum_below
sum_zeros zero f e = refl
sum_zeros (suc n) f e =
    rw (sum_zeros n f (λ i h. e i (omega arith)), e n (omega arith)) refl

pub sum_lt : (k n : ℕ) (f : ℕ → ℕ) → ((i : ℕ) → i < n → f i < 2 ^ k) → sum_below n f < 2 ^ k
unfolding sum_below
sum_lt k zero f h = pow_pos k
sum_lt k (suc n) f h =
    xor_lt k (sum_below n f) (f n) (sum_lt k n f (λ i l. h i (omega arith))) (h n (omega arith))

pub sum_xor : (n : ℕ) (f g : ℕ → ℕ) → sum_below n (λ i. bit_xor (f i) (g i)) ≡ bit_xor (sum_below n f) (sum_below n g)
unfolding sum_below
sum_xor zero f g = refl
sum_xor (suc n) f g =
    rw (sum_xor n f g) (xor_exchange (sum_below n f) (sum_below n g) (f n) (g n))

-- the order of two sums is free
pub sum_swap : (n m : ℕ) (f : ℕ → ℕ → ℕ) → sum_below n (λ i. sum_below m (f i)) ≡ sum_below m (λ j. sum_below n (λ i. f i j))
unfolding sum_below
sum_swap zero m f = sym (sum_zeros m (λ j. 0) (λ i h. refl))
sum_swap (suc n) m f =
    rw (sum_swap n m f) (sym (sum_xor m (λ j. sum_below n (λ i. f i j)) (f n)))

-- a sum whose terms but one are 0
pub sum_single : (n m : ℕ) (f : ℕ → ℕ) → m < n → ((i : ℕ) → i < n → (i ≡ m → ⊥) → f i ≡ 0) → sum_below n f ≡ f m
unfolding sum_below
sum_single zero m f h e = absurd (omega (arith, h))
sum_single (suc n) m f h e =
    elim (cases_lt m n) [
      | inl below ↦ rw (sum_single n m f below (λ i l ne. e i (omega arith) ne), e n (omega arith) (λ same. absurd (omega arith)), xor_zero_r (f m)) refl
      | inr above ↦
          let same : m ≡ n = omega arith in
          rw (sum_zeros n f (λ i l. e i (omega arith) (λ is_m. absurd (omega arith))), xor_zero_l (f n), same) refl
    ]
