-- Equations over tables, which a test computes.
use Rattle.std.proofs.Common.{◌≡◌, ℕ, zero, suc, ◌<◌, inl, inr, Bool, true, false, ◌&&◌, refl, arith}
use Rattle.std.proofs.Math.Dec.{eqb}
use Rattle.std.proofs.lemmas.Bool.{eqb-true, cases_lt}

pub both_left : (a b : Bool) → (a && b) ≡ true → a ≡ true
both_left true b e = refl
both_left false b e = cc

pub both_right : (a b : Bool) → (a && b) ≡ true → b ≡ true
both_right true b e = e
both_right false b e = cc

-- whether a test holds of each number below n
abbrev pub all_numbers_below : ℕ → (ℕ → Bool) → Bool
all_numbers_below zero p = true
all_numbers_below (suc n) p = p n && all_numbers_below n p

pub at_number : (n : ℕ) (p : ℕ → Bool) → all_numbers_below n p ≡ true → (i : ℕ) → i < n → p i ≡ true
at_number zero p e i h = absurd (omega (arith, h))
at_number (suc n) p e i h =
    elim (cases_lt i n) [
      | inl below ↦ at_number n p (both_right (p n) (all_numbers_below n p) e) i below
      | inr above ↦
          let same : i ≡ n = omega arith in
          rw same (both_left (p n) (all_numbers_below n p) e)
    ]

-- whether two functions of numbers below n agree
abbrev pub agree : ℕ → (ℕ → ℕ) → (ℕ → ℕ) → Bool
agree n f g = all_numbers_below n (λ i. eqb (f i) (g i))

pub agree_at : (n : ℕ) (f g : ℕ → ℕ) → agree n f g ≡ true → (i : ℕ) → i < n → f i ≡ g i
agree_at n f g e i h = eqb-true (f i) (g i) (at_number n (λ k. eqb (f k) (g k)) e i h)
