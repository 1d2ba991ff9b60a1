-- Lemmas on the bricks that pass a test, and on the greatest of a number of each.
use Rattle.std.proofs.Common.{◌≡◌, ℕ, zero, suc, ◌+◌, ◌<◌, ◌≤◌, max, Bool, true, false, inl, inr, refl, ◌∙◌, arith, add-one}
use Rattle.std.proofs.lemmas.Bool.{cases_eq, cases_lt}
use Rattle.ec_attr.proofs.Sets.{count_none, count_out, each}
use Rattle.ec_attr.specs.Bricks.{count_below}
use Rattle.ec_attr.specs.GoodGroup.{greatest_below}

pub count_within : (m n : ℕ) (p : ℕ → Bool) → n ≤ m → ((b : ℕ) → n ≤ b → p b ≡ false) → count_below m p ≡ count_below n p
count_within zero n p l out = let e : n ≡ 0 = omega arith in rw e refl
count_within (suc m) n p l out =
    elim (cases_eq n (suc m)) [
      | inl e ↦ rw e refl
      | inr d ↦ count_out m p (out m (omega arith)) ∙ count_within m n p (omega arith) out
    ]

pub count_of_none : (n : ℕ) (p : ℕ → Bool) → ((b : ℕ) → p b ≡ false) → count_below n p ≡ 0
count_of_none n p out = count_within n 0 p (omega arith) (λ b l. out b) ∙ count_none p

pub member : (p : ℕ → Bool) → 0 < count_below 31 p → (b : ℕ) × (b < 31) × (p b ≡ true)
member p some = let e = each 31 p 0 some in (_, e.0, e.1)

-- the greatest of a number of each brick

pub greatest_none : (f : ℕ → ℕ) → greatest_below 0 f ≡ 0
unfolding greatest_below
greatest_none f = refl

greatest_next : (n : ℕ) (f : ℕ → ℕ) → greatest_below (suc n) f ≡ max (greatest_below n f) (f n)
unfolding greatest_below
greatest_next n f = refl

pub greatest_more : (n : ℕ) (f : ℕ → ℕ) → greatest_below (n + 1) f ≡ max (greatest_below n f) (f n)
greatest_more n f = rw add-one (greatest_next n f)

pub below_greatest : (n b : ℕ) (f : ℕ → ℕ) → b < n → f b ≤ greatest_below n f
below_greatest zero b f l = absurd (omega arith)
below_greatest (suc n) b f l =
    elim (cases_eq b n) [
      | inl e ↦ rw (e, greatest_next n f) (omega arith)
      | inr d ↦ let before : f b ≤ greatest_below n f = below_greatest n b f (omega arith) in rw (greatest_next n f) (omega arith)
    ]

pub is_reached : (n : ℕ) (f : ℕ → ℕ) → 0 < greatest_below n f → (b : ℕ) × (b < n) × (greatest_below n f ≡ f b)
is_reached zero f l = absurd (omega (arith, greatest_none f))
is_reached (suc n) f l =
    elim (cases_lt (f n) (greatest_below n f)) [
      | inl less ↦ let w = is_reached n f (omega arith) in (w.0, omega (arith, w.1), omega (arith, greatest_next n f, w.2))
      | inr more ↦ (n, omega arith, omega (arith, greatest_next n f))
    ]

pub ruleset greatest_steps = (greatest_none, greatest_more)
