-- The points of bricks.
use Rattle.std.proofs.Common.{◌≡◌, ℕ, ◌+◌, ◌<◌, ◌≤◌, length, get_or, inl, inr, arith}
use Rattle.std.proofs.lemmas.Bool.{cases_order}
use Rattle.ec_attr.specs.Bricks.{is_in, bricks, count_below}
use Rattle.ec_attr.proofs.Sets.{len, each, rising}
use Rattle.ec_matrix.proofs.Roots.{IsPoints}

-- the points of bricks 0 and on
abbrev pub first : ℕ → ℕ
first i = i + 1

-- the points of a set
abbrev pub point : ℕ → ℕ → ℕ
point bits i = get_or (bricks bits) i 0 + 1

pub first_points : (k : ℕ) → k ≤ 16 → IsPoints k first
first_points k l = record { bytes = λ i h. omega arith; apart = λ i j h m e. omega arith }

counted : (bits k i : ℕ) → length (bricks bits) ≡ k → i < k → i < count_below 31 (is_in bits)
counted bits k i e l = omega (arith, len 31 (is_in bits))

same_place : (bits k i j : ℕ) → length (bricks bits) ≡ k → i < k → j < k → get_or (bricks bits) i 0 + 1 ≡ get_or (bricks bits) j 0 + 1 → i ≡ j
same_place bits k i j e l m same =
    elim (cases_order i j) [
      | inl here ↦ here
      | inr (inl below) ↦ let h : get_or (bricks bits) i 0 < get_or (bricks bits) j 0 = rising 31 (is_in bits) i j below (counted bits k j e m) in absurd (omega arith)
      | inr (inr above) ↦ let h : get_or (bricks bits) j 0 < get_or (bricks bits) i 0 = rising 31 (is_in bits) j i above (counted bits k i e l) in absurd (omega arith)
    ]

pub set_points : (bits k : ℕ) → length (bricks bits) ≡ k → IsPoints k (point bits)
set_points bits k e = record {
  bytes = λ i l. let h : get_or (bricks bits) i 0 < 31 = (each 31 (is_in bits) i (counted bits k i e l)).0 in omega arith;
  apart = λ i j l m same. same_place bits k i j e l m same;
}
