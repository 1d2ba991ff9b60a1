-- The rows of bricks, by algorithm.
use Rattle.std.specs.Prelude.{ℕ, zero, suc, ◌+◌, ◌<◌}
use Rattle.ec_field.specs.Code.{plain_entry}
use Rattle.ec_matrix.specs.Inverse.{IsByteRow}
use Rattle.ec_matrix.specs.Polynomial.{basis, master, value}

-- Entry j of the row of brick b, of k entries: the powers of the brick's point, the highest first; or, with any algorithm but 0,
-- the value at this point of the polynomial that is 1 at the point of brick j and 0 at those of the other first k bricks.
abbrev pub row_at : ℕ → ℕ → ℕ → ℕ → ℕ
row_at k zero b j = plain_entry k b j
row_at k (suc algorithm) b j = value k (basis k (master (λ i. i + 1) k) (j + 1)) (b + 1)

-- rows of the bricks below n
abbrev pub AreRows : ℕ → ℕ → ℕ → (ℕ → ℕ → ℕ) → Type 0
AreRows n k algorithm rows = (b : ℕ) → b < n → IsByteRow k algorithm b (rows b)
