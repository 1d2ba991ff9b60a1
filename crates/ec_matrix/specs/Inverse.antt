-- The rows of a set of bricks and their inverse.
use Rattle.std.specs.Prelude.{◌≡◌, ℕ, ◌<◌, List, [], slice_index, slice_index_or}
use Rattle.ec_field.specs.Field.{sum_below, product, kronecker, IsByte}
use Rattle.ec_field.specs.Code.{IsRow}
use Rattle.ec_attr.specs.Bricks.{bricks}

-- the row of brick b, of k entries, each a byte
pub record IsByteRow (k algorithm b : ℕ) (row : ℕ → ℕ) : Type 0 where
  pub bytes : (j : ℕ) → j < k → IsByte (row j)
  pub is_row : IsRow k algorithm b row

-- rows i is the row of the i-th brick of a set, for the first k
abbrev pub AreRows : ℕ → ℕ → ℕ → (ℕ → ℕ → ℕ) → Type 0
AreRows k algorithm bits rows = (i : ℕ) → i < k → IsByteRow k algorithm (slice_index (bricks bits) i) (rows i)

-- the entry of a matrix in row j and column i
abbrev pub cell : List (List ℕ) → ℕ → ℕ → ℕ
cell cells j i = slice_index (slice_index_or cells j []) i

-- The matrix times the rows of the set is the identity, and so are the rows times the matrix. Both are said of any
-- rows of the set, since whoever is given a code is given its row with it; `rows` are such, for whoever has to give one.
pub record IsInverse (k algorithm bits : ℕ) (cells : List (List ℕ)) : Type 0 where
  pub bytes : (j i : ℕ) → j < k → i < k → IsByte (cell cells j i)
  pub rows : ℕ → ℕ → ℕ
  pub are_rows : AreRows k algorithm bits rows
  pub left : (any : ℕ → ℕ → ℕ) → AreRows k algorithm bits any → (m j : ℕ) → m < k → j < k
      → sum_below k (λ i. product (cell cells m i) (any i j)) ≡ kronecker m j
  pub right : (any : ℕ → ℕ → ℕ) → AreRows k algorithm bits any → (m i : ℕ) → m < k → i < k
      → sum_below k (λ j. product (any m j) (cell cells j i)) ≡ kronecker m i
