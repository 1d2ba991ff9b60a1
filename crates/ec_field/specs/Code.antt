-- The code of a stripe: each brick keeps one chunk, the stripe times the brick's row.
use Rattle.std.specs.Prelude.{◌≡◌, ℕ, zero, suc, ◌+◌, ◌-◌, ◌<◌, List, [], length, slice_index_or}
use Rattle.ec_field.specs.Field.{sum_below, product, power, IsByte}
use Rattle.ec_field.specs.Chunk.{element, IsChunk}

-- Entry j of the plain row of brick b, of k entries: the powers of b + 1, the highest first.
abbrev pub plain_entry : ℕ → ℕ → ℕ → ℕ
plain_entry k b j = power (b + 1) (k - 1 - j)

-- The row of brick b, of k entries. With algorithm 0 it is the plain row. With any other it is the row that gives
-- the plain row of brick b from the plain rows of bricks 0 to k - 1, so that these bricks' own are the identity.
abbrev pub IsRow : ℕ → ℕ → ℕ → (ℕ → ℕ) → Type 0
IsRow k zero b row = (j : ℕ) → j < k → row j ≡ plain_entry k b j
IsRow k (suc _) b row = (j : ℕ) → j < k → sum_below k (λ i. product (row i) (plain_entry k i j)) ≡ plain_entry k b j

-- chunk j of a list of chunks
abbrev pub chunk_at : List (List ℕ) → ℕ → List ℕ
chunk_at chunks j = slice_index_or chunks j []

-- element e of the sum of the chunks, each times its coefficient, of which there are k
abbrev pub combined_element : ℕ → (ℕ → ℕ) → List (List ℕ) → ℕ → ℕ
combined_element k coefficients chunks e = sum_below k (λ j. product (coefficients j) (element (chunk_at chunks j) e))

-- The chunk is the code, under an algorithm, of the stripe of k chunks at brick b.
pub record IsCode (k algorithm b : ℕ) (stripe : List (List ℕ)) (chunk : List ℕ) : Type 0 where
  pub row : ℕ → ℕ
  pub bytes : (j : ℕ) → j < k → IsByte (row j)
  pub is_row : IsRow k algorithm b row
  pub elements : (e : ℕ) → e < 512 → element chunk e ≡ combined_element k row stripe e

-- k chunks
pub record IsStripe (k : ℕ) (stripe : List (List ℕ)) : Type 0 where
  pub len : length stripe ≡ k
  pub chunks : (j : ℕ) → j < k → IsChunk (chunk_at stripe j)
