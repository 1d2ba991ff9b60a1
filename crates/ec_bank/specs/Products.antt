-- What is promised of a chunk that a kernel gives.
use Rattle.std.specs.Prelude.{◌≡◌, ◌<◌, ℕ, List, length, slice_index}
use Rattle.ec_field.specs.Field.{product}
use Rattle.ec_field.specs.Chunk.{element, IsChunk}
use Rattle.ec_field.specs.Code.{combined_element}

-- a chunk whose elements are those of another, each times a
pub record IsProduct (a : ℕ) (factor result : List ℕ) : Type 0 where
  pub chunk : IsChunk result
  pub elements : (e : ℕ) → e < 512 → element result e ≡ product a (element factor e)

-- a chunk whose elements are the sums of those of others, each times its coefficient
pub record IsCombined (coefficients : List ℕ) (chunks : List (List ℕ)) (result : List ℕ) : Type 0 where
  pub chunk : IsChunk result
  pub elements : (e : ℕ) → e < 512 → element result e ≡ combined_element (length coefficients) (λ j. slice_index coefficients j) chunks e
