-- Sums of products by Horner's rule over the bits of the coefficients.
use Rattle.std.specs.Prelude.{ℕ, ◌*◌, ◌/◌, ◌^◌, List, slice_index}
use Rattle.std.specs.Int.{bit_at}
use Rattle.ec_field.specs.Field.{sum_below, product}
use Rattle.ec_field.specs.Chunk.{element}
use Rattle.ec_field.specs.Code.{chunk_at}

-- element e of the sum of the first four chunks whose coefficient has bit i
unfoldable pub bit_sum : List ℕ → List (List ℕ) → ℕ → ℕ → ℕ
bit_sum coefficients chunks i e = sum_below 4 (λ j. bit_at (slice_index coefficients j) i * element (chunk_at chunks j) e)

-- element e of the sum of the first four chunks, each times the bits of its coefficient from bit i on
unfoldable pub horner : List ℕ → List (List ℕ) → ℕ → ℕ → ℕ
horner coefficients chunks i e = sum_below 4 (λ j. product (slice_index coefficients j / 2 ^ i) (element (chunk_at chunks j) e))
