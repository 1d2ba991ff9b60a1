-- The code of a stripe byte by byte, for the rows of the bricks.
use Rattle.std.specs.Prelude.{◌≡◌, ℕ, ◌+◌, ◌*◌, ◌/◌, ◌%◌, ◌<◌, List, slice_index}
use Rattle.std.specs.Int.{bit_at}
use Rattle.ec_field.specs.Chunk.{IsChunk, byte_of, element}
use Rattle.ec_field.specs.Code.{combined_element}
use Rattle.ec_law_data.specs.Forms.{CodesZeros, Coder}

-- byte i of the code: bit plane i / 64 of the eight elements from 8 * (i % 64) on
abbrev pub code_byte : ℕ → (ℕ → ℕ) → List (List ℕ) → ℕ → ℕ
code_byte k row stripe i = byte_of (λ j. bit_at (combined_element k row stripe (8 * (i % 64) + j)) (i / 64))

-- with a row of k entries for each brick
abbrev pub by_rows : ℕ → (ℕ → ℕ → ℕ) → Coder
by_rows k rows stripe b i = code_byte k (rows b) stripe i

pub record CodingLaws : Type 0 where
  -- zeros are the code of zeros
  pub zeros : (k : ℕ) (rows : ℕ → ℕ → ℕ) → CodesZeros k (by_rows k rows)
  -- a chunk that has the code's elements has its bytes
  pub bytes : (k : ℕ) (row : ℕ → ℕ) (stripe : List (List ℕ)) (chunk : List ℕ) → IsChunk chunk → ((e : ℕ) → e < 512 → element chunk e ≡ combined_element k row stripe e) → (i : ℕ) → i < 512 → slice_index chunk i ≡ code_byte k row stripe i
