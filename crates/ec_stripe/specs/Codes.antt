-- The pieces of a stripe that the bricks of a set keep.
use Rattle.std.specs.Prelude.{ℕ, ◌<◌, List, length, slice_index}
use Rattle.ec_field.specs.Code.{IsCode, chunk_at}
use Rattle.ec_attr.specs.Bricks.{bricks}

-- the pieces are the codes of the stripe at the bricks of the set of these bits, in rising order
abbrev pub AreCodes : ℕ → ℕ → List (List ℕ) → List (List ℕ) → Type 0
AreCodes algorithm bits stripe pieces = (i : ℕ) → i < length pieces → IsCode (length pieces) algorithm (slice_index (bricks bits) i) stripe (chunk_at pieces i)

-- What a decoder was made for: the algorithm of the rows, and the bits of the set of bricks that give the pieces.
pub record Purpose : Type 0 where
  pub algorithm : ℕ
  pub bits : ℕ
