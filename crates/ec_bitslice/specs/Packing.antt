-- Elements as a list, and as a chunk of bit planes.
use Rattle.std.specs.Prelude.{◌≡◌, ℕ, ◌<◌, List, slice_index}
use Rattle.ec_field.specs.Chunk.{element}

-- The elements of the list are those of the chunk.
abbrev pub IsPacked : List ℕ → List ℕ → Type 0
IsPacked elements chunk = (e : ℕ) → e < 512 → element chunk e ≡ slice_index elements e
