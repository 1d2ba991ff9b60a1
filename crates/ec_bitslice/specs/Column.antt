-- Columns of a chunk, 16 bytes of each plane, and their elements.
use Rattle.std.specs.Prelude.{◌≡◌, ℕ, ◌+◌, ◌-◌, ◌/◌, ◌%◌, ◌<◌, ◌≤◌, List, [], ◌∷◌, length, slice_index, slice_index_or}
use Rattle.std.specs.Int.{bit_at}
use Rattle.ec_field.specs.Chunk.{byte_of, element, IsChunk}
use Rattle.ec_bitslice.specs.declared.column.Column.{Column}

-- plane i of a column
abbrev pub plane : Column → ℕ → List ℕ
plane c i = slice_index_or (c.p0 ∷ c.p1 ∷ c.p2 ∷ c.p3 ∷ c.p4 ∷ c.p5 ∷ c.p6 ∷ c.p7 ∷ []) i []

-- the element of a column at bit k of the bytes at x
unfoldable pub lane_element : Column → ℕ → ℕ → ℕ
lane_element c x k = byte_of (λ i. bit_at (slice_index (plane c i) x) k)

-- The elements of a column that begins at byte `at` of each plane are f e, for each element e of the chunk that it has.
pub record HasElements (c : Column) (at : ℕ) (f : ℕ → ℕ) : Type 0 where
  pub each : (e : ℕ) → at ≤ e / 8 → e / 8 < at + 16 → lane_element c (e / 8 - at) (e % 8) ≡ f e

-- The lanes are written from `at` on, and all else stays.
pub record StoresLanes (lanes : List ℕ) (at : ℕ) (old new : List ℕ) : Type 0 where
  pub len : length new ≡ length old
  pub within : (x : ℕ) → x < 16 → slice_index new (at + x) ≡ slice_index lanes x
  pub below : (n : ℕ) → n < at → slice_index new n ≡ slice_index old n
  pub above : (n : ℕ) → at + 16 ≤ n → slice_index new n ≡ slice_index old n
  pub chunk : IsChunk new

-- The elements of the column are written from byte `at` of each plane on, and all other elements stay.
pub record StoresColumn (c : Column) (at : ℕ) (old new : List ℕ) : Type 0 where
  pub len : length new ≡ length old
  pub within : (e : ℕ) → at ≤ e / 8 → e / 8 < at + 16 → element new e ≡ lane_element c (e / 8 - at) (e % 8)
  pub below : (e : ℕ) → e / 8 < at → element new e ≡ element old e
  pub above : (e : ℕ) → at + 16 ≤ e / 8 → e / 8 < 64 → element new e ≡ element old e
  pub chunk : IsChunk new
