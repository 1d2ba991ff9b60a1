-- A chunk: 8 bit planes of 64 bytes. Element e has its bit i in plane i.
use Rattle.std.specs.Prelude.{◌≡◌, ℕ, ◌+◌, ◌*◌, ◌/◌, ◌%◌, ◌^◌, ◌<◌, List, length, slice_index, replicate}
use Rattle.std.specs.Int.{bit_at}
use Rattle.ec_field.specs.Field.{sum_below}

-- bit i of element e
abbrev pub element_bit : List ℕ → ℕ → ℕ → ℕ
element_bit chunk e i = bit_at (slice_index chunk (64 * i + e / 8)) (e % 8)

-- the number whose bit i is bits i, for each i below 8
abbrev pub byte_of : (ℕ → ℕ) → ℕ
byte_of bits = sum_below 8 (λ i. bits i * 2 ^ i)

-- element e, one bit at a time
unfoldable pub element : List ℕ → ℕ → ℕ
element chunk e = byte_of (element_bit chunk e)

-- 512 bytes
pub record IsChunk (chunk : List ℕ) : Type 0 where
  pub len : length chunk ≡ 512
  pub bytes : (i : ℕ) → slice_index chunk i < 2 ^ 8

-- a chunk of zeros
unfoldable pub zero_chunk : List ℕ
zero_chunk = replicate 512 0
