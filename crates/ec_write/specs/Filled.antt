-- The chunks of the new stripes of a write, one stripe after another.
use Rattle.std.specs.Prelude.{◌≡◌, ℕ, ◌+◌, ◌*◌, ◌%◌, ◌<◌, cond, nat_lt, List, length, slice_index, take, drop}
use Rattle.ec_attr.specs.declared.geometry.Geometry.{Geometry}
use Rattle.ec_conduct.specs.Given.{quorum}
use Rattle.ec_field.specs.Chunk.{IsChunk}
use Rattle.ec_field.specs.Code.{IsCode, chunk_at}
use Rattle.ec_write.specs.Range.{new_byte}

-- the chunk as it was in the place of number m, of stripes of k chunks
abbrev pub old_chunk : ℕ → List (List ℕ) → List (List ℕ) → ℕ → List ℕ
old_chunk k front back m = chunk_at (cond (nat_lt m k) front back) (m % k)

-- these are the first n of them
pub record AreFilled (k off : ℕ) (bytes : List ℕ) (size : ℕ) (front back : List (List ℕ)) (n : ℕ) (chunks : List (List ℕ)) : Type 0 where
  pub len : length chunks ≡ n
  pub chunk : (m : ℕ) → m < n → IsChunk (chunk_at chunks m)
  pub bytes_are : (m q : ℕ) → m < n → q < 512 → slice_index (chunk_at chunks m) q ≡ new_byte k off bytes size (slice_index (old_chunk k front back m) q) (512 * m + q)

-- stripe number i of them
abbrev pub stripe_of : ℕ → List (List ℕ) → ℕ → List (List ℕ)
stripe_of k chunks i = take k (drop (k * i) chunks)

-- the first n chunks of a brick are the codes of these stripes
pub record AreListed (geometry : Geometry) (brick : ℕ) (chunks : List (List ℕ)) (n : ℕ) (list : List (List ℕ)) : Type 0 where
  pub len : length list ≡ n
  pub codes : (i : ℕ) → i < n → IsCode (quorum geometry) geometry.algorithm brick (stripe_of (quorum geometry) chunks i) (chunk_at list i)
