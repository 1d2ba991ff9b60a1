-- The old stripes that a write decodes, and the new ones that it codes.
use Rattle.std.specs.Prelude.{◌≡◌, ℕ, zero, suc, ◌+◌, ◌*◌, ◌<◌, ◌≤◌, Bool, true, false, ◌&&◌, Option, Some, None, List, [], ◌∷◌, length, slice_index_or}
use Rattle.ec_attr.specs.Bricks.{count_below}
use Rattle.ec_attr.specs.declared.geometry.Geometry.{Geometry}
use Rattle.ec_conduct.specs.Data.{stripe_byte}
use Rattle.ec_conduct.specs.Given.{quorum}
use Rattle.ec_field.specs.Chunk.{zero_chunk}
use Rattle.ec_field.specs.Code.{IsCode, IsStripe, chunk_at}
use Rattle.ec_stripe.specs.Span.{stripe_bytes}
use Rattle.ec_txn.specs.declared.known.Place.{Place}
use Rattle.ec_txn.specs.declared.reading.Reading.{Reading}
use Rattle.ec_txn.specs.ReadPhase.{is_done}
use Rattle.ec_wire.specs.declared.reply.Reply.{Reply}
use Rattle.ec_wire.specs.declared.reply.Reply.TheVariants.{Chunks}
use Rattle.ec_write.specs.Range.{count_stripes, new_byte}

-- the first chunk of a reply
abbrev pub first_chunk : Option Reply → Option (List ℕ)
first_chunk (Some (Chunks (chunk ∷ chunks))) = Some chunk
first_chunk reply = None

-- the same, zeros where there is none
abbrev pub chunk_given : Option Reply → List ℕ
chunk_given (Some (Chunks (chunk ∷ chunks))) = chunk
chunk_given reply = zero_chunk

abbrev pub has_chunk : Option Reply → Bool
has_chunk (Some (Chunks (chunk ∷ chunks))) = true
has_chunk reply = false

-- a brick gave the chunk of the stripe that is read
abbrev pub gave : Reading → (ℕ → Place) → (ℕ → Option Reply) → ℕ → Bool
gave r ps rs x = is_done r ps rs x && has_chunk (rs x)

abbrev pub count_gave : Reading → (ℕ → Place) → (ℕ → Option Reply) → ℕ
count_gave r ps rs = count_below 31 (gave r ps rs)

-- This is a stripe, and k bricks gave chunks that are its codes.
pub record IsDecoded (geometry : Geometry) (r : Reading) (ps : ℕ → Place) (rs : ℕ → Option Reply) (stripe : List (List ℕ)) : Type 0 where
  pub stripe_is : IsStripe (quorum geometry) stripe
  pub which : ℕ → Bool
  pub enough : quorum geometry ≤ count_below 31 which
  pub each : (x : ℕ) → which x ≡ true → (gave r ps rs x ≡ true) × (chunk : List ℕ) × (first_chunk (rs x) ≡ Some chunk) × IsCode (quorum geometry) geometry.algorithm x stripe chunk

-- the old stripe number i of the write: the first one, or another, which is the last
abbrev pub old_stripe : List (List ℕ) → List (List ℕ) → ℕ → List (List ℕ)
old_stripe front back zero = front
old_stripe front back (suc i) = back

-- the chunks that are coded for brick x
abbrev pub list_at : List (List (List ℕ)) → ℕ → List (List ℕ)
list_at lists x = slice_index_or lists x []

-- The lists of n bricks are the codes of the new stripes: `front` is the first stripe as it was, `back` the last one.
pub record AreCoded (geometry : Geometry) (off : ℕ) (bytes : List ℕ) (size : ℕ) (front back : List (List ℕ)) (lists : List (List (List ℕ))) : Type 0 where
  pub stripe : ℕ → List (List ℕ)
  pub stripe_is : (i : ℕ) → i < count_stripes (quorum geometry) off (length bytes) → IsStripe (quorum geometry) (stripe i)
  pub bytes_are : (i p : ℕ) → i < count_stripes (quorum geometry) off (length bytes) → p < stripe_bytes (quorum geometry)
      → stripe_byte (stripe i) p ≡ new_byte (quorum geometry) off bytes size (stripe_byte (old_stripe front back i) p) (stripe_bytes (quorum geometry) * i + p)
  pub len : (x : ℕ) → x < geometry.n → length (list_at lists x) ≡ count_stripes (quorum geometry) off (length bytes)
  pub codes : (x i : ℕ) → x < geometry.n → i < count_stripes (quorum geometry) off (length bytes) → IsCode (quorum geometry) geometry.algorithm x (stripe i) (chunk_at (list_at lists x) i)
