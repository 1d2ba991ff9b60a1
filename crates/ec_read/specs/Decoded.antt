-- The bytes that the chunks of k bricks decode to.
use Rattle.std.specs.Prelude.{◌≡◌, ℕ, ◌+◌, ◌-◌, ◌/◌, ◌%◌, ◌<◌, true, Option, Some, List, length, slice_index, slice_index_or}
use Rattle.ec_attr.specs.Bricks.{count_below, is_in}
use Rattle.ec_conduct.specs.Data.{stripe_byte}
use Rattle.ec_field.specs.Chunk.{zero_chunk}
use Rattle.ec_field.specs.Code.{IsCode, IsStripe}
use Rattle.ec_stripe.specs.Span.{stripe_bytes}
use Rattle.ec_txn.specs.ReadPhase.{is_done}
use Rattle.ec_txn.specs.declared.known.Place.{Place}
use Rattle.ec_txn.specs.declared.reading.Reading.{Reading}
use Rattle.ec_wire.specs.declared.reply.Reply.{Reply}
use Rattle.ec_wire.specs.declared.reply.Reply.TheVariants.{Chunks}

-- a chunk of those that a brick replied, zeros where it replied fewer
abbrev pub chunk_given : Option Reply → ℕ → List ℕ
chunk_given (Some (Chunks chunks)) at = slice_index_or chunks at zero_chunk
chunk_given reply at = zero_chunk

-- the stripe of k chunks whose codes these bricks replied, each as its chunk `at`
pub record IsDecoded (k algorithm which : ℕ) (replies : ℕ → Option Reply) (at : ℕ) (stripe : List (List ℕ)) : Type 0 where
  pub is_stripe : IsStripe k stripe
  pub codes : (b : ℕ) → b < 31 → is_in which b ≡ true → IsCode k algorithm b stripe (chunk_given (replies b) at)

-- the byte at a place of the file, in the stripe there, where the first chunks are of stripe `first`
pub record IsByteAt (k algorithm which : ℕ) (replies : ℕ → Option Reply) (first place byte : ℕ) : Type 0 where
  pub stripe : List (List ℕ)
  pub decoded : IsDecoded k algorithm which replies (place / stripe_bytes k - first) stripe
  pub byte_is : byte ≡ stripe_byte stripe (place % stripe_bytes k)

-- the bytes from place `off` on and before `end`
pub record AreBytes (k algorithm which : ℕ) (replies : ℕ → Option Reply) (first off end : ℕ) (bytes : List ℕ) : Type 0 where
  pub many : length bytes ≡ end - off
  pub each : (i : ℕ) → i < length bytes → IsByteAt k algorithm which replies first (off + i) (slice_index bytes i)

-- k bricks that gave their chunks give these bytes
pub record Gives (k algorithm : ℕ) (r : Reading) (places : ℕ → Place) (replies : ℕ → Option Reply) (off end : ℕ) (bytes : List ℕ) : Type 0 where
  pub which : ℕ
  pub enough : count_below 31 (is_in which) ≡ k
  pub done : (b : ℕ) → is_in which b ≡ true → is_done r places replies b ≡ true
  pub decoded : AreBytes k algorithm which replies r.first off end bytes
