-- What a turn was given of a stripe, in the machine of pieces, beside the chunk that a brick gave in its reply.
use Rattle.std.specs.Prelude.{◌≡◌, ℕ, ◌<◌, Option, Some, List, slice_index}
use Rattle.ec_law_data.specs.Forms.{Piece, Shape, piece_of}
use Rattle.ec_law_pieces.specs.File.{File}

-- Turn a was given the piece of brick b, and the chunk has each byte of it that is known. Of a byte that is unset the brick may
-- give anything.
pub record IsGiven (f : File ℕ (List (List ℕ)) Piece ℕ Shape) (a b s : ℕ) (chunk : List ℕ) : Type 0 where
  pub bytes : ℕ → Option ℕ
  pub got : f.got a b s ≡ Some (piece_of bytes)
  pub told : (i u : ℕ) → i < 512 → bytes i ≡ Some u → slice_index chunk i ≡ u
