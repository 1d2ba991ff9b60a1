use Rattle.std.proofs.Common.{◌≡◌, ◌<◌, ℕ, bit_xor, get_or, length}
use Rattle.ec_field.proofs.chunk.Chunk.plus.Given as goal

abbrev pub invariant-loop-place : goal.invariant-loop-place
invariant-loop-place l = record {
  len : length l.bytes ≡ 512;
  sums : (k : ℕ) → k < l.place → get_or l.bytes k 0 ≡ bit_xor (get_or l.self k 0) (get_or l.other k 0);
}
