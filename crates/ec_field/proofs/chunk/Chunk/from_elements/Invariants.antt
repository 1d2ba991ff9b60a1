use Rattle.std.proofs.Common.{◌≡◌, ◌<◌, ℕ, get_or, length}
use Rattle.ec_field.proofs.Planes.{plane_byte_at}
use Rattle.ec_field.proofs.chunk.Chunk.from_elements.Given as goal

abbrev pub invariant-loop-place : goal.invariant-loop-place
invariant-loop-place l = record {
  len : length l.bytes ≡ 512;
  planes : (k : ℕ) → k < l.place → get_or l.bytes k 0 ≡ plane_byte_at l.elements k;
}
