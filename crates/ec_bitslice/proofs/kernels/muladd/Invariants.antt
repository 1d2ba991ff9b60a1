use Rattle.std.proofs.Common.{◌≡◌, ℕ, ◌*◌, ◌/◌, ◌<◌, ◌≤◌}
use Rattle.std.specs.Prelude.{bit_xor}
use Rattle.ec_field.specs.Field.{product}
use Rattle.ec_field.specs.Chunk.{element, IsChunk}
use Rattle.ec_bitslice.proofs.kernels.muladd.Given as goal

abbrev pub invariant-loop-i : goal.invariant-loop-i
invariant-loop-i l = record {
  done : (e : ℕ) → e / 8 < 16 * l.i → element l.acc e ≡ bit_xor (element l.initial.acc e) (product l.a (element l.c e));
  left : (e : ℕ) → 16 * l.i ≤ e / 8 → e / 8 < 64 → element l.acc e ≡ element l.initial.acc e;
  chunk : 0 < l.i → IsChunk l.acc;
}
