use Rattle.std.proofs.Common.{◌+◌, ◌*◌}
use Rattle.ec_bitslice.proofs.PlaneBits.{HasPlanes}
use Rattle.ec_bitslice.proofs.packing.pack.Given as goal

abbrev pub invariant-loop-byte : goal.invariant-loop-byte
invariant-loop-byte l = HasPlanes (64 * l.i + l.byte) l.elements l.planes

abbrev pub invariant-loop-i : goal.invariant-loop-i
invariant-loop-i l = HasPlanes (64 * l.i) l.elements l.planes
