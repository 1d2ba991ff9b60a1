use Rattle.std.proofs.Common.{◌≡◌, ℕ, ◌<◌, get_or}
use Rattle.ec_field.specs.Chunk.{element}
use Rattle.ec_bitslice.proofs.packing.unpack.Given as goal

abbrev pub invariant-loop-e : goal.invariant-loop-e
invariant-loop-e l = (n : ℕ) → n < l.e → element l.c n ≡ get_or l.out n 0
