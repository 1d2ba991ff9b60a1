use Rattle.std.proofs.Common.{◌≡◌, ◌*◌, length, take}
use Rattle.ec_brick.specs.Work.{bytes_of}
use Rattle.ec_brick.proofs.chunks.bytes_of.Given as goal

abbrev pub invariant-loop-c : goal.invariant-loop-c
invariant-loop-c l = (l.bytes.items ≡ bytes_of (take l.c-index l.c-items)) × (length l.bytes.items ≡ 512 * l.c-index)
