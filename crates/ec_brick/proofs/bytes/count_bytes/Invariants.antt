use Rattle.std.proofs.Common.{◌≡◌, ◌*◌, length, take}
use Rattle.ec_brick.specs.Work.{bytes_of}
use Rattle.ec_brick.proofs.bytes.count_bytes.Given as goal

abbrev pub invariant-loop-c : goal.invariant-loop-c
invariant-loop-c l = (l.count ≡ length (bytes_of (take l.c-index l.c-items))) × (l.count ≡ 512 * l.c-index)
