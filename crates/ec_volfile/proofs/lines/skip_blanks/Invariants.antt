use Rattle.std.proofs.Common.{◌≡◌, ◌≤◌, length}
use Rattle.ec_volfile.specs.Lines.{skip_blanks}
use Rattle.ec_volfile.proofs.lines.skip_blanks.Given as goal

abbrev pub invariant-loop-bytes : goal.invariant-loop-bytes
invariant-loop-bytes l = (skip_blanks l.bytes ≡ skip_blanks l.fn.bytes) × (length l.bytes ≤ length l.fn.bytes)

abbrev pub decreases-loop-bytes : goal.decreases-loop-bytes
decreases-loop-bytes l = length l.bytes
