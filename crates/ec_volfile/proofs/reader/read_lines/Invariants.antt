use Rattle.std.proofs.Common.{◌≡◌, ◌+◌, ◌≤◌, length}
use Rattle.ec_volfile.specs.Lines.{lines}
use Rattle.ec_volfile.specs.Sections.{run, start, front_of}
use Rattle.ec_volfile.proofs.reader.read_lines.Given as goal

abbrev pub invariant-loop-rest : goal.invariant-loop-rest
invariant-loop-rest l = (run (front_of l.state) l.number (lines l.rest) ≡ run start 0 (lines l.bytes)) × (l.number + length l.rest ≤ length l.bytes)

abbrev pub decreases-loop-rest : goal.decreases-loop-rest
decreases-loop-rest l = length l.rest
