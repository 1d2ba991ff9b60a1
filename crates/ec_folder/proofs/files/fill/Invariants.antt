use Rattle.std.proofs.Common.{◌≡◌, ◌≤◌, length}
use Rattle.ec_folder.proofs.files.fill.Given as goal

abbrev pub invariant-loop : goal.invariant-loop
invariant-loop g l = (l.filled ≤ length l.buf) × (length l.buf ≡ length l.fn.buf)
