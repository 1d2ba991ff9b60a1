use Rattle.std.proofs.Common.{◌≡◌, ℕ, ◌<◌, get_or}
use Rattle.ec_matrix.specs.Inverse.{cell}
use Rattle.ec_matrix.proofs.Steps.{entry, column_entry}
use Rattle.ec_matrix.proofs.interpolation.inverse.Given as goal

abbrev pub invariant-loop-i : goal.invariant-loop-i
invariant-loop-i l = (j m : ℕ) → j < l.k → m < l.i → cell l.cells j m ≡ column_entry l.algorithm l.k (entry l.master) (get_or l.points m 0) j
