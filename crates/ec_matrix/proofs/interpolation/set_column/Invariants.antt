use Rattle.std.proofs.Common.{◌≡◌, ℕ, ◌<◌, ◌≤◌, get_or, length, nat_eq, if◌then◌else◌}
use Rattle.ec_matrix.specs.Inverse.{cell}
use Rattle.ec_matrix.proofs.interpolation.set_column.Given as goal

abbrev pub invariant-loop-j : goal.invariant-loop-j
invariant-loop-j l = record {
  len : length l.cells ≡ 16;
  done : (m n : ℕ) → m < l.j → cell l.cells m n ≡ (if nat_eq n l.i then get_or l.column m 0 else cell l.fn.cells m n);
  left : (m n : ℕ) → l.j ≤ m → cell l.cells m n ≡ cell l.fn.cells m n;
}
