use Rattle.std.proofs.Common.{◌≡◌, ℕ, ◌<◌, get_or}
use Rattle.ec_matrix.specs.Polynomial.{master}
use Rattle.ec_matrix.proofs.polynomial.master.Given as goal

abbrev pub invariant-loop-i : goal.invariant-loop-i
invariant-loop-i l = (j : ℕ) → j < 17 → get_or l.coefficients j 0 ≡ master (λ m. get_or l.points m 0) l.i j
