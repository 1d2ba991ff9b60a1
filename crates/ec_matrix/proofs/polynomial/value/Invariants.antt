use Rattle.std.proofs.Common.{◌≡◌, get_or}
use Rattle.ec_matrix.specs.Polynomial.{value}
use Rattle.ec_matrix.proofs.polynomial.value.Given as goal

abbrev pub invariant-loop-j : goal.invariant-loop-j
invariant-loop-j l = l.sum ≡ value l.j (λ j. get_or l.coefficients j 0) l.v
