use Rattle.std.proofs.Common.{◌≡◌, ℕ, ◌+◌, ◌<◌, get_or, length}
use Rattle.ec_matrix.specs.Polynomial.{value}
use Rattle.ec_matrix.proofs.polynomial.values.Given as goal

abbrev pub invariant-loop-j : goal.invariant-loop-j
invariant-loop-j l = record {
  len : length l.values ≡ 16;
  done : (i : ℕ) → i < l.j → get_or l.values i 0 ≡ value l.k (λ m. get_or l.coefficients m 0) (i + 1);
}
