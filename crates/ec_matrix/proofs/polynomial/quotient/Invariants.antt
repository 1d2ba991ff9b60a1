use Rattle.std.proofs.Common.{◌≡◌, ℕ, ◌<◌, get_or, length}
use Rattle.ec_matrix.specs.Polynomial.{value, quotient}
use Rattle.ec_matrix.proofs.polynomial.quotient.Given as goal

abbrev pub invariant-loop-j : goal.invariant-loop-j
invariant-loop-j l = record {
  len : length l.quotient ≡ 16;
  so_far : l.value ≡ value l.j (λ m. get_or l.coefficients m 0) l.r;
  done : (i : ℕ) → i < l.j → get_or l.quotient i 0 ≡ quotient (λ m. get_or l.coefficients m 0) l.r i;
}
