use Rattle.std.proofs.Common.{◌≡◌, ℕ, ◌<◌, ◌≤◌, get_or}
use Rattle.ec_matrix.specs.Polynomial.{shifted, times_root}
use Rattle.ec_matrix.proofs.polynomial.multiply_by_root.Given as goal

abbrev pub invariant-loop-j : goal.invariant-loop-j
invariant-loop-j l = record {
  done : (i : ℕ) → i < l.j → get_or l.coefficients i 0 ≡ times_root (λ m. get_or l.fn.coefficients m 0) l.r i;
  left : (i : ℕ) → l.j ≤ i → get_or l.coefficients i 0 ≡ get_or l.fn.coefficients i 0;
  last : l.before ≡ shifted (λ m. get_or l.fn.coefficients m 0) l.j;
}
