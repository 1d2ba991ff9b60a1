use Rattle.std.proofs.Common.{◌≡◌, ℕ, ◌+◌, ◌<◌, ◌≤◌, get_or, length}
use Rattle.ec_matrix.specs.Polynomial.{value, basis, master}
use Rattle.ec_matrix.proofs.vandermonde.systematic.Given as goal

abbrev pub invariant-loop-i : goal.invariant-loop-i
invariant-loop-i l = record {
  len : length l.row ≡ 16;
  done : (i : ℕ) → i < l.i → get_or l.row i 0 ≡ value l.k (basis l.k (master (λ m. m + 1) l.k) (i + 1)) (l.b + 1);
  left : (i : ℕ) → l.i ≤ i → get_or l.row i 0 ≡ 0;
}
