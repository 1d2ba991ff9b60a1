use Rattle.std.proofs.Common.{◌≡◌, ℕ, ◌<◌, ◌≤◌, get_or, length}
use Rattle.ec_field.specs.Field.{product}
use Rattle.ec_matrix.proofs.polynomial.basis.Given as goal

abbrev pub invariant-loop-j : goal.invariant-loop-j
invariant-loop-j l = record {
  len : length l.basis ≡ 16;
  done : (i : ℕ) → i < l.j → get_or l.basis i 0 ≡ product l.scale (get_or l.initial.basis i 0);
  left : (i : ℕ) → l.j ≤ i → get_or l.basis i 0 ≡ get_or l.initial.basis i 0;
}
