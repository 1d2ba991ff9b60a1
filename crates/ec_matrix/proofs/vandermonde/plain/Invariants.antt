use Rattle.std.proofs.Common.{◌≡◌, ℕ, ◌+◌, ◌-◌, ◌<◌, ◌≤◌, get_or, length}
use Rattle.ec_field.specs.Field.{power}
use Rattle.ec_field.specs.Code.{plain_entry}
use Rattle.ec_matrix.proofs.vandermonde.plain.Given as goal

abbrev pub invariant-loop-j : goal.invariant-loop-j
invariant-loop-j l = record {
  len : length l.row ≡ 16;
  so_far : l.power ≡ power (l.b + 1) (l.k - l.j);
  done : (i : ℕ) → l.j ≤ i → i < l.k → get_or l.row i 0 ≡ plain_entry l.k l.b i;
  zeros : (i : ℕ) → l.k ≤ i → get_or l.row i 0 ≡ 0;
}
