use Rattle.std.proofs.Common.{◌≡◌, ℕ, ◌+◌, ◌-◌, ◌<◌, ◌≤◌, get_or, length}
use Rattle.ec_attr.specs.Bricks.{is_in, bricks_below, count_below}
use Rattle.ec_matrix.proofs.interpolation.points.Given as goal

abbrev pub invariant-loop-b : goal.invariant-loop-b
invariant-loop-b l = record {
  len : length l.points ≡ 16;
  within : l.from ≤ 31;
  counted : l.count ≡ count_below l.from (is_in l.which);
  done : (i : ℕ) → i < l.count → get_or l.points i 0 ≡ get_or (bricks_below l.from (is_in l.which)) i 0 + 1;
}

abbrev pub decreases-loop-b : goal.decreases-loop-b
decreases-loop-b l = 31 - l.from
