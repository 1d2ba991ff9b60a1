use Rattle.std.proofs.Common.{◌≡◌}
use Rattle.ec_attr.specs.Bricks.{is_in, bricks_below}
use Rattle.ec_attr.proofs.bricks.BrickSet.next_from.Given as goal

abbrev pub invariant-loop-m : goal.invariant-loop-m
invariant-loop-m l = bricks_below l.m (is_in l.self) ≡ bricks_below l.b (is_in l.self)
