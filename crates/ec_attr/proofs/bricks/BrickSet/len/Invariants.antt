use Rattle.std.proofs.Common.{◌≡◌}
use Rattle.ec_attr.specs.Bricks.{is_in, count_below}
use Rattle.ec_attr.proofs.bricks.BrickSet.len.Given as goal

abbrev pub invariant-loop-b : goal.invariant-loop-b
invariant-loop-b l = l.count ≡ count_below l.b (is_in l.self)
