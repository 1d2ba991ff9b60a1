use Rattle.std.proofs.Common.{◌≡◌, if◌then◌else◌}
use Rattle.ec_attr.specs.Bricks.{is_in}
use Rattle.ec_attr.specs.GoodGroup.{dirty_of, greatest_below}
use Rattle.ec_answers.specs.Grouping.{heads_of}
use Rattle.ec_answers.proofs.sets.greatest_dirty.Given as goal

abbrev pub invariant-loop-b : goal.invariant-loop-b
invariant-loop-b l = l.greatest ≡ greatest_below l.b (λ c. if is_in l.bricks c then dirty_of (heads_of l.a c) else 0)
