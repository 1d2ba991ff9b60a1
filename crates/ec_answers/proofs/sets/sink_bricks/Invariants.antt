use Rattle.std.proofs.Common.{◌≡◌, ℕ, ◌&&◌, nat_lt}
use Rattle.ec_attr.specs.Bricks.{is_in}
use Rattle.ec_attr.specs.GoodGroup.{is_sink}
use Rattle.ec_answers.specs.Grouping.{heads_of}
use Rattle.ec_answers.proofs.sets.sink_bricks.Given as goal

abbrev pub invariant-loop-b : goal.invariant-loop-b
invariant-loop-b l = (c : ℕ) → is_in l.bricks c ≡ (nat_lt c l.b && is_sink l.head (heads_of l.a c))
