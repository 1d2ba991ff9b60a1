use Rattle.std.proofs.Common.{◌≡◌, ℕ, ◌&&◌, nat_lt}
use Rattle.ec_attr.specs.Bricks.{is_in}
use Rattle.ec_attr.specs.GoodGroup.{agrees_with}
use Rattle.ec_answers.specs.Grouping.{heads_of}
use Rattle.ec_answers.proofs.sets.agreeing_bricks.Given as goal

abbrev pub invariant-loop-b : goal.invariant-loop-b
invariant-loop-b l = (c : ℕ) → is_in l.bricks c ≡ (nat_lt c l.b && agrees_with l.head (heads_of l.a c))
