use Rattle.std.proofs.Common.{◌≡◌, ◌<◌, max}
use Rattle.ec_attr.specs.Bricks.{count_below}
use Rattle.ec_attr.specs.GoodGroup.{alike, greatest_below}
use Rattle.ec_answers.specs.Grouping.{absent, heads_of}
use Rattle.ec_answers.proofs.grouping.group.Given as goal

abbrev pub invariant-loop-b : goal.invariant-loop-b
invariant-loop-b l = record {
  largest : l.most ≡ max (greatest_below l.b (λ c. count_below 31 (alike (heads_of l.a) c))) (count_below 31 (absent l.a));
  fewer : l.most < l.k;
}
