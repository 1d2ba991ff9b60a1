use Rattle.std.proofs.Common.{◌≡◌, ◌≤◌, ◌^◌, fold, take}
use Rattle.ec_brick.specs.Walk.{raised}
use Rattle.ec_brick.proofs.seen.greatest_of.Given as goal

abbrev pub invariant-loop-child : goal.invariant-loop-child
invariant-loop-child l = record {
  value : l.greatest ≡ fold raised l.from (take l.child-index l.entries);
  above : l.from ≤ l.greatest;
  below : l.from ≤ 2 ^ 96 → l.greatest ≤ 2 ^ 96;
}
