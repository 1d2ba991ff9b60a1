use Rattle.std.proofs.Common.{◌≡◌, ℕ, ◌<◌, length}
use Rattle.ec_write.specs.Filled.{AreListed}
use Rattle.ec_write.specs.Stripes.{list_at}
use Rattle.ec_write.proofs.code.code_lists.Given as goal

abbrev pub invariant-loop-brick : goal.invariant-loop-brick
invariant-loop-brick g l = record {
  len : length l.lists ≡ l.brick;
  each : (x : ℕ) → x < l.brick → AreListed l.geometry x l.chunks l.count (list_at l.lists x);
}
