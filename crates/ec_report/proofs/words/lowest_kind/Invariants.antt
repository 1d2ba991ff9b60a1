use Rattle.std.proofs.Common.{◌≡◌, drop}
use Rattle.ec_report.specs.Lines.{lowest_kind}
use Rattle.ec_report.proofs.words.lowest_kind.Given as goal

abbrev pub invariant-loop-head : goal.invariant-loop-head
invariant-loop-head l = lowest_kind (drop l.head-index l.heads) ≡ lowest_kind l.heads
