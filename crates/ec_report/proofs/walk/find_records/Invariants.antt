use Rattle.std.proofs.Common.{◌≡◌, ◌≢◌, ◌≤◌, true, None, IfSome}
use Rattle.ec_brick.specs.Opening.{IsNamed}
use Rattle.ec_brick.specs.Walk.{before, gfids_left}
use Rattle.ec_index.specs.Members.{members}
use Rattle.ec_report.specs.Reading.{GrowsBy}
use Rattle.ec_report.specs.Records.{HasRecord}
use Rattle.ec_report.proofs.walk.find_records.Given as goal

abbrev pub invariant-loop-next : goal.invariant-loop-next
invariant-loop-next g l = record {
  tells : g.S.BrickStore.told l.store ≡ g.S.BrickStore.told l.fn.store;
  same : g.S.BrickStore.told l.fn.store ≡ true → g.S.BrickStore.records l.store ≡ g.S.BrickStore.records l.fn.store;
  later : g.S.BrickStore.faults l.fn.store ≤ g.S.BrickStore.faults l.store;
  kept : g.S.BrickStore.told l.fn.store ≡ true → GrowsBy (HasRecord (before l.next (g.S.BrickStore.records l.fn.store))) (members l.fn.found.kept) (members l.found.kept);
  named : g.S.BrickStore.told l.fn.store ≡ true → GrowsBy (IsNamed (before l.next (g.S.BrickStore.records l.fn.store))) (members l.fn.found.named) (members l.found.named);
  there : g.S.BrickStore.told l.fn.store ≡ true → IfSome l.next (λ n. g.S.BrickStore.records l.fn.store n.0 ≢ None);
}

abbrev pub decreases-loop-next : goal.decreases-loop-next
decreases-loop-next g l = gfids_left l.next
