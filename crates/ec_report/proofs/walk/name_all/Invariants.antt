use Rattle.std.proofs.Common.{◌≡◌, ◌≤◌, true, Some, IfSome}
use Rattle.ec_brick.specs.Walk.{IsText, names_left, reached}
use Rattle.ec_index.specs.Members.{members}
use Rattle.ec_store.specs.Records.{Record}
use Rattle.ec_report.specs.Reading.{GrowsBy, LeadsTo}
use Rattle.ec_report.proofs.walk.name_all.Given as goal

abbrev pub invariant-loop-after : goal.invariant-loop-after
invariant-loop-after g l = record {
  tells : g.S.BrickStore.told l.store ≡ g.S.BrickStore.told l.fn.store;
  same : g.S.BrickStore.told l.fn.store ≡ true → g.S.BrickStore.records l.store ≡ g.S.BrickStore.records l.fn.store;
  later : g.S.BrickStore.faults l.fn.store ≤ g.S.BrickStore.faults l.store;
  grows : g.S.BrickStore.told l.fn.store ≡ true → (r : Record) → g.S.BrickStore.records l.fn.store l.g.0 ≡ Some r
      → GrowsBy (LeadsTo (reached l.after r.names)) (members l.fn.named) (members l.named);
  text : IfSome l.after IsText;
}

abbrev pub decreases-loop-after : goal.decreases-loop-after
decreases-loop-after g l = names_left l.after
