use Rattle.std.proofs.Common.{◌≡◌, ◌≢◌, ◌≤◌, true, None, IfSome}
use Rattle.ec_brick.specs.Walk.{InRange, Sees, before, gfids_left}
use Rattle.ec_brick.proofs.walk.see_records.Given as goal

abbrev pub invariant-loop-next : goal.invariant-loop-next
invariant-loop-next g l = record {
  tells : g.S.BrickStore.told l.store ≡ g.S.BrickStore.told l.fn.store;
  same : g.S.BrickStore.told l.fn.store ≡ true → g.S.BrickStore.records l.store ≡ g.S.BrickStore.records l.fn.store;
  later : g.S.BrickStore.faults l.fn.store ≤ g.S.BrickStore.faults l.store;
  sees : g.S.BrickStore.told l.fn.store ≡ true → Sees l.config (before l.next (g.S.BrickStore.records l.fn.store)) l.seen;
  there : g.S.BrickStore.told l.fn.store ≡ true → IfSome l.next (λ n. g.S.BrickStore.records l.fn.store n.0 ≢ None);
  range : InRange l.seen;
}

abbrev pub decreases-loop-next : goal.decreases-loop-next
decreases-loop-next g l = gfids_left l.next
