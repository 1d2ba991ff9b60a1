use Rattle.std.proofs.Common.{◌≡◌, ◌<◌, ◌≤◌, true, None, Some, IfSome}
use Rattle.ec_attr.specs.declared.config.Config.{Config}
use Rattle.ec_store.specs.Put.{put}
use Rattle.ec_store.specs.Records.{Record, Records}
use Rattle.ec_brick.specs.Walk.{InRange, IsText, Sees, names_left, reached, renamed}
use Rattle.ec_brick.proofs.walk.see_names.Given as goal

abbrev pub invariant-loop-after : goal.invariant-loop-after
invariant-loop-after g l = record {
  tells : g.S.BrickStore.told l.store ≡ g.S.BrickStore.told l.fn.store;
  same : g.S.BrickStore.told l.fn.store ≡ true → g.S.BrickStore.records l.store ≡ g.S.BrickStore.records l.fn.store;
  later : g.S.BrickStore.faults l.fn.store ≤ g.S.BrickStore.faults l.store;
  sees : g.S.BrickStore.told l.fn.store ≡ true → (config : Config) (m : Records) (r : Record) → g.S.BrickStore.records l.fn.store l.g.0 ≡ Some r
      → Sees config (put m l.g.0 (Some (renamed r (λ n. None)))) l.fn.seen → Sees config (put m l.g.0 (Some (renamed r (reached l.after r.names)))) l.seen;
  range : InRange l.fn.seen → 0 < l.fn.seen.greatest → InRange l.seen;
  positive : l.fn.seen.greatest ≤ l.seen.greatest;
  text : IfSome l.after IsText;
}

abbrev pub decreases-loop-after : goal.decreases-loop-after
decreases-loop-after g l = names_left l.after
