-- The first stores have a root.
use Rattle.std.proofs.Common.{◌≡◌, ◌≤◌, ℕ, true, length, map}
use Rattle.std.specs.Prelude.{slice_get}
use Rattle.std.specs.List.{list_all}
use Rattle.ec_cluster.proofs.opening.put_roots.Given as goal
use Rattle.ec_cluster.specs.Open.{AreLater, AreOpened, AreRooted}

abbrev pub invariant-loop-b : goal.invariant-loop-b
invariant-loop-b g l = record {
  tells : list_all g.S.BrickStore.told l.stores ≡ list_all g.S.BrickStore.told l.initial.stores;
  many : length l.bricks.items ≡ length l.initial.bricks.items;
  opened : AreOpened (list_all g.S.BrickStore.told l.initial.stores ≡ true) l.fn.config l.bricks.items (map g.S.BrickStore.records l.stores);
  roots : list_all g.S.BrickStore.told l.initial.stores ≡ true → AreRooted l.fn.config l.b (map g.S.BrickStore.records l.initial.stores) (map g.S.BrickStore.records l.stores);
  rest : (x : ℕ) → l.b ≤ x → slice_get l.stores x ≡ slice_get l.initial.stores x;
  later : AreLater (map g.S.BrickStore.faults l.initial.stores) (map g.S.BrickStore.faults l.stores);
}
