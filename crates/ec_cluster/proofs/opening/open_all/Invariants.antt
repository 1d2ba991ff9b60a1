-- The first stores are opened, and all are as before.
use Rattle.std.proofs.Common.{◌≡◌, ◌≤◌, ℕ, true, length, map}
use Rattle.std.specs.Prelude.{slice_get}
use Rattle.std.specs.List.{list_all}
use Rattle.ec_cluster.proofs.opening.open_all.Given as goal
use Rattle.ec_cluster.specs.Open.{AreAccepted, AreLater, AreOpened, IsAfterTaken, IsNextGfid, TellsUnused}

abbrev pub invariant-loop-b : goal.invariant-loop-b
invariant-loop-b g l = record {
  tells : list_all g.S.BrickStore.told l.stores ≡ list_all g.S.BrickStore.told l.initial.stores;
  same : list_all g.S.BrickStore.told l.initial.stores ≡ true → map g.S.BrickStore.records l.stores ≡ map g.S.BrickStore.records l.initial.stores;
  many : length l.bricks.items ≡ l.b;
  opened : AreOpened (list_all g.S.BrickStore.told l.initial.stores ≡ true) l.config l.bricks.items (map g.S.BrickStore.records l.initial.stores);
  next : IsNextGfid (list_all g.S.BrickStore.told l.initial.stores ≡ true) l.b (map g.S.BrickStore.records l.initial.stores) l.next;
  after : list_all g.S.BrickStore.told l.initial.stores ≡ true → IsAfterTaken l.b (map g.S.BrickStore.records l.initial.stores) l.next;
  unused : list_all g.S.BrickStore.told l.initial.stores ≡ true → TellsUnused l.config l.b (map g.S.BrickStore.records l.initial.stores) l.unused;
  accepted : list_all g.S.BrickStore.told l.initial.stores ≡ true → AreAccepted l.config l.b (map g.S.BrickStore.records l.initial.stores);
  rest : (x : ℕ) → l.b ≤ x → slice_get l.stores x ≡ slice_get l.initial.stores x;
  later : AreLater (map g.S.BrickStore.faults l.initial.stores) (map g.S.BrickStore.faults l.stores);
}
