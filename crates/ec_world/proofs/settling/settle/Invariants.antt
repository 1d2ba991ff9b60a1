-- Steps of settling so far.
use Rattle.std.proofs.Common.{◌≡◌, ◌-◌, ◌^◌, length, map, true}
use Rattle.std.specs.List.{list_all}
use Rattle.ec_clients.specs.Calls.{tabled}
use Rattle.ec_cluster.specs.Views.{log_of}
use Rattle.ec_history.specs.Script.{Settles}
use Rattle.ec_world.specs.Events.{Advances}
use Rattle.ec_world.proofs.settling.settle.Given as goal

abbrev pub invariant-loop : goal.invariant-loop
invariant-loop g l = record {
  tells : list_all g.S.BrickStore.told l.stores ≡ list_all g.S.BrickStore.told l.initial.stores;
  adv : Advances g.C.Conduct.stands (tabled g.C.Conduct.begins g.C.Conduct.goes) (list_all g.S.BrickStore.told l.initial.stores ≡ true) (λ p steps. Settles p.net steps) l.initial.cluster l.cluster l.initial.clients l.clients (map g.S.BrickStore.records l.initial.stores) (map g.S.BrickStore.records l.stores);
}

abbrev pub decreases-loop : goal.decreases-loop
decreases-loop g l = 2 ^ 64 - length (log_of l.cluster)
