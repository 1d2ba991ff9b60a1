-- The bricks below have cut the client off.
use Rattle.std.proofs.Common.{List}
use Rattle.ec_clients.specs.Calls.{tabled}
use Rattle.ec_history.specs.Script.{AllFollowAll, CutsAll}
use Rattle.ec_store.specs.Records.{Records}
use Rattle.ec_world.specs.Events.{Advances}
use Rattle.ec_world.proofs.cutting.cut_all.Given as goal

abbrev pub invariant-loop-brick : goal.invariant-loop-brick
invariant-loop-brick g l = (records : List Records) → Advances g.C.Conduct.stands (tabled g.C.Conduct.begins g.C.Conduct.goes) (Unit {0}) (λ p steps. CutsAll l.brick p.net l.client steps × AllFollowAll steps) l.initial.cluster l.cluster l.clients l.clients records records
