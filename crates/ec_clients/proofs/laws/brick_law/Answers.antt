use Rattle.ec_clients.specs.Calls.{tabled}
use Rattle.ec_clients.proofs.Idling.{bricks_seen}
use Rattle.ec_clients.proofs.laws.brick_law.Goals as goal

pub returns : goal.returns
returns g c = λ s t k es. bricks_seen g.C.Conduct.stands (tabled g.C.Conduct.begins g.C.Conduct.goes) s t k es
