use Rattle.ec_clients.specs.Calls.{tabled}
use Rattle.ec_clients.proofs.Gfids.{gfid_sees}
use Rattle.ec_clients.proofs.beginning.set_next_gfid.Goals as goal

pub returns-clause-sees : goal.returns-clause-sees
returns-clause-sees g c = gfid_sees g.C.Conduct.stands (tabled g.C.Conduct.begins g.C.Conduct.goes) c.args.clients.now c.args.next_gfid
