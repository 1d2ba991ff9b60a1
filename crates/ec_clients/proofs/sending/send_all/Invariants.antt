use Rattle.std.proofs.Common.{drop}
use Rattle.ec_clients.specs.Calls.{tabled}
use Rattle.ec_clients.specs.Going.{SendsRest}
use Rattle.ec_clients.proofs.sending.send_all.Given as goal

abbrev pub invariant-loop-send : goal.invariant-loop-send
invariant-loop-send g l = SendsRest g.C.Conduct.stands (tabled g.C.Conduct.begins g.C.Conduct.goes) l.fn.cluster l.cluster l.fn.clients l.clients l.call l.client l.sends (drop l.send-index l.sends)
