use Rattle.std.proofs.Common.{None}
use Rattle.ec_clients.specs.Calls.{tabled}
use Rattle.ec_clients.specs.Going.{answer_entries}
use Rattle.ec_clients.specs.Steps.{Seen}
use Rattle.ec_txn.specs.Steps.{answer_of}
use Rattle.ec_clients.proofs.Sendings.{all_then, err_map, ok_map, stops_sent}
use Rattle.ec_clients.proofs.going.go_on.Goals as goal

pub returns-in-Ok-clause-ok : goal.returns-in-Ok-clause-ok
returns-in-Ok-clause-ok g c = ok_map c.finish.result _ _ (λ goes. all_then g.C.Conduct.stands (tabled g.C.Conduct.begins g.C.Conduct.goes) c.args.cluster.now c.send_all.new.cluster c.finish.new.cluster c.args.clients.now c.send_all.new.clients c.args.running.number c.args.client c.args.sends.now c.args.running.call (answer_of c.args.turn) (Seen g.C.Conduct.stands (tabled g.C.Conduct.begins g.C.Conduct.goes) c.finish.new.cluster c.finish.new.clients None) (answer_entries c.args.running.number (answer_of c.args.turn)) c.in-Ok.ensures.ok goes) c.finish.ensures.ok

pub returns-in-Ok-clause-err : goal.returns-in-Ok-clause-err
returns-in-Ok-clause-err g c = err_map c.finish.result _ _ (λ breaks. stops_sent g.C.Conduct.stands (tabled g.C.Conduct.begins g.C.Conduct.goes) c.args.cluster.now c.send_all.new.cluster c.finish.new.cluster c.args.clients.now c.send_all.new.clients c.args.running.number c.args.client c.args.sends.now _ c.args.running.call (answer_of c.args.turn) c.in-Ok.ensures.ok breaks) c.finish.ensures.err
