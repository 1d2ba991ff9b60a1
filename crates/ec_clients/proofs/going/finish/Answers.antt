use Rattle.std.proofs.Common.{[], refl}
use Rattle.ec_clients.specs.Steps.{AreOfCourse}
use Rattle.ec_clients.specs.Calls.{tabled}
use Rattle.ec_clients.specs.Going.{Going}
use Rattle.ec_cluster.specs.Views.{log_of}
use Rattle.ec_txn.specs.Steps.{answer_of}
use Rattle.ec_clients.proofs.Finishing.{done_goes, waits_goes}
use Rattle.ec_clients.proofs.Goings.{breaks_now}
use Rattle.ec_clients.proofs.Sendings.{err_map, ok_map}
use Rattle.ec_clients.proofs.going.finish.Goals as goal

pub returns-in-Wait-clause-ok : goal.returns-in-Wait-clause-ok
returns-in-Wait-clause-ok g c = waits_goes g.C.Conduct.stands (tabled g.C.Conduct.begins g.C.Conduct.goes) g.met.C.Call.keeps (λ x given call es s. (g.C.Conduct.stage call, g.met.C.Call.by_table x given call es s)) c.args.cluster.now c.args.clients.now c.put.new.self c.args.running c.args.client c.args.turn c.in-Wait.is c.requires.sound c.put.ensures.same c.requires.free c.put.ensures.changes

pub returns-in-Done-clause-ok : goal.returns-in-Done-clause-ok
returns-in-Done-clause-ok g c = ok_map c.note.result _ _ (λ adv. done_goes g.C.Conduct.stands (tabled g.C.Conduct.begins g.C.Conduct.goes) g.met.C.Call.keeps (λ x given call es s. (g.C.Conduct.stage call, g.met.C.Call.by_table x given call es s)) c.args.cluster.now c.note.new.self c.args.clients.now c.args.running.number c.args.client c.args.running.call c.in-Done.answer c.args.turn c.in-Done.is adv) c.note.ensures.ok

pub returns-in-Done-clause-err : goal.returns-in-Done-clause-err
returns-in-Done-clause-err g c = err_map c.note.result _ _ (λ same. breaks_now c.args.clients.now.options.geometry AreOfCourse refl (Going g.C.Conduct.stands (tabled g.C.Conduct.begins g.C.Conduct.goes) c.args.cluster.now c.args.clients.now c.args.running.number c.args.client c.args.running.call [] (answer_of c.args.turn)) c.args.cluster.now c.note.new.self (λ i. log_of (same i))) c.note.ensures.err
