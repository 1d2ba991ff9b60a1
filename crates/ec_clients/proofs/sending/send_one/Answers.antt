use Rattle.std.proofs.Common.{◌∷◌, refl}
use Rattle.ec_clients.specs.Steps.{AreOfCourse}
use Rattle.ec_clients.specs.Calls.{tabled}
use Rattle.ec_clients.specs.Going.{Going}
use Rattle.ec_clients.proofs.Goings.{breaks_now, none_done}
use Rattle.ec_clients.proofs.Sendings.{err_map, ok_map2, one_sent}
use Rattle.ec_clients.proofs.sending.send_one.Goals as goal

pub returns-in_err-take_down-clause-err : goal.returns-in_err-take_down-clause-err
returns-in_err-take_down-clause-err g c = none_done c.args.clients.now.options.geometry c.from_residual.result (λ x rest answer. Going g.C.Conduct.stands (tabled g.C.Conduct.begins g.C.Conduct.goes) c.args.cluster.now c.args.clients.now c.args.call c.args.client x ((c.args.brick, c.args.request) ∷ rest) answer) c.args.cluster.now c.args.cluster.now refl

pub returns-clause-ok : goal.returns-clause-ok
returns-clause-ok g c = ok_map2 c.send.result _ _ _ (λ adv sent. λ rest. one_sent g.C.Conduct.stands (tabled g.C.Conduct.begins g.C.Conduct.goes) g.met.C.Call.keeps c.args.cluster.now c.send.new.self c.args.clients.now c.take_down.new.self c.args.call c.args.client c.args.brick c.args.request rest c.take_down.ensures.same c.in_ok-take_down.ensures.first c.in_ok-take_down.ensures.released c.requires.sound sent.next adv) c.send.ensures.ok c.send.ensures.sent

pub returns-clause-err : goal.returns-clause-err
returns-clause-err g c = err_map c.send.result _ _ (λ same. λ x rest answer. breaks_now c.args.clients.now.options.geometry AreOfCourse refl (Going g.C.Conduct.stands (tabled g.C.Conduct.begins g.C.Conduct.goes) c.args.cluster.now c.args.clients.now c.args.call c.args.client x ((c.args.brick, c.args.request) ∷ rest) answer) c.args.cluster.now c.send.new.self same.same_log) c.send.ensures.err
