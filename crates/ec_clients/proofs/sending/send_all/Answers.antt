use Rattle.std.proofs.Common.{◌<◌, List, length, get_or, ◌∙◌, ap, subst}
use Rattle.ec_conduct.specs.Table.{Send}
use Rattle.ec_clients.specs.Calls.{tabled}
use Rattle.ec_clients.proofs.Sendings.{next_sent, next_stops, none_sent, on_err, stops_here}
use Rattle.ec_clients.proofs.sending.send_all.Goals as goal

pub loop-send-init : goal.loop-send-init
loop-send-init g c = none_sent g.C.Conduct.stands (tabled g.C.Conduct.begins g.C.Conduct.goes) c.args.cluster.now c.args.clients.now c.args.call c.args.client c.args.sends.now c.requires.sound

pub returns-in_err-request-clause-err : goal.returns-in_err-request-clause-err
returns-in_err-request-clause-err g c = on_err _ _ (stops_here g.C.Conduct.stands (tabled g.C.Conduct.begins g.C.Conduct.goes) c.args.cluster.now c.loop-send.cluster c.args.clients.now c.loop-send.clients c.args.call c.args.client c.args.sends.now _ c.loop-send.invariant)

pub returns-in_err-send_one-clause-err : goal.returns-in_err-send_one-clause-err
returns-in_err-send_one-clause-err g c = on_err _ _ (next_stops g.C.Conduct.stands (tabled g.C.Conduct.begins g.C.Conduct.goes) c.args.cluster.now c.loop-send.cluster c.send_one.new.cluster c.args.clients.now c.loop-send.clients c.args.call c.args.client c.args.sends.now c.loop-send.send-index (c.send-item.result.0, c.in_ok-request.request) c.send-item.result (subst (λ (xs : List Send). c.loop-send.send-index < length xs) c.items-send-items.ensures c.loop-send-test.true) ((λ i. (c.send-item.result.0, c.in_ok-request.ensures i)) ∙ (c.send-item.is ∙ ap (λ (xs : List Send). get_or xs c.loop-send.send-index c.send-item.result) c.items-send-items.ensures)) c.loop-send.invariant c.in_err-send_one.ensures.err)

pub loop-send-preserved : goal.loop-send-preserved
loop-send-preserved g c = next_sent g.C.Conduct.stands (tabled g.C.Conduct.begins g.C.Conduct.goes) c.args.cluster.now c.loop-send.cluster c.send_one.new.cluster c.args.clients.now c.loop-send.clients c.send_one.new.clients c.args.call c.args.client c.args.sends.now c.loop-send.send-index (c.send-item.result.0, c.in_ok-request.request) c.send-item.result (subst (λ (xs : List Send). c.loop-send.send-index < length xs) c.items-send-items.ensures c.loop-send-test.true) ((λ i. (c.send-item.result.0, c.in_ok-request.ensures i)) ∙ (c.send-item.is ∙ ap (λ (xs : List Send). get_or xs c.loop-send.send-index c.send-item.result) c.items-send-items.ensures)) c.loop-send.invariant c.in_ok-send_one.ensures.ok
