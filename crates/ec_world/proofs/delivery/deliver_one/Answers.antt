use Rattle.std.proofs.Common.{Some, None, cond, ◌∙◌, ap, map, sym}
use Rattle.ec_clients.specs.Calls.{tabled}
use Rattle.ec_cluster.specs.Views.{flight}
use Rattle.ec_world.specs.Refusals.{message_refusal}
use Rattle.ec_world.specs.Steps.{IsDelivery, OneStep}
use Rattle.ec_world.specs.declared.refused.Refused.TheVariants.{Dead, Down}
use Rattle.ec_world.proofs.Becoming.{stepped_as}
use Rattle.ec_world.proofs.Delivering.{to_brick, to_client}
use Rattle.ec_world.proofs.delivery.deliver_one.Goals as goal

pub hear-requires-clause-there : goal.hear-requires-clause-there
hear-requires-clause-there g c = (to_client c.args.cluster.now c.args.clients.now c.args.no c.in-Some-Client.client c.in-Some-Client.call c.in-Some-Client.brick c.in-Some-Client.re c.requires.sound (sym c.address.ensures ∙ (c.in-Some-Client.is ∙ ap Some c.in-Some-Client.field-0-is))).there

pub returns-else-is_dead-clause-stepped : goal.returns-else-is_dead-clause-stepped
returns-else-is_dead-clause-stepped g c =
    let free = (to_client c.args.cluster.now c.args.clients.now c.args.no c.in-Some-Client.client c.in-Some-Client.call c.in-Some-Client.brick c.in-Some-Client.re c.requires.sound (sym c.address.ensures ∙ (c.in-Some-Client.is ∙ ap Some c.in-Some-Client.field-0-is))).refusal ∙ sym (λ k. cond (c.if-is_dead.ensures k) (Some (Dead c.in-Some-Client.client)) None) in
    stepped_as g.C.Conduct.stands (tabled g.C.Conduct.begins g.C.Conduct.goes) (Unit {0}) _ (OneStep (IsDelivery c.args.no)) (OneStep (IsDelivery c.args.no)) c.args.cluster.now c.hear.new.cluster c.args.clients.now c.hear.new.clients (map g.S.BrickStore.records c.args.stores.now) (map g.S.BrickStore.records c.args.stores.now) (λ t. tt) (λ p steps h m x. x)
    None (message_refusal c.args.cluster.now c.args.clients.now (flight c.args.cluster.now c.args.no)) (λ f. free) (λ e f. absurd (cc)) c.hear.result (c.hear.ensures.stepped (map g.S.BrickStore.records c.args.stores.now))
