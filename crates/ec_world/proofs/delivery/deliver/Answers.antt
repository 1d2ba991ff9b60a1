use Rattle.std.proofs.Common.{None, Some, ap, map, subst, sym, ◌∙◌, ◌≡◌}
use Rattle.ec_clients.specs.Calls.{tabled}
use Rattle.ec_cluster.specs.Views.{flight}
use Rattle.ec_history.specs.Script.{IsOneStep}
use Rattle.ec_wire.specs.declared.event.Event.TheVariants.{Deliver}
use Rattle.ec_world.specs.Refusals.{IsFound, deliver_refusal, message_refusal}
use Rattle.ec_world.specs.Steps.{IsDelivery, OneStep}
use Rattle.ec_world.proofs.Becoming.{one_named, stepped_as}
use Rattle.ec_world.proofs.Naming.{named_is, names_delivery}
use Rattle.ec_world.proofs.Permitting.{found_flies}
use Rattle.ec_world.proofs.delivery.deliver.Goals as goal

pub deliver_one-requires-clause-flies : goal.deliver_one-requires-clause-flies
deliver_one-requires-clause-flies g c = found_flies c.args.cluster.now c.args.which c.in-Some.no (subst (IsFound c.args.cluster.now c.args.which) c.in-Some.is c.requires.named)

pub returns-in-Some-clause-stepped : goal.returns-in-Some-clause-stepped
returns-in-Some-clause-stepped g c = stepped_as g.C.Conduct.stands (tabled g.C.Conduct.begins g.C.Conduct.goes) _ _ (OneStep (IsDelivery c.in-Some.no)) (λ p steps. IsOneStep p.net (Deliver c.args.which) steps) c.args.cluster.now c.deliver_one.new.cluster c.args.clients.now c.deliver_one.new.clients (map g.S.BrickStore.records c.args.stores.now) (map g.S.BrickStore.records c.deliver_one.new.stores) (λ t. t)
    (λ p steps h m x. one_named (IsDelivery c.in-Some.no) (Deliver c.args.which) p steps (λ e y. names_delivery p.net c.args.which c.in-Some.no e (named_is g.C.Conduct.stands (tabled g.C.Conduct.begins g.C.Conduct.goes) c.args.cluster.now c.args.clients.now (map g.S.BrickStore.records c.args.stores.now) p c.requires.sound h m c.args.which c.in-Some.no (subst (IsFound c.args.cluster.now c.args.which) c.in-Some.is c.requires.named)) y) x)
    (message_refusal c.args.cluster.now c.args.clients.now (flight c.args.cluster.now c.in-Some.no)) (deliver_refusal c.args.cluster.now c.args.clients.now c.args.which c.args.named) (λ f. ap (deliver_refusal c.args.cluster.now c.args.clients.now c.args.which) c.in-Some.is ∙ f) (λ e f. ap (deliver_refusal c.args.cluster.now c.args.clients.now c.args.which) c.in-Some.is ∙ f) c.deliver_one.result c.deliver_one.ensures.stepped
