use Rattle.std.proofs.Common.{None, Some, ap, inl, inr, map, sym, ◌∙◌, ◌≡◌}
use Rattle.ec_clients.specs.Calls.{tabled}
use Rattle.ec_world.specs.Settling.{Moves}
use Rattle.ec_world.specs.Steps.{IsDelivery, IsLoss, OneStep}
use Rattle.ec_world.proofs.Becoming.{one_as, stepped_as}
use Rattle.ec_world.proofs.Delivering.{nowhere_brick, nowhere_client, to_client}
use Rattle.ec_world.proofs.delivery.move_on.Goals as goal

pub hear-requires-clause-there : goal.hear-requires-clause-there
hear-requires-clause-there g c = (to_client c.args.cluster.now c.args.clients.now c.args.no c.in-Some-Client.client c.in-Some-Client.call c.in-Some-Client.brick c.in-Some-Client.re c.requires.sound (sym c.address.ensures ∙ (c.in-Some-Client.is ∙ ap Some c.in-Some-Client.field-0-is))).there

pub returns-then-is_up-clause-stepped : goal.returns-then-is_up-clause-stepped
returns-then-is_up-clause-stepped g c = stepped_as g.C.Conduct.stands (tabled g.C.Conduct.begins g.C.Conduct.goes) _ _ (OneStep (IsDelivery c.args.no)) (OneStep (Moves c.args.cluster.now c.args.clients.now c.args.no)) c.args.cluster.now c.execute.new.cluster c.args.clients.now c.args.clients.now (map g.S.BrickStore.records c.args.stores.now) (map g.S.BrickStore.records c.execute.new.stores) (λ t. t)
    (λ p steps h m x. one_as (IsDelivery c.args.no) (Moves c.args.cluster.now c.args.clients.now c.args.no) p steps (λ e y. inl y) x) None None (λ f. f) (λ e f. f) c.execute.result c.execute.ensures.stepped

pub returns-else-is_up-clause-stepped : goal.returns-else-is_up-clause-stepped
returns-else-is_up-clause-stepped g c = stepped_as g.C.Conduct.stands (tabled g.C.Conduct.begins g.C.Conduct.goes) (Unit {0}) _ (OneStep (IsLoss c.args.no)) (OneStep (Moves c.args.cluster.now c.args.clients.now c.args.no)) c.args.cluster.now c.lose_one.new.cluster c.args.clients.now c.args.clients.now (map g.S.BrickStore.records c.args.stores.now) (map g.S.BrickStore.records c.args.stores.now) (λ t. tt)
    (λ p steps h m x. one_as (IsLoss c.args.no) (Moves c.args.cluster.now c.args.clients.now c.args.no) p steps (λ e y. inr (y, nowhere_brick c.args.cluster.now c.args.clients.now c.args.no c.in-Some-Brick.brick (sym c.address.ensures ∙ (c.in-Some-Brick.is ∙ ap Some c.in-Some-Brick.field-0-is)) (sym c.if-is_up.ensures))) x) None None (λ f. f) (λ e f. f) c.lose_one.result (c.lose_one.ensures.stepped (map g.S.BrickStore.records c.args.stores.now))

pub returns-then-is_dead-clause-stepped : goal.returns-then-is_dead-clause-stepped
returns-then-is_dead-clause-stepped g c = stepped_as g.C.Conduct.stands (tabled g.C.Conduct.begins g.C.Conduct.goes) (Unit {0}) _ (OneStep (IsLoss c.args.no)) (OneStep (Moves c.args.cluster.now c.args.clients.now c.args.no)) c.args.cluster.now c.lose_one-then-is_dead.new.cluster c.args.clients.now c.args.clients.now (map g.S.BrickStore.records c.args.stores.now) (map g.S.BrickStore.records c.args.stores.now) (λ t. tt)
    (λ p steps h m x. one_as (IsLoss c.args.no) (Moves c.args.cluster.now c.args.clients.now c.args.no) p steps (λ e y. inr (y, nowhere_client c.args.cluster.now c.args.clients.now c.args.no c.in-Some-Client.client c.in-Some-Client.call c.in-Some-Client.brick c.in-Some-Client.re (sym c.address.ensures ∙ (c.in-Some-Client.is ∙ ap Some c.in-Some-Client.field-0-is)) (sym c.if-is_dead.ensures))) x) None None (λ f. f) (λ e f. f) c.lose_one-then-is_dead.result (c.lose_one-then-is_dead.ensures.stepped (map g.S.BrickStore.records c.args.stores.now))

pub returns-else-is_dead-clause-stepped : goal.returns-else-is_dead-clause-stepped
returns-else-is_dead-clause-stepped g c = stepped_as g.C.Conduct.stands (tabled g.C.Conduct.begins g.C.Conduct.goes) (Unit {0}) _ (OneStep (IsDelivery c.args.no)) (OneStep (Moves c.args.cluster.now c.args.clients.now c.args.no)) c.args.cluster.now c.hear.new.cluster c.args.clients.now c.hear.new.clients (map g.S.BrickStore.records c.args.stores.now) (map g.S.BrickStore.records c.args.stores.now) (λ t. tt)
    (λ p steps h m x. one_as (IsDelivery c.args.no) (Moves c.args.cluster.now c.args.clients.now c.args.no) p steps (λ e y. inl y) x) None None (λ f. f) (λ e f. f) c.hear.result (c.hear.ensures.stepped (map g.S.BrickStore.records c.args.stores.now))
