use Rattle.std.proofs.Common.{List, None, Some, ap, arith, length, subst, sym, ◌∙◌}
use Rattle.ec_brick.specs.declared.brick.Brick.{Brick}
use Rattle.ec_clients.specs.Calls.{tabled}
use Rattle.ec_clients.specs.Views.{running_at}
use Rattle.ec_history.specs.Script.{IsOneStep}
use Rattle.ec_wire.specs.declared.event.Event.TheVariants.{GiveUp}
use Rattle.ec_world.specs.Steps.{IsGivingUp, OneStep}
use Rattle.ec_world.specs.Refusals.{IsAwaitedBy, give_up_refusal}
use Rattle.ec_world.proofs.Becoming.{one_named, stepped_as}
use Rattle.ec_world.proofs.Naming.{names_giving_up}
use Rattle.ec_world.proofs.Permitting.{may_give_up, waiting_of}
use Rattle.ec_world.proofs.clients.give_up.Goals as goal

pub leave_one-requires-clause-waiting : goal.leave_one-requires-clause-waiting
leave_one-requires-clause-waiting g c = waiting_of g.C.Conduct.stands c.args.clients.now c.args.client c.args.brick c.in-Some.no (subst (IsAwaitedBy g.C.Conduct.stands (running_at c.args.clients.now c.args.client) c.args.brick) c.in-Some.is c.requires.awaited)

pub returns-in-Some : goal.returns-in-Some
returns-in-Some g c = λ records. stepped_as g.C.Conduct.stands (tabled g.C.Conduct.begins g.C.Conduct.goes) (Unit {0}) (Unit {0}) (OneStep (IsGivingUp c.args.client c.args.brick c.in-Some.no)) (λ p steps. IsOneStep p.net (GiveUp c.args.client c.args.brick) steps) c.args.cluster.now c.leave_one.new.cluster c.args.clients.now c.leave_one.new.clients records records (λ t. t)
    (λ p steps h m x. one_named (IsGivingUp c.args.client c.args.brick c.in-Some.no) (GiveUp c.args.client c.args.brick) p steps (λ e y. names_giving_up p.net c.args.client c.args.brick c.in-Some.no e y) x)
    None (give_up_refusal c.args.cluster.now c.args.clients.now c.args.client c.args.brick c.args.number) (λ f. ap (give_up_refusal c.args.cluster.now c.args.clients.now c.args.client c.args.brick) c.in-Some.is ∙ may_give_up c.args.cluster.now c.args.clients.now c.args.client c.args.brick c.in-Some.no (omega (arith, c.from.ensures, ap (λ (xs : List Brick). length xs) c.bricks.ensures)) (sym c.if-is_dead.ensures)) (λ e f. absurd (cc)) c.leave_one.result (c.leave_one.ensures.stepped records)
