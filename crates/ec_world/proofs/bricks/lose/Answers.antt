use Rattle.std.proofs.Common.{None, ap, subst}
use Rattle.ec_cluster.specs.Views.{size_of}
use Rattle.ec_clients.specs.Calls.{tabled}
use Rattle.ec_history.specs.Script.{IsOneStep}
use Rattle.ec_wire.specs.declared.event.Event.TheVariants.{Lose}
use Rattle.ec_world.specs.Steps.{IsLoss, OneStep}
use Rattle.ec_world.specs.Refusals.{IsFound, lose_refusal}
use Rattle.ec_world.proofs.Becoming.{one_named, stepped_as}
use Rattle.ec_world.proofs.Naming.{named_is, names_loss}
use Rattle.ec_world.proofs.Permitting.{found_flies}
use Rattle.ec_world.proofs.bricks.lose.Goals as goal

pub lose_one-requires-clause-flies : goal.lose_one-requires-clause-flies
lose_one-requires-clause-flies g c = found_flies c.args.cluster.now c.args.which c.in-Some.no (subst (IsFound c.args.cluster.now c.args.which) c.in-Some.is c.requires.named)

pub returns-in-Some : goal.returns-in-Some
returns-in-Some g c = λ records. stepped_as g.C.Conduct.stands (tabled g.C.Conduct.begins g.C.Conduct.goes) (Unit {0}) (Unit {0}) (OneStep (IsLoss c.in-Some.no)) (λ p steps. IsOneStep p.net (Lose c.args.which) steps) c.args.cluster.now c.lose_one.new.cluster c.args.clients.now c.args.clients.now records records (λ t. t)
    (λ p steps h m x. one_named (IsLoss c.in-Some.no) (Lose c.args.which) p steps (λ e y. names_loss p.net c.args.which c.in-Some.no e (named_is g.C.Conduct.stands (tabled g.C.Conduct.begins g.C.Conduct.goes) c.args.cluster.now c.args.clients.now records p c.requires.sound h m c.args.which c.in-Some.no (subst (IsFound c.args.cluster.now c.args.which) c.in-Some.is c.requires.named)) y) x)
    None (lose_refusal c.args.which c.args.named) (λ f. ap (lose_refusal c.args.which) c.in-Some.is) (λ e f. absurd (cc)) c.lose_one.result (c.lose_one.ensures.stepped records)
