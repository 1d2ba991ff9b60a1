use Rattle.std.proofs.Common.{[], ap, refl}
use Rattle.ec_cluster.specs.Views.{log_of}
use Rattle.ec_clients.specs.Calls.{tabled}
use Rattle.ec_wire.specs.declared.entry.Entry.TheVariants.{Lost}
use Rattle.ec_world.specs.Steps.{IsLoss, NoneOr, OneStep}
use Rattle.ec_world.proofs.Growing.{grown}
use Rattle.ec_world.proofs.Advancing.{brick_advances, same_breaks}
use Rattle.ec_world.proofs.bricks.lose_one.Goals as goal

pub returns-in-Ok-clause-stepped : goal.returns-in-Ok-clause-stepped
returns-in-Ok-clause-stepped g c = λ records. (refl, brick_advances g.C.Conduct.stands (tabled g.C.Conduct.begins g.C.Conduct.goes) c.brick_law.ensures (Unit {0}) (IsLoss c.args.no) c.args.cluster.now c.lose.new.self c.args.clients.now records (Lost c.args.no) [] c.requires.sound c.in-Ok.ensures.ok (refl, tt) (tt, tt) (tt, tt) refl (λ m. refl))

pub returns-in-Err-clause-stepped : goal.returns-in-Err-clause-stepped
returns-in-Err-clause-stepped g c = λ records. same_breaks g.C.Conduct.stands (tabled g.C.Conduct.begins g.C.Conduct.goes) (Unit {0}) (NoneOr (OneStep (IsLoss c.args.no))) c.args.cluster.now c.lose.new.self c.args.clients.now records (λ p. tt) (ap log_of c.in-Err.ensures.err)

pub returns-in-Ok-clause-grows : goal.returns-in-Ok-clause-grows
returns-in-Ok-clause-grows g c = grown c.args.cluster.now c.lose.new.self _ _ c.in-Ok.ensures.ok.log
