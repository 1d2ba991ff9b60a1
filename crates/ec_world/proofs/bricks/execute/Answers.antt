use Rattle.std.proofs.Common.{inl, refl}
use Rattle.ec_clients.specs.Calls.{tabled}
use Rattle.ec_cluster.specs.Steps.{IsExecution}
use Rattle.ec_world.specs.Steps.{IsDelivery}
use Rattle.ec_world.proofs.Growing.{grown}
use Rattle.ec_world.proofs.Advancing.{cluster_breaks, executes_advances}
use Rattle.ec_world.proofs.bricks.execute.Goals as goal

pub returns-in-Ok-clause-stepped : goal.returns-in-Ok-clause-stepped
returns-in-Ok-clause-stepped g c = (refl, executes_advances g.C.Conduct.stands (tabled g.C.Conduct.begins g.C.Conduct.goes) c.brick_law.ensures c.reply_law.ensures.replies _ (IsDelivery c.args.no) c.args.cluster.now c.execute.new.self c.args.clients.now _ _ _ _ c.args.no c.requires.sound c.in-Ok.ensures.ok (λ m version failed. inl (version, failed, refl)))

pub returns-in-Err-clause-stepped : goal.returns-in-Err-clause-stepped
returns-in-Err-clause-stepped g c = cluster_breaks g.C.Conduct.stands (tabled g.C.Conduct.begins g.C.Conduct.goes) _ (IsExecution c.args.no) (IsDelivery c.args.no) c.args.cluster.now c.execute.new.self c.args.clients.now _ _ (λ m e is. inl is) c.in-Err.ensures.err

pub returns-in-Ok-clause-grows : goal.returns-in-Ok-clause-grows
returns-in-Ok-clause-grows g c = grown c.args.cluster.now c.execute.new.self _ _ c.in-Ok.ensures.ok.log
