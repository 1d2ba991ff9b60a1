use Rattle.std.proofs.Common.{◌≡◌, refl}
use Rattle.ec_clients.specs.Calls.{tabled}
use Rattle.ec_wire.specs.declared.entry.Entry.TheVariants.{GivenUp}
use Rattle.ec_world.specs.Steps.{IsGivingUp}
use Rattle.ec_world.proofs.Growing.{grown}
use Rattle.ec_world.proofs.Calling.{goes_breaks, leaves_advances}
use Rattle.ec_world.proofs.clients.leave_one.Goals as goal

pub leave-requires-clause-seen : goal.leave-requires-clause-seen
leave-requires-clause-seen g c = (c.requires.sees.0, c.requires.sees.1.seen)

pub returns-in-Ok-clause-stepped : goal.returns-in-Ok-clause-stepped
returns-in-Ok-clause-stepped g c = λ records. (refl, leaves_advances g.C.Conduct.stands (tabled g.C.Conduct.begins g.C.Conduct.goes) (Unit {0}) (IsGivingUp c.args.client c.args.brick c.args.no) c.args.cluster.now c.leave.new.cluster c.args.clients.now c.leave.new.clients records c.args.no c.args.client c.args.brick c.requires.size c.in-Ok.ensures.ok c.in-Ok.ensures.options c.in-Ok.ensures.many (λ m. refl))

pub returns-in-Err-clause-stepped : goal.returns-in-Err-clause-stepped
returns-in-Err-clause-stepped g c = λ records. goes_breaks g.C.Conduct.stands (tabled g.C.Conduct.begins g.C.Conduct.goes) (Unit {0}) (λ e. e ≡ GivenUp c.args.client c.args.brick c.args.no) (IsGivingUp c.args.client c.args.brick c.args.no) c.args.cluster.now c.leave.new.cluster c.args.clients.now records (λ p h e is. is) c.in-Err.ensures.err

pub returns-in-Ok-clause-grows : goal.returns-in-Ok-clause-grows
returns-in-Ok-clause-grows g c = grown c.args.cluster.now c.leave.new.cluster _ _ c.in-Ok.ensures.ok.goes.log
