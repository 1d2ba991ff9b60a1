use Rattle.std.proofs.Common.{◌≡◌, inr, refl}
use Rattle.ec_cluster.specs.Said.{said_in}
use Rattle.ec_cluster.specs.Views.{flight, log_of, next_of}
use Rattle.ec_clients.specs.Calls.{tabled}
use Rattle.ec_clients.specs.Late.{late_entries, late_gfid}
use Rattle.ec_clients.specs.Views.{is_released}
use Rattle.ec_wire.specs.declared.entry.Entry.TheVariants.{Heard}
use Rattle.ec_world.specs.Steps.{IsDelivery}
use Rattle.ec_world.proofs.Growing.{grown}
use Rattle.ec_world.proofs.Calling.{goes_breaks, hears_advances, sees_advances, sees_breaks}
use Rattle.ec_clients.proofs.Following.{late_follow}
use Rattle.ec_world.proofs.clients.hear.Goals as goal

pub hear_awaited-requires-clause-awaited : goal.hear_awaited-requires-clause-awaited
hear_awaited-requires-clause-awaited g c = c.is_awaited.ensures.yes c.if-is_awaited.true

pub hear_awaited-requires-clause-seen : goal.hear_awaited-requires-clause-seen
hear_awaited-requires-clause-seen g c = (c.requires.sees.0, c.requires.sees.1.seen)

pub returns-in-Ok-clause-stepped : goal.returns-in-Ok-clause-stepped
returns-in-Ok-clause-stepped g c = λ records. (refl, hears_advances g.C.Conduct.stands (tabled g.C.Conduct.begins g.C.Conduct.goes) (Unit {0}) (IsDelivery c.args.no) c.args.cluster.now c.hear_awaited.new.cluster c.args.clients.now c.hear_awaited.new.clients records c.args.no c.args.call c.args.client c.args.brick c.args.re c.requires.size (c.is_awaited.ensures.yes c.if-is_awaited.true) c.in-Ok.ensures.ok c.in-Ok.ensures.options c.in-Ok.ensures.many (λ m. inr refl))

pub returns-in-Err-clause-stepped : goal.returns-in-Err-clause-stepped
returns-in-Err-clause-stepped g c = λ records. goes_breaks g.C.Conduct.stands (tabled g.C.Conduct.begins g.C.Conduct.goes) (Unit {0}) (λ e. e ≡ Heard c.args.no) (IsDelivery c.args.no) c.args.cluster.now c.hear_awaited.new.cluster c.args.clients.now records (λ p h e is. inr is) c.in-Err.ensures.err

pub returns-in-Ok-hear_idle-clause-stepped : goal.returns-in-Ok-hear_idle-clause-stepped
returns-in-Ok-hear_idle-clause-stepped g c = λ records. (refl, sees_advances g.C.Conduct.stands (tabled g.C.Conduct.begins g.C.Conduct.goes) (Unit {0}) (IsDelivery c.args.no) c.args.cluster.now c.hear_idle.new.cluster c.args.clients.now records (Heard c.args.no) (late_entries (next_of c.args.cluster.now) c.args.call c.args.client c.args.brick c.args.re (late_gfid (is_released c.args.clients.now c.args.re) (said_in (log_of c.args.cluster.now) c.args.re) (flight c.args.cluster.now c.args.no))) c.in-Ok-hear_idle.ensures.ok (late_follow (next_of c.args.cluster.now) c.args.call c.args.client c.args.brick c.args.re (late_gfid (is_released c.args.clients.now c.args.re) (said_in (log_of c.args.cluster.now) c.args.re) (flight c.args.cluster.now c.args.no))) (λ m. inr refl))

pub returns-in-Err-hear_idle-clause-stepped : goal.returns-in-Err-hear_idle-clause-stepped
returns-in-Err-hear_idle-clause-stepped g c = λ records. sees_breaks g.C.Conduct.stands (tabled g.C.Conduct.begins g.C.Conduct.goes) (Unit {0}) (λ e. e ≡ Heard c.args.no) (IsDelivery c.args.no) c.args.cluster.now c.hear_idle.new.cluster c.args.clients.now records (λ p h e is. inr is) c.in-Err-hear_idle.ensures.err

pub returns-in-Ok-clause-grows : goal.returns-in-Ok-clause-grows
returns-in-Ok-clause-grows g c = grown c.args.cluster.now c.hear_awaited.new.cluster _ _ c.in-Ok.ensures.ok.goes.log

pub returns-in-Ok-hear_idle-clause-grows : goal.returns-in-Ok-hear_idle-clause-grows
returns-in-Ok-hear_idle-clause-grows g c = grown c.args.cluster.now c.hear_idle.new.cluster _ _ c.in-Ok-hear_idle.ensures.ok.log
