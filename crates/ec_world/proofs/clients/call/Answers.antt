use Rattle.std.proofs.Common.{◌≡◌, ◌+◌, refl, subst, sym}
use Rattle.ec_clients.specs.Calls.{tabled}
use Rattle.ec_history.specs.Script.{Names}
use Rattle.ec_cluster.specs.Views.{size_of}
use Rattle.ec_wire.specs.declared.entry.Entry.TheVariants.{Called}
use Rattle.ec_world.specs.Events.{FirstOfEvent}
use Rattle.ec_wire.specs.declared.event.Event.TheVariants.{Call}
use Rattle.ec_world.proofs.Advancing.{same_breaks}
use Rattle.ec_world.proofs.Becoming.{named_advances, named_breaks}
use Rattle.ec_world.proofs.Calling.{begins_advances, goes_breaks, idle_is}
use Rattle.ec_world.proofs.Permitting.{may_call, slot_idle}
use Rattle.ec_world.proofs.clients.call.Goals as goal

pub begin-requires-clause-idle : goal.begin-requires-clause-idle
begin-requires-clause-idle g c = slot_idle c.args.clients.now.running.items c.args.client c.requires.there (sym c.in-None.ensures)

pub returns-then-are_spent : goal.returns-then-are_spent
returns-then-are_spent g c = λ records. same_breaks g.C.Conduct.stands (tabled g.C.Conduct.begins g.C.Conduct.goes) (Unit {0}) (FirstOfEvent (size_of c.args.cluster.now) (Call c.args.client c.args.op.now)) c.args.cluster.now c.args.cluster.now c.args.clients.now records (λ p. tt) refl

pub begin-requires-clause-calls : goal.begin-requires-clause-calls
begin-requires-clause-calls g c = c.if-are_spent.ensures refl

pub returns-in-Ok : goal.returns-in-Ok
returns-in-Ok g c = λ records. (may_call c.args.clients.now c.args.client c.args.wrong (sym c.if-is_dead.ensures) (sym c.in-None.ensures) c.in-None-wrong.is, named_advances g.C.Conduct.stands (tabled g.C.Conduct.begins g.C.Conduct.goes) (Unit {0}) (Call c.args.client c.args.op.now) c.args.cluster.now c.begin.new.cluster c.args.clients.now c.begin.new.clients records records (begins_advances g.C.Conduct.stands (tabled g.C.Conduct.begins g.C.Conduct.goes) (Unit {0}) (λ m e. Names m (Call c.args.client c.args.op.now) e) c.args.cluster.now c.begin.new.cluster c.args.clients.now c.begin.new.clients records c.args.client c.args.op.now c.requires.size c.in-Ok.ensures.ok c.in-Ok.ensures.options c.in-Ok.ensures.many (λ p h. (refl, refl, idle_is g.C.Conduct.stands (tabled g.C.Conduct.begins g.C.Conduct.goes) c.args.cluster.now c.args.clients.now p c.args.client h (sym c.in-None.ensures)))))

pub returns-in-Err : goal.returns-in-Err
returns-in-Err g c = λ records. named_breaks g.C.Conduct.stands (tabled g.C.Conduct.begins g.C.Conduct.goes) (Unit {0}) (Call c.args.client c.args.op.now) c.args.cluster.now c.begin.new.cluster c.args.clients.now c.args.clients.now records records (goes_breaks g.C.Conduct.stands (tabled g.C.Conduct.begins g.C.Conduct.goes) (Unit {0}) (λ e. e ≡ Called (c.args.clients.now.calls + 1) c.args.client c.args.op.now) (λ m e. Names m (Call c.args.client c.args.op.now) e) c.args.cluster.now c.begin.new.cluster c.args.clients.now records (λ p h e is. subst (Names p.net (Call c.args.client c.args.op.now)) (sym is) (refl, refl, idle_is g.C.Conduct.stands (tabled g.C.Conduct.begins g.C.Conduct.goes) c.args.cluster.now c.args.clients.now p c.args.client h (sym c.in-None.ensures))) c.in-Err.ensures.err)
