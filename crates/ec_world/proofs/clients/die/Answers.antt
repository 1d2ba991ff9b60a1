use Rattle.std.proofs.Common.{[], length, refl, sym}
use Rattle.ec_clients.specs.Calls.{tabled}
use Rattle.ec_clients.specs.Views.{slots_of}
use Rattle.ec_history.specs.Script.{Names}
use Rattle.ec_wire.specs.declared.entry.Entry.TheVariants.{Died}
use Rattle.ec_wire.specs.declared.event.Event.TheVariants.{Die}
use Rattle.ec_world.proofs.Becoming.{named_advances, named_breaks}
use Rattle.ec_world.proofs.Calling.{goes_advances, goes_breaks}
use Rattle.ec_world.proofs.Permitting.{may_die}
use Rattle.ec_world.proofs.clients.die.Goals as goal

pub returns-in-Ok : goal.returns-in-Ok
returns-in-Ok g c = λ records. (may_die c.args.clients.now c.args.client (sym c.if-is_dead.ensures), named_advances g.C.Conduct.stands (tabled g.C.Conduct.begins g.C.Conduct.goes) (Unit {0}) (Die c.args.client) c.args.cluster.now c.die.new.cluster c.args.clients.now c.die.new.clients records records (goes_advances g.C.Conduct.stands (tabled g.C.Conduct.begins g.C.Conduct.goes) (Unit {0}) (λ m e. Names m (Die c.args.client) e) c.args.cluster.now c.die.new.cluster c.args.clients.now c.die.new.clients records (Died c.args.client) [] c.in-Ok.ensures.ok (λ i. (c.die.ensures.same i).options) (record { slots = (λ i. length (slots_of (c.die.ensures.same i))); lives = c.die.ensures.many }) refl (λ p h. (tt, tt)) (tt, tt) (λ p h. refl)))

pub returns-in-Err : goal.returns-in-Err
returns-in-Err g c = λ records. named_breaks g.C.Conduct.stands (tabled g.C.Conduct.begins g.C.Conduct.goes) (Unit {0}) (Die c.args.client) c.args.cluster.now c.die.new.cluster c.args.clients.now c.args.clients.now records records (goes_breaks g.C.Conduct.stands (tabled g.C.Conduct.begins g.C.Conduct.goes) (Unit {0}) (λ e. ⊥) (λ m e. Names m (Die c.args.client) e) c.args.cluster.now c.die.new.cluster c.args.clients.now records (λ p h e is. absurd is) c.in-Err.ensures.err)
