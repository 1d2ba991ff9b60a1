use Rattle.std.proofs.Common.{List, [], ap, arith, length, refl, sym}
use Rattle.ec_brick.specs.declared.brick.Brick.{Brick}
use Rattle.ec_cluster.specs.Views.{log_of, size_of}
use Rattle.ec_world.specs.Events.{FirstOfEvent}
use Rattle.ec_clients.specs.Calls.{tabled}
use Rattle.ec_history.specs.Script.{Names}
use Rattle.ec_wire.specs.declared.entry.Entry.TheVariants.{Returned}
use Rattle.ec_wire.specs.declared.event.Event.TheVariants.{Return}
use Rattle.ec_world.proofs.Advancing.{brick_advances, same_breaks}
use Rattle.ec_world.proofs.Becoming.{named_advances}
use Rattle.ec_world.proofs.Permitting.{may_return}
use Rattle.ec_world.proofs.bricks.return_brick.Goals as goal

pub returns-in-Ok : goal.returns-in-Ok
returns-in-Ok g c = λ records. (may_return c.args.cluster.now c.args.brick (omega (arith, c.from.ensures, ap (λ (xs : List Brick). length xs) c.bricks.ensures)) (sym c.if-is_up.ensures), named_advances g.C.Conduct.stands (tabled g.C.Conduct.begins g.C.Conduct.goes) (Unit {0}) (Return c.args.brick) c.args.cluster.now c.start.new.self c.args.clients.now c.args.clients.now records records (brick_advances g.C.Conduct.stands (tabled g.C.Conduct.begins g.C.Conduct.goes) c.brick_law.ensures (Unit {0}) (λ m e. Names m (Return c.args.brick) e) c.args.cluster.now c.start.new.self c.args.clients.now records (Returned c.args.brick) [] c.requires.sound c.in-Ok.ensures.ok (refl, tt) (tt, tt) (tt, tt) refl (λ m. refl)))

pub returns-in-Err : goal.returns-in-Err
returns-in-Err g c = λ records. same_breaks g.C.Conduct.stands (tabled g.C.Conduct.begins g.C.Conduct.goes) (Unit {0}) (FirstOfEvent (size_of c.args.cluster.now) (Return c.args.brick)) c.args.cluster.now c.start.new.self c.args.clients.now records (λ p. tt) (ap log_of c.in-Err.ensures.err)
