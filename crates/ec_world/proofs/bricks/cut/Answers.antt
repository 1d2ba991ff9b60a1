use Rattle.std.proofs.Common.{◌≡◌, List, Some, ap, arith, length, refl, subst, sym}
use Rattle.ec_brick.specs.declared.brick.Brick.{Brick}
use Rattle.ec_cluster.specs.Entries.{granted_entries}
use Rattle.ec_cluster.specs.Said.{said_in}
use Rattle.ec_cluster.specs.Views.{asks_at, log_of, next_of, size_of}
use Rattle.ec_clients.specs.Calls.{tabled}
use Rattle.ec_history.specs.Script.{Names}
use Rattle.ec_locks.specs.Asked.{granted_by_queue}
use Rattle.ec_locks.specs.declared.ask.Leaving.TheVariants.{Client}
use Rattle.ec_wire.specs.declared.entry.Entry.TheVariants.{Cut as CutOff}
use Rattle.ec_wire.specs.declared.event.Event.TheVariants.{Cut}
use Rattle.ec_world.proofs.Advancing.{brick_advances, cluster_breaks}
use Rattle.ec_world.proofs.Becoming.{named_advances, named_breaks}
use Rattle.ec_cluster.proofs.Following.{granted_follow}
use Rattle.ec_world.proofs.Following.{granted_within}
use Rattle.ec_world.proofs.Permitting.{may_stop}
use Rattle.ec_world.proofs.bricks.cut.Goals as goal

pub returns-in-Ok : goal.returns-in-Ok
returns-in-Ok g c = λ records. (may_stop c.args.cluster.now c.args.brick (omega (arith, c.from.ensures, ap (λ (xs : List Brick). length xs) c.bricks.ensures)) (sym c.if-not-is_up.ensures), named_advances g.C.Conduct.stands (tabled g.C.Conduct.begins g.C.Conduct.goes) (Unit {0}) (Cut c.args.client (Some c.args.brick)) c.args.cluster.now c.cut.new.self c.args.clients.now c.args.clients.now records records (brick_advances g.C.Conduct.stands (tabled g.C.Conduct.begins g.C.Conduct.goes) c.brick_law.ensures (Unit {0}) (λ m e. Names m (Cut c.args.client (Some c.args.brick)) e) c.args.cluster.now c.cut.new.self c.args.clients.now records (CutOff c.args.client c.args.brick) (granted_entries (said_in (log_of c.args.cluster.now)) c.args.brick (next_of c.args.cluster.now) (granted_by_queue (Client c.args.client) (asks_at c.args.cluster.now c.args.brick))) c.requires.sound c.in-Ok.ensures.ok (refl, (c.reply_law.ensures.granted (said_in (log_of c.args.cluster.now)) c.args.brick (next_of c.args.cluster.now) _).0) (tt, (c.reply_law.ensures.granted (said_in (log_of c.args.cluster.now)) c.args.brick (next_of c.args.cluster.now) _).1) (tt, granted_within (size_of c.args.cluster.now) (said_in (log_of c.args.cluster.now)) c.args.brick (next_of c.args.cluster.now) (granted_by_queue (Client c.args.client) (asks_at c.args.cluster.now c.args.brick)) (omega (arith, c.from.ensures, ap (λ (xs : List Brick). length xs) c.bricks.ensures))) (granted_follow (said_in (log_of c.args.cluster.now)) c.args.brick (next_of c.args.cluster.now) (granted_by_queue (Client c.args.client) (asks_at c.args.cluster.now c.args.brick))) (λ m. (refl, refl))))

pub returns-in-Err : goal.returns-in-Err
returns-in-Err g c = λ records. named_breaks g.C.Conduct.stands (tabled g.C.Conduct.begins g.C.Conduct.goes) (Unit {0}) (Cut c.args.client (Some c.args.brick)) c.args.cluster.now c.cut.new.self c.args.clients.now c.args.clients.now records records (cluster_breaks g.C.Conduct.stands (tabled g.C.Conduct.begins g.C.Conduct.goes) (Unit {0}) (λ e. e ≡ CutOff c.args.client c.args.brick) (λ m e. Names m (Cut c.args.client (Some c.args.brick)) e) c.args.cluster.now c.cut.new.self c.args.clients.now records records (λ m e is. subst (Names m (Cut c.args.client (Some c.args.brick))) (sym is) (refl, refl)) (c.in-Err.ensures.err records))
