-- One brick ends a client's locks, and then the waiters that it lets in.
use Rattle.std.proofs.Common.{◌≡◌, ap, arith, refl}
use Rattle.std.proofs.Math.ListN.{set}
use Rattle.std.proofs.lemmas.Result.{on_err_weaker}
use Rattle.std.specs.Vec.{with_item}
use Rattle.ec_wire.specs.declared.entry.Entry.TheVariants.{Cut}
use Rattle.ec_cluster.proofs.Advancing.{on_ok}
use Rattle.ec_cluster.proofs.Cutting.{cut_sound, cut_to, cut_waiters, cuts, cuts_part}
use Rattle.ec_cluster.proofs.Executed.{unbroken}
use Rattle.ec_cluster.proofs.Moving.{brick_is, there, up_is}
use Rattle.ec_cluster.proofs.Waiters.{err_any}
use Rattle.ec_cluster.proofs.cluster.Cluster.cut.Goals as goal

pub returns-in_err-push-clause-err : goal.returns-in_err-push-clause-err
returns-in_err-push-clause-err c = err_any c.from_residual.result _ (λ records. unbroken (λ e. e ≡ Cut c.args.client c.args.brick) (Unit {0}) c.args.self.now (record c.args.self.now { log = c.push.new.self }) records records c.in_err-push.ensures.err (λ told. refl))

pub index_mut-requires : goal.index_mut-requires
index_mut-requires c = let lt = there c.args.self.now c.args.brick c.requires.up in omega (arith, c.from.ensures, lt, c.args.self.now.bricks.ok.0)

pub grant-requires-clause-sound : goal.grant-requires-clause-sound
grant-requires-clause-sound c = cut_sound c.known_laws.ensures c.args.self.now (record c.args.self.now { bricks = with_item c.args.self.now.bricks c.from.result c.cut.new.self; log = c.push.new.self }) c.args.client c.args.brick c.index_mut.result.now c.cut.new.self c.in-Ok.granted c.requires.sound (brick_is c.args.self.now c.from.result c.args.brick c.index_mut.result.now (there c.args.self.now c.args.brick c.requires.up) c.from.ensures c.index_mut.ensures.value) (up_is c.args.self.now c.args.brick c.index_mut.result.now _ (brick_is c.args.self.now c.from.result c.args.brick c.index_mut.result.now (there c.args.self.now c.args.brick c.requires.up) c.from.ensures c.index_mut.ensures.value) c.requires.up) c.in-Ok.ensures.ok c.cut.ensures.index c.in-Ok.ensures.granted (record { bricks = ap (λ i. set c.args.self.now.bricks.items i c.cut.new.self) c.from.ensures; flies = refl; next = refl; log = c.in_ok-push.ensures.ok; places = refl })

pub grant-requires-clause-to : goal.grant-requires-clause-to
grant-requires-clause-to c = cut_to c.known_laws.ensures c.args.self.now (record c.args.self.now { bricks = with_item c.args.self.now.bricks c.from.result c.cut.new.self; log = c.push.new.self }) c.args.client c.args.brick c.index_mut.result.now c.cut.new.self c.in-Ok.granted c.requires.sound (brick_is c.args.self.now c.from.result c.args.brick c.index_mut.result.now (there c.args.self.now c.args.brick c.requires.up) c.from.ensures c.index_mut.ensures.value) (up_is c.args.self.now c.args.brick c.index_mut.result.now _ (brick_is c.args.self.now c.from.result c.args.brick c.index_mut.result.now (there c.args.self.now c.args.brick c.requires.up) c.from.ensures c.index_mut.ensures.value) c.requires.up) c.in-Ok.ensures.ok c.cut.ensures.index c.in-Ok.ensures.granted (record { bricks = ap (λ i. set c.args.self.now.bricks.items i c.cut.new.self) c.from.ensures; flies = refl; next = refl; log = c.in_ok-push.ensures.ok; places = refl })

pub grant-requires-clause-asked : goal.grant-requires-clause-asked
grant-requires-clause-asked c = cut_waiters c.known_laws.ensures c.args.self.now (record c.args.self.now { bricks = with_item c.args.self.now.bricks c.from.result c.cut.new.self; log = c.push.new.self }) c.args.client c.args.brick c.index_mut.result.now c.cut.new.self c.in-Ok.granted c.requires.sound (brick_is c.args.self.now c.from.result c.args.brick c.index_mut.result.now (there c.args.self.now c.args.brick c.requires.up) c.from.ensures c.index_mut.ensures.value) (up_is c.args.self.now c.args.brick c.index_mut.result.now _ (brick_is c.args.self.now c.from.result c.args.brick c.index_mut.result.now (there c.args.self.now c.args.brick c.requires.up) c.from.ensures c.index_mut.ensures.value) c.requires.up) c.in-Ok.ensures.ok c.cut.ensures.index c.in-Ok.ensures.granted (record { bricks = ap (λ i. set c.args.self.now.bricks.items i c.cut.new.self) c.from.ensures; flies = refl; next = refl; log = c.in_ok-push.ensures.ok; places = refl })

pub returns-in-Ok-clause-ok : goal.returns-in-Ok-clause-ok
returns-in-Ok-clause-ok c = on_ok c.grant.result _ _ (cuts c.known_laws.ensures c.args.self.now (record c.args.self.now { bricks = with_item c.args.self.now.bricks c.from.result c.cut.new.self; log = c.push.new.self }) c.args.client c.args.brick c.index_mut.result.now c.cut.new.self c.in-Ok.granted c.requires.sound (brick_is c.args.self.now c.from.result c.args.brick c.index_mut.result.now (there c.args.self.now c.args.brick c.requires.up) c.from.ensures c.index_mut.ensures.value) (up_is c.args.self.now c.args.brick c.index_mut.result.now _ (brick_is c.args.self.now c.from.result c.args.brick c.index_mut.result.now (there c.args.self.now c.args.brick c.requires.up) c.from.ensures c.index_mut.ensures.value) c.requires.up) c.in-Ok.ensures.ok c.cut.ensures.index c.in-Ok.ensures.granted (record { bricks = ap (λ i. set c.args.self.now.bricks.items i c.cut.new.self) c.from.ensures; flies = refl; next = refl; log = c.in_ok-push.ensures.ok; places = refl }) c.grant.new.self) c.grant.ensures.ok

pub returns-in-Ok-clause-err : goal.returns-in-Ok-clause-err
returns-in-Ok-clause-err c = on_err_weaker c.grant.result (cuts_part c.known_laws.ensures c.args.self.now (record c.args.self.now { bricks = with_item c.args.self.now.bricks c.from.result c.cut.new.self; log = c.push.new.self }) c.args.client c.args.brick c.index_mut.result.now c.cut.new.self c.in-Ok.granted c.requires.sound (brick_is c.args.self.now c.from.result c.args.brick c.index_mut.result.now (there c.args.self.now c.args.brick c.requires.up) c.from.ensures c.index_mut.ensures.value) (up_is c.args.self.now c.args.brick c.index_mut.result.now _ (brick_is c.args.self.now c.from.result c.args.brick c.index_mut.result.now (there c.args.self.now c.args.brick c.requires.up) c.from.ensures c.index_mut.ensures.value) c.requires.up) c.in-Ok.ensures.ok c.cut.ensures.index c.in-Ok.ensures.granted (record { bricks = ap (λ i. set c.args.self.now.bricks.items i c.cut.new.self) c.from.ensures; flies = refl; next = refl; log = c.in_ok-push.ensures.ok; places = refl }) c.grant.new.self) c.grant.ensures.err

pub returns-in-Err-clause-err : goal.returns-in-Err-clause-err
returns-in-Err-clause-err c = λ records. unbroken (λ e. e ≡ Cut c.args.client c.args.brick) (Unit {0}) c.args.self.now (record (record c.args.self.now { bricks = with_item c.args.self.now.bricks c.from.result c.cut.new.self; log = c.push.new.self }) { log = c.drop_last.new.self }) records records (c.drop_last.ensures c.args.self.now.log (Cut c.args.client c.args.brick) c.in_ok-push.ensures.ok) (λ told. refl)
