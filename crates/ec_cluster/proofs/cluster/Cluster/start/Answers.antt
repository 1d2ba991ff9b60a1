-- One brick is another.
use Rattle.std.proofs.Common.{None, ap, refl}
use Rattle.std.proofs.Math.ListN.{set}
use Rattle.ec_brick.specs.State.{State}
use Rattle.ec_cluster.proofs.Moving.{brick_is, moved, starts, up_after, up_is}
use Rattle.ec_cluster.proofs.cluster.Cluster.start.Goals as goal

pub returns-clause-ok : goal.returns-clause-ok
returns-clause-ok c =
    let was = brick_is c.args.self.now c.from.result c.args.brick c.index_mut.result.now (c.requires.there) c.from.ensures c.index_mut.ensures.value in
    starts c.known_laws.ensures c.args.self.now _ c.args.brick c.index_mut.result.now c.start.new.self c.requires.sound was (up_is c.args.self.now c.args.brick c.index_mut.result.now _ was c.requires.down) c.start.ensures.state c.start.ensures.index
    (record { bricks = ap (λ i. set c.args.self.now.bricks.items i c.start.new.self) c.from.ensures; flies = refl; next = refl; log = c.in_ok-push.ensures.ok; places = refl })

pub returns-clause-changes : goal.returns-clause-changes
returns-clause-changes c = moved c.args.self.now _ c.args.brick c.start.new.self _ (record { bricks = ap (λ i. set c.args.self.now.bricks.items i c.start.new.self) c.from.ensures; flies = refl; next = refl; log = c.in_ok-push.ensures.ok; places = refl })

pub returns-clause-started : goal.returns-clause-started
returns-clause-started c =
    let was = brick_is c.args.self.now c.from.result c.args.brick c.index_mut.result.now (c.requires.there) c.from.ensures c.index_mut.ensures.value in
    up_after c.args.self.now c.from.result c.args.brick c.index_mut.result.now c.start.new.self _ c.from.ensures was (ap (λ (x : State). x.up) (c.start.ensures.state (λ g. None)))
