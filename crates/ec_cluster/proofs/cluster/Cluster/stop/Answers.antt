-- One brick is another.
use Rattle.std.proofs.Common.{None, ap, refl}
use Rattle.std.proofs.Math.ListN.{set}
use Rattle.ec_brick.specs.State.{State}
use Rattle.ec_cluster.proofs.Moving.{brick_is, moved, stops, there, up_after, up_is}
use Rattle.ec_cluster.proofs.cluster.Cluster.stop.Goals as goal

pub returns-clause-ok : goal.returns-clause-ok
returns-clause-ok c =
    let was = brick_is c.args.self.now c.from.result c.args.brick c.index_mut.result.now (there c.args.self.now c.args.brick c.requires.up) c.from.ensures c.index_mut.ensures.value in
    stops c.known_laws.ensures c.args.self.now _ c.args.brick c.index_mut.result.now c.stop.new.self c.requires.sound was (up_is c.args.self.now c.args.brick c.index_mut.result.now _ was c.requires.up) c.stop.ensures.state c.stop.ensures.index
    (record { bricks = ap (λ i. set c.args.self.now.bricks.items i c.stop.new.self) c.from.ensures; flies = refl; next = refl; log = c.in_ok-push.ensures.ok; places = refl })

pub returns-clause-changes : goal.returns-clause-changes
returns-clause-changes c = moved c.args.self.now _ c.args.brick c.stop.new.self _ (record { bricks = ap (λ i. set c.args.self.now.bricks.items i c.stop.new.self) c.from.ensures; flies = refl; next = refl; log = c.in_ok-push.ensures.ok; places = refl })

pub returns-clause-stopped : goal.returns-clause-stopped
returns-clause-stopped c =
    let was = brick_is c.args.self.now c.from.result c.args.brick c.index_mut.result.now (there c.args.self.now c.args.brick c.requires.up) c.from.ensures c.index_mut.ensures.value in
    up_after c.args.self.now c.from.result c.args.brick c.index_mut.result.now c.stop.new.self _ c.from.ensures was (ap (λ (x : State). x.up) (c.stop.ensures.state (λ g. None)))
