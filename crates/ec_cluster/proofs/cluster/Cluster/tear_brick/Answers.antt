-- One brick cuts a write short.
use Rattle.std.proofs.Common.{◌≡◌, ◌<◌, ◌∙◌, Some, length, get_or, arith, refl, sym}
use Rattle.std.proofs.Math.ListN.{set}
use Rattle.std.proofs.lemmas.Option.{slice_get-get_or}
use Rattle.std.specs.List.{list_all}
use Rattle.std.specs.Prelude.{slice_get}
use Rattle.std.specs.Vec.{with_item}
use Rattle.ec_cluster.proofs.Asking.{all_set, asks_none}
use Rattle.ec_cluster.proofs.Moving.{brick_is}
use Rattle.ec_cluster.proofs.TornBrick.{tears_brick}
use Rattle.ec_cluster.proofs.cluster.Cluster.tear_brick.Goals as goal

pub returns-clause-tells : goal.returns-clause-tells
returns-clause-tells g c =
    let lt : c.from-b.result < length c.args.stores.now = omega (arith, c.from-b.ensures, c.requires.stores) in
    let is : slice_get c.args.stores.now c.args.message.now.brick ≡ Some (get_or c.args.stores.now c.from-b.result c.index-stores-b.result) = (λ k. slice_get c.args.stores.now (sym c.from-b.ensures k)) ∙ slice_get-get_or c.args.stores.now c.from-b.result c.index-stores-b.result lt in
    (λ k. list_all g.S.BrickStore.told (set c.args.stores.now (c.from-b.ensures k) c.tear.new.store)) ∙ all_set g.S.BrickStore.told c.args.stores.now c.args.message.now.brick (get_or c.args.stores.now c.from-b.result c.index-stores-b.result) c.tear.new.store is c.tear.ensures.tells

pub returns-clause-ok : goal.returns-clause-ok
returns-clause-ok g c =
    let lt : c.from-b.result < length c.args.stores.now = omega (arith, c.from-b.ensures, c.requires.stores) in
    let is : slice_get c.args.stores.now c.args.message.now.brick ≡ Some (get_or c.args.stores.now c.from-b.result c.index-stores-b.result) = (λ k. slice_get c.args.stores.now (sym c.from-b.ensures k)) ∙ slice_get-get_or c.args.stores.now c.from-b.result c.index-stores-b.result lt in
    tears_brick g.S.BrickStore.told g.S.BrickStore.records g.S.BrickStore.faults c.args.self.now (record c.args.self.now { bricks = with_item c.args.self.now.bricks c.from-b.result c.tear.new.self }) c.args.stores.now c.from-b.result c.index_mut.result.now c.tear.new.self (get_or c.args.stores.now c.from-b.result c.index-stores-b.result) c.tear.new.store c.args.message.now c.args.request.now c.args.bytes refl c.from-b.ensures refl (brick_is c.args.self.now c.from-b.result c.args.message.now.brick c.index_mut.result.now c.requires.bricks c.from-b.ensures c.index_mut.ensures.value) is c.tear.result
    (record { does = c.tear.ensures.step; stops = c.tear.ensures.stops; unread = c.tear.ensures.unread; fenced = c.tear.ensures.fence; same_index = c.tear.ensures.same_index; index = c.tear.ensures.index })

pub returns-clause-err : goal.returns-clause-err
returns-clause-err g c =
    let lt : c.from-b.result < length c.args.stores.now = omega (arith, c.from-b.ensures, c.requires.stores) in
    let is : slice_get c.args.stores.now c.args.message.now.brick ≡ Some (get_or c.args.stores.now c.from-b.result c.index-stores-b.result) = (λ k. slice_get c.args.stores.now (sym c.from-b.ensures k)) ∙ slice_get-get_or c.args.stores.now c.from-b.result c.index-stores-b.result lt in
    asks_none g.S.BrickStore.told g.S.BrickStore.records g.S.BrickStore.faults c.args.self.now (record c.args.self.now { bricks = with_item c.args.self.now.bricks c.from-b.result c.tear.new.self }) c.args.stores.now c.from-b.result c.index_mut.result.now c.tear.new.self (get_or c.args.stores.now c.from-b.result c.index-stores-b.result) c.tear.new.store c.args.message.now c.args.request.now refl c.from-b.ensures refl (brick_is c.args.self.now c.from-b.result c.args.message.now.brick c.index_mut.result.now c.requires.bricks c.from-b.ensures c.index_mut.ensures.value) is c.tear.result c.tear.ensures.same_records
