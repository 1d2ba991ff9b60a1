-- One brick executes.
use Rattle.std.proofs.Common.{◌≡◌, ◌<◌, ◌∙◌, Some, length, get_or, arith, refl, sym}
use Rattle.std.proofs.lemmas.Option.{slice_get-get_or}
use Rattle.std.specs.Prelude.{slice_get}
use Rattle.std.proofs.Math.ListN.{set}
use Rattle.std.specs.List.{list_all}
use Rattle.std.specs.Vec.{with_item}
use Rattle.ec_cluster.proofs.Asking.{all_set, asks_brick, asks_none}
use Rattle.ec_cluster.proofs.Moving.{brick_is, up_is}
use Rattle.ec_cluster.proofs.cluster.Cluster.ask_brick.Goals as goal

pub execute-requires-clause-up : goal.execute-requires-clause-up
execute-requires-clause-up g c = up_is c.args.self.now c.args.message.now.brick c.index_mut.result.now _ (brick_is c.args.self.now c.from-b.result c.args.message.now.brick c.index_mut.result.now c.requires.bricks c.from-b.ensures c.index_mut.ensures.value) c.requires.up

pub returns-clause-tells : goal.returns-clause-tells
returns-clause-tells g c =
    let lt : c.from-b.result < length c.args.stores.now = omega (arith, c.from-b.ensures, c.requires.stores) in
    let is : slice_get c.args.stores.now c.args.message.now.brick ≡ Some (get_or c.args.stores.now c.from-b.result c.index-stores-b.result) = (λ k. slice_get c.args.stores.now (sym c.from-b.ensures k)) ∙ slice_get-get_or c.args.stores.now c.from-b.result c.index-stores-b.result lt in
    (λ k. list_all g.S.BrickStore.told (set c.args.stores.now (c.from-b.ensures k) c.execute.new.store)) ∙ all_set g.S.BrickStore.told c.args.stores.now c.args.message.now.brick (get_or c.args.stores.now c.from-b.result c.index-stores-b.result) c.execute.new.store is c.execute.ensures.tells

pub returns-clause-ok : goal.returns-clause-ok
returns-clause-ok g c =
    let lt : c.from-b.result < length c.args.stores.now = omega (arith, c.from-b.ensures, c.requires.stores) in
    let is : slice_get c.args.stores.now c.args.message.now.brick ≡ Some (get_or c.args.stores.now c.from-b.result c.index-stores-b.result) = (λ k. slice_get c.args.stores.now (sym c.from-b.ensures k)) ∙ slice_get-get_or c.args.stores.now c.from-b.result c.index-stores-b.result lt in
    asks_brick g.S.BrickStore.told g.S.BrickStore.records g.S.BrickStore.faults c.args.self.now _ c.args.stores.now c.from-b.result c.index_mut.result.now c.execute.new.self (get_or c.args.stores.now c.from-b.result c.index-stores-b.result) c.execute.new.store c.args.message.now c.args.request.now refl c.from-b.ensures refl (brick_is c.args.self.now c.from-b.result c.args.message.now.brick c.index_mut.result.now c.requires.bricks c.from-b.ensures c.index_mut.ensures.value) is c.execute.result
    (record { tells = c.execute.ensures.tells; does = c.execute.ensures.step; fenced = c.execute.ensures.fence; locks = c.execute.ensures.locks; fits = c.execute.ensures.fits; index = c.execute.ensures.index; fault = c.execute.ensures.fault })

pub returns-clause-err : goal.returns-clause-err
returns-clause-err g c =
    let lt : c.from-b.result < length c.args.stores.now = omega (arith, c.from-b.ensures, c.requires.stores) in
    let is : slice_get c.args.stores.now c.args.message.now.brick ≡ Some (get_or c.args.stores.now c.from-b.result c.index-stores-b.result) = (λ k. slice_get c.args.stores.now (sym c.from-b.ensures k)) ∙ slice_get-get_or c.args.stores.now c.from-b.result c.index-stores-b.result lt in
    asks_none g.S.BrickStore.told g.S.BrickStore.records g.S.BrickStore.faults c.args.self.now (record c.args.self.now { bricks = with_item c.args.self.now.bricks c.from-b.result c.execute.new.self }) c.args.stores.now c.from-b.result c.index_mut.result.now c.execute.new.self (get_or c.args.stores.now c.from-b.result c.index-stores-b.result) c.execute.new.store c.args.message.now c.args.request.now refl c.from-b.ensures refl (brick_is c.args.self.now c.from-b.result c.args.message.now.brick c.index_mut.result.now c.requires.bricks c.from-b.ensures c.index_mut.ensures.value) is c.execute.result c.execute.ensures.same_records
