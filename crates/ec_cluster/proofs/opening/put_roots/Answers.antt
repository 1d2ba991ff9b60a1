-- One root more.
use Rattle.std.proofs.Common.{◌≡◌, ◌<◌, ◌∙◌, Some, length, get_or, map, arith, refl, length-set}
use Rattle.std.proofs.lemmas.Option.{slice_get-get_or, slice_get_read}
use Rattle.std.specs.Prelude.{slice_get}
use Rattle.ec_cluster.proofs.Asking.{all_set}
use Rattle.ec_cluster.proofs.Risen.{later_more, rest_more, risen, roots_kept}
use Rattle.ec_cluster.proofs.Rooted.{opened_rooted, roots_more, roots_none, tells_rooted}
use Rattle.ec_cluster.proofs.opening.put_roots.Goals as goal

pub loop-b-init : goal.loop-b-init
loop-b-init g c = record { tells = refl; many = refl; opened = c.requires.opened; roots = λ told. roots_none c.args.config (map g.S.BrickStore.records c.args.stores.now); rest = λ x le. refl; later = λ x. omega arith }

pub returns-in-Err-clause-tells : goal.returns-in-Err-clause-tells
returns-in-Err-clause-tells g c =
    let n : length c.loop-b.stores ≡ length c.args.stores.now = c.loop-b.auto.stores in
    let low : c.loop-b.b < length c.args.stores.now = c.loop-b-test.true in
    let lt : c.loop-b.b < length c.loop-b.stores = omega (arith, n, low) in
    let is : slice_get c.loop-b.stores c.loop-b.b ≡ Some (get_or c.loop-b.stores c.loop-b.b c.index-stores-b.result) = slice_get-get_or c.loop-b.stores c.loop-b.b c.index-stores-b.result lt in
    let start : slice_get c.args.stores.now c.loop-b.b ≡ Some (get_or c.args.stores.now c.loop-b.b c.index-stores-b.result) = slice_get-get_or c.args.stores.now c.loop-b.b c.index-stores-b.result low in
    let was : slice_get c.loop-b.bricks.items c.loop-b.b ≡ Some c.index_mut.result.now = slice_get_read c.loop-b.bricks.items (length c.loop-b.bricks.items) c.loop-b.b c.index_mut.result.now refl (omega (arith, low, c.requires.many, c.loop-b.invariant.many)) c.index_mut.ensures.value in
    all_set g.S.BrickStore.told c.loop-b.stores c.loop-b.b (get_or c.loop-b.stores c.loop-b.b c.index-stores-b.result) c.put_root.new.store is c.put_root.ensures.does.tells ∙ c.loop-b.invariant.tells

pub loop-b-preserved : goal.loop-b-preserved
loop-b-preserved g c =
    let n : length c.loop-b.stores ≡ length c.args.stores.now = c.loop-b.auto.stores in
    let low : c.loop-b.b < length c.args.stores.now = c.loop-b-test.true in
    let lt : c.loop-b.b < length c.loop-b.stores = omega (arith, n, low) in
    let is : slice_get c.loop-b.stores c.loop-b.b ≡ Some (get_or c.loop-b.stores c.loop-b.b c.index-stores-b.result) = slice_get-get_or c.loop-b.stores c.loop-b.b c.index-stores-b.result lt in
    let start : slice_get c.args.stores.now c.loop-b.b ≡ Some (get_or c.args.stores.now c.loop-b.b c.index-stores-b.result) = slice_get-get_or c.args.stores.now c.loop-b.b c.index-stores-b.result low in
    let was : slice_get c.loop-b.bricks.items c.loop-b.b ≡ Some c.index_mut.result.now = slice_get_read c.loop-b.bricks.items (length c.loop-b.bricks.items) c.loop-b.b c.index_mut.result.now refl (omega (arith, low, c.requires.many, c.loop-b.invariant.many)) c.index_mut.ensures.value in
    record {
      tells = tells_rooted g.S.BrickStore.told g.S.BrickStore.records c.args.config c.args.stores.now c.loop-b.stores c.loop-b.bricks.items c.loop-b.b (get_or c.loop-b.stores c.loop-b.b c.index-stores-b.result) c.put_root.new.store (get_or c.args.stores.now c.loop-b.b c.index-stores-b.result) c.index_mut.result.now c.put_root.new.self is start was c.loop-b.invariant.tells c.put_root.ensures.does.tells c.put_root.ensures.same c.put_root.ensures.index c.in-Ok.ensures.does.ok;
      many = length-set c.loop-b.bricks.items c.loop-b.b c.put_root.new.self ∙ c.loop-b.invariant.many;
      opened = opened_rooted g.S.BrickStore.told g.S.BrickStore.records c.args.config c.args.stores.now c.loop-b.stores c.loop-b.bricks.items c.loop-b.b (get_or c.loop-b.stores c.loop-b.b c.index-stores-b.result) c.put_root.new.store (get_or c.args.stores.now c.loop-b.b c.index-stores-b.result) c.index_mut.result.now c.put_root.new.self is start was c.loop-b.invariant.tells c.put_root.ensures.does.tells c.put_root.ensures.same c.put_root.ensures.index c.in-Ok.ensures.does.ok c.loop-b.invariant.opened;
      roots = λ told. roots_more g.S.BrickStore.told g.S.BrickStore.records c.args.config c.args.stores.now c.loop-b.stores c.loop-b.bricks.items c.loop-b.b (get_or c.loop-b.stores c.loop-b.b c.index-stores-b.result) c.put_root.new.store (get_or c.args.stores.now c.loop-b.b c.index-stores-b.result) c.index_mut.result.now c.put_root.new.self is start was c.loop-b.invariant.tells c.put_root.ensures.does.tells c.put_root.ensures.same c.put_root.ensures.index c.in-Ok.ensures.does.ok c.loop-b.invariant.opened told (c.loop-b.invariant.roots told);
      rest = rest_more g.S.BrickStore.faults c.args.stores.now c.loop-b.stores c.loop-b.b (get_or c.loop-b.stores c.loop-b.b c.index-stores-b.result) c.put_root.new.store is c.loop-b.invariant.rest;
      later = later_more g.S.BrickStore.faults c.args.stores.now c.loop-b.stores c.loop-b.b (get_or c.loop-b.stores c.loop-b.b c.index-stores-b.result) c.put_root.new.store is c.put_root.ensures.cause.later c.loop-b.invariant.later;
    }

pub returns-in-Err-clause-part : goal.returns-in-Err-clause-part
returns-in-Err-clause-part g c =
    let n : length c.loop-b.stores ≡ length c.args.stores.now = c.loop-b.auto.stores in
    let low : c.loop-b.b < length c.args.stores.now = c.loop-b-test.true in
    let lt : c.loop-b.b < length c.loop-b.stores = omega (arith, n, low) in
    let is : slice_get c.loop-b.stores c.loop-b.b ≡ Some (get_or c.loop-b.stores c.loop-b.b c.index-stores-b.result) = slice_get-get_or c.loop-b.stores c.loop-b.b c.index-stores-b.result lt in
    roots_kept g.S.BrickStore.told g.S.BrickStore.records c.args.config c.args.stores.now c.loop-b.stores c.loop-b.b (get_or c.loop-b.stores c.loop-b.b c.index-stores-b.result) c.put_root.new.store is c.loop-b.invariant.tells c.in-Err.ensures.does.err c.loop-b.invariant.roots

pub returns-in-Err-clause-cause : goal.returns-in-Err-clause-cause
returns-in-Err-clause-cause g c =
    let n : length c.loop-b.stores ≡ length c.args.stores.now = c.loop-b.auto.stores in
    let low : c.loop-b.b < length c.args.stores.now = c.loop-b-test.true in
    let lt : c.loop-b.b < length c.loop-b.stores = omega (arith, n, low) in
    let is : slice_get c.loop-b.stores c.loop-b.b ≡ Some (get_or c.loop-b.stores c.loop-b.b c.index-stores-b.result) = slice_get-get_or c.loop-b.stores c.loop-b.b c.index-stores-b.result lt in
    risen g.S.BrickStore.faults c.args.stores.now c.loop-b.stores c.loop-b.b (get_or c.loop-b.stores c.loop-b.b c.index-stores-b.result) c.put_root.new.store is c.in-Err.e c.loop-b.invariant.rest c.in-Err.ensures.cause.rose

pub returns-in-Err-clause-later : goal.returns-in-Err-clause-later
returns-in-Err-clause-later g c =
    let n : length c.loop-b.stores ≡ length c.args.stores.now = c.loop-b.auto.stores in
    let low : c.loop-b.b < length c.args.stores.now = c.loop-b-test.true in
    let lt : c.loop-b.b < length c.loop-b.stores = omega (arith, n, low) in
    let is : slice_get c.loop-b.stores c.loop-b.b ≡ Some (get_or c.loop-b.stores c.loop-b.b c.index-stores-b.result) = slice_get-get_or c.loop-b.stores c.loop-b.b c.index-stores-b.result lt in
    later_more g.S.BrickStore.faults c.args.stores.now c.loop-b.stores c.loop-b.b (get_or c.loop-b.stores c.loop-b.b c.index-stores-b.result) c.put_root.new.store is c.put_root.ensures.cause.later c.loop-b.invariant.later
