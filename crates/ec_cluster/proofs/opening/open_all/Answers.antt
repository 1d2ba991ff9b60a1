-- One store more.
use Rattle.std.proofs.Common.{◌≡◌, ◌&&◌, ◌+◌, ap, map, true, List, ◌<◌, ◌∙◌, Some, [], ◌∷◌, ◌++◌, length, get_or, subst, sym, arith, length-append}
use Rattle.std.proofs.lemmas.Option.{slice_get-get_or}
use Rattle.std.specs.Prelude.{slice_get}
use Rattle.std.specs.List.{list_all}
use Rattle.std.specs.Option.{is_none}
use Rattle.ec_brick.specs.declared.brick.Brick.{Brick}
use Rattle.ec_cluster.specs.Open.{AreAccepted, AreOpened, IsAfterTaken, TellsUnused}
use Rattle.ec_cluster.proofs.Opened.{accepted_one, after_one, fault_one, next_one, opened_one, pushed, same_more, tells_more, unused_one}
use Rattle.ec_cluster.proofs.Risen.{later_more, rest_more, risen}
use Rattle.ec_cluster.proofs.Unused.{none_is}
use Rattle.ec_cluster.proofs.opening.open_all.Goals as goal
use Rattle.ec_cluster.proofs.opening.open_all.Goals.{then-unused, else-unused}

pub returns-in-Err-clause-tells : goal.returns-in-Err-clause-tells
returns-in-Err-clause-tells g c =
    let n : length c.loop-b.stores ≡ length c.args.stores.now = c.loop-b.auto.stores in
    let low : c.loop-b.b < length c.args.stores.now = c.loop-b-test.true in
    let lt : c.loop-b.b < length c.loop-b.stores = omega (arith, n, low) in
    let is : slice_get c.loop-b.stores c.loop-b.b ≡ Some (get_or c.loop-b.stores c.loop-b.b c.index-stores-b.result) = slice_get-get_or c.loop-b.stores c.loop-b.b c.index-stores-b.result lt in
    let was : slice_get c.args.stores.now c.loop-b.b ≡ Some (get_or c.args.stores.now c.loop-b.b c.index-stores-b.result) = slice_get-get_or c.args.stores.now c.loop-b.b c.index-stores-b.result low in
    tells_more g.S.BrickStore.told g.S.BrickStore.records c.args.config c.args.stores.now c.loop-b.stores c.loop-b.b (get_or c.loop-b.stores c.loop-b.b c.index-stores-b.result) c.open_brick.new.store (get_or c.args.stores.now c.loop-b.b c.index-stores-b.result) is was c.loop-b.invariant.tells c.loop-b.invariant.same c.open_brick.ensures.tells c.open_brick.ensures.same

pub returns-in-Err-clause-same : goal.returns-in-Err-clause-same
returns-in-Err-clause-same g c =
    let n : length c.loop-b.stores ≡ length c.args.stores.now = c.loop-b.auto.stores in
    let low : c.loop-b.b < length c.args.stores.now = c.loop-b-test.true in
    let lt : c.loop-b.b < length c.loop-b.stores = omega (arith, n, low) in
    let is : slice_get c.loop-b.stores c.loop-b.b ≡ Some (get_or c.loop-b.stores c.loop-b.b c.index-stores-b.result) = slice_get-get_or c.loop-b.stores c.loop-b.b c.index-stores-b.result lt in
    let was : slice_get c.args.stores.now c.loop-b.b ≡ Some (get_or c.args.stores.now c.loop-b.b c.index-stores-b.result) = slice_get-get_or c.args.stores.now c.loop-b.b c.index-stores-b.result low in
    same_more g.S.BrickStore.told g.S.BrickStore.records c.args.config c.args.stores.now c.loop-b.stores c.loop-b.b (get_or c.loop-b.stores c.loop-b.b c.index-stores-b.result) c.open_brick.new.store (get_or c.args.stores.now c.loop-b.b c.index-stores-b.result) is was c.loop-b.invariant.tells c.loop-b.invariant.same c.open_brick.ensures.tells c.open_brick.ensures.same

pub returns-then-is_err-clause-tells : goal.returns-then-is_err-clause-tells
returns-then-is_err-clause-tells g c =
    let n : length c.loop-b.stores ≡ length c.args.stores.now = c.loop-b.auto.stores in
    let low : c.loop-b.b < length c.args.stores.now = c.loop-b-test.true in
    let lt : c.loop-b.b < length c.loop-b.stores = omega (arith, n, low) in
    let is : slice_get c.loop-b.stores c.loop-b.b ≡ Some (get_or c.loop-b.stores c.loop-b.b c.index-stores-b.result) = slice_get-get_or c.loop-b.stores c.loop-b.b c.index-stores-b.result lt in
    let was : slice_get c.args.stores.now c.loop-b.b ≡ Some (get_or c.args.stores.now c.loop-b.b c.index-stores-b.result) = slice_get-get_or c.args.stores.now c.loop-b.b c.index-stores-b.result low in
    tells_more g.S.BrickStore.told g.S.BrickStore.records c.args.config c.args.stores.now c.loop-b.stores c.loop-b.b (get_or c.loop-b.stores c.loop-b.b c.index-stores-b.result) c.open_brick.new.store (get_or c.args.stores.now c.loop-b.b c.index-stores-b.result) is was c.loop-b.invariant.tells c.loop-b.invariant.same c.open_brick.ensures.tells c.open_brick.ensures.same

pub returns-then-is_err-clause-same : goal.returns-then-is_err-clause-same
returns-then-is_err-clause-same g c =
    let n : length c.loop-b.stores ≡ length c.args.stores.now = c.loop-b.auto.stores in
    let low : c.loop-b.b < length c.args.stores.now = c.loop-b-test.true in
    let lt : c.loop-b.b < length c.loop-b.stores = omega (arith, n, low) in
    let is : slice_get c.loop-b.stores c.loop-b.b ≡ Some (get_or c.loop-b.stores c.loop-b.b c.index-stores-b.result) = slice_get-get_or c.loop-b.stores c.loop-b.b c.index-stores-b.result lt in
    let was : slice_get c.args.stores.now c.loop-b.b ≡ Some (get_or c.args.stores.now c.loop-b.b c.index-stores-b.result) = slice_get-get_or c.args.stores.now c.loop-b.b c.index-stores-b.result low in
    same_more g.S.BrickStore.told g.S.BrickStore.records c.args.config c.args.stores.now c.loop-b.stores c.loop-b.b (get_or c.loop-b.stores c.loop-b.b c.index-stores-b.result) c.open_brick.new.store (get_or c.args.stores.now c.loop-b.b c.index-stores-b.result) is was c.loop-b.invariant.tells c.loop-b.invariant.same c.open_brick.ensures.tells c.open_brick.ensures.same

pub loop-b-preserved : goal.loop-b-preserved
loop-b-preserved g c =
    let n : length c.loop-b.stores ≡ length c.args.stores.now = c.loop-b.auto.stores in
    let low : c.loop-b.b < length c.args.stores.now = c.loop-b-test.true in
    let lt : c.loop-b.b < length c.loop-b.stores = omega (arith, n, low) in
    let is : slice_get c.loop-b.stores c.loop-b.b ≡ Some (get_or c.loop-b.stores c.loop-b.b c.index-stores-b.result) = slice_get-get_or c.loop-b.stores c.loop-b.b c.index-stores-b.result lt in
    let was : slice_get c.args.stores.now c.loop-b.b ≡ Some (get_or c.args.stores.now c.loop-b.b c.index-stores-b.result) = slice_get-get_or c.args.stores.now c.loop-b.b c.index-stores-b.result low in
    let items : c.push.new.self.items ≡ c.loop-b.bricks.items ++ c.in-Ok.opened.brick ∷ [] = pushed c.push.result _ _ _ c.push.ensures.items (sym c.is_err.ensures.value ∙ c.if-is_err.false) in
    let flag : c.if-unused.unused ≡ (c.loop-b.unused && is_none c.in-Ok.opened.last) = elim c.if-unused.branch [ then-unused w ↦ w.unused-is ∙ (none_is c.in-Ok.opened.last w.is_none-unused.result w.is_none-unused.ensures ∙ ap (λ b. b && is_none c.in-Ok.opened.last) (sym w.if-unused.true)) | else-unused w ↦ w.unused-is ∙ (w.if-unused.false ∙ ap (λ b. b && is_none c.in-Ok.opened.last) (sym w.if-unused.false)) ] in
    record {
      tells = tells_more g.S.BrickStore.told g.S.BrickStore.records c.args.config c.args.stores.now c.loop-b.stores c.loop-b.b (get_or c.loop-b.stores c.loop-b.b c.index-stores-b.result) c.open_brick.new.store (get_or c.args.stores.now c.loop-b.b c.index-stores-b.result) is was c.loop-b.invariant.tells c.loop-b.invariant.same c.open_brick.ensures.tells c.open_brick.ensures.same;
      same = same_more g.S.BrickStore.told g.S.BrickStore.records c.args.config c.args.stores.now c.loop-b.stores c.loop-b.b (get_or c.loop-b.stores c.loop-b.b c.index-stores-b.result) c.open_brick.new.store (get_or c.args.stores.now c.loop-b.b c.index-stores-b.result) is was c.loop-b.invariant.tells c.loop-b.invariant.same c.open_brick.ensures.tells c.open_brick.ensures.same;
      many = omega (arith, ap (λ (l : List Brick). length l) items, length-append c.loop-b.bricks.items (c.in-Ok.opened.brick ∷ []), c.loop-b.invariant.many);
      opened = subst (λ (l : List Brick). AreOpened (list_all g.S.BrickStore.told c.args.stores.now ≡ true) c.args.config l (map g.S.BrickStore.records c.args.stores.now)) (sym items) (opened_one g.S.BrickStore.told g.S.BrickStore.records c.args.config c.args.stores.now c.loop-b.stores c.loop-b.b (get_or c.loop-b.stores c.loop-b.b c.index-stores-b.result) c.open_brick.new.store (get_or c.args.stores.now c.loop-b.b c.index-stores-b.result) is was c.loop-b.invariant.tells c.loop-b.invariant.same c.open_brick.ensures.tells c.open_brick.ensures.same c.loop-b.bricks.items c.in-Ok.opened.brick c.loop-b.invariant.many c.loop-b.invariant.opened c.in-Ok.ensures.opened c.in-Ok.ensures.index);
      next = next_one g.S.BrickStore.told g.S.BrickStore.records c.args.config c.args.stores.now c.loop-b.stores c.loop-b.b (get_or c.loop-b.stores c.loop-b.b c.index-stores-b.result) c.open_brick.new.store (get_or c.args.stores.now c.loop-b.b c.index-stores-b.result) is was c.loop-b.invariant.tells c.loop-b.invariant.same c.open_brick.ensures.tells c.open_brick.ensures.same c.loop-b.next c.next_after-next.result c.in-Ok.opened.last c.loop-b.invariant.next c.next_after-next.ensures.grows c.next_after-next.ensures.most c.next_after-next.ensures.above c.in-Ok.ensures.last;
      after = after_one g.S.BrickStore.told g.S.BrickStore.records c.args.config c.args.stores.now c.loop-b.stores c.loop-b.b (get_or c.loop-b.stores c.loop-b.b c.index-stores-b.result) c.open_brick.new.store (get_or c.args.stores.now c.loop-b.b c.index-stores-b.result) is was c.loop-b.invariant.tells c.loop-b.invariant.same c.open_brick.ensures.tells c.open_brick.ensures.same c.loop-b.next c.next_after-next.result c.in-Ok.opened.last c.in-Ok.ensures.last c.next_after-next.ensures.none c.next_after-next.ensures.least c.loop-b.invariant.after;
      unused = λ told. subst (TellsUnused c.args.config (c.loop-b.b + 1) (map g.S.BrickStore.records c.args.stores.now)) (sym flag) (unused_one g.S.BrickStore.told g.S.BrickStore.records c.args.config c.args.stores.now c.loop-b.stores c.loop-b.b (get_or c.loop-b.stores c.loop-b.b c.index-stores-b.result) c.open_brick.new.store (get_or c.args.stores.now c.loop-b.b c.index-stores-b.result) is was c.loop-b.invariant.tells c.loop-b.invariant.same c.open_brick.ensures.tells c.open_brick.ensures.same c.loop-b.unused c.in-Ok.opened.last c.in-Ok.ensures.last c.loop-b.invariant.unused told);
      accepted = accepted_one g.S.BrickStore.told g.S.BrickStore.records c.args.config c.args.stores.now c.loop-b.stores c.loop-b.b (get_or c.loop-b.stores c.loop-b.b c.index-stores-b.result) c.open_brick.new.store (get_or c.args.stores.now c.loop-b.b c.index-stores-b.result) is was c.loop-b.invariant.tells c.loop-b.invariant.same c.open_brick.ensures.tells c.open_brick.ensures.same c.in-Ok.ensures.accepts c.loop-b.invariant.accepted;
      rest = rest_more g.S.BrickStore.faults c.args.stores.now c.loop-b.stores c.loop-b.b (get_or c.loop-b.stores c.loop-b.b c.index-stores-b.result) c.open_brick.new.store is c.loop-b.invariant.rest;
      later = later_more g.S.BrickStore.faults c.args.stores.now c.loop-b.stores c.loop-b.b (get_or c.loop-b.stores c.loop-b.b c.index-stores-b.result) c.open_brick.new.store is c.open_brick.ensures.cause.later c.loop-b.invariant.later;
    }

pub returns-in-Err-clause-refused : goal.returns-in-Err-clause-refused
returns-in-Err-clause-refused g c =
    let n : length c.loop-b.stores ≡ length c.args.stores.now = c.loop-b.auto.stores in
    let low : c.loop-b.b < length c.args.stores.now = c.loop-b-test.true in
    let lt : c.loop-b.b < length c.loop-b.stores = omega (arith, n, low) in
    let is : slice_get c.loop-b.stores c.loop-b.b ≡ Some (get_or c.loop-b.stores c.loop-b.b c.index-stores-b.result) = slice_get-get_or c.loop-b.stores c.loop-b.b c.index-stores-b.result lt in
    let was : slice_get c.args.stores.now c.loop-b.b ≡ Some (get_or c.args.stores.now c.loop-b.b c.index-stores-b.result) = slice_get-get_or c.args.stores.now c.loop-b.b c.index-stores-b.result low in
    fault_one g.S.BrickStore.told g.S.BrickStore.records c.args.config c.args.stores.now c.loop-b.stores c.loop-b.b (get_or c.loop-b.stores c.loop-b.b c.index-stores-b.result) c.open_brick.new.store (get_or c.args.stores.now c.loop-b.b c.index-stores-b.result) is was c.loop-b.invariant.tells c.loop-b.invariant.same c.open_brick.ensures.tells c.open_brick.ensures.same c.in-Err.e c.in-Err.ensures.refused

pub returns-in-Err-clause-later : goal.returns-in-Err-clause-later
returns-in-Err-clause-later g c =
    let n : length c.loop-b.stores ≡ length c.args.stores.now = c.loop-b.auto.stores in
    let low : c.loop-b.b < length c.args.stores.now = c.loop-b-test.true in
    let lt : c.loop-b.b < length c.loop-b.stores = omega (arith, n, low) in
    let is : slice_get c.loop-b.stores c.loop-b.b ≡ Some (get_or c.loop-b.stores c.loop-b.b c.index-stores-b.result) = slice_get-get_or c.loop-b.stores c.loop-b.b c.index-stores-b.result lt in
    let was : slice_get c.args.stores.now c.loop-b.b ≡ Some (get_or c.args.stores.now c.loop-b.b c.index-stores-b.result) = slice_get-get_or c.args.stores.now c.loop-b.b c.index-stores-b.result low in
    later_more g.S.BrickStore.faults c.args.stores.now c.loop-b.stores c.loop-b.b (get_or c.loop-b.stores c.loop-b.b c.index-stores-b.result) c.open_brick.new.store is c.open_brick.ensures.cause.later c.loop-b.invariant.later

pub returns-in-Err-clause-cause : goal.returns-in-Err-clause-cause
returns-in-Err-clause-cause g c =
    let n : length c.loop-b.stores ≡ length c.args.stores.now = c.loop-b.auto.stores in
    let low : c.loop-b.b < length c.args.stores.now = c.loop-b-test.true in
    let lt : c.loop-b.b < length c.loop-b.stores = omega (arith, n, low) in
    let is : slice_get c.loop-b.stores c.loop-b.b ≡ Some (get_or c.loop-b.stores c.loop-b.b c.index-stores-b.result) = slice_get-get_or c.loop-b.stores c.loop-b.b c.index-stores-b.result lt in
    let was : slice_get c.args.stores.now c.loop-b.b ≡ Some (get_or c.args.stores.now c.loop-b.b c.index-stores-b.result) = slice_get-get_or c.args.stores.now c.loop-b.b c.index-stores-b.result low in
    risen g.S.BrickStore.faults c.args.stores.now c.loop-b.stores c.loop-b.b (get_or c.loop-b.stores c.loop-b.b c.index-stores-b.result) c.open_brick.new.store is c.in-Err.e c.loop-b.invariant.rest (c.in-Err.ensures.cause.rose)

pub returns-then-is_err-clause-later : goal.returns-then-is_err-clause-later
returns-then-is_err-clause-later g c =
    let n : length c.loop-b.stores ≡ length c.args.stores.now = c.loop-b.auto.stores in
    let low : c.loop-b.b < length c.args.stores.now = c.loop-b-test.true in
    let lt : c.loop-b.b < length c.loop-b.stores = omega (arith, n, low) in
    let is : slice_get c.loop-b.stores c.loop-b.b ≡ Some (get_or c.loop-b.stores c.loop-b.b c.index-stores-b.result) = slice_get-get_or c.loop-b.stores c.loop-b.b c.index-stores-b.result lt in
    let was : slice_get c.args.stores.now c.loop-b.b ≡ Some (get_or c.args.stores.now c.loop-b.b c.index-stores-b.result) = slice_get-get_or c.args.stores.now c.loop-b.b c.index-stores-b.result low in
    later_more g.S.BrickStore.faults c.args.stores.now c.loop-b.stores c.loop-b.b (get_or c.loop-b.stores c.loop-b.b c.index-stores-b.result) c.open_brick.new.store is c.open_brick.ensures.cause.later c.loop-b.invariant.later

pub returns-clause-after : goal.returns-clause-after
returns-clause-after g c = λ told. let e : c.loop-b.b ≡ length c.args.stores.now = omega (arith, c.loop-b-test.false, c.loop-b.auto.b-end) in subst (λ n. IsAfterTaken n (map g.S.BrickStore.records c.args.stores.now) c.loop-b.next) e (c.loop-b.invariant.after told)

pub returns-clause-accepted : goal.returns-clause-accepted
returns-clause-accepted g c = λ told. let e : c.loop-b.b ≡ length c.args.stores.now = omega (arith, c.loop-b-test.false, c.loop-b.auto.b-end) in subst (λ n. AreAccepted c.args.config n (map g.S.BrickStore.records c.args.stores.now)) e (c.loop-b.invariant.accepted told)
