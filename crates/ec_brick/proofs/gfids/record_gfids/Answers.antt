use Rattle.std.proofs.Common.{rules, ◌≡◌, true, is_some, Some, [], ◌∷◌, ◌++◌}
use Rattle.ec_brick.specs.Gfids.{IsNextGfid, is_above}
use Rattle.ec_brick.proofs.GfidPages.{filled_more, page_with}
use Rattle.ec_brick.proofs.gfids.record_gfids.Goals as goal

pub loop-preserved : goal.loop-preserved
loop-preserved g c =
    let records = g.S.BrickStore.records in
    let told = g.S.BrickStore.told in
    let inv = c.loop.invariant in
    let pushed : c.push.new.self ≡ c.loop.list ++ c.in-Some.g ∷ [] = search rules in
    let above : is_above c.loop.last c.in-Some.g.0 ≡ true = search rules in
    let next : told c.args.store.now ≡ true → IsNextGfid (λ q. is_some (records c.args.store.now q)) c.loop.last (Some c.in-Some.g) = search rules in
    let more = filled_more c.args.after c.loop.last (λ q. is_some (records c.args.store.now q)) _ _ c.in-Some.g c.loop.counter pushed inv.3 inv.4 above inv.5 in
    (search rules, search rules, search rules, more.0, more.1, more.2, λ t. page_with c.args.after c.loop.last (λ q. is_some (records c.args.store.now q)) _ _ c.in-Some.g pushed inv.4 (inv.6 t) (next t))
