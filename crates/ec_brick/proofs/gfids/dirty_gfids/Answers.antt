use Rattle.ec_index.specs.Members.{members}
use Rattle.ec_brick.proofs.GfidPages.{filled_more, page_with}
use Rattle.ec_brick.proofs.gfids.dirty_gfids.Goals as goal

pub loop-preserved : goal.loop-preserved
loop-preserved c =
    let inv = c.loop.invariant in
    let pushed = c.in_ok-push-in-Some.ensures.ok in
    let next = c.in-Some.ensures in
    let more = filled_more c.args.after c.loop.last (members c.args.index.now) _ _ c.in-Some.g c.loop.counter pushed inv.0 inv.1 next.0 inv.2 in
    (more.0, more.1, more.2, page_with c.args.after c.loop.last (members c.args.index.now) _ _ c.in-Some.g pushed inv.1 inv.3 next)
