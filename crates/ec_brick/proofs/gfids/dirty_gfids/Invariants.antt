use Rattle.std.proofs.Common.{◌≡◌, true, length}
use Rattle.ec_index.specs.Members.{members}
use Rattle.ec_brick.specs.Gfids.{IsPageStart, gfids_rise, last_gfid}
use Rattle.ec_brick.proofs.gfids.dirty_gfids.Given as goal

abbrev pub invariant-loop : goal.invariant-loop
invariant-loop l = (length l.list ≡ l.counter) × (l.last ≡ last_gfid l.fn.after l.list) × (gfids_rise l.fn.after l.list ≡ true) × IsPageStart l.fn.after (members l.index) l.list
