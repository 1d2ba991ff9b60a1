use Rattle.ec_brick.specs.Walk.{gfids_left}
use Rattle.ec_index.specs.Members.{members}
use Rattle.ec_report.proofs.Lists.{IsStart}
use Rattle.ec_report.proofs.found.list_of.Given as goal

abbrev pub invariant-loop-next : goal.invariant-loop-next
invariant-loop-next l = IsStart (members l.index) l.list.items l.next

abbrev pub decreases-loop-next : goal.decreases-loop-next
decreases-loop-next l = gfids_left l.next
