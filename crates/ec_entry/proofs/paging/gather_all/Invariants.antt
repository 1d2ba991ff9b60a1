use Rattle.std.proofs.Common.{option_copied}
use Rattle.std.specs.BTreeMap.{get}
use Rattle.std.specs.Cmp.Lexicographic.{slice_cmp}
use Rattle.std.specs.Ordering.{nat_cmp}
use Rattle.ec_entry.specs.Paging.{GathersBelow, paged}
use Rattle.ec_txn.specs.Replies.{reply_at}
use Rattle.ec_entry.proofs.paging.gather_all.Given as goal

abbrev pub invariant-loop-brick : goal.invariant-loop-brick
invariant-loop-brick l = GathersBelow l.k l.brick (paged l.bricks (reply_at l.known.replies.items.items)) (option_copied l.after) (option_copied l.upto) (get (slice_cmp nat_cmp) l.names)
