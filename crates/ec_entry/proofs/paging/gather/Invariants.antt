use Rattle.std.proofs.Common.{take, option_copied}
use Rattle.std.specs.BTreeMap.{get}
use Rattle.std.specs.Cmp.Lexicographic.{slice_cmp}
use Rattle.std.specs.Ordering.{nat_cmp}
use Rattle.ec_entry.specs.Paging.{Gathers, paged}
use Rattle.ec_txn.specs.Replies.{reply_at}
use Rattle.ec_entry.proofs.paging.gather.Given as goal

abbrev pub invariant-loop-name : goal.invariant-loop-name
invariant-loop-name l = Gathers l.k (paged l.bricks (reply_at l.known.replies.items.items)) (option_copied l.after) (option_copied l.upto) (take l.name-index l.name-items) (get (slice_cmp nat_cmp) l.initial.names) (get (slice_cmp nat_cmp) l.names)
