use Rattle.ec_entry.specs.Paging.{IsLeast, end_in, paged}
use Rattle.ec_txn.specs.Replies.{reply_at}
use Rattle.ec_entry.proofs.paging.upto.Given as goal

abbrev pub invariant-loop-brick : goal.invariant-loop-brick
invariant-loop-brick l = IsLeast l.brick (λ x. end_in (paged l.bricks (reply_at l.known.replies.items.items) x)) l.least
