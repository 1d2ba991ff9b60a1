use Rattle.std.proofs.Common.{◌≡◌, ℕ, ◌<◌, None}
use Rattle.ec_entry.specs.Named.{said}
use Rattle.ec_txn.specs.Replies.{reply_at}
use Rattle.ec_entry.proofs.named.lowest.Given as goal

abbrev pub invariant-loop-brick : goal.invariant-loop-brick
invariant-loop-brick l = (z : ℕ) → z < l.brick → said l.bricks (reply_at l.known.replies.items.items) z ≡ None
