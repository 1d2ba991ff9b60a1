use Rattle.std.proofs.Common.{◌≡◌, ℕ, ◌<◌, false}
use Rattle.ec_entry.specs.Named.{differs, said}
use Rattle.ec_txn.specs.Replies.{reply_at}
use Rattle.ec_entry.proofs.named.other.Given as goal

abbrev pub invariant-loop-brick : goal.invariant-loop-brick
invariant-loop-brick l = (z : ℕ) → z < l.brick → differs l.first (said l.bricks (reply_at l.known.replies.items.items) z) ≡ false
