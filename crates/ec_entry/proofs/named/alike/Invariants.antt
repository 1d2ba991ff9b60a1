use Rattle.std.proofs.Common.{◌≡◌, ℕ, ◌<◌, Some}
use Rattle.ec_entry.specs.Named.{Value, count_of, said}
use Rattle.ec_txn.specs.Replies.{reply_at}
use Rattle.ec_entry.proofs.named.alike.Given as goal

abbrev pub invariant-loop-brick : goal.invariant-loop-brick
invariant-loop-brick l = (x : ℕ) (v : Value) → x < l.brick → said l.bricks (reply_at l.known.replies.items.items) x ≡ Some v → count_of (said l.bricks (reply_at l.known.replies.items.items)) v < l.k
