use Rattle.std.proofs.Common.{◌≡◌, ℕ, ◌<◌, Some}
use Rattle.ec_entry.specs.Named.{Value, count_of}
use Rattle.ec_entry.specs.Paging.{paged, said_of}
use Rattle.ec_txn.specs.Replies.{reply_at}
use Rattle.ec_entry.proofs.paging.alike.Given as goal

abbrev pub invariant-loop-brick : goal.invariant-loop-brick
invariant-loop-brick l = (x : ℕ) (v : Value) → x < l.brick → said_of (paged l.bricks (reply_at l.known.replies.items.items)) l.name x ≡ Some v → count_of (said_of (paged l.bricks (reply_at l.known.replies.items.items)) l.name) v < l.k
