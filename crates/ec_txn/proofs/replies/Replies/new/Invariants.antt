use Rattle.std.proofs.Common.{◌≡◌, ℕ, None, length}
use Rattle.ec_txn.specs.Replies.{reply_at}
use Rattle.ec_txn.proofs.replies.Replies.new.Given as goal

abbrev pub invariant-loop : goal.invariant-loop
invariant-loop l = record { len : length l.items.items ≡ l.counter; none : (x : ℕ) → reply_at l.items.items x ≡ None }
