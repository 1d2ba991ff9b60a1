use Rattle.std.proofs.Common.{sym, ◌∙◌}
use Rattle.ec_entry.specs.Named.{said}
use Rattle.ec_txn.specs.Replies.{reply_at}
use Rattle.ec_entry.proofs.Naming.{none_differs, one_more, same_differs}
use Rattle.ec_entry.proofs.named.other.Goals as goal
use Rattle.ec_entry.proofs.named.other.Goals.{in-Some+else-not-is_same, in_default}

pub loop-brick-preserved : goal.loop-brick-preserved
loop-brick-preserved c = one_more (said c.args.bricks.now (reply_at c.args.known.now.replies.items.items)) c.args.first c.loop-brick.brick c.loop-brick.invariant (elim c.match-said_by.branch [
  | in-Some+else-not-is_same w ↦ same_differs c.args.first w.in-Some.value (said c.args.bricks.now (reply_at c.args.known.now.replies.items.items) c.loop-brick.brick) (sym c.said_by.ensures ∙ w.in-Some.is) (sym w.is_same.ensures ∙ w.if-not-is_same.false)
  | in_default w ↦ none_differs c.args.first (said c.args.bricks.now (reply_at c.args.known.now.replies.items.items) c.loop-brick.brick) (sym c.said_by.ensures ∙ w.in_default.is)
])
