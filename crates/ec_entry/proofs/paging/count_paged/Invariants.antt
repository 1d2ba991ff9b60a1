use Rattle.std.proofs.Common.{◌≡◌, ◌≤◌, is_some}
use Rattle.ec_attr.specs.Bricks.{count_below}
use Rattle.ec_entry.specs.Paging.{paged}
use Rattle.ec_txn.specs.Replies.{reply_at}
use Rattle.ec_entry.proofs.paging.count_paged.Given as goal

abbrev pub invariant-loop-brick : goal.invariant-loop-brick
invariant-loop-brick l = record {
  counted : l.count ≡ count_below l.brick (λ x. is_some (paged l.bricks (reply_at l.known.replies.items.items) x));
  few : l.count ≤ l.brick;
}
