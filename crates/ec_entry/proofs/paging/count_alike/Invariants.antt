use Rattle.std.proofs.Common.{◌≡◌, ◌≤◌}
use Rattle.ec_attr.specs.Bricks.{count_below}
use Rattle.ec_entry.specs.Named.{says}
use Rattle.ec_entry.specs.Paging.{paged, said_of}
use Rattle.ec_txn.specs.Replies.{reply_at}
use Rattle.ec_entry.proofs.paging.count_alike.Given as goal

abbrev pub invariant-loop-brick : goal.invariant-loop-brick
invariant-loop-brick l = record {
  counted : l.count ≡ count_below l.brick (λ x. says l.value (said_of (paged l.bricks (reply_at l.known.replies.items.items)) l.name x));
  few : l.count ≤ l.brick;
}
