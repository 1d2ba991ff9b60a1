use Rattle.std.proofs.Common.{◌≡◌, ◌≤◌}
use Rattle.ec_attr.specs.Bricks.{count_below}
use Rattle.ec_txn.specs.Digest.{place_at}
use Rattle.ec_txn.specs.Replies.{reply_at}
use Rattle.ec_write.specs.Stripes.{gave}
use Rattle.ec_write.proofs.old.count_gave.Given as goal

abbrev pub invariant-loop-brick : goal.invariant-loop-brick
invariant-loop-brick l = record {
  counted : l.count ≡ count_below l.brick (gave l.reading (place_at l.known.places.items) (reply_at l.known.replies.items.items));
  few : l.count ≤ l.brick;
}
