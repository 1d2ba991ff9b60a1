use Rattle.std.proofs.Common.{◌≡◌, ℕ, ◌<◌, ◌≤◌, min, true}
use Rattle.ec_attr.specs.Bricks.{count_below, is_in}
use Rattle.ec_txn.specs.Digest.{place_at}
use Rattle.ec_write.specs.Stripes.{gave}
use Rattle.ec_txn.specs.Replies.{reply_at}
use Rattle.ec_write.proofs.old.givers.Given as goal

abbrev pub invariant-loop-brick : goal.invariant-loop-brick
invariant-loop-brick l = record {
  done : (x : ℕ) → is_in l.bricks x ≡ true → gave l.reading (place_at l.known.places.items) (reply_at l.known.replies.items.items) x ≡ true;
  below : (x : ℕ) → is_in l.bricks x ≡ true → x < l.brick;
  counted : l.count ≡ count_below 31 (is_in l.bricks);
  most : l.count ≡ min l.k (count_below l.brick (gave l.reading (place_at l.known.places.items) (reply_at l.known.replies.items.items)));
  few : l.count ≤ l.brick;
}
