use Rattle.std.proofs.Common.{◌≡◌, length}
use Rattle.ec_attr.specs.Bricks.{count_below, is_in}
use Rattle.ec_txn.specs.Replies.{reply_at}
use Rattle.ec_write.proofs.Gathered.{AreGathered}
use Rattle.ec_write.proofs.old.gather.Given as goal

abbrev pub invariant-loop-brick : goal.invariant-loop-brick
invariant-loop-brick l = record {
  count : l.count ≡ count_below l.brick (is_in l.which);
  len : length l.pieces ≡ length l.initial.pieces;
  done : AreGathered l.brick (is_in l.which) (reply_at l.known.replies.items.items) l.pieces;
}
