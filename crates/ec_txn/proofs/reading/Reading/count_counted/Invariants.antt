use Rattle.std.proofs.Common.{◌≡◌, ◌≤◌}
use Rattle.ec_attr.specs.Bricks.{count_below}
use Rattle.ec_txn.specs.Digest.{place_at}
use Rattle.ec_txn.specs.ReadPhase.{is_counted, is_done, is_left}
use Rattle.ec_txn.specs.Replies.{reply_at}
use Rattle.ec_txn.proofs.reading.Reading.count_counted.Given as goal
use Rattle.ec_answers.specs.Choice.{up_from}

abbrev pub invariant-loop-brick : goal.invariant-loop-brick
invariant-loop-brick l = record {
  counted : l.count ≡ count_below l.brick (is_counted l.self (place_at l.known.places.items) (reply_at l.known.replies.items.items));
  few : l.count ≤ l.brick;
}
