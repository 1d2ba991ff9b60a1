use Rattle.std.proofs.Common.{◌≡◌, ◌≤◌}
use Rattle.ec_attr.specs.Bricks.{count_below}
use Rattle.ec_txn.specs.Digest.{place_at}
use Rattle.ec_txn.specs.ReadPhase.{is_counted, is_done, is_left}
use Rattle.ec_txn.specs.Replies.{reply_at}
use Rattle.ec_txn.proofs.reading.Reading.count_before.Given as goal
use Rattle.ec_answers.specs.Choice.{up_from}

abbrev pub invariant-loop-step : goal.invariant-loop-step
invariant-loop-step l = record {
  counted : l.count ≡ count_below l.step (λ i. is_left l.self (place_at l.known.places.items) (up_from l.self.start i));
  few : l.count ≤ l.step;
}
