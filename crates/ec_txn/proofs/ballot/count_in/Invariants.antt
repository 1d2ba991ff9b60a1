use Rattle.std.proofs.Common.{◌≡◌, ◌≤◌, ◌&&◌}
use Rattle.std.specs.Prelude.{is_some}
use Rattle.ec_attr.specs.Bricks.{count_below, is_in}
use Rattle.ec_txn.specs.Ballot.{serving_by}
use Rattle.ec_txn.specs.Digest.{place_at}
use Rattle.ec_txn.proofs.ballot.count_in.Given as goal

abbrev pub invariant-loop-brick : goal.invariant-loop-brick
invariant-loop-brick l = record {
  counted : l.count ≡ count_below l.brick (λ x. is_in l.group.bricks x && is_some (serving_by (place_at l.known.places.items x)));
  few : l.count ≤ l.brick;
}
