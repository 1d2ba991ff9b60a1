use Rattle.std.proofs.Common.{◌≡◌, ◌≤◌}
use Rattle.ec_attr.specs.Bricks.{count_below}
use Rattle.ec_txn.specs.Digest.{is_locked, place_at}
use Rattle.ec_txn.proofs.opening.count_locks.Given as goal

abbrev pub invariant-loop-brick : goal.invariant-loop-brick
invariant-loop-brick l = record {
  counted : l.count ≡ count_below l.brick (λ x. is_locked (place_at l.known.places.items x).lock);
  few : l.count ≤ l.brick;
}
