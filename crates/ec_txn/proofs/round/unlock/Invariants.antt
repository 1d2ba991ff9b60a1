use Rattle.std.proofs.Common.{◌≡◌, ◌++◌}
use Rattle.ec_conduct.specs.Table.{to_bricks}
use Rattle.ec_txn.specs.Lists.{Extends, refused_at}
use Rattle.ec_txn.proofs.round.unlock.Given as goal

abbrev pub invariant-loop-brick : goal.invariant-loop-brick
invariant-loop-brick l = record {
  sends : l.sends ≡ l.fn.sends ++ to_bricks l.brick (refused_at l.gfid.0 l.known.places.items);
  within : Extends l.bricks l.brick l.fn.sends l.sends;
}
