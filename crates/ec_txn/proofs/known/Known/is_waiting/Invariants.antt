use Rattle.std.proofs.Common.{◌≡◌}
use Rattle.ec_txn.specs.Digest.{any_waits}
use Rattle.ec_txn.proofs.known.Known.is_waiting.Given as goal

abbrev pub invariant-loop-brick : goal.invariant-loop-brick
invariant-loop-brick l = l.waits ≡ any_waits l.self.places.items l.brick
