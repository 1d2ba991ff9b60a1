use Rattle.std.proofs.Common.{◌≡◌, ℕ, ◌&&◌, nat_lt, is_some}
use Rattle.ec_attr.specs.Bricks.{is_in}
use Rattle.ec_txn.specs.Digest.{place_at}
use Rattle.ec_txn.proofs.known.Known.waiting.Given as goal

abbrev pub invariant-loop-brick : goal.invariant-loop-brick
invariant-loop-brick l = (b : ℕ) → is_in l.bricks b ≡ (nat_lt b l.brick && is_some (place_at l.self.places.items b).waits)
