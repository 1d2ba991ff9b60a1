use Rattle.std.proofs.Common.{◌≡◌, ℕ, cond, nat_lt, get_or, None, length}
use Rattle.ec_txn.specs.Digest.{place_at}
use Rattle.ec_txn.proofs.opening.answers.Given as goal

abbrev pub invariant-loop-brick : goal.invariant-loop-brick
invariant-loop-brick l = record {
  len : length l.given ≡ 31;
  each : (x : ℕ) → get_or l.given x None ≡ cond (nat_lt x l.brick) (place_at l.known.places.items x).given None;
}
