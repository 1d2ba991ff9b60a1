use Rattle.std.proofs.Common.{◌≡◌, ◌≤◌, ◌+◌, List, ℕ, length, take}
use Rattle.ec_volfile.proofs.section.subvolumes_of.Given as goal
use Rattle.ec_volfile.proofs.Names.{IsFront}

abbrev pub invariant-loop-rest : goal.invariant-loop-rest
invariant-loop-rest l = (front : List (List ℕ)) × IsFront l.args front l.rest × (l.count ≡ length front) × (l.names ≡ take 31 front) × (l.count + length l.rest ≤ length l.args)

abbrev pub decreases-loop-rest : goal.decreases-loop-rest
decreases-loop-rest l = length l.rest
