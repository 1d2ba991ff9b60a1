use Rattle.std.proofs.Common.{List, ℕ, length}
use Rattle.ec_volfile.proofs.section.repeats.Given as goal
use Rattle.ec_volfile.proofs.Names.{IsFront, HasSeen}

abbrev pub invariant-loop-rest : goal.invariant-loop-rest
invariant-loop-rest l = (front : List (List ℕ)) × IsFront l.args front l.rest × HasSeen l.seen.keys front

abbrev pub decreases-loop-rest : goal.decreases-loop-rest
decreases-loop-rest l = length l.rest
