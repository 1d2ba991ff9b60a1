-- No lower brick is waited for in vain.
use Rattle.ec_world.specs.Resting.{IsFreeBelow}
use Rattle.ec_world.proofs.settling.stuck_brick.Given as goal

abbrev pub invariant-loop-brick : goal.invariant-loop-brick
invariant-loop-brick g l = IsFreeBelow g.C.Conduct.stands l.cluster l.clients l.brick l.client
