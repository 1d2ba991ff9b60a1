-- No lower client waits in vain.
use Rattle.std.proofs.Common.{◌<◌, ℕ}
use Rattle.ec_world.specs.Resting.{IsFreeOf}
use Rattle.ec_world.proofs.settling.first_stuck.Given as goal

abbrev pub invariant-loop-client : goal.invariant-loop-client
invariant-loop-client g l = (j : ℕ) → j < l.client → IsFreeOf g.C.Conduct.stands l.cluster l.clients j
