-- The cluster stays sound.
use Rattle.std.proofs.Common.{◌≡◌}
use Rattle.ec_cluster.proofs.tests.runs.play.Given as goal
use Rattle.ec_cluster.specs.Sound.{IsSound}
use Rattle.ec_cluster.specs.Views.{size_of}

abbrev pub invariant-loop-step : goal.invariant-loop-step
invariant-loop-step g l = IsSound l.cluster × (size_of l.cluster ≡ 3)
