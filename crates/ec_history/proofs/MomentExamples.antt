-- The worked examples of moments compute.
use Rattle.std.specs.Prelude.{refl}
use Rattle.ec_attr.specs.Bricks as Bricks
use Rattle.ec_history.specs.MomentExamples.{MomentOfCalls}

pub moment_of_calls : MomentOfCalls
unfolding Bricks.count_below
moment_of_calls = record { last_granted = refl; asks_nobody = refl; asks = refl; since_read = refl; before_moment = refl }
