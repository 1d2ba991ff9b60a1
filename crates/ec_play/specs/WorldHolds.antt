-- The stores of a world that is as a net says hold what the net says.
use Rattle.std.proofs.Common.{ℕ, List, [], subst}
use Rattle.ec_calls.specs.declared.any.AnyCall.{AnyCall}
use Rattle.ec_cluster.proofs.Waiters.{stands}
use Rattle.ec_cluster.specs.Matches.{StandsAs}
use Rattle.ec_cluster.specs.Views.{bricks_of, flight, log_of, next_of}
use Rattle.ec_conduct.specs.Given.{Given}
use Rattle.ec_conduct.specs.Own.{Own}
use Rattle.ec_history.specs.Run.{Net}
use Rattle.ec_play.specs.World.{StandsIn}
use Rattle.ec_store.specs.Records.{Records}
use Rattle.ec_txn.specs.declared.ctx.Ctx.{Ctx}
use Rattle.ec_world.specs.declared.world.World.{World}

pub world_holds : (calls : Ctx → Given → AnyCall → List Own → Type 0) (by_table : Ctx → Given → List Own → Type 0) (w : World) (records : List Records) (m : Net) → StandsIn calls by_table w records m → StandsAs w.bricks records m
world_holds calls by_table w records m at =
    subst (λ (n : ℕ). StandsAs n records m) at.size (stands (bricks_of w.cluster) (flight w.cluster) (next_of w.cluster) (log_of w.cluster) records [] m at.is_as.matches)
