-- Settled calls in the log of a world.
use Rattle.std.specs.Prelude.{◌≡◌, ℕ, List, ◌∷◌, ◌++◌}
use Rattle.ec_attr.specs.declared.config.Config.{Config}
use Rattle.ec_brick.specs.State.{State}
use Rattle.ec_calls.specs.declared.any.AnyCall.{AnyCall}
use Rattle.ec_clients.specs.declared.clients.Clients.{Clients}
use Rattle.ec_cluster.specs.Views.{log_of}
use Rattle.ec_cluster.specs.declared.cluster.Cluster.{Cluster}
use Rattle.ec_conduct.specs.Given.{Given}
use Rattle.ec_conduct.specs.Own.{Own}
use Rattle.ec_history.specs.Flat.{Tree}
use Rattle.ec_history.specs.Run.{Net, fresh, run}
use Rattle.ec_history.specs.Script.{Step, entries_of}
use Rattle.ec_txn.specs.declared.ctx.Ctx.{Ctx}
use Rattle.ec_wire.specs.declared.entry.Entry.{Entry}
use Rattle.ec_wire.specs.declared.op.Op.{Op}
use Rattle.ec_law_calls.specs.World.{IsLogged}
use Rattle.ec_law_settled.specs.Settled.{IsSettledCall}

-- A law of the entries of each settled call in the log of every world that is as what has come of its log says, over whatever bricks;
-- `earlier` came before them, and `later` after.
abbrev pub OfEveryWorldsCall : (Ctx → Given → AnyCall → List Own → Type 0) → (Ctx → Given → List Own → Type 0) → (ℕ → Net → ℕ → List Entry → Type 0) → Type 0
OfEveryWorldsCall stands by_table law =
    (config : Config) (bricks : ℕ → State) (tree : Tree) (next : ℕ) (s : Cluster) (c : Clients AnyCall)
    → IsLogged stands by_table config bricks tree next s c
    → (earlier later : List Entry) (call client : ℕ) (op : Op) (called : Step) (steps : List Step)
    → log_of s ≡ (earlier ++ entries_of (called ∷ steps)) ++ later
    → IsSettledCall config.geometry.n (run earlier (fresh bricks)) call client op called steps
    → law config.geometry.n (run earlier (fresh bricks)) call (entries_of (called ∷ steps))
