-- That settled calls are answered, whatever bricks are up and whatever their stores do.
use Rattle.std.specs.Prelude.{◌≡◌, ℕ, true, None, List, ◌∷◌, ◌++◌}
use Rattle.ec_attr.specs.declared.config.Config.{Config}
use Rattle.ec_brick.specs.State.{State}
use Rattle.ec_calls.specs.declared.any.AnyCall.{AnyCall}
use Rattle.ec_clients.specs.declared.clients.Clients.{Clients}
use Rattle.ec_cluster.specs.Views.{log_of}
use Rattle.ec_cluster.specs.declared.cluster.Cluster.{Cluster}
use Rattle.ec_conduct.specs.Given.{Given}
use Rattle.ec_conduct.specs.Opened.{account}
use Rattle.ec_conduct.specs.Own.{Own}
use Rattle.ec_history.specs.Flat.{Tree}
use Rattle.ec_history.specs.Run.{fresh, run}
use Rattle.ec_history.specs.Script.{Step, entries_of}
use Rattle.ec_txn.specs.Rounds.{IsWaiting}
use Rattle.ec_txn.specs.declared.ctx.Ctx.{Ctx}
use Rattle.ec_wire.specs.declared.entry.Entry.{Entry}
use Rattle.ec_wire.specs.declared.op.Op.{Op}
use Rattle.ec_law_calls.specs.World.{IsLogged}
use Rattle.ec_law_settled.specs.Settled.{IsSettledCall}

-- Of the own entries that a call stands for: as long as it has no answer it waits for a brick.
pub record CallWaitLaws (stands : Ctx → Given → AnyCall → List Own → Type 0) : Type 0 where
  pub waits : (x : Ctx) (given : Given) (call : AnyCall) (es : List Own) → stands x given call es → (account given es).answer ≡ None → IsWaiting (account given es)

-- Where the log of a world ends with the entries of a settled call, the call is answered.
abbrev pub AnsweredInEveryWorld : (Ctx → Given → AnyCall → List Own → Type 0) → (Ctx → Given → List Own → Type 0) → Type 0
AnsweredInEveryWorld stands by_table =
    (config : Config) (bricks : ℕ → State) (tree : Tree) (next : ℕ) (s : Cluster) (c : Clients AnyCall)
    → IsLogged stands by_table config bricks tree next s c
    → (earlier : List Entry) (call client : ℕ) (op : Op) (called : Step) (steps : List Step)
    → log_of s ≡ earlier ++ entries_of (called ∷ steps)
    → IsSettledCall config.geometry.n (run earlier (fresh bricks)) call client op called steps
    → (run (log_of s) (fresh bricks)).answered call ≡ true
