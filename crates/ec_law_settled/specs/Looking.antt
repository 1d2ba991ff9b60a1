-- Calls that only look: nothing that they send alters a record. So where such a call is settled, nothing is changed while it goes on.
use Rattle.std.specs.Prelude.{◌≡◌, ℕ, ◌||◌, Bool, false, List, [], ◌∷◌, ◌++◌}
use Rattle.ec_attr.specs.declared.config.Config.{Config}
use Rattle.ec_brick.specs.State.{State}
use Rattle.ec_calls.specs.declared.any.AnyCall.{AnyCall}
use Rattle.ec_clients.specs.declared.clients.Clients.{Clients}
use Rattle.ec_cluster.specs.Views.{log_of}
use Rattle.ec_cluster.specs.declared.cluster.Cluster.{Cluster}
use Rattle.ec_conduct.specs.Given.{Given}
use Rattle.ec_conduct.specs.Own.{Own, Sends}
use Rattle.ec_history.specs.Flat.{Tree}
use Rattle.ec_history.specs.Run.{fresh, run}
use Rattle.ec_history.specs.Script.{Step, entries_of}
use Rattle.ec_txn.specs.declared.ctx.Ctx.{Ctx}
use Rattle.ec_wire.specs.declared.entry.Entry.{Entry}
use Rattle.ec_wire.specs.declared.op.Op.{Op}
use Rattle.ec_wire.specs.declared.op.Op.TheVariants.{Stat, GetAttr, Lookup, Read, Readdir}
use Rattle.ec_law_calls.specs.World.{IsLogged}
use Rattle.ec_law_settled.specs.Settled.{IsSettledCall}
use Rattle.ec_law_settled.specs.Unchanged.{NoneAlters, alters}

abbrev pub OnlyLooks : Op → Type 0
OnlyLooks (Stat g) = Unit {0}
OnlyLooks (GetAttr g) = Unit {0}
OnlyLooks (Lookup g name) = Unit {0}
OnlyLooks (Read g off count via) = Unit {0}
OnlyLooks (Readdir g) = Unit {0}
OnlyLooks op = ⊥

abbrev pub is_altering : Own → Bool
is_altering (Sends b i r) = alters r
is_altering e = false

-- some send among these own entries may alter records
abbrev pub has_altering : List Own → Bool
has_altering [] = false
has_altering (e ∷ es) = is_altering e || has_altering es

-- Of the own entries that a call stands for: none does, where the call only looks.
pub record CallLookLaws (stands : Ctx → Given → AnyCall → List Own → Type 0) : Type 0 where
  pub looks : (x : Ctx) (given : Given) (call : AnyCall) (es : List Own) → stands x given call es → OnlyLooks given.op → has_altering es ≡ false

-- In the log of a world no request that may alter records is executed in the entries of a settled call that only looks.
abbrev pub LooksAlterNothing : (Ctx → Given → AnyCall → List Own → Type 0) → (Ctx → Given → List Own → Type 0) → Type 0
LooksAlterNothing stands by_table =
    (config : Config) (bricks : ℕ → State) (tree : Tree) (next : ℕ) (s : Cluster) (c : Clients AnyCall)
    → IsLogged stands by_table config bricks tree next s c
    → (earlier later : List Entry) (call client : ℕ) (op : Op) (called : Step) (steps : List Step)
    → log_of s ≡ (earlier ++ entries_of (called ∷ steps)) ++ later
    → IsSettledCall config.geometry.n (run earlier (fresh bricks)) call client op called steps
    → OnlyLooks op
    → NoneAlters (entries_of (called ∷ steps)) (run earlier (fresh bricks))
