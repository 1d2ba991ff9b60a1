-- The world of a volume, as what has come of its log says.
use Rattle.std.specs.Prelude.{◌≡◌, ℕ, ◌≤◌, Option, Some, List, IfSome}
use Rattle.ec_brick.specs.State.{State}
use Rattle.ec_clients.specs.Beginning.{HasClients, beginning}
use Rattle.ec_clients.specs.Come.{Come, come}
use Rattle.ec_clients.specs.Owned.{Sees}
use Rattle.ec_clients.specs.Views.{running_at}
use Rattle.ec_clients.specs.declared.clients.Clients.{Clients}
use Rattle.ec_clients.specs.declared.clients.Running.{Running}
use Rattle.ec_cluster.specs.Sound.{IsSound}
use Rattle.ec_cluster.specs.Views.{log_of, size_of}
use Rattle.ec_cluster.specs.declared.cluster.Cluster.{Cluster}
use Rattle.ec_conduct.specs.Given.{Given}
use Rattle.ec_conduct.specs.Own.{Own}
use Rattle.ec_history.specs.Flat.{Tree}
use Rattle.ec_history.specs.Script.{Step}
use Rattle.ec_txn.specs.declared.ctx.Ctx.{Ctx}
use Rattle.ec_wire.specs.declared.event.Event.{Event}
use Rattle.ec_wire.specs.declared.event.Event.TheVariants.{Call, Die, Until}
use Rattle.ec_wire.specs.declared.phase.Phase.{Phase}
use Rattle.ec_world.specs.Events.{OfEvent}
use Rattle.ec_world.specs.UnderWay.{EachBefore, IsUnderWay}

-- The parts of a world fit one another, and are as what has come of its log says, whatever bricks it began over.
pub record IsWorld {C : Type 0} (stands : Ctx → Given → C → List Own → Type 0) (by_table : Ctx → Given → List Own → Type 0) (s : Cluster) (c : Clients C) : Type 0 where
  pub sound : IsSound s
  pub size : size_of s ≡ c.options.geometry.n
  pub many : HasClients c
  pub first : ℕ
  pub sees : (bricks : ℕ → State) (tree : Tree) → Sees stands by_table s c (come c.options.geometry (log_of s) (beginning bricks tree first))

-- a client that calls or dies is from 0 to 16
abbrev pub FitsEvent : Event → Type 0
FitsEvent (Call j op) = j ≤ 16
FitsEvent (Die j) = j ≤ 16
FitsEvent event = Unit {0}

-- the call that client j runs has this number
abbrev pub IsCallOf : {C : Type 0} → Clients C → ℕ → ℕ → Type 0
IsCallOf {C} c j number = (r : Running C) × (running_at c j ≡ Some r) × (r.number ≡ number)

-- The steps of an `until`: before each of them the call of this number, which the client runs as the event begins, is under
-- way and in another phase.
abbrev pub OfUntil : {C P : Type 0} → (Ctx → Given → C → List Own → Type 0) → (Ctx → Given → List Own → Type 0) → (C → Option P) → (P → Phase) → ℕ → Clients C → ℕ → Phase → Come → List Step → Type 0
OfUntil stands by_table stage phase_of n c j phase p steps =
    OfEvent n (Until j phase) p steps
    × ((number : ℕ) → IsCallOf c j number → EachBefore (IsUnderWay stands by_table stage phase_of j number phase) c.options.geometry p steps)

-- the call of this number, which client j ran, is over or in the phase
abbrev pub IsPast : {C P : Type 0} → (C → Option P) → (P → Phase) → Clients C → ℕ → ℕ → Phase → Type 0
IsPast {C} stage phase_of c j number phase = (r : Running C) → running_at c j ≡ Some r → r.number ≡ number → IfSome (stage r.call) (λ at. phase ≡ phase_of at)
