-- Calls that are under way.
use Rattle.std.specs.Prelude.{◌≡◌, ◌≢◌, ℕ, Option, Some, IfSome, List, [], ◌∷◌}
use Rattle.ec_attr.specs.declared.geometry.Geometry.{Geometry}
use Rattle.ec_clients.specs.Come.{Come, come}
use Rattle.ec_clients.specs.Owned.{Sees}
use Rattle.ec_clients.specs.Views.{running_at}
use Rattle.ec_clients.specs.declared.clients.Clients.{Clients}
use Rattle.ec_clients.specs.declared.clients.Running.{Running}
use Rattle.ec_cluster.specs.declared.cluster.Cluster.{Cluster}
use Rattle.ec_conduct.specs.Given.{Given}
use Rattle.ec_conduct.specs.Own.{Own}
use Rattle.ec_history.specs.Script.{Step}
use Rattle.ec_txn.specs.declared.ctx.Ctx.{Ctx}
use Rattle.ec_wire.specs.declared.phase.Phase.{Phase}

-- client j runs the call of this number, which is in another phase
abbrev pub IsStill : {C P : Type 0} → (C → Option P) → (P → Phase) → Clients C → ℕ → ℕ → Phase → Type 0
IsStill {C} stage phase_of c j number phase = (r : Running C) × (running_at c j ≡ Some r) × (r.number ≡ number) × IfSome (stage r.call) (λ at. phase ≢ phase_of at)

-- so do clients of which this has come
pub record IsUnderWay {C P : Type 0} (stands : Ctx → Given → C → List Own → Type 0) (by_table : Ctx → Given → List Own → Type 0) (stage : C → Option P) (phase_of : P → Phase) (j number : ℕ) (phase : Phase) (p : Come) : Type 0 where
  pub cluster : Cluster
  pub clients : Clients C
  pub sees : Sees stands by_table cluster clients p
  pub still : IsStill stage phase_of clients j number phase

-- before each of these steps what has come is so
abbrev pub EachBefore : (Come → Type 0) → Geometry → Come → List Step → Type 0
EachBefore Is geometry p [] = Unit {0}
EachBefore Is geometry p (s ∷ steps) = Is p × EachBefore Is geometry (come geometry (s.named ∷ s.follow) p) steps
