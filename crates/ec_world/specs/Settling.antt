-- How a volume settles, step by step.
use Rattle.std.specs.Prelude.{◌≡◌, ◌⊎◌, ℕ, Bool, true, false, Option, Some, None, List}
use Rattle.ec_clients.specs.Views.{is_dead_at}
use Rattle.ec_clients.specs.declared.clients.Clients.{Clients}
use Rattle.ec_cluster.specs.Views.{flight, is_up_at}
use Rattle.ec_cluster.specs.declared.cluster.Cluster.{Cluster}
use Rattle.ec_conduct.specs.Given.{Given}
use Rattle.ec_conduct.specs.Own.{Own}
use Rattle.ec_history.specs.Run.{Net}
use Rattle.ec_history.specs.Script.{IsSettling}
use Rattle.ec_store.specs.Records.{Records}
use Rattle.ec_txn.specs.declared.ctx.Ctx.{Ctx}
use Rattle.ec_wire.specs.declared.entry.Entry.{Entry}
use Rattle.ec_wire.specs.declared.message.Body.{Body}
use Rattle.ec_wire.specs.declared.message.Body.TheVariants.{ToBrick, ToClient}
use Rattle.ec_wire.specs.declared.message.Message.{Message}
use Rattle.ec_world.specs.Events.{Advances}
use Rattle.ec_world.specs.Resting.{Rests}
use Rattle.ec_world.specs.Steps.{IsDelivery, IsLoss, OneStep}

-- a message goes to a brick that is stopped or to a client that is dead
abbrev pub goes_nowhere : {C : Type 0} → Cluster → Clients C → Message → Body → Type 0
goes_nowhere s c m (ToBrick q) = is_up_at s m.brick ≡ false
goes_nowhere s c m (ToClient re reply) = is_dead_at c m.client ≡ true

abbrev pub GoesNowhere : {C : Type 0} → Cluster → Clients C → Option Message → Type 0
GoesNowhere s c None = ⊥
GoesNowhere s c (Some m) = goes_nowhere s c m m.body

-- the message of this number is delivered, or lost where it goes nowhere
abbrev pub Moves : {C : Type 0} → Cluster → Clients C → ℕ → Net → Entry → Type 0
Moves s c i m e = IsDelivery i m e ⊎ (IsLoss i m e × GoesNowhere s c (flight s i))

-- one step of settling, or none where the volume rests
abbrev pub GoesOn : {C : Type 0} → (Ctx → Given → C → List Own → Type 0) → (Ctx → Given → List Own → Type 0) → Type 0 → Cluster → Cluster → Clients C → Clients C → List Records → List Records → Bool → Type 0
GoesOn stands by_table Told s t c d before after true = Advances stands by_table Told (OneStep IsSettling) s t c d before after
GoesOn stands by_table Told s t c d before after false = (t ≡ s) × (d ≡ c) × (after ≡ before) × Rests stands s c
