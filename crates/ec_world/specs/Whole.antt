-- A world as a whole: clients over the cluster of their bricks.
use Rattle.std.specs.Prelude.{◌≡◌, ◌⊎◌, ℕ, Option, Some, None, List, Result, Ok, Err}
use Rattle.ec_attr.specs.declared.config.Config.{Config}
use Rattle.ec_calls.specs.Any.{IsBuilt}
use Rattle.ec_calls.specs.declared.any.AnyCall.{AnyCall}
use Rattle.ec_clients.specs.Come.{Come}
use Rattle.ec_clients.specs.Owned.{Sees}
use Rattle.ec_clients.specs.declared.options.Options.{Options}
use Rattle.ec_cluster.specs.Matches.{Matches}
use Rattle.ec_cluster.specs.Views.{size_of}
use Rattle.ec_conduct.specs.Given.{Given}
use Rattle.ec_conduct.specs.Own.{Own}
use Rattle.ec_history.specs.Run.{Net}
use Rattle.ec_store.specs.Records.{Records}
use Rattle.ec_txn.specs.declared.ctx.Ctx.{Ctx}
use Rattle.ec_volfile.specs.declared.volume.Volume.{Volume}
use Rattle.ec_wire.specs.declared.event.Event.{Event}
use Rattle.ec_wire.specs.declared.event.Event.TheVariants.{Call}
use Rattle.ec_world.specs.Events.{Outcome}
use Rattle.ec_world.specs.Refusals.{IsRefusal}
use Rattle.ec_world.specs.World.{IsWorld}
use Rattle.ec_world.specs.declared.refused.Refused.{Refused}
use Rattle.ec_world.specs.declared.refused.Refused.TheVariants.{NoMemory, Unbuilt}
use Rattle.ec_world.specs.declared.world.World.{World}

-- what each record of a volume tells, and with what its calls are begun
abbrev pub config_of : Volume → Config
config_of v = record { geometry = v.geometry }

abbrev pub options_of : Volume → Options
options_of v = record { geometry = v.geometry; policy = v.policy; window = v.window; eager = v.eager }

-- what holds of a world between two events
pub record IsOpen (stands : Ctx → Given → AnyCall → List Own → Type 0) (by_table : Ctx → Given → List Own → Type 0) (w : World) : Type 0 where
  pub world : IsWorld stands by_table w.cluster w.clients
  pub size : size_of w.cluster ≡ w.bricks

-- The world, with the records of its stores, is as a net says, and its clients as the story and the books beside it say.
pub record IsAs (stands : Ctx → Given → AnyCall → List Own → Type 0) (by_table : Ctx → Given → List Own → Type 0) (w : World) (records : List Records) (m : Net) : Type 0 where
  pub come : Come
  pub net : come.net ≡ m
  pub sees : Sees stands by_table w.cluster w.clients come
  pub matches : Matches w.cluster records m

-- a call of a kind that isn't built
abbrev pub IsUnbuilt : Event → Type 0
IsUnbuilt (Call j op) = ¬ (IsBuilt op)
IsUnbuilt event = ⊥

-- what refuses an event: that its call isn't built, before all else
abbrev pub IsRefused : (Ctx → Given → AnyCall → List Own → Type 0) → World → Event → Refused → Type 0
IsRefused stands w event e = (IsUnbuilt event × (e ≡ Unbuilt)) ⊎ (¬ (IsUnbuilt event) × IsRefusal stands w.cluster w.clients event (Some e))

-- a call that isn't built is refused as such, and nothing changes
pub record IsNotBuilt (s t : World) (before after : List Records) (event : Event) (result : Result (Unit {0}) Refused) : Type 0 where
  pub unbuilt : IsUnbuilt event
  pub refused : result ≡ Err Unbuilt
  pub same : t ≡ s
  pub kept : after ≡ before

-- What comes of an event.
abbrev pub Steps : (Ctx → Given → AnyCall → List Own → Type 0) → (Ctx → Given → List Own → Type 0) → Type 0 → Event → World → World → List Records → List Records → Result (Unit {0}) Refused → Type 0
Steps stands by_table Told event s t before after result =
    IsNotBuilt s t before after event result ⊎ (¬ (IsUnbuilt event) × Outcome stands by_table Told event s.cluster t.cluster s.clients t.clients before after result)

-- but for want of memory a world stays open
abbrev pub StaysOpen : (Ctx → Given → AnyCall → List Own → Type 0) → (Ctx → Given → List Own → Type 0) → World → Result (Unit {0}) Refused → Type 0
StaysOpen stands by_table t (Err NoMemory) = Unit {0}
StaysOpen stands by_table t result = IsOpen stands by_table t
