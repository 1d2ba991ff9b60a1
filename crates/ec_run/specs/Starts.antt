-- How a run ends that opens the bricks of its volume and plays its script.
use Rattle.std.specs.Prelude.{◌≡◌, ◌⊎◌, ◌<◌, ℕ, Bool, List, [], Option}
use Rattle.std.specs.Io.KnownBytes.{Keeps}
use Rattle.ec_attr.specs.declared.config.Config.{Config}
use Rattle.ec_brick.specs.Opening.{IsForeign}
use Rattle.ec_brick.specs.declared.start_fault.StartFault.{StartFault}
use Rattle.ec_brick.specs.declared.start_fault.StartFault.TheVariants as start
use Rattle.ec_cluster.specs.Open.{AreAccepted, AreKept, AreRooted, AreUnused, IsFaultOf, opened}
use Rattle.ec_history.specs.Run.{fresh}
use Rattle.ec_play.specs.Ends.{Ends}
use Rattle.ec_play.specs.Meaning.{Meaning}
use Rattle.ec_play.specs.Statuses.{ButForMemoryIn}
use Rattle.ec_play.specs.declared.status.BricksWhy.TheVariants as wrong
use Rattle.ec_play.specs.declared.status.Status.{Status}
use Rattle.ec_play.specs.declared.status.Status.TheVariants as status
use Rattle.ec_run.specs.Consistency.{IsConsistentSince, StandFresh}
use Rattle.ec_store.specs.Records.{Records}
use Rattle.ec_volfile.specs.declared.volume.Volume.{Volume}
use Rattle.ec_wire.specs.declared.entry.Entry.{Entry}
use Rattle.ec_world.specs.Whole.{config_of}

-- the status of a run whose bricks aren't opened
abbrev pub start_status : ℕ → StartFault → Status
start_status b start.Failed = status.StoreFault b
start_status b (start.Config c) = status.WrongBricks (wrong.Config b c)
start_status b (start.Head g) = status.WrongBricks (wrong.Head b g)
start_status b start.NoMemory = status.NoMemory

-- Each head in the stores was accepted, and they are as opening leaves them: each has a root where all of them were unused,
-- else they are as before.
pub record AreStarted (config : Config) (n : ℕ) (before now : List Records) : Type 0 where
  pub accepted : AreAccepted config n before
  pub kept : AreKept config n before now
  pub roots : AreUnused config n before → AreRooted config n before now
  pub same : ¬ (AreUnused config n before) → now ≡ before

-- The stores were opened, and the script was played from what they held then. But for want of memory its log and
-- the bricks are consistent, where the stores stand for a tree as they are opened: so do stores without a record.
pub record HasPlayed {W : Type 0} (M : Meaning W) (Told : Type 0) (volume : Volume) (logs : Bool) (before after : List Records) (how : Status) (input : List ℕ) (old new : Option (List ℕ)) (log : List Entry) : Type 0 where
  pub started : List Records
  pub are_started : Told → AreStarted (config_of volume) volume.geometry.n before started
  pub ends : Ends M Told volume.geometry.n logs (fresh (opened (config_of volume) started)) how input old new log after
  pub fresh : Told → StandFresh volume before started
  pub consistent : Told → ButForMemoryIn how (IsConsistentSince volume started log)

-- A store wasn't opened, and each head in those before it was accepted. Where roots were to be put, since all stores are unused, those of the stores before it have theirs.
pub record IsUnopened (Told : Type 0) (volume : Volume) (b : ℕ) (fault : StartFault) (before after : List Records) (old new : Option (List ℕ)) (log : List Entry) : Type 0 where
  pub there : b < volume.geometry.n
  pub foreign : IsForeign (config_of volume) fault
  pub first : Told → IsFaultOf (config_of volume) before (b, fault)
  pub earlier : Told → AreAccepted (config_of volume) b before
  pub part : Told → (after ≡ before) ⊎ AreRooted (config_of volume) b before after
  pub kept : Told → ¬ (AreUnused (config_of volume) volume.geometry.n before) → after ≡ before
  pub text : Keeps old new
  pub unlogged : log ≡ []

-- what a status says of a run that opens the stores and plays its script
abbrev pub EndsStarted : {W : Type 0} → Meaning W → Type 0 → Volume → Bool → List Records → List Records → Status → List ℕ → Option (List ℕ) → Option (List ℕ) → List Entry → Type 0
EndsStarted M Told volume logs before after status.Done input old new log = HasPlayed M Told volume logs before after status.Done input old new log
EndsStarted M Told volume logs before after (status.BadScript line why) input old new log = HasPlayed M Told volume logs before after (status.BadScript line why) input old new log
EndsStarted M Told volume logs before after (status.BadVolume line why) input old new log = ⊥
EndsStarted M Told volume logs before after status.BadWords input old new log = ⊥
EndsStarted M Told volume logs before after status.ReadFault input old new log = HasPlayed M Told volume logs before after status.ReadFault input old new log
EndsStarted M Told volume logs before after status.WriteFault input old new log = HasPlayed M Told volume logs before after status.WriteFault input old new log
EndsStarted M Told volume logs before after (status.WrongBricks (wrong.Count have want)) input old new log = ⊥
EndsStarted M Told volume logs before after (status.WrongBricks (wrong.Config b c)) input old new log = IsUnopened Told volume b (start.Config c) before after old new log
EndsStarted M Told volume logs before after (status.WrongBricks (wrong.Head b g)) input old new log = IsUnopened Told volume b (start.Head g) before after old new log
EndsStarted M Told volume logs before after (status.StoreFault b) input old new log = IsUnopened Told volume b start.Failed before after old new log
EndsStarted M Told volume logs before after status.NoMemory input old new log =
    ((b : ℕ) × IsUnopened Told volume b start.NoMemory before after old new log) ⊎ HasPlayed M Told volume logs before after status.NoMemory input old new log
