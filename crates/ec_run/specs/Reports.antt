-- How a run ends that opens the bricks of its volume and writes a report of them.
use Rattle.std.specs.Prelude.{◌≡◌, ◌⊎◌, ◌-◌, ℕ, List, [], length, Option}
use Rattle.std.specs.Io.KnownBytes.{Appends, Keeps}
use Rattle.ec_brick.specs.declared.start_fault.StartFault.TheVariants as start
use Rattle.ec_play.specs.declared.status.BricksWhy.TheVariants as wrong
use Rattle.ec_play.specs.declared.status.Status.{Status}
use Rattle.ec_play.specs.declared.status.Status.TheVariants as status
use Rattle.ec_report.specs.Records.{IsCheck}
use Rattle.ec_report.specs.declared.fault.CheckFault.{CheckFault}
use Rattle.ec_report.specs.declared.fault.CheckFault.TheVariants as check
use Rattle.ec_run.specs.Starts.{AreStarted, IsUnopened}
use Rattle.ec_run.specs.declared.reporting.Report.{Report}
use Rattle.ec_run.specs.declared.reporting.Report.TheVariants.{Info, Check}
use Rattle.ec_store.specs.Causes.{Begins}
use Rattle.ec_store.specs.Records.{Records}
use Rattle.ec_volfile.specs.declared.volume.Volume.{Volume}
use Rattle.ec_world.specs.Report.{IsInfo}
use Rattle.ec_world.specs.Whole.{config_of}

-- what a report tells of the records of a volume
abbrev pub IsReportOf : Report → Volume → List Records → List ℕ → Type 0
IsReportOf Info volume records text = IsInfo (length records) records text
IsReportOf Check volume records text = IsCheck (volume.geometry.n - volume.geometry.r) records text

-- the status of a run whose report can't be made
abbrev pub fault_status : CheckFault → Status
fault_status (check.Store b) = status.StoreFault b
fault_status check.NoMemory = status.NoMemory

-- a text is written whole, or a front part of it
abbrev pub IsWritten : Status → List ℕ → Option (List ℕ) → Option (List ℕ) → Type 0
IsWritten status.Done text old new = Appends old new text
IsWritten (status.BadScript line why) text old new = ⊥
IsWritten (status.BadVolume line why) text old new = ⊥
IsWritten status.BadWords text old new = ⊥
IsWritten status.ReadFault text old new = ⊥
IsWritten status.WriteFault text old new = Begins old new text
IsWritten (status.WrongBricks why) text old new = ⊥
IsWritten (status.StoreFault b) text old new = ⊥
IsWritten status.NoMemory text old new = Begins old new text

-- The stores were opened, and are as that left them, and the text is a report of these.
pub record IsTold (Told : Type 0) (report : Report) (volume : Volume) (before after : List Records) (text : List ℕ) : Type 0 where
  pub started : Told → AreStarted (config_of volume) volume.geometry.n before after
  pub tells : Told → IsReportOf report volume after text

-- The report of the stores was made, and written as far as the status says.
pub record IsReported (Told : Type 0) (report : Report) (volume : Volume) (before after : List Records) (how : Status) (old new : Option (List ℕ)) : Type 0 where
  pub text : List ℕ
  pub told : IsTold Told report volume before after text
  pub written : IsWritten how text old new

-- The stores were opened, and are as that left them, but no report could be made; a store failed only where it was read.
pub record IsUnreported (Told : Type 0) (report : Report) (volume : Volume) (fault : CheckFault) (before after : List Records) (old new : Option (List ℕ)) : Type 0 where
  pub started : Told → AreStarted (config_of volume) volume.geometry.n before after
  pub read : (b : ℕ) → fault ≡ check.Store b → report ≡ Check
  pub text : Keeps old new

-- what a status says of a run that opens the stores and writes a report of them
abbrev pub EndsReported : Type 0 → Report → Volume → List Records → List Records → Status → Option (List ℕ) → Option (List ℕ) → Type 0
EndsReported Told report volume before after status.Done old new = IsReported Told report volume before after status.Done old new
EndsReported Told report volume before after (status.BadScript line why) old new = ⊥
EndsReported Told report volume before after (status.BadVolume line why) old new = ⊥
EndsReported Told report volume before after status.BadWords old new = ⊥
EndsReported Told report volume before after status.ReadFault old new = ⊥
EndsReported Told report volume before after status.WriteFault old new = IsReported Told report volume before after status.WriteFault old new
EndsReported Told report volume before after (status.WrongBricks (wrong.Count have want)) old new = ⊥
EndsReported Told report volume before after (status.WrongBricks (wrong.Config b c)) old new = IsUnopened Told volume b (start.Config c) before after old new []
EndsReported Told report volume before after (status.WrongBricks (wrong.Head b g)) old new = IsUnopened Told volume b (start.Head g) before after old new []
EndsReported Told report volume before after (status.StoreFault b) old new =
    IsUnopened Told volume b start.Failed before after old new [] ⊎ IsUnreported Told report volume (check.Store b) before after old new
EndsReported Told report volume before after status.NoMemory old new =
    ((b : ℕ) × IsUnopened Told volume b start.NoMemory before after old new [])
    ⊎ IsUnreported Told report volume check.NoMemory before after old new
    ⊎ IsReported Told report volume before after status.NoMemory old new
