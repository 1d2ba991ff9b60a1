-- What a status says of a run: of its words and its volume file, of the stores of its bricks, of its script, of its log
-- and of what it has written.
use Rattle.std.specs.Prelude.{◌≡◌, ◌≢◌, ◌⊎◌, ℕ, Bool, true, false, List, [], Option, Some, None}
use Rattle.std.specs.Io.KnownBytes.{Keeps}
use Rattle.ec_play.specs.Meaning.{Meaning}
use Rattle.ec_play.specs.declared.status.BricksWhy.TheVariants as wrong
use Rattle.ec_play.specs.declared.status.Status.{Status}
use Rattle.ec_play.specs.declared.status.Status.TheVariants as status
use Rattle.ec_run.specs.Reports.{EndsReported}
use Rattle.ec_run.specs.Starts.{EndsStarted}
use Rattle.ec_run.specs.declared.reporting.Report.TheVariants as report
use Rattle.ec_store.specs.Records.{Records}
use Rattle.ec_volfile.specs.Faults.{IsFirstFault}
use Rattle.ec_volfile.specs.Grammar.{IsVolumeFile}
use Rattle.ec_volfile.specs.Outline.{outline}
use Rattle.ec_volfile.specs.declared.volume.Volume.{Volume}
use Rattle.ec_wire.specs.declared.entry.Entry.{Entry}
use Rattle.ec_words.specs.Program.{ordered}
use Rattle.ec_words.specs.declared.command.Command.{Command}
use Rattle.ec_words.specs.declared.command.Command.TheVariants.{Play, Info, Check}

-- the run ended before it opened a store
abbrev pub is_before_opening : Status → Bool
is_before_opening status.Done = false
is_before_opening (status.BadScript line why) = false
is_before_opening (status.BadVolume line why) = true
is_before_opening status.BadWords = true
is_before_opening status.ReadFault = false
is_before_opening status.WriteFault = false
is_before_opening (status.WrongBricks (wrong.Count have want)) = true
is_before_opening (status.WrongBricks (wrong.Config b c)) = false
is_before_opening (status.WrongBricks (wrong.Head b g)) = false
is_before_opening (status.StoreFault b) = false
is_before_opening status.NoMemory = false

-- nothing was written or logged, and the stores are as before
pub record IsUntouched (before after : List Records) (old new : Option (List ℕ)) (log : List Entry) : Type 0 where
  pub same : after ≡ before
  pub text : Keeps old new
  pub unlogged : log ≡ []

-- the file describes a volume of another number of bricks
pub record IsOtherCount (file : List ℕ) (there have want : ℕ) : Type 0 where
  pub volume : Volume
  pub described : IsVolumeFile file (outline volume)
  pub counted : have ≡ there
  pub wanted : want ≡ volume.geometry.n
  pub other : there ≢ volume.geometry.n

-- whether a report is ordered
abbrev pub is_report_order : Option Command → Bool
is_report_order None = false
is_report_order (Some (Play logs)) = false
is_report_order (Some Info) = true
is_report_order (Some Check) = true

-- what a status says of a run that opens the stores and does what is ordered
abbrev pub EndsOrdered : {W : Type 0} → Meaning W → Type 0 → Volume → Command → List Records → List Records → Status → List ℕ → Option (List ℕ) → Option (List ℕ) → List Entry → Type 0
EndsOrdered M Told volume (Play logs) before after how input old new log = EndsStarted M Told volume logs before after how input old new log
EndsOrdered M Told volume Info before after how input old new log = EndsReported Told report.Info volume before after how old new × (log ≡ [])
EndsOrdered M Told volume Check before after how input old new log = EndsReported Told report.Check volume before after how old new × (log ≡ [])

-- The words order this, and the file describes a volume of as many bricks, over which it was done.
pub record HasRun {W : Type 0} (M : Meaning W) (Told : Type 0) (words : List (List ℕ)) (file : List ℕ) (there : ℕ) (before after : List Records) (how : Status) (input : List ℕ) (old new : Option (List ℕ)) (log : List Entry) : Type 0 where
  pub command : Command
  pub volume : Volume
  pub orders : ordered words ≡ Some command
  pub described : IsVolumeFile file (outline volume)
  pub count : there ≡ volume.geometry.n
  pub ends : EndsOrdered M Told volume command before after how input old new log

-- what a run with this status says
abbrev pub EndsRun : {W : Type 0} → Meaning W → Type 0 → List (List ℕ) → List ℕ → ℕ → List Records → List Records → Status → List ℕ → Option (List ℕ) → Option (List ℕ) → List Entry → Type 0
EndsRun M Told words file there before after status.Done input old new log = HasRun M Told words file there before after status.Done input old new log
EndsRun M Told words file there before after (status.BadScript line why) input old new log = HasRun M Told words file there before after (status.BadScript line why) input old new log
EndsRun M Told words file there before after (status.BadVolume line why) input old new log = IsFirstFault file line why × IsUntouched before after old new log
EndsRun M Told words file there before after status.BadWords input old new log = IsUntouched before after old new log
EndsRun M Told words file there before after status.ReadFault input old new log =
    IsUntouched before after old new log ⊎ HasRun M Told words file there before after status.ReadFault input old new log
EndsRun M Told words file there before after status.WriteFault input old new log = HasRun M Told words file there before after status.WriteFault input old new log
EndsRun M Told words file there before after (status.WrongBricks (wrong.Count have want)) input old new log = IsOtherCount file there have want × IsUntouched before after old new log
EndsRun M Told words file there before after (status.WrongBricks (wrong.Config b c)) input old new log = HasRun M Told words file there before after (status.WrongBricks (wrong.Config b c)) input old new log
EndsRun M Told words file there before after (status.WrongBricks (wrong.Head b g)) input old new log = HasRun M Told words file there before after (status.WrongBricks (wrong.Head b g)) input old new log
EndsRun M Told words file there before after (status.StoreFault b) input old new log = HasRun M Told words file there before after (status.StoreFault b) input old new log
EndsRun M Told words file there before after status.NoMemory input old new log =
    IsUntouched before after old new log ⊎ HasRun M Told words file there before after status.NoMemory input old new log
