-- What a status says of a run, from what it says of its parts.
use Rattle.std.proofs.Common.{◌≡◌, ◌≢◌, ℕ, Bool, true, false, inl, inr, List, ◌++◌, length, Option, None, Some, subst, take}
use Rattle.std.proofs.Math.Seq.{take-append_seam}
use Rattle.std.specs.Prelude.{IfSome}
use Rattle.ec_attr.specs.declared.config.Config.{Config}
use Rattle.ec_brick.specs.declared.start_fault.StartFault.{StartFault}
use Rattle.ec_brick.specs.declared.start_fault.StartFault.TheVariants as start
use Rattle.ec_cluster.specs.Open.{AreAccepted, AreKept, AreRooted, AreUnused, opened}
use Rattle.ec_history.specs.IsRun.{IsRun}
use Rattle.ec_history.specs.Run.{fresh}
use Rattle.ec_play.specs.Ends.{Ends}
use Rattle.ec_play.specs.Meaning.{Meaning}
use Rattle.ec_play.specs.Statuses.{ButForMemoryIn}
use Rattle.ec_play.specs.declared.status.BricksWhy.TheVariants as wrong
use Rattle.ec_play.specs.declared.status.Status.{Status}
use Rattle.ec_play.specs.declared.status.Status.TheVariants as status
use Rattle.ec_run.proofs.ConsistencyLemmas.{ends_run}
use Rattle.ec_run.proofs.VolumeLemmas.{told, told_both}
use Rattle.ec_run.specs.Run.{EndsOrdered, EndsRun, HasRun, IsOtherCount, IsUntouched, is_before_opening}
use Rattle.ec_run.specs.Starts.{AreStarted, EndsStarted, HasPlayed, IsUnopened, start_status}
use Rattle.ec_run.specs.Consistency.{IsConsistentSince, StandFresh}
use Rattle.ec_store.specs.Records.{Records}
use Rattle.ec_volfile.specs.Grammar.{IsVolumeFile}
use Rattle.ec_volfile.specs.Outline.{outline}
use Rattle.ec_volfile.specs.declared.volume.Volume.{Volume}
use Rattle.ec_wire.specs.declared.entry.Entry.{Entry}
use Rattle.ec_words.specs.Program.{ordered}
use Rattle.ec_words.specs.declared.command.Command.{Command}
use Rattle.ec_world.specs.Whole.{config_of}

module _ {W : Type 0} (M : Meaning W) (Told : Type 0) (volume : Volume) (logs : Bool) (before after : List Records) where
  -- a script that was played
  played_ends : (how : Status) (input : List ℕ) (old new : Option (List ℕ)) (log : List Entry) → HasPlayed M Told volume logs before after how input old new log → EndsStarted M Told volume logs before after how input old new log
  played_ends status.Done input old new log h = h
  played_ends (status.BadScript line why) input old new log h = h
  played_ends (status.BadVolume line why) input old new log h = absurd h.ends
  played_ends status.BadWords input old new log h = absurd h.ends
  played_ends status.ReadFault input old new log h = h
  played_ends status.WriteFault input old new log h = h
  played_ends (status.WrongBricks (wrong.Count have want)) input old new log h = absurd h.ends
  played_ends (status.WrongBricks (wrong.Config b c)) input old new log h = absurd h.ends
  played_ends (status.WrongBricks (wrong.Head b g)) input old new log h = absurd h.ends
  played_ends (status.StoreFault b) input old new log h = absurd h.ends
  played_ends status.NoMemory input old new log h = inr h

  -- a store that wasn't opened
  unopened_ends : (b : ℕ) (fault : StartFault) (input : List ℕ) (old new : Option (List ℕ)) (log : List Entry) → IsUnopened Told volume b fault before after old new log → EndsStarted M Told volume logs before after (start_status b fault) input old new log
  unopened_ends b start.Failed input old new log h = h
  unopened_ends b (start.Config c) input old new log h = h
  unopened_ends b (start.Head g) input old new log h = h
  unopened_ends b start.NoMemory input old new log h = inl (b, h)

  pub unopened : (left : Option (List ℕ)) (b : ℕ) (fault : StartFault) (old new : Option (List ℕ)) (log : List Entry) → IsUnopened Told volume b fault before after old new log → IfSome left (λ input. EndsStarted M Told volume logs before after (start_status b fault) input old new log)
  unopened None b fault old new log h = tt
  unopened (Some input) b fault old new log h = unopened_ends b fault input old new log h

  pub played : (started : List Records) (left : Option (List ℕ)) (how : Status) (old new : Option (List ℕ)) (log : List Entry) → (Told → AreStarted (config_of volume) volume.geometry.n before started) → (Told → StandFresh volume before started)
      → (Told → ButForMemoryIn how (IsRun volume.geometry.n log (fresh (opened (config_of volume) started))) → ButForMemoryIn how (IsConsistentSince volume started log))
      → IfSome left (λ input. Ends M Told volume.geometry.n logs (fresh (opened (config_of volume) started)) how input old new log after)
      → IfSome left (λ input. EndsStarted M Told volume logs before after how input old new log)
  played started None how old new log are fresh_stand consistent h = tt
  played started (Some input) how old new log are fresh_stand consistent h =
      played_ends how input old new log (record { started = started; are_started = are; ends = h; fresh = fresh_stand; consistent = λ told. consistent told (ends_run M Told volume.geometry.n logs (fresh (opened (config_of volume) started)) how input old new log after h told) })

-- the run of a volume file and of what is ordered
module _ {W : Type 0} (M : Meaning W) (Told : Type 0) (words : List (List ℕ)) (there : ℕ) (before after : List Records) where
  has_run_ends : (file : List ℕ) (how : Status) (input : List ℕ) (old new : Option (List ℕ)) (log : List Entry) → HasRun M Told words file there before after how input old new log → is_before_opening how ≡ false → EndsRun M Told words file there before after how input old new log
  has_run_ends file status.Done input old new log h started = h
  has_run_ends file (status.BadScript line why) input old new log h started = h
  has_run_ends file (status.BadVolume line why) input old new log h started = absurd (let x : true ≡ false = started in cc)
  has_run_ends file status.BadWords input old new log h started = absurd (let x : true ≡ false = started in cc)
  has_run_ends file status.ReadFault input old new log h started = inr h
  has_run_ends file status.WriteFault input old new log h started = h
  has_run_ends file (status.WrongBricks (wrong.Count have want)) input old new log h started = absurd (let x : true ≡ false = started in cc)
  has_run_ends file (status.WrongBricks (wrong.Config b c)) input old new log h started = h
  has_run_ends file (status.WrongBricks (wrong.Head b g)) input old new log h started = h
  has_run_ends file (status.StoreFault b) input old new log h started = h
  has_run_ends file status.NoMemory input old new log h started = inr h

  pub run_ordered : (command : Command) (volume : Volume) (left input : Option (List ℕ)) (how : Status) (old new : Option (List ℕ)) (log : List Entry) → ordered words ≡ Some command → there ≡ volume.geometry.n → is_before_opening how ≡ false
      → IfSome left (λ file. IsVolumeFile file (outline volume)) → IfSome input (λ xs. EndsOrdered M Told volume command before after how xs old new log)
      → IfSome left (λ file. IfSome input (λ xs. EndsRun M Told words file there before after how xs old new log))
  run_ordered command volume left input how old new log orders count started is ends =
      told_both left input (λ file. IsVolumeFile file (outline volume)) (λ xs. EndsOrdered M Told volume command before after how xs old new log) (λ file xs. EndsRun M Told words file there before after how xs old new log) is ends
      (λ file xs is ends. has_run_ends file how xs old new log (record { command = command; volume = volume; orders = orders; described = is; count = count; ends = ends }) started)

-- there are other bricks than the volume names
pub run_counted : (volume : Volume) (there have want : ℕ) (before after : List Records) (left input : Option (List ℕ)) (old new : Option (List ℕ)) (log : List Entry) → IfSome left (λ file. IsVolumeFile file (outline volume))
    → have ≡ there → want ≡ volume.geometry.n → there ≢ volume.geometry.n → IsUntouched before after old new log
    → IfSome left (λ file. IfSome input (λ xs. IsOtherCount file there have want × IsUntouched before after old new log))
run_counted volume there have want before after left input old new log is counted wanted other untouched =
    told left input (λ file. IsVolumeFile file (outline volume)) (λ file xs. IsOtherCount file there have want × IsUntouched before after old new log) is
    (λ file xs is. (record { volume = volume; described = is; counted = counted; wanted = wanted; other = other }, untouched))

-- what opening leaves of as many stores as the volume has bricks
pub are_started : (config : Config) (n count : ℕ) (before now : List Records) → count ≡ n → AreAccepted config count before → AreKept config count before now → (AreUnused config count before → AreRooted config count before now)
    → (¬ (AreUnused config count before) → now ≡ before) → AreStarted config n before now
are_started config n count before now same accepted kept roots others = subst (λ (n : ℕ). AreStarted config n before now) same (record { accepted = accepted; kept = kept; roots = roots; same = others })

-- a script that was played from stores that tell what they told, and are as many as the volume's bricks
pub played_from : {W : Type 0} (M : Meaning W) (volume : Volume) (logs : Bool) (before after : List Records) (now was : Bool) (count : ℕ) (started : List Records) (left : Option (List ℕ)) (how : Status) (old new : Option (List ℕ)) (log : List Entry)
    → now ≡ was → count ≡ volume.geometry.n → (was ≡ true → AreStarted (config_of volume) volume.geometry.n before started) → (was ≡ true → StandFresh volume before started)
    → (was ≡ true → ButForMemoryIn how (IsRun volume.geometry.n log (fresh (opened (config_of volume) started))) → ButForMemoryIn how (IsConsistentSince volume started log))
    → IfSome left (λ input. Ends M (now ≡ true) count logs (fresh (opened (config_of volume) started)) how input old new log after)
    → IfSome left (λ input. EndsStarted M (was ≡ true) volume logs before after how input old new log)
played_from M volume logs before after now was count started left how old new log same many are fresh_stand consistent h =
    played M (was ≡ true) volume logs before after started left how old new log are fresh_stand consistent
    (subst (λ (b : Bool). IfSome left (λ input. Ends M (b ≡ true) volume.geometry.n logs (fresh (opened (config_of volume) started)) how input old new log after)) same
    (subst (λ (n : ℕ). IfSome left (λ input. Ends M (now ≡ true) n logs (fresh (opened (config_of volume) started)) how input old new log after)) many h))

-- a vector whose items were lent has what was written to them
pub written_back : {X : Type 0} (xs rest : List X) (n : ℕ) → length xs ≡ n → take n (xs ++ rest) ≡ xs
written_back xs rest n long = subst (λ n. take n (xs ++ rest) ≡ xs) long (take-append_seam xs rest)
