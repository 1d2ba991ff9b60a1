-- How reports end, by what comes of their parts.
use Rattle.std.proofs.Common.{◌≡◌, ◌≢◌, ◌⊎◌, ◌-◌, ◌<◌, ◌≤◌, inl, inr, ℕ, false, List, [], Option, refl, sym, subst, arith}
use Rattle.std.proofs.KnownBytes.{Keeps-refl}
use Rattle.std.specs.Prelude.{slice_index}
use Rattle.ec_attr.specs.declared.config.Config.{Config}
use Rattle.ec_brick.specs.Opening.{IsForeign}
use Rattle.ec_brick.specs.declared.start_fault.StartFault.{StartFault}
use Rattle.ec_brick.specs.declared.start_fault.StartFault.TheVariants as start
use Rattle.ec_clients.specs.declared.options.Options.{Options}
use Rattle.ec_cluster.specs.Open.{AreAccepted, AreRooted, AreUnused, IsFaultOf}
use Rattle.ec_play.specs.declared.status.BricksWhy.TheVariants as wrong
use Rattle.ec_play.specs.declared.status.Status.{Status}
use Rattle.ec_play.specs.declared.status.Status.TheVariants as status
use Rattle.ec_report.specs.Reading.{HasRisen}
use Rattle.ec_report.specs.Records.{IsCheck}
use Rattle.ec_report.specs.declared.fault.CheckFault.{CheckFault}
use Rattle.ec_report.specs.declared.fault.CheckFault.TheVariants as check
use Rattle.ec_run.specs.Reports.{EndsReported, IsReportOf, IsTold, IsUnreported, fault_status}
use Rattle.ec_run.specs.Run.{is_before_opening}
use Rattle.ec_run.specs.Starts.{AreStarted, IsUnopened, start_status}
use Rattle.ec_run.specs.declared.reporting.Report.{Report}
use Rattle.ec_run.specs.declared.reporting.Report.TheVariants.{Check}
use Rattle.ec_store.specs.Causes.{Rose}
use Rattle.ec_store.specs.Records.{Records}
use Rattle.ec_volfile.specs.declared.volume.Volume.{Volume}
use Rattle.ec_world.specs.Whole.{config_of, options_of}

module _ (Told : Type 0) (report : Report) (volume : Volume) (before after : List Records) where
  pub unopened_ends : (b : ℕ) (fault : StartFault) (old new : Option (List ℕ)) → IsUnopened Told volume b fault before after old new [] → EndsReported Told report volume before after (start_status b fault) old new
  unopened_ends b start.Failed old new h = inl h
  unopened_ends b (start.Config c) old new h = h
  unopened_ends b (start.Head g) old new h = h
  unopened_ends b start.NoMemory old new h = inl (b, h)

  pub unreported_ends : (fault : CheckFault) (old new : Option (List ℕ)) → IsUnreported Told report volume fault before after old new → EndsReported Told report volume before after (fault_status fault) old new
  unreported_ends (check.Store b) old new h = inr h
  unreported_ends check.NoMemory old new h = inr (inl h)

  pub ends_started : (how : Status) (old new : Option (List ℕ)) → EndsReported Told report volume before after how old new → is_before_opening how ≡ false
  ends_started status.Done old new h = refl
  ends_started (status.BadScript line why) old new h = refl
  ends_started (status.BadVolume line why) old new h = absurd h
  ends_started status.BadWords old new h = absurd h
  ends_started status.ReadFault old new h = refl
  ends_started status.WriteFault old new h = refl
  ends_started (status.WrongBricks (wrong.Count have want)) old new h = absurd h
  ends_started (status.WrongBricks (wrong.Config b c)) old new h = refl
  ends_started (status.WrongBricks (wrong.Head b g)) old new h = refl
  ends_started (status.StoreFault b) old new h = refl
  ends_started status.NoMemory old new h = refl

  pub ends_unread : (how : Status) (old new : Option (List ℕ)) → EndsReported Told report volume before after how old new → how ≢ status.ReadFault
  ends_unread how old new h e = subst (λ (s : Status). EndsReported Told report volume before after s old new) e h

  -- a store that isn't opened
  pub unopened_is : (count b : ℕ) (fault : StartFault) (known : Option (List ℕ)) → count ≡ volume.geometry.n → (b < count) × IsForeign (config_of volume) fault
      → (Told → IsFaultOf (config_of volume) before (b, fault)) → (Told → AreAccepted (config_of volume) b before) → (Told → (after ≡ before) ⊎ AreRooted (config_of volume) b before after)
      → (Told → ¬ (AreUnused (config_of volume) count before) → after ≡ before) → EndsReported Told report volume before after (start_status b fault) known known
  unopened_is count b fault known many refused first earlier part kept = unopened_ends b fault known known (record {
    there = subst (λ (n : ℕ). b < n) many refused.0;
    foreign = refused.1;
    first = first;
    earlier = earlier;
    part = part;
    kept = subst (λ (n : ℕ). Told → ¬ (AreUnused (config_of volume) n before) → after ≡ before) many kept;
    text = Keeps-refl known;
    unlogged = refl;
  })

  -- no report for want of memory
  pub unreported_none : (known : Option (List ℕ)) → (Told → AreStarted (config_of volume) volume.geometry.n before after) → IsUnreported Told report volume check.NoMemory before after known known
  unreported_none known started = record { started = started; read = λ b e. absurd (let x : check.NoMemory ≡ check.Store b = e in cc); text = Keeps-refl known }

-- stores that were only read since
pub told_after : (Told : Type 0) (report : Report) (volume : Volume) (before mid after : List Records) (text : List ℕ) → (Told → after ≡ mid) → IsTold Told report volume before mid text → IsTold Told report volume before after text
told_after Told report volume before mid after text same h = record {
  started = λ t. subst (λ (r : List Records). AreStarted (config_of volume) volume.geometry.n before r) (sym (same t)) (h.started t);
  tells = λ t. subst (λ (r : List Records). IsReportOf report volume r text) (sym (same t)) (h.tells t);
}

-- a check of as many bricks as the volume needs
pub check_of_volume : (options : Options) (volume : Volume) (records : List Records) (text : List ℕ) → options ≡ options_of volume → IsCheck (options.geometry.n - options.geometry.r) records text → IsCheck (volume.geometry.n - volume.geometry.r) records text
check_of_volume options volume records text same h = subst (λ (o : Options). IsCheck (o.geometry.n - o.geometry.r) records text) same h

-- no report since a store that was read failed, or for want of memory
pub unreported_check : (Told : Type 0) (report : Report) (volume : Volume) (before mid after : List Records) (fault : CheckFault) (known : Option (List ℕ)) → report ≡ Check → (Told → after ≡ mid) → (Told → AreStarted (config_of volume) volume.geometry.n before mid) → IsUnreported Told report volume fault before after known known
unreported_check Told report volume before mid after fault known is same started = record {
  started = λ t. subst (λ (r : List Records). AreStarted (config_of volume) volume.geometry.n before r) (sym (same t)) (started t);
  read = λ b e. is;
  text = Keeps-refl known;
}

-- a store that failed while it was read has counted it, and no count fell before
pub check_rose : (first mid now : List ℕ) (fault : CheckFault) (b : ℕ) → ((x : ℕ) → slice_index first x ≤ slice_index mid x) → HasRisen mid now fault → fault_status fault ≡ status.StoreFault b → Rose (slice_index first b) (slice_index now b)
check_rose first mid now (check.Store a) b later rose e =
    let same : a ≡ b = (let x : status.StoreFault a ≡ status.StoreFault b = e in cc) in
    let here : Rose (slice_index mid b) (slice_index now b) = subst (λ (x : ℕ). Rose (slice_index mid x) (slice_index now x)) same rose in
    let le : slice_index first b ≤ slice_index mid b = later b in
    omega (arith, here, le)
check_rose first mid now check.NoMemory b later rose e = absurd (let x : status.NoMemory ≡ status.StoreFault b = e in cc)
