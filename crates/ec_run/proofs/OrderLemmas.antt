-- Reports, as what was ordered.
use Rattle.std.proofs.Common.{◌≡◌, List, ℕ, [], None, Option, Some, sym, subst}
use Rattle.std.specs.Prelude.{IfSome, true, false}
use Rattle.ec_play.specs.Meaning.{Meaning}
use Rattle.ec_play.specs.declared.status.Status.{Status}
use Rattle.ec_run.specs.Reports.{EndsReported}
use Rattle.ec_run.specs.Run.{EndsOrdered, is_report_order}
use Rattle.ec_run.specs.declared.reporting.Report.TheVariants as report
use Rattle.ec_store.specs.Records.{Records}
use Rattle.ec_volfile.specs.declared.volume.Volume.{Volume}
use Rattle.ec_wire.specs.declared.entry.Entry.{Entry}
use Rattle.ec_words.specs.declared.command.Command.{Command}
use Rattle.ec_words.specs.declared.command.Command.TheVariants.{Info, Check}

pub reported_any : {W : Type 0} (M : Meaning W) (Told : Type 0) (volume : Volume) (command : Command) (before after : List Records) (how : Status) (input : Option (List ℕ)) (old new : Option (List ℕ)) (log : List Entry) → command ≡ Info → log ≡ [] → EndsReported Told report.Info volume before after how old new
    → IfSome input (λ xs. EndsOrdered M Told volume command before after how xs old new log)
reported_any M Told volume command before after how None old new log is unlogged h = tt
reported_any M Told volume command before after how (Some xs) old new log is unlogged h = subst (λ (c : Command). EndsOrdered M Told volume c before after how xs old new log) (sym is) (h, unlogged)

pub checked_any : {W : Type 0} (M : Meaning W) (Told : Type 0) (volume : Volume) (command : Command) (before after : List Records) (how : Status) (input : Option (List ℕ)) (old new : Option (List ℕ)) (log : List Entry) → command ≡ Check → log ≡ [] → EndsReported Told report.Check volume before after how old new
    → IfSome input (λ xs. EndsOrdered M Told volume command before after how xs old new log)
checked_any M Told volume command before after how None old new log is unlogged h = tt
checked_any M Told volume command before after how (Some xs) old new log is unlogged h = subst (λ (c : Command). EndsOrdered M Told volume c before after how xs old new log) (sym is) (h, unlogged)

-- what orders a report orders no play
pub not_reported : (command : Command) → command ≡ Info → is_report_order (Some command) ≡ false → ⊥
not_reported command is asked = let bad : true ≡ false = subst (λ (c : Command). is_report_order (Some c) ≡ false) is asked in cc

pub not_checked : (command : Command) → command ≡ Check → is_report_order (Some command) ≡ false → ⊥
not_checked command is asked = let bad : true ≡ false = subst (λ (c : Command). is_report_order (Some c) ≡ false) is asked in cc
