use Rattle.std.proofs.Common.{◌≡◌, map, true}
use Rattle.std.specs.List.{list_all}
use Rattle.std.proofs.KnownBytes.{Keeps-refl}
use Rattle.ec_play.proofs.TakenLemmas.{takes_none}
use Rattle.ec_play.specs.Taken.{most_of_script}
use Rattle.ec_run.proofs.OrderLemmas.{checked_any, not_checked, not_reported, reported_any}
use Rattle.ec_run.proofs.obeying.start_and_obey.Goals as goal

pub returns-in-Info-clause-ends : goal.returns-in-Info-clause-ends
returns-in-Info-clause-ends g c = reported_any _ (list_all g.B.BrickStore.told c.args.stores.now ≡ true) c.args.volume.now c.args.command (map g.B.BrickStore.records c.args.stores.now) (map g.B.BrickStore.records c.start_and_report.new.stores) c.start_and_report.result (g.S.Source.left c.args.script.now) (g.O.Sink.written c.args.out.now) (g.O.Sink.written c.start_and_report.new.out) c.args.log.now c.in-Info.is c.requires.empty c.start_and_report.ensures.ends

pub returns-in-Check-clause-ends : goal.returns-in-Check-clause-ends
returns-in-Check-clause-ends g c = checked_any _ (list_all g.B.BrickStore.told c.args.stores.now ≡ true) c.args.volume.now c.args.command (map g.B.BrickStore.records c.args.stores.now) (map g.B.BrickStore.records c.start_and_report-in-Check.new.stores) c.start_and_report-in-Check.result (g.S.Source.left c.args.script.now) (g.O.Sink.written c.args.out.now) (g.O.Sink.written c.start_and_report-in-Check.new.out) c.args.log.now c.in-Check.is c.requires.empty c.start_and_report-in-Check.ensures.ends

pub returns-in-Info-clause-taken : goal.returns-in-Info-clause-taken
returns-in-Info-clause-taken g c = takes_none most_of_script (g.S.Source.left c.args.script.now) (g.S.Source.left c.args.script.now) (Keeps-refl (g.S.Source.left c.args.script.now))

pub returns-in-Check-clause-taken : goal.returns-in-Check-clause-taken
returns-in-Check-clause-taken g c = takes_none most_of_script (g.S.Source.left c.args.script.now) (g.S.Source.left c.args.script.now) (Keeps-refl (g.S.Source.left c.args.script.now))

pub returns-in-Info-clause-looks : goal.returns-in-Info-clause-looks
returns-in-Info-clause-looks g c = λ asked. absurd (not_reported c.args.command c.in-Info.is asked)

pub returns-in-Check-clause-looks : goal.returns-in-Check-clause-looks
returns-in-Check-clause-looks g c = λ asked. absurd (not_checked c.args.command c.in-Check.is asked)
