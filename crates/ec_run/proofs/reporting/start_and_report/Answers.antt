use Rattle.std.proofs.Common.{◌≡◌, None, map, true}
use Rattle.std.specs.List.{list_all}
use Rattle.ec_run.proofs.ReportLemmas.{ends_started, ends_unread}
use Rattle.ec_run.proofs.reporting.start_and_report.Goals as goal

pub returns-in-Err-clause-started : goal.returns-in-Err-clause-started
returns-in-Err-clause-started g c = ends_started (list_all g.B.BrickStore.told c.args.stores.now ≡ true) c.args.report c.args.volume.now (map g.B.BrickStore.records c.args.stores.now) (map g.B.BrickStore.records c.report_text.new.stores) c.in-Err.status None None (c.in-Err.ensures.ends None)

pub returns-in-Err-clause-read : goal.returns-in-Err-clause-read
returns-in-Err-clause-read g c = ends_unread (list_all g.B.BrickStore.told c.args.stores.now ≡ true) c.args.report c.args.volume.now (map g.B.BrickStore.records c.args.stores.now) (map g.B.BrickStore.records c.report_text.new.stores) c.in-Err.status None None (c.in-Err.ensures.ends None)
