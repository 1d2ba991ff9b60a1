use Rattle.std.proofs.Common.{◌∙◌, ◌≡◌, Err, Result, inl, inr, length, map, string_bytes, subst, sym, true}
use Rattle.std.specs.List.{list_all}
use Rattle.ec_play.specs.declared.status.Status.{Status}
use Rattle.ec_run.proofs.EndsLemmas.{are_started}
use Rattle.ec_run.proofs.ReportLemmas.{check_of_volume, check_rose, told_after, unopened_is, unreported_check, unreported_ends, unreported_none}
use Rattle.ec_play.specs.declared.status.Status.TheVariants as status
use Rattle.ec_run.specs.Reports.{EndsReported, IsReportOf, fault_status}
use Rattle.ec_run.specs.declared.reporting.Report.{Report}
use Rattle.ec_world.specs.Whole.{config_of}
use Rattle.ec_run.proofs.reporting.report_text.Goals as goal

err_same : {T : Type 0} (a b : Status) → ◌≡◌ {A = Result T Status} (Err a) (Err b) → a ≡ b
err_same a b e = cc

pub returns-in-Err-clause-ends : goal.returns-in-Err-clause-ends
returns-in-Err-clause-ends g c = λ known.
    let before = map g.B.BrickStore.records c.args.stores.now in
    let after = map g.B.BrickStore.records c.start.new.stores in
    subst (λ (s : Status). EndsReported (list_all g.B.BrickStore.told c.args.stores.now ≡ true) c.args.report c.args.volume.now before after s known known) (sym c.status_of_start.ensures.status)
    (unopened_is (list_all g.B.BrickStore.told c.args.stores.now ≡ true) c.args.report c.args.volume.now before after (length c.args.stores.now) c.in-Err.brick c.in-Err.fault known c.requires.count c.in-Err.ensures.refused c.in-Err.ensures.head c.in-Err.ensures.first c.in-Err.ensures.part c.in-Err.ensures.kept)

pub returns-in-Ok-info_text-clause-text : goal.returns-in-Ok-info_text-clause-text
returns-in-Ok-info_text-clause-text g c =
    let before = map g.B.BrickStore.records c.args.stores.now in
    let after = map g.B.BrickStore.records c.start.new.stores in
    record {
      started = λ t. are_started (config_of c.args.volume.now) c.args.volume.now.geometry.n (length c.args.stores.now) before after c.requires.count (c.in-Ok.ensures.accepted t) (c.in-Ok.ensures.records t) (c.in-Ok.ensures.roots t) (c.in-Ok.ensures.kept t);
      tells = λ t. subst (λ (r : Report). IsReportOf r c.args.volume.now after (string_bytes c.in-Ok-info_text.text)) (sym c.in-Info.is) (c.in-Ok-info_text.ensures.records after _ (c.in-Ok.ensures.stands t));
    }

pub returns-in-Info-clause-ends : goal.returns-in-Info-clause-ends
returns-in-Info-clause-ends g c = λ known.
    let before = map g.B.BrickStore.records c.args.stores.now in
    let after = map g.B.BrickStore.records c.start.new.stores in
    inr (inl (unreported_none (list_all g.B.BrickStore.told c.args.stores.now ≡ true) c.args.report c.args.volume.now before after known
    (λ t. are_started (config_of c.args.volume.now) c.args.volume.now.geometry.n (length c.args.stores.now) before after c.requires.count (c.in-Ok.ensures.accepted t) (c.in-Ok.ensures.records t) (c.in-Ok.ensures.roots t) (c.in-Ok.ensures.kept t))))

pub returns-in-Ok-check_text-clause-text : goal.returns-in-Ok-check_text-clause-text
returns-in-Ok-check_text-clause-text g c =
    let before = map g.B.BrickStore.records c.args.stores.now in
    let mid = map g.B.BrickStore.records c.start.new.stores in
    let after = map g.B.BrickStore.records c.check_text.new.stores in
    told_after (list_all g.B.BrickStore.told c.args.stores.now ≡ true) c.args.report c.args.volume.now before mid after (string_bytes c.in-Ok-check_text.text) (λ t. c.check_text.ensures.reads.same (c.start.ensures.tells ∙ t)) (record {
      started = λ t. are_started (config_of c.args.volume.now) c.args.volume.now.geometry.n (length c.args.stores.now) before mid c.requires.count (c.in-Ok.ensures.accepted t) (c.in-Ok.ensures.records t) (c.in-Ok.ensures.roots t) (c.in-Ok.ensures.kept t);
      tells = λ t. subst (λ (r : Report). IsReportOf r c.args.volume.now mid (string_bytes c.in-Ok-check_text.text)) (sym c.in-Check.is) (check_of_volume c.in-Ok.world.clients.options c.args.volume.now mid (string_bytes c.in-Ok-check_text.text) c.in-Ok.ensures.options (c.in-Ok-check_text.ensures.text (c.start.ensures.tells ∙ t)));
    })

pub returns-clause-ends : goal.returns-clause-ends
returns-clause-ends g c = λ known.
    let before = map g.B.BrickStore.records c.args.stores.now in
    let mid = map g.B.BrickStore.records c.start.new.stores in
    let after = map g.B.BrickStore.records c.check_text.new.stores in
    subst (λ (s : Status). EndsReported (list_all g.B.BrickStore.told c.args.stores.now ≡ true) c.args.report c.args.volume.now before after s known known) (sym c.status_of_fault.ensures)
    (unreported_ends (list_all g.B.BrickStore.told c.args.stores.now ≡ true) c.args.report c.args.volume.now before after c.in-Err-check_text.fault known known
    (unreported_check (list_all g.B.BrickStore.told c.args.stores.now ≡ true) c.args.report c.args.volume.now before mid after c.in-Err-check_text.fault known c.in-Check.is (λ t. c.check_text.ensures.reads.same (c.start.ensures.tells ∙ t))
    (λ t. are_started (config_of c.args.volume.now) c.args.volume.now.geometry.n (length c.args.stores.now) before mid c.requires.count (c.in-Ok.ensures.accepted t) (c.in-Ok.ensures.records t) (c.in-Ok.ensures.roots t) (c.in-Ok.ensures.kept t))))

pub returns-clause-store : goal.returns-clause-store
returns-clause-store g c = λ b e.
    let failed : fault_status c.in-Err-check_text.fault ≡ status.StoreFault b = sym c.status_of_fault.ensures ∙ err_same _ _ e in
    check_rose (map g.B.BrickStore.faults c.args.stores.now) (map g.B.BrickStore.faults c.start.new.stores) (map g.B.BrickStore.faults c.check_text.new.stores) c.in-Err-check_text.fault b c.start.ensures.later c.in-Err-check_text.ensures.cause failed
