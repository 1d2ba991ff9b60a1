use Rattle.std.proofs.Common.{◌-◌, ◌∙◌, map, sym, subst, List, string_bytes}
use Rattle.ec_attr.specs.declared.gfid.Gfid.{Gfid}
use Rattle.ec_brick.specs.Opening.{IsNamed}
use Rattle.ec_index.specs.Members.{members}
use Rattle.ec_store.specs.Records.{Records}
use Rattle.ec_report.specs.Reading.{IsSetOf}
use Rattle.ec_report.specs.Records.{AreLines, HasRecord, OfAny}
use Rattle.ec_report.proofs.Lists.{listed_set}
use Rattle.ec_report.proofs.Stores.{if_ok_then, read_then, risen_err}
use Rattle.ec_report.proofs.check.check_text.Goals as goal

pub returns-clause-reads : goal.returns-clause-reads
returns-clause-reads g c = read_then c.find_all.ensures.reads c.check_gfids.ensures.reads

pub returns-clause-cause : goal.returns-clause-cause
returns-clause-cause g c = risen_err _ _ _ c.check_gfids.result c.find_all.ensures.reads.later c.check_gfids.ensures.cause

pub returns-clause-text : goal.returns-clause-text
returns-clause-text g c =
    let before = map g.S.BrickStore.records c.args.stores.now in
    if_ok_then c.check_gfids.result (λ text lines t.
    let same = c.find_all.ensures.reads.same t in record {
      gfids = c.in-Ok-list_of.gfids.items;
      listed = listed_set (OfAny HasRecord before) (members c.in-Ok.found.kept) c.in-Ok-list_of.gfids.items (c.in-Ok.ensures.kept t) c.in-Ok-list_of.ensures;
      lines = subst (λ (gs : List Gfid). AreLines (c.args.geometry.now.n - c.args.geometry.now.r) before gs (string_bytes text)) c.as_slice.ensures.value
          (subst (λ (rs : List Records). AreLines (c.args.geometry.now.n - c.args.geometry.now.r) rs c.as_slice.result.now (string_bytes text)) same (lines (c.find_all.ensures.reads.tells ∙ t) (subst (λ (rs : List Records). IsSetOf (OfAny IsNamed rs) (members c.in-Ok.found.named)) (sym same) (c.in-Ok.ensures.named t))));
    }) c.check_gfids.ensures.lines
