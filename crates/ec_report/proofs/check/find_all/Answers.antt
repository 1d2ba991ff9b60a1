use Rattle.std.proofs.Common.{◌<◌, ◌∙◌, ap, map, List, length, false, arith}
use Rattle.std.proofs.lemmas.List.{length-map}
use Rattle.std.specs.Prelude.{slice_get}
use Rattle.ec_brick.specs.Opening.{IsNamed}
use Rattle.ec_index.specs.Members.{members}
use Rattle.ec_store.specs.Records.{Records}
use Rattle.ec_report.specs.Records.{HasRecord}
use Rattle.ec_report.proofs.Growing.{first_empty, first_more, set_any, some_at}
use Rattle.ec_report.proofs.Stores.{read_none, read_then, risen_then}
use Rattle.ec_report.proofs.check.find_all.Goals as goal

pub loop-b-init : goal.loop-b-init
loop-b-init g c = record {
  reads = read_none _ _ _;
  kept = λ t. first_empty HasRecord (map g.S.BrickStore.records c.args.stores.now) (members c.new-found.result.kept) c.new-found.ensures.kept;
  named = λ t. first_empty IsNamed (map g.S.BrickStore.records c.args.stores.now) (members c.new-found.result.named) c.new-found.ensures.named;
}

pub loop-b-preserved : goal.loop-b-preserved
loop-b-preserved g c = let i = c.loop-b.invariant in let e = c.in_default.ensures in
    let records = map g.S.BrickStore.records c.args.stores.now in
    let lt : c.loop-b.b < length records = omega (arith, length-map c.args.stores.now g.S.BrickStore.records, c.loop-b-test.true) in
    let m = some_at records c.loop-b.b lt in
    record {
      reads = read_then i.reads c.find_in.ensures.reads;
      kept = λ t. first_more HasRecord records c.loop-b.b m.0 (λ h. false) (members c.loop-b.found.kept) (members c.find_in.new.found.kept) m.1 (i.kept t) (e.kept (i.reads.tells ∙ t) m.0 (ap (λ (rs : List Records). slice_get rs c.loop-b.b) (i.reads.same t) ∙ m.1));
      named = λ t. first_more IsNamed records c.loop-b.b m.0 (λ h. false) (members c.loop-b.found.named) (members c.find_in.new.found.named) m.1 (i.named t) (e.named (i.reads.tells ∙ t) m.0 (ap (λ (rs : List Records). slice_get rs c.loop-b.b) (i.reads.same t) ∙ m.1));
    }

pub returns-in-Err-clause-reads : goal.returns-in-Err-clause-reads
returns-in-Err-clause-reads g c = read_then c.loop-b.invariant.reads c.find_in.ensures.reads

pub returns-in-Err-clause-cause : goal.returns-in-Err-clause-cause
returns-in-Err-clause-cause g c = risen_then _ _ _ c.in-Err.e c.loop-b.invariant.reads.later c.in-Err.ensures.cause

pub returns-clause-kept : goal.returns-clause-kept
returns-clause-kept g c t = set_any HasRecord (map g.S.BrickStore.records c.args.stores.now) c.loop-b.b (members c.loop-b.found.kept) (omega (arith, length-map c.args.stores.now g.S.BrickStore.records, c.loop-b-test.false)) (c.loop-b.invariant.kept t)

pub returns-clause-named : goal.returns-clause-named
returns-clause-named g c t = set_any IsNamed (map g.S.BrickStore.records c.args.stores.now) c.loop-b.b (members c.loop-b.found.named) (omega (arith, length-map c.args.stores.now g.S.BrickStore.records, c.loop-b-test.false)) (c.loop-b.invariant.named t)
