use Rattle.std.proofs.Common.{rules, ◌-◌, ◌∙◌, map, sym, subst, List, arith, string_bytes}
use Rattle.ec_brick.specs.Opening.{IsNamed}
use Rattle.ec_index.specs.Members.{members}
use Rattle.ec_store.specs.Records.{Records}
use Rattle.ec_report.specs.Reading.{IsSetOf}
use Rattle.ec_report.specs.Records.{OfAny}
use Rattle.ec_report.proofs.Lining.{line_same, lines_all, lines_more, lines_none}
use Rattle.ec_report.proofs.Stores.{read_none, read_then, risen_then}
use Rattle.ec_report.proofs.check.check_gfids.Goals as goal

pub loop-g-init : goal.loop-g-init
loop-g-init g c = record { reads = read_none _ _ _; lines = λ t set. lines_none (c.args.geometry.now.n - c.args.geometry.now.r) (map g.S.BrickStore.records c.args.stores.now) c.args.gfids.now (string_bytes c.new-text.result) (search rules) }

pub loop-g-preserved : goal.loop-g-preserved
loop-g-preserved g c = let i = c.loop-g.invariant in let e = c.in-Ok.ensures in record {
  reads = read_then i.reads c.check_gfid.ensures.reads;
  lines = λ t set. lines_more (c.args.geometry.now.n - c.args.geometry.now.r) (map g.S.BrickStore.records c.args.stores.now) c.args.gfids.now c.loop-g.g-index _ (string_bytes c.loop-g.text) (string_bytes c.push_str.new.self) (string_bytes c.in-Ok.line) c.loop-g-test.true
      (line_same (i.reads.same t) (e.line (i.reads.tells ∙ t) (subst (λ (rs : List Records). IsSetOf (OfAny IsNamed rs) (members c.args.named.now)) (sym (i.reads.same t)) set)))
      (search rules)
      (i.lines t set);
}

pub returns-in-Err-clause-reads : goal.returns-in-Err-clause-reads
returns-in-Err-clause-reads g c = read_then c.loop-g.invariant.reads c.check_gfid.ensures.reads

pub returns-in-Err-clause-cause : goal.returns-in-Err-clause-cause
returns-in-Err-clause-cause g c = risen_then _ _ _ c.in-Err.e c.loop-g.invariant.reads.later c.in-Err.ensures.cause

pub returns-clause-lines : goal.returns-clause-lines
returns-clause-lines g c t set = lines_all (c.args.geometry.now.n - c.args.geometry.now.r) (map g.S.BrickStore.records c.args.stores.now) c.args.gfids.now c.loop-g.g-index (string_bytes c.loop-g.text) (omega (arith, c.loop-g-test.false)) (c.loop-g.invariant.lines t set)
