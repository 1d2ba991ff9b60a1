use Rattle.std.proofs.Common.{rules, ◌≡◌, ◌<◌, ◌∙◌, ap, map, List, [], Option, length, length-append, arith}
use Rattle.std.proofs.lemmas.List.{length-map}
use Rattle.std.specs.Prelude.{slice_get}
use Rattle.ec_attr.specs.declared.head.Head.{Head}
use Rattle.ec_store.specs.Records.{Records}
use Rattle.ec_report.proofs.Lining.{heads_all, heads_more}
use Rattle.ec_report.proofs.Stores.{read_none, read_then, risen_then}
use Rattle.ec_report.proofs.heads.read_heads.Goals as goal

pub loop-b-init : goal.loop-b-init
loop-b-init g c = let none : c.new-heads.result.items ≡ [] = search rules in record { reads = read_none _ _ _; many = ap (λ (xs : List (Option Head)). length xs) none; heads = λ t. none }

pub loop-b-preserved : goal.loop-b-preserved
loop-b-preserved g c = let i = c.loop-b.invariant in let e = c.in-Ok.ensures in
    let lt : c.loop-b.b < length (map g.S.BrickStore.records c.args.stores.now) = omega (arith, length-map c.args.stores.now g.S.BrickStore.records, c.loop-b-test.true) in
    record {
      reads = read_then i.reads c.read_head.ensures.reads;
      many = omega (arith, ap (λ (xs : List (Option Head)). length xs) c.in_default.ensures.items, length-append {A = Option Head}, i.many);
      heads = λ t. heads_more (map g.S.BrickStore.records c.args.stores.now) c.args.g.0 c.loop-b.b c.loop-b.heads.items c.push.new.self.items c.in-Ok.head c.in_default.ensures.items (i.heads t) lt (λ m is. e.head (i.reads.tells ∙ t) m (ap (λ (rs : List Records). slice_get rs c.loop-b.b) (i.reads.same t) ∙ is));
    }

pub returns-in-Err-clause-reads : goal.returns-in-Err-clause-reads
returns-in-Err-clause-reads g c = read_then c.loop-b.invariant.reads c.read_head.ensures.reads

pub returns-in-Err-clause-cause : goal.returns-in-Err-clause-cause
returns-in-Err-clause-cause g c = risen_then _ _ _ c.in-Err.e c.loop-b.invariant.reads.later c.in-Err.ensures.cause

pub returns-clause-heads : goal.returns-clause-heads
returns-clause-heads g c t = heads_all (map g.S.BrickStore.records c.args.stores.now) c.args.g.0 c.loop-b.b c.loop-b.heads.items (omega (arith, length-map c.args.stores.now g.S.BrickStore.records, c.loop-b-test.false)) (c.loop-b.invariant.heads t)
