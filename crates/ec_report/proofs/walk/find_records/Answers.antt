use Rattle.std.proofs.Common.{◌≡◌, ◌≢◌, ◌∙◌, ap, subst, arith, true, Some, None, Option, IfSome}
use Rattle.ec_attr.specs.declared.gfid.Gfid.{Gfid}
use Rattle.ec_index.specs.Members.{members}
use Rattle.ec_store.specs.Put.{put}
use Rattle.ec_store.specs.Reads.{NextIs}
use Rattle.ec_store.specs.Records.{Records}
use Rattle.ec_brick.specs.Opening.{IsNamed}
use Rattle.ec_brick.specs.Walk.{before}
use Rattle.ec_brick.proofs.Seeing.{some_of}
use Rattle.ec_brick.proofs.Walking.{before_next, before_none, next_there}
use Rattle.ec_report.specs.Reading.{GrowsBy}
use Rattle.ec_report.specs.Records.{HasRecord}
use Rattle.ec_report.proofs.Growing.{grows_same, kept_first, kept_more, named_first, named_more}
use Rattle.ec_report.proofs.walk.find_records.Goals as goal

pub loop-next-init : goal.loop-next-init
loop-next-init g c = let m = g.S.BrickStore.records c.args.store.now in let e = c.in-Ok.ensures in record {
  tells = e.does.tells;
  same = λ t. e.does.ok t;
  later = e.cause.later;
  kept = λ t. kept_first m c.in-Ok.next (members c.args.found.now.kept) (e.value t);
  named = λ t. named_first m c.in-Ok.next (members c.args.found.now.named) (e.value t);
  there = λ t. next_there m None c.in-Ok.next (e.value t);
}

pub loop-next-preserved : goal.loop-next-preserved
loop-next-preserved g c = let m = g.S.BrickStore.records c.args.store.now in let i = c.loop-next.invariant in let e = c.in_default-find_record.ensures in let n = c.in-Ok-heads_after.ensures in
    let now : g.S.BrickStore.told c.args.store.now ≡ true → g.S.BrickStore.records c.find_record.new.store ≡ m = λ t. e.does.ok (i.tells ∙ t) ∙ i.same t in
    let next : g.S.BrickStore.told c.args.store.now ≡ true → NextIs m (Some c.in-Some.g) c.in-Ok-heads_after.next = λ t. subst (λ (x : Records). NextIs x (Some c.in-Some.g) c.in-Ok-heads_after.next) (now t) (n.value (e.does.tells ∙ i.tells ∙ t)) in record {
      tells = n.does.tells ∙ e.does.tells ∙ i.tells;
      same = λ t. n.does.ok (e.does.tells ∙ i.tells ∙ t) ∙ now t;
      later = omega (arith, i.later, e.cause.later, n.cause.later);
      kept = λ t. let r = some_of (m c.in-Some.g.0) (subst (λ (o : Option Gfid). IfSome o (λ n. m n.0 ≢ None)) c.in-Some.is (i.there t)) in
          grows_same HasRecord (put (before (Some c.in-Some.g) m) c.in-Some.g.0 (Some r.0)) (before c.in-Ok-heads_after.next m) (members c.args.found.now.kept) (members c.find_record.new.found.kept) (before_next m c.in-Some.g r.0 c.in-Ok-heads_after.next r.1 (next t))
          (kept_more (before (Some c.in-Some.g) m) c.in-Some.g.0 r.0 (members c.args.found.now.kept) (members c.loop-next.found.kept) (members c.find_record.new.found.kept) (before_none m c.in-Some.g) (subst (λ (o : Option Gfid). GrowsBy (HasRecord (before o m)) (members c.args.found.now.kept) (members c.loop-next.found.kept)) c.in-Some.is (i.kept t)) (e.kept (i.tells ∙ t) r.0 (ap (λ (f : Records). f c.in-Some.g.0) (i.same t) ∙ r.1)));
      named = λ t. let r = some_of (m c.in-Some.g.0) (subst (λ (o : Option Gfid). IfSome o (λ n. m n.0 ≢ None)) c.in-Some.is (i.there t)) in
          grows_same IsNamed (put (before (Some c.in-Some.g) m) c.in-Some.g.0 (Some r.0)) (before c.in-Ok-heads_after.next m) (members c.args.found.now.named) (members c.find_record.new.found.named) (before_next m c.in-Some.g r.0 c.in-Ok-heads_after.next r.1 (next t))
          (named_more (before (Some c.in-Some.g) m) c.in-Some.g.0 r.0 (members c.args.found.now.named) (members c.loop-next.found.named) (members c.find_record.new.found.named) (before_none m c.in-Some.g) (subst (λ (o : Option Gfid). GrowsBy (IsNamed (before o m)) (members c.args.found.now.named) (members c.loop-next.found.named)) c.in-Some.is (i.named t)) (e.named (i.tells ∙ t) r.0 (ap (λ (f : Records). f c.in-Some.g.0) (i.same t) ∙ r.1)));
      there = λ t. next_there m (Some c.in-Some.g) c.in-Ok-heads_after.next (next t);
    }

pub returns-clause-kept : goal.returns-clause-kept
returns-clause-kept g c t = subst (λ (o : Option Gfid). GrowsBy (HasRecord (before o (g.S.BrickStore.records c.args.store.now))) (members c.args.found.now.kept) (members c.loop-next.found.kept)) c.in_default.is (c.loop-next.invariant.kept t)

pub returns-clause-named : goal.returns-clause-named
returns-clause-named g c t = subst (λ (o : Option Gfid). GrowsBy (IsNamed (before o (g.S.BrickStore.records c.args.store.now))) (members c.args.found.now.named) (members c.loop-next.found.named)) c.in_default.is (c.loop-next.invariant.named t)
