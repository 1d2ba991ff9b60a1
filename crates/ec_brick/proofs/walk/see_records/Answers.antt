use Rattle.std.proofs.Common.{◌≡◌, ◌≢◌, ◌∙◌, ap, sym, subst, arith, true, Some, None, Option, IfSome}
use Rattle.ec_attr.specs.declared.gfid.Gfid.{Gfid}
use Rattle.ec_store.specs.Put.{put}
use Rattle.ec_store.specs.Reads.{NextIs}
use Rattle.ec_store.specs.Records.{Records}
use Rattle.ec_brick.specs.Walk.{Sees, before}
use Rattle.ec_brick.proofs.Seeing.{some_of}
use Rattle.ec_brick.proofs.Walking.{before_first, before_next, before_none, next_there, of_head, sees_same}
use Rattle.ec_brick.proofs.walk.see_records.Goals as goal

pub loop-next-init : goal.loop-next-init
loop-next-init g c = let m = g.S.BrickStore.records c.args.store.now in let e = c.in-Ok.ensures in record {
  tells = e.does.tells;
  same = λ t. e.does.ok t;
  later = e.cause.later;
  sees = λ told. sees_same c.args.config (λ h. None) (before c.in-Ok.next m) c.new-seen.result (λ h. sym (before_first m c.in-Ok.next (e.value told) h)) (c.new-seen.ensures.sees c.args.config);
  there = λ told. next_there m None c.in-Ok.next (e.value told);
  range = c.new-seen.ensures.range;
}

pub returns-in-Err-see_gfid-clause-refused : goal.returns-in-Err-see_gfid-clause-refused
returns-in-Err-see_gfid-clause-refused g c told = let m = g.S.BrickStore.records c.args.store.now in let i = c.loop-next.invariant in
    let r = some_of (m c.in-Some.g.0) (subst (λ (o : Option Gfid). IfSome o (λ n. m n.0 ≢ None)) c.in-Some.is (i.there told)) in
    of_head c.args.config m c.in-Some.g r.0 c.loop-next.seen c.in-Err-see_gfid.e r.1 (subst (λ (o : Option Gfid). Sees c.args.config (before o m) c.loop-next.seen) c.in-Some.is (i.sees told)) (c.in-Err-see_gfid.ensures.refused (i.tells ∙ told) r.0 (ap (λ (f : Records). f c.in-Some.g.0) (i.same told) ∙ r.1))

pub loop-next-preserved : goal.loop-next-preserved
loop-next-preserved g c = let m = g.S.BrickStore.records c.args.store.now in let i = c.loop-next.invariant in let e = c.in_default-see_gfid.ensures in let n = c.in-Ok-next_gfid.ensures in
    let now : g.S.BrickStore.told c.args.store.now ≡ true → g.S.BrickStore.records c.see_gfid.new.store ≡ m = λ t. e.does.ok (i.tells ∙ t) ∙ i.same t in
    let next : g.S.BrickStore.told c.args.store.now ≡ true → NextIs m (Some c.in-Some.g) c.in-Ok-next_gfid.next = λ t. subst (λ (x : Records). NextIs x (Some c.in-Some.g) c.in-Ok-next_gfid.next) (now t) (n.value (e.does.tells ∙ i.tells ∙ t)) in record {
      tells = n.does.tells ∙ e.does.tells ∙ i.tells;
      same = λ t. n.does.ok (e.does.tells ∙ i.tells ∙ t) ∙ now t;
      later = omega (arith, i.later, e.cause.later, n.cause.later);
      sees = λ t. let r = some_of (m c.in-Some.g.0) (subst (λ (o : Option Gfid). IfSome o (λ n. m n.0 ≢ None)) c.in-Some.is (i.there t)) in
          sees_same c.args.config (put (before (Some c.in-Some.g) m) c.in-Some.g.0 (Some r.0)) (before c.in-Ok-next_gfid.next m) c.see_gfid.new.seen (before_next m c.in-Some.g r.0 c.in-Ok-next_gfid.next r.1 (next t)) (e.sees (i.tells ∙ t) (before (Some c.in-Some.g) m) r.0 (ap (λ (f : Records). f c.in-Some.g.0) (i.same t) ∙ r.1) (before_none m c.in-Some.g) (subst (λ (o : Option Gfid). Sees c.args.config (before o m) c.loop-next.seen) c.in-Some.is (i.sees t)));
      there = λ t. next_there m (Some c.in-Some.g) c.in-Ok-next_gfid.next (next t);
      range = e.range i.range;
    }

pub returns-clause-sees : goal.returns-clause-sees
returns-clause-sees g c told = subst (λ (o : Option Gfid). Sees c.args.config (before o (g.S.BrickStore.records c.args.store.now)) c.loop-next.seen) c.in_default.is (c.loop-next.invariant.sees told)
