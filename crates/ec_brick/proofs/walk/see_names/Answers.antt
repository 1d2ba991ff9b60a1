use Rattle.std.proofs.Common.{◌<◌, ◌∙◌, ap, sym, subst, arith, Some, Option, IfSome, List, ℕ}
use Rattle.ec_store.specs.Put.{put}
use Rattle.ec_store.specs.Records.{Records}
use Rattle.ec_brick.specs.Walk.{IsText, Sees, names_left, reached, renamed}
use Rattle.ec_brick.proofs.NamePlaces.{fewer_left}
use Rattle.ec_brick.proofs.walk.see_names.Goals as goal

pub loop-after-smaller : goal.loop-after-smaller
loop-after-smaller g c = subst (λ (o : Option (List ℕ)). names_left c.in-Ok-see_names_after.next < names_left o) (sym c.in-Some.is) (fewer_left c.in-Some.last c.in-Ok-see_names_after.next (subst (λ (o : Option (List ℕ)). IfSome o IsText) c.in-Some.is c.loop-after.invariant.text) c.in-Ok-see_names_after.ensures.text c.in-Ok-see_names_after.ensures.past)

pub loop-after-preserved : goal.loop-after-preserved
loop-after-preserved g c = let i = c.loop-after.invariant in let e = c.in-Ok-see_names_after.ensures in record {
  tells = e.does.tells ∙ i.tells;
  same = λ t. e.does.ok (i.tells ∙ t) ∙ i.same t;
  later = omega (arith, i.later, e.cause.later);
  sees = λ told config m r is sees. e.sees (i.tells ∙ told) config m r (ap (λ (f : Records). f c.args.g.0) (i.same told) ∙ is) (subst (λ (o : Option (List ℕ)). Sees config (put m c.args.g.0 (Some (renamed r (reached o r.names)))) c.loop-after.seen) c.in-Some.is (i.sees told config m r is sees));
  range = λ r p. e.range (i.range r p) (omega (arith, p, i.positive));
  positive = omega (arith, i.positive, e.positive);
  text = e.text;
}

pub returns-clause-sees : goal.returns-clause-sees
returns-clause-sees g c told config m r is sees = subst (λ (o : Option (List ℕ)). Sees config (put m c.args.g.0 (Some (renamed r (reached o r.names)))) c.loop-after.seen) c.in_default.is (c.loop-after.invariant.sees told config m r is sees)
