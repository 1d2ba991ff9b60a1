use Rattle.std.proofs.Common.{◌<◌, ◌∙◌, ap, sym, subst, arith, Option, IfSome, List, ℕ}
use Rattle.ec_index.specs.Members.{members}
use Rattle.ec_store.specs.Records.{Records}
use Rattle.ec_brick.specs.Walk.{IsText, names_left, reached}
use Rattle.ec_brick.proofs.NamePlaces.{fewer_left}
use Rattle.ec_report.specs.Reading.{GrowsBy, LeadsTo}
use Rattle.ec_report.proofs.Naming.{page_none}
use Rattle.ec_report.proofs.walk.name_all.Goals as goal

pub loop-after-init : goal.loop-after-init
loop-after-init g c = let e = c.in-Ok.ensures in record {
  tells = e.does.tells;
  same = λ t. e.does.ok t;
  later = e.cause.later;
  grows = λ told r is. e.grows told (members c.args.named.now) r is (page_none r.names (members c.args.named.now));
  text = e.text;
}

pub loop-after-smaller : goal.loop-after-smaller
loop-after-smaller g c = subst (λ (o : Option (List ℕ)). names_left c.in-Ok-name_page.next < names_left o) (sym c.in-Some.is) (fewer_left c.in-Some.last c.in-Ok-name_page.next (subst (λ (o : Option (List ℕ)). IfSome o IsText) c.in-Some.is c.loop-after.invariant.text) c.in-Ok-name_page.ensures.text c.in-Ok-name_page.ensures.past)

pub loop-after-preserved : goal.loop-after-preserved
loop-after-preserved g c = let i = c.loop-after.invariant in let e = c.in-Ok-name_page.ensures in record {
  tells = e.does.tells ∙ i.tells;
  same = λ t. e.does.ok (i.tells ∙ t) ∙ i.same t;
  later = omega (arith, i.later, e.cause.later);
  grows = λ told r is. e.grows (i.tells ∙ told) (members c.args.named.now) r (ap (λ (f : Records). f c.args.g.0) (i.same told) ∙ is) (subst (λ (o : Option (List ℕ)). GrowsBy (LeadsTo (reached o r.names)) (members c.args.named.now) (members c.loop-after.named)) c.in-Some.is (i.grows told r is));
  text = e.text;
}

pub returns-clause-grows : goal.returns-clause-grows
returns-clause-grows g c told r is = subst (λ (o : Option (List ℕ)). GrowsBy (LeadsTo (reached o r.names)) (members c.args.named.now) (members c.loop-after.named)) c.in_default.is (c.loop-after.invariant.grows told r is)
