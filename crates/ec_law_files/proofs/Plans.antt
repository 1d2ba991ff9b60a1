-- What the commit of a call on a file is planned to be, in the machine.
use Rattle.std.proofs.Common.{◌≡◌, ℕ, ◌<◌, ◌==◌, Bool, true, false, cond, refl, sym, ◌∙◌, ap, arith, Some, List}
use Rattle.std.proofs.lemmas.Bool.Decides.{nat_tests}
use Rattle.ec_conduct.specs.Given.{Given, quorum_of}
use Rattle.ec_law_data.specs.Coding.{by_rows}
use Rattle.ec_law_data.specs.Forms.{Piece, Shape, piece_of}
use Rattle.ec_law_pieces.specs.Deed.{Deed, Plan, step}
use Rattle.ec_law_pieces.specs.Deed.Deed.{Intend}
use Rattle.ec_law_pieces.specs.File.{File, Form}
use Rattle.ec_stripe.specs.Span.{stripe_bytes}
use Rattle.ec_law_files.specs.Plans.{FilePlanLaws, HasPlan, IsOther}
use Rattle.ec_law_files.proofs.Changing.{changes_put}
use Rattle.ec_law_files.proofs.Coding.{codes_put, covers_put, put_own}
use Rattle.ec_law_files.proofs.Planning.{first_made, plan}

wide : (v : Given) → 0 < stripe_bytes (quorum_of v)
wide v = let least = v.geometry.least in omega (arith, least)

itself : (a : ℕ) → (a == a) ≡ true
itself a = grind (arith, nat_tests)

differ : (x a : ℕ) → (x ≡ a → ⊥) → (a == x) ≡ false
differ x a ne = by (a == x) refl
  where
    by : (t : Bool) → (a == x) ≡ t → t ≡ false
    by true e = absurd (ne (let z : a ≡ x = grind (arith, nat_tests) in sym z))
    by false e = refl

module _ (form : Form ℕ (List (List ℕ)) Piece ℕ Shape) (n q : ℕ) (f : File ℕ (List (List ℕ)) Piece ℕ Shape) (a : ℕ) (p : Plan ℕ (List (List ℕ)) ℕ Shape) where
  planned_now : HasPlan (step form n q f (Intend a p)) a p
  planned_now = record {
    planned = ap (λ (t : Bool). cond t true (f.planned a)) (itself a);
    covers = λ s. ap (λ (t : Bool). cond t (p.covers s) (f.covers a s)) (itself a);
    value = λ s. ap (λ (t : Bool). cond t (p.value s) (f.value a s)) (itself a);
  }

  plan_stays : (d : Deed ℕ (List (List ℕ)) Piece ℕ Shape) → IsOther a d → HasPlan f a p → HasPlan (step form n q f d) a p
  plan_stays (Intend x r) other h = record {
    planned = ap (λ (t : Bool). cond t true (f.planned a)) (differ x a other) ∙ h.planned;
    covers = λ s. ap (λ (t : Bool). cond t (r.covers s) (f.covers a s)) (differ x a other) ∙ h.covers s;
    value = λ s. ap (λ (t : Bool). cond t (r.value s) (f.value a s)) (differ x a other) ∙ h.value s;
  }
  plan_stays d other h = record { planned = h.planned; covers = h.covers; value = h.value }

pub file_plan_laws : FilePlanLaws
file_plan_laws = record {
  low = λ x lt. omega (arith, lt);
  is_plan = λ byte bytes n q coder f a c b g w r took reads of first. plan byte bytes n q coder f a c g w (wide c.given) (first_made c b g w r of first) took reads;
  changes = λ c g w rs all on s e. changes_put c.given.op c g w.head rs all on s e;
  put = put_own;
  covered = λ f a v b w r has put s e. has.covers s ∙ covers_put v b w r put s e;
  codes = λ rows f g a v b w r has put whole below row s e.
      codes_put rows v b w below row r put whole s e
      ∙ ap (λ (z : List (List ℕ)). piece_of (λ i. Some (by_rows (quorum_of v) rows z b i))) (sym (has.value s));
  planned = planned_now;
  stays = plan_stays;
}
