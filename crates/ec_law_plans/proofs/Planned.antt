-- The machine has of each turn that has planned the plan that the plans have for it.
use Rattle.std.proofs.Common.{◌≡◌, ℕ, Bool, true, false, not, cond, ◌==◌, ◌&&◌, ◌||◌, Option, List, [], ◌∷◌, map, refl, sym, ◌∙◌, ap, subst}
use Rattle.ec_history.specs.Run.{Net, after as net_after}
use Rattle.ec_wire.specs.declared.entry.Entry.{Entry}
use Rattle.ec_wire.specs.declared.entry.Entry.TheVariants.{Sent, Executed, Torn}
use Rattle.ec_wire.specs.declared.message.Body.{Body}
use Rattle.ec_wire.specs.declared.message.Body.TheVariants.{ToBrick, ToClient}
use Rattle.ec_law_pieces.specs.Deed.{after as after_deeds, step}
use Rattle.ec_law_pieces.specs.Deed.Deed.{Intend}
use Rattle.ec_law_pieces.specs.File.{File}
use Rattle.ec_law_net.specs.Turns.{View, acts, seen_after, turn_of}
use Rattle.ec_law_turns.proofs.Basics.{equal}
use Rattle.ec_law_data.specs.Deeds.{deeds_sent, dressed, file, file_after, is_post_on}
use Rattle.ec_law_data.specs.Reading.{Plans, Reading}
use Rattle.ec_law_data.proofs.Cores.{deeds_both}
use Rattle.ec_law_plans.specs.Extend.{AsPlanned}
use Rattle.ec_law_plans.proofs.Having.{SamePlans, none_acts, none_executed, none_torn, same_entry, same_plans}

module _ {P V C U S : Type 0} (R : Reading P V C U S) (plans : Plans P V U S) (n k g : ℕ) where
  as_same : (f t : File P V C U S) → SamePlans f t → AsPlanned plans f → AsPlanned plans t
  as_same f t same h a planned =
      let o = h a (sym (ap (λ (z : ℕ → Bool). z a) same.planned) ∙ planned) in (
        λ p. ap (λ (z : ℕ → P → Bool). z a p) same.covers ∙ o.0 p,
        λ p i. ap (λ (z : ℕ → P → ℕ → Option U). z a p i) same.sets ∙ o.1 p i,
        λ p. ap (λ (z : ℕ → P → V). z a p) same.value ∙ o.2 p,
      )

  pick : {X : Type 0} (t : Bool) (x y : X) → t ≡ true → cond t x y ≡ x
  pick true x y e = refl
  pick false x y e = absurd (cc)

  skip : {X : Type 0} (t : Bool) (x y : X) → t ≡ false → cond t x y ≡ y
  skip false x y e = refl
  skip true x y e = absurd (cc)

  as_intended : (f : File P V C U S) (a : ℕ) → AsPlanned plans f → AsPlanned plans (step R.form n k f (Intend a (plans.plan a)))
  as_intended f a h x planned = by (x == a) refl planned
    where
      by : (t : Bool) → (x == a) ≡ t → cond t true (f.planned x) ≡ true → ((p : P) → cond (x == a) ((plans.plan a).covers p) (f.covers x p) ≡ (plans.plan x).covers p) × ((p : P) (i : ℕ) → cond (x == a) ((plans.plan a).sets p i) (f.sets x p i) ≡ (plans.plan x).sets p i) × ((p : P) → cond (x == a) ((plans.plan a).value p) (f.value x p) ≡ (plans.plan x).value p)
      by true e z =
          let same = sym (equal x a e) in (
            λ p. pick (x == a) ((plans.plan a).covers p) (f.covers x p) e ∙ ap (λ (y : ℕ). (plans.plan y).covers p) same,
            λ p i. pick (x == a) ((plans.plan a).sets p i) (f.sets x p i) e ∙ ap (λ (y : ℕ). (plans.plan y).sets p i) same,
            λ p. pick (x == a) ((plans.plan a).value p) (f.value x p) e ∙ ap (λ (y : ℕ). (plans.plan y).value p) same,
          )
      by false e z =
          let o = h x z in (
            λ p. skip (x == a) ((plans.plan a).covers p) (f.covers x p) e ∙ o.0 p,
            λ p i. skip (x == a) ((plans.plan a).sets p i) (f.sets x p i) e ∙ o.1 p i,
            λ p. skip (x == a) ((plans.plan a).value p) (f.value x p) e ∙ o.2 p,
          )

  as_sent : (f : File P V C U S) (a : ℕ) (z : Body) → AsPlanned plans f → AsPlanned plans (after_deeds R.form n k (deeds_sent R plans n k g f a z) f)
  as_sent f a (ToClient re reply) h = h
  as_sent f a (ToBrick q) h = by ((R.is_write g q || is_post_on g q) && not (f.planned a))
    where
      by : (t : Bool) → AsPlanned plans (after_deeds R.form n k (cond t (Intend a (plans.plan a) ∷ []) []) f)
      by true = as_intended f a h
      by false = h

  as_entry : (m : Net) (v : View) (f : File P V C U S) (e : Entry) → AsPlanned plans f → AsPlanned plans (file_after R plans n k g m v f e)
  as_entry m v f (Sent msg) h =
      let ds = deeds_sent R plans n k g f (turn_of g v msg) msg.body in
      let es = map (dressed R plans n k g) (acts g m v (Sent msg)) in
      subst (λ (t : File P V C U S). AsPlanned plans t) (sym (deeds_both R.form n k ds es f)) (as_same (after_deeds R.form n k ds f) (after_deeds R.form n k es (after_deeds R.form n k ds f)) (same_plans R.form n k es (after_deeds R.form n k ds f) (none_acts R plans n k g (acts g m v (Sent msg)))) (as_sent f (turn_of g v msg) msg.body h))
  as_entry m v f (Executed i version failed) h = as_same f (file_after R plans n k g m v f (Executed i version failed)) (same_entry R plans n k g m v f (Executed i version failed) (none_executed R plans n k g m v f (m.said i) version failed)) h
  as_entry m v f (Torn i count version) h = as_same f (file_after R plans n k g m v f (Torn i count version)) (same_entry R plans n k g m v f (Torn i count version) (none_torn R plans n k g m v (m.said i) count version)) h
  as_entry m v f e h = as_same f (file_after R plans n k g m v f e) (same_entry R plans n k g m v f e tt) h

  pub as_log : (es : List Entry) (m : Net) (v : View) (f : File P V C U S) → AsPlanned plans f → AsPlanned plans (file R plans n k g es m v f)
  as_log [] m v f h = h
  as_log (e ∷ es) m v f h = as_log es (net_after m e) (seen_after g m v e) (file_after R plans n k g m v f e) (as_entry m v f e h)
