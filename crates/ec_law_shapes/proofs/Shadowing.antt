-- The shadow of a machine goes on beside it: what Takes and Creates owe is all that it owes.
use Rattle.std.proofs.Common.{◌≡◌, ◌⊎◌, ℕ, Bool, true, false, not, cond, ◌==◌, ◌&&◌, ◌||◌, None, List, [], ◌∷◌, ◌++◌, map, refl, sym, ◌∙◌, ap, subst}
use Rattle.ec_attr.specs.Marks.{is_marked}
use Rattle.ec_wire.specs.declared.message.Body.{Body}
use Rattle.ec_wire.specs.declared.message.Body.TheVariants.{ToBrick, ToClient}
use Rattle.ec_wire.specs.declared.request.Request.{Request}
use Rattle.ec_wire.specs.declared.request.Request.TheVariants.{Query, PreOp, Mark as MarkOf, Unmark as UnmarkOf}
use Rattle.ec_brick.specs.Replies.{Says}
use Rattle.ec_law_base.specs.State.{State, put, put2, target}
use Rattle.ec_law_ballots.specs.Act.{Act, step as act_step}
use Rattle.ec_law_ballots.specs.Act.Act.{Grant, Free, Share, Unshare, Moment, See, Keep, Carry, Choose, Choose_kept, Pre, Sink_pre, Post, Sink_post, Clear, Heal_grant, Heal_free, Mark, Unmark, Maker_grant, Maker_free, Make, Made, Unmake, Stop, Replace}
use Rattle.ec_law_ballots.specs.Words.{group}
use Rattle.ec_law_pieces.specs.Deed.{Deed, Plan, after as after_deeds, step}
use Rattle.ec_law_pieces.specs.Deed.Deed.{Intend}
use Rattle.ec_law_pieces.specs.File.{File}
use Rattle.ec_law_net.specs.Turns.{acts_sent}
use Rattle.ec_law_data.specs.Deeds.{deeds_sent, dressed, is_post_on}
use Rattle.ec_law_data.specs.Forms.{Shape}
use Rattle.ec_law_data.specs.Owing.{AllOwe, Owes}
use Rattle.ec_law_data.specs.Reading.{Plans, Reading}
use Rattle.ec_law_turns.proofs.Basics.{differ, equal, itself, put_here, put_there}
use Rattle.ec_law_shapes.specs.Fitting.{AllOweShape, OwesShape}
use Rattle.ec_law_shapes.specs.Shadows.{Bare, IsShadow, bare_form, of_shapes}
use Rattle.ec_law_shapes.proofs.Moving.{Calmly, Makes, Posts, Sees, Works}
use Rattle.ec_law_shapes.proofs.Quiet.{Calm, Same, is_calm}

-- a plan of no place
abbrev pub bare_plan : Shape → Plan ⊥ (Unit {0}) (Unit {0}) Shape
bare_plan becomes = record { covers = λ p. false; sets = λ p i. None; value = λ p. tt; becomes = becomes }

-- the plans of the shadow: a turn that has planned keeps its plan
abbrev pub bare_plans : {P V C U : Type 0} → Plans P V U Shape → File P V C U Shape → Plans ⊥ (Unit {0}) (Unit {0}) Shape
bare_plans plans f = record { took = plans.took; plan = λ t. bare_plan (cond (f.planned t) (f.becomes t) (plans.plan t).becomes) }

-- a PostOp is of a turn that has planned
abbrev pub IsPlanned : (ℕ → Bool) → Act → Type 0
IsPlanned planned (Post a b) = planned a ≡ true
IsPlanned planned (Sink_post a b) = planned a ≡ true
IsPlanned planned (Choose_kept x a p) = planned a ≡ true
IsPlanned planned e = Unit {0}

abbrev pub ArePlanned : (ℕ → Bool) → List Act → Type 0
ArePlanned planned [] = Unit {0}
ArePlanned planned (e ∷ es) = IsPlanned planned e × ArePlanned planned es

pub planned_both : (planned : ℕ → Bool) (xs ys : List Act) → ArePlanned planned xs → ArePlanned planned ys → ArePlanned planned (xs ++ ys)
planned_both planned [] ys h i = i
planned_both planned (x ∷ xs) ys h i = (h.0, planned_both planned xs ys h.1 i)

planned_if : (planned : ℕ → Bool) (t : Bool) (xs ys : List Act) → ArePlanned planned xs → ArePlanned planned ys → ArePlanned planned (cond t xs ys)
planned_if planned true xs ys h i = h
planned_if planned false xs ys h i = i

calm_one : (planned : ℕ → Bool) (e : Act) → is_calm e ≡ true → IsPlanned planned e
calm_one planned (Post a b) h = absurd (cc)
calm_one planned (Sink_post a b) h = absurd (cc)
calm_one planned (Choose_kept x a p) h = absurd (cc)
calm_one planned e h = tt

pub calm_planned : (planned : ℕ → Bool) (es : List Act) → Calm es → ArePlanned planned es
calm_planned planned [] h = tt
calm_planned planned (e ∷ es) h = (calm_one planned e h.0, calm_planned planned es h.1)

pub sent_planned : (planned : ℕ → Bool) (g : ℕ) (s : State) (a : ℕ) (z : Body) → ArePlanned planned (acts_sent g s a z)
sent_planned planned g s a (ToBrick (Query x i)) = planned_if planned (x.0 == g) _ [] (planned_if planned (s.moment a) [] (Moment a ∷ []) tt (tt, tt)) tt
sent_planned planned g s a (ToBrick (PreOp x i at number)) = planned_if planned (x.0 == g) _ [] (planned_if planned ((s.ballot a).number == 0) _ [] (tt, tt) tt) tt
sent_planned planned g s a (ToBrick (MarkOf x i heal head)) = planned_if planned (x.0 == g) _ [] (planned_if planned ((s.ballot a).number == 0) _ [] (tt, tt) tt) tt
sent_planned planned g s a (ToBrick (UnmarkOf x i at dirty)) = planned_if planned (x.0 == g) _ [] (planned_if planned ((s.ballot a).number == 0) _ [] (tt, tt) tt) tt
sent_planned planned g s a z = tt

pub work_planned : (planned : ℕ → Bool) (g a b : ℕ) (q : Request) (says : Says) (es : List Act) → Works g a b q says es → (is_post_on g q ≡ true → planned a ≡ true) → ArePlanned planned es
work_planned planned g a b q says es (Calmly calm other) h = calm_planned planned es calm
work_planned planned g a b q says es (Sees x j is on d e) h = subst (ArePlanned planned) (sym e) (tt, tt)
work_planned planned g a b q says es (Posts x j at new size attr is on d e) h = subst (ArePlanned planned) (sym e) (by (is_marked at))
  where
    posts : is_post_on g q ≡ true
    posts = ap (is_post_on g) is ∙ subst (λ (z : ℕ). (x.0 == z) ≡ true) on (itself x.0)

    by : (t : Bool) → ArePlanned planned (cond t (Sink_post a b) (Post a b) ∷ [])
    by true = (h posts, tt)
    by false = (h posts, tt)
work_planned planned g a b q says es (Makes x j child is on d e) h = subst (ArePlanned planned) (sym e) (tt, tt)

-- ## Acts

module _ {P V C U : Type 0} (R : Reading P V C U Shape) (plans : Plans P V U Shape) (plans0 : Plans ⊥ (Unit {0}) (Unit {0}) Shape) (n k g : ℕ) (took : (a : ℕ) → plans0.took a ≡ plans.took a) where
  abbrev D : Act → Deed P V C U Shape
  D e = dressed R plans n k g e

  abbrev D0 : Act → Deed ⊥ (Unit {0}) (Unit {0}) (Unit {0}) Shape
  D0 e = dressed (of_shapes R.new) plans0 n k g e

  abbrev Goes : Act → File P V C U Shape → Bare → Type 0
  Goes e f s = IsShadow (step R.form n k f (D e)) (step bare_form n k s (D0 e)) × Owes bare_form n k s (D0 e) × ((step bare_form n k s (D0 e)).planned ≡ s.planned)

  module _ (f : File P V C U Shape) (s : Bare) (h : IsShadow f s) where
    moved : (e : Act) → act_step s.heads e ≡ act_step f.heads e
    moved e = ap (λ (z : State). act_step z e) h.heads

    plainly : (e : Act) → IsShadow (record f { heads = act_step f.heads e }) (record s { heads = act_step s.heads e })
    plainly e = record { heads = moved e; shape = h.shape; shape_of = h.shape_of; told = h.told; took = h.took; plan = h.plan }

    posted : (e : Act) (a b : ℕ) → s.planned a ≡ true → (s.becomes a ≡ f.becomes a) × (put s.shape b (s.becomes a) ≡ put f.shape b (f.becomes a)) × (put s.shape_of (target (s.heads.ballot a)) (s.becomes a) ≡ put f.shape_of (target (f.heads.ballot a)) (f.becomes a))
    posted e a b planned =
        let same = (h.plan a planned).1 in (
          same,
          ap (λ (z : ℕ → Shape). put z b (s.becomes a)) h.shape ∙ ap (λ (z : Shape). put f.shape b z) same,
          ap (λ (z : ℕ → Shape). put z (target (s.heads.ballot a)) (s.becomes a)) h.shape_of ∙ (ap (λ (z : State). put f.shape_of (target (z.ballot a)) (s.becomes a)) h.heads ∙ ap (λ (z : Shape). put f.shape_of (target (f.heads.ballot a)) z) same),
        )

    act_goes : (e : Act) → IsPlanned s.planned e → OwesShape R.form n k f (D e) → Goes e f s
    act_goes (Grant a b) p o = (plainly (Grant a b), tt, refl)
    act_goes (Free b) p o = (plainly (Free b), tt, refl)
    act_goes (Share a b) p o = (plainly (Share a b), tt, refl)
    act_goes (Unshare a b) p o = (plainly (Unshare a b), tt, refl)
    act_goes (Moment a) p o = (plainly (Moment a), tt, refl)
    act_goes (See a b) p o = (record { heads = moved (See a b); shape = h.shape; shape_of = h.shape_of; told = ap (λ (z : ℕ → ℕ → Shape). put2 z a b (s.shape b)) h.told ∙ ap (λ (z : ℕ → Shape). put2 f.told a b (z b)) h.shape; took = h.took; plan = h.plan }, tt, refl)
    act_goes (Keep x a) p o = (plainly (Keep x a), tt, refl)
    act_goes (Carry a x b) p o = (plainly (Carry a x b), tt, refl)
    act_goes (Choose a y) p o = (
      record { heads = moved (Choose a y); shape = h.shape; shape_of = h.shape_of; told = h.told; took = ap (λ (z : ℕ → Shape). put z a (plans0.took a)) h.took ∙ ap (λ (z : Shape). put f.took a z) (took a); plan = h.plan },
      (λ b in_group. ap (λ (z : ℕ → ℕ → Shape). z a b) h.told ∙ (o b (subst (λ (z : State). group (act_step z (Choose a y)) a b ≡ true) h.heads in_group) ∙ sym (took a))),
      refl,
    )
    act_goes (Choose_kept x a y) p o = (record { heads = moved (Choose_kept x a y); shape = h.shape; shape_of = h.shape_of; told = h.told; took = ap (λ (z : ℕ → Shape). put z x (s.becomes a)) h.took ∙ ap (λ (z : Shape). put f.took x z) (h.plan a p).1; plan = h.plan }, tt, refl)
    act_goes (Pre a b) p o = (plainly (Pre a b), tt, refl)
    act_goes (Sink_pre a b) p o = (plainly (Sink_pre a b), tt, refl)
    act_goes (Post a b) p o = let w = posted (Post a b) a b p in (record { heads = moved (Post a b); shape = w.1; shape_of = w.2; told = h.told; took = h.took; plan = h.plan }, (λ place. absurd place), refl)
    act_goes (Sink_post a b) p o = let w = posted (Sink_post a b) a b p in (record { heads = moved (Sink_post a b); shape = w.1; shape_of = w.2; told = h.told; took = h.took; plan = h.plan }, (λ place. absurd place), refl)
    act_goes (Clear a b) p o = (plainly (Clear a b), tt, refl)
    act_goes (Heal_grant c b) p o = (plainly (Heal_grant c b), tt, refl)
    act_goes (Heal_free b) p o = (plainly (Heal_free b), tt, refl)
    act_goes (Mark a b) p o = (record { heads = moved (Mark a b); shape = ap (λ (z : ℕ → Shape). put z b (s.took a)) h.shape ∙ ap (λ (z : ℕ → Shape). put f.shape b (z a)) h.took; shape_of = h.shape_of; told = h.told; took = h.took; plan = h.plan }, tt, refl)
    act_goes (Unmark a b) p o = (plainly (Unmark a b), tt, refl)
    act_goes (Maker_grant b) p o = (plainly (Maker_grant b), tt, refl)
    act_goes (Maker_free b) p o = (plainly (Maker_free b), tt, refl)
    act_goes (Make b) p o = (
      record {
        heads = moved (Make b);
        shape = ap (λ (z : ℕ → Shape). put z b R.new) h.shape;
        shape_of = ap (λ (z : ℕ → Shape). λ (v : ℕ). cond (s.heads.making || not (v == 0)) (z v) R.new) h.shape_of ∙ ap (λ (z : State). λ (v : ℕ). cond (z.making || not (v == 0)) (f.shape_of v) R.new) h.heads;
        told = h.told;
        took = h.took;
        plan = h.plan;
      },
      subst (λ (z : State). (z.making ≡ false) ⊎ (R.new ≡ s.shape_of 0)) (sym h.heads) (subst (λ (z : ℕ → Shape). (f.heads.making ≡ false) ⊎ (R.new ≡ z 0)) (sym h.shape_of) o),
      refl,
    )
    act_goes (Made b) p o = (plainly (Made b), tt, refl)
    act_goes (Unmake b) p o = (plainly (Unmake b), tt, refl)
    act_goes (Stop b) p o = (plainly (Stop b), tt, refl)
    act_goes (Replace b) p o = (plainly (Replace b), tt, refl)

  -- a list of acts
  pub acts_go : (es : List Act) (f : File P V C U Shape) (s : Bare) → IsShadow f s → ArePlanned s.planned es → AllOweShape R.form n k (map D es) f → IsShadow (after_deeds R.form n k (map D es) f) (after_deeds bare_form n k (map D0 es) s) × AllOwe bare_form n k (map D0 es) s
  acts_go [] f s h p o = (h, tt)
  acts_go (e ∷ es) f s h p o =
      let w = act_goes f s h e p.0 o.0 in
      let rest = acts_go es (step R.form n k f (D e)) (step bare_form n k s (D0 e)) w.0 (subst (λ (z : ℕ → Bool). ArePlanned z es) (sym w.2) p.1) o.1 in
      (rest.0, (w.1, rest.1))

-- ## Data

-- data leave shapes and plans
pub same_shadow : {P V C U : Type 0} (f f' : File P V C U Shape) (s : Bare) → Same f f' → f'.heads ≡ f.heads → IsShadow f s → IsShadow f' s
same_shadow f f' s same heads h = record {
  heads = h.heads ∙ sym heads;
  shape = h.shape ∙ sym same.shape;
  shape_of = h.shape_of ∙ sym same.shape_of;
  told = h.told ∙ sym same.told;
  took = h.took ∙ sym same.took;
  plan = λ t e. let o = h.plan t e in (ap (λ (z : ℕ → Bool). z t) same.planned ∙ o.0, o.1 ∙ ap (λ (z : ℕ → Shape). z t) (sym same.becomes));
}

-- a plan is made by the machine, and by its shadow with the first PostOp
module _ {P V C U : Type 0} (R : Reading P V C U Shape) (plans : Plans P V U Shape) (n k g a : ℕ) (f : File P V C U Shape) (s : Bare) (h : IsShadow f s) where
  abbrev P0 : Plans ⊥ (Unit {0}) (Unit {0}) Shape
  P0 = bare_plans plans f

  abbrev F1 : Bool → Bool → File P V C U Shape
  F1 w u = after_deeds R.form n k (cond (w && not u) (Intend a (plans.plan a) ∷ []) []) f

  abbrev S1 : Bool → Bool → Bare
  S1 w u = after_deeds bare_form n k (cond (w && not u) (Intend a (P0.plan a) ∷ []) []) s

  -- where the shadow plans nothing
  alone : (w u : Bool) → f.planned a ≡ u → IsShadow (F1 w u) s
  alone true true e = h
  alone false u e = h
  alone true false e = record {
    heads = h.heads;
    shape = h.shape;
    shape_of = h.shape_of;
    told = h.told;
    took = h.took;
    plan = λ t p. let o = h.plan t p in let ne = λ (same : t ≡ a). absurd (let z = sym o.0 ∙ (ap f.planned same ∙ e) in cc) in (put_there f.planned a true t ne ∙ o.0, o.1 ∙ sym (put_there f.becomes a (plans.plan a).becomes t ne));
  }

  -- where it plans, the machine does or has done so
  together : (u : Bool) → f.planned a ≡ u → IsShadow (F1 true u) (S1 true false)
  together u e = by u e
    where
      new_here : (u : Bool) → f.planned a ≡ u → (F1 true u).planned a ≡ true
      new_here true e = e
      new_here false e = put_here f.planned a true a refl

      new_shape : (u : Bool) → f.planned a ≡ u → cond (f.planned a) (f.becomes a) (plans.plan a).becomes ≡ (F1 true u).becomes a
      new_shape true e = ap (λ (t : Bool). cond t (f.becomes a) (plans.plan a).becomes) e
      new_shape false e = ap (λ (t : Bool). cond t (f.becomes a) (plans.plan a).becomes) e ∙ sym (put_here f.becomes a (plans.plan a).becomes a refl)

      planned : (u : Bool) (e : f.planned a ≡ u) (t : ℕ) → (S1 true false).planned t ≡ true → ((F1 true u).planned t ≡ true) × ((S1 true false).becomes t ≡ (F1 true u).becomes t)
      planned u e t p = either (t == a) refl
        where
          either : (w : Bool) → (t == a) ≡ w → ((F1 true u).planned t ≡ true) × ((S1 true false).becomes t ≡ (F1 true u).becomes t)
          either true z = let same = equal t a z in subst (λ (y : ℕ). ((F1 true u).planned y ≡ true) × ((S1 true false).becomes y ≡ (F1 true u).becomes y)) (sym same) (new_here u e, put_here s.becomes a (cond (f.planned a) (f.becomes a) (plans.plan a).becomes) a refl ∙ new_shape u e)
          either false z = let ne = differ t a z in let o = (alone true u e).plan t (sym (put_there s.planned a true t ne) ∙ p) in (o.0, put_there s.becomes a (cond (f.planned a) (f.becomes a) (plans.plan a).becomes) t ne ∙ o.1)

      by : (u : Bool) → f.planned a ≡ u → IsShadow (F1 true u) (S1 true false)
      by true e = record { heads = h.heads; shape = h.shape; shape_of = h.shape_of; told = h.told; took = h.took; plan = planned true e }
      by false e = record { heads = h.heads; shape = h.shape; shape_of = h.shape_of; told = h.told; took = h.took; plan = planned false e }

  pub sent_goes : (z : Body) → IsShadow (after_deeds R.form n k (deeds_sent R plans n k g f a z) f) (after_deeds bare_form n k (deeds_sent (of_shapes R.new) P0 n k g s a z) s)
  sent_goes (ToClient re reply) = h
  sent_goes (ToBrick q) = by (R.is_write g q) (is_post_on g q) (f.planned a) (s.planned a) refl refl
    where
      by : (t w u y : Bool) → f.planned a ≡ u → s.planned a ≡ y → IsShadow (F1 (t || w) u) (S1 (false || w) y)
      by t false u y e d = alone (t || false) u e
      by t true u true e d = alone (t || true) u e
      by true true u false e d = together u e
      by false true u false e d = together u e
