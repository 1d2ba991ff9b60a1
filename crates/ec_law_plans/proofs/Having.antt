-- Each turn that has planned has its call's plan, entry by entry.
use Rattle.std.proofs.Common.{◌≡◌, ⊎_elim, ℕ, ◌+◌, ◌-◌, ◌^◌, ◌<◌, ◌≤◌, Bool, true, false, not, cond, ◌==◌, ◌&&◌, ◌||◌, Option, Some, None, List, [], ◌∷◌, ◌++◌, map, refl, sym, ◌∙◌, ap, subst, arith}
use Rattle.ec_attr.specs.declared.kind.Child.{Child}
use Rattle.ec_brick.specs.State.{State as Brick}
use Rattle.ec_brick.specs.Step.{Out}
use Rattle.ec_conduct.specs.Given.{Given}
use Rattle.ec_history.specs.Accounts.{Books}
use Rattle.ec_history.specs.Run.{Net, after as net_after, call_of, out_of, torn_out}
use Rattle.ec_history.specs.Story.{is_done}
use Rattle.ec_wire.specs.declared.entry.Entry.{Entry}
use Rattle.ec_wire.specs.declared.entry.Entry.TheVariants.{Sent}
use Rattle.ec_wire.specs.declared.message.Body.{Body}
use Rattle.ec_wire.specs.declared.message.Body.TheVariants.{ToBrick, ToClient}
use Rattle.ec_wire.specs.declared.message.Message.{Message}
use Rattle.ec_wire.specs.declared.reply.Reply.{Reply}
use Rattle.ec_wire.specs.declared.request.Request.{Request}
use Rattle.ec_law_ballots.specs.Act.{Act}
use Rattle.ec_law_ballots.specs.Act.Act.{Choose}
use Rattle.ec_law_pieces.specs.Deed.{Deed, after as after_deeds, step}
use Rattle.ec_law_pieces.specs.Deed.Deed.{Intend, Read, Spoil, Tear, Write}
use Rattle.ec_law_pieces.specs.File.{File, Form}
use Rattle.ec_law_net.specs.Turns.{View, acts, seen_after, turn_of}
use Rattle.ec_law_turns.proofs.Basics.{equal, itself, put_here}
use Rattle.ec_law_turns.proofs.Tracks.{Adds}
use Rattle.ec_law_data.specs.Deeds.{data_deeds, deeds_answered, deeds_executed, deeds_failed, deeds_of_request, deeds_of_torn, deeds_sent, deeds_torn, dressed, file_after, is_at_base, is_granted, is_partial, is_post_on, pieces_of, shows}
use Rattle.ec_law_data.specs.Forms.{Shape, is_naming, of_directory}
use Rattle.ec_law_data.specs.Reading.{Plans, Reading}
use Rattle.ec_law_data.proofs.Cores.{deeds_both}
use Rattle.ec_law_data.proofs.Settling.{newly_planned}
use Rattle.ec_law_plans.specs.Naming.{HasPlan, HavePlans, NameFile, NamePlans, name_plan}
use Rattle.ec_law_plans.proofs.Steady.{planned_deeds}

-- ## Deeds that plan nothing

module _ {P V C U S : Type 0} where
  abbrev pub plans_none : Deed P V C U S → Bool
  plans_none (Intend a plan) = false
  plans_none d = true

  abbrev pub PlanNone : List (Deed P V C U S) → Type 0
  PlanNone [] = Unit {0}
  PlanNone (d ∷ ds) = (plans_none d ≡ true) × PlanNone ds

  pub record SamePlans (f t : File P V C U S) : Type 0 where
    pub planned : t.planned ≡ f.planned
    pub covers : t.covers ≡ f.covers
    pub sets : t.sets ≡ f.sets
    pub value : t.value ≡ f.value

  same_step : (form : Form P V C U S) (n k : ℕ) (d : Deed P V C U S) (f : File P V C U S) → plans_none d ≡ true → SamePlans f (step form n k f d)
  same_step form n k (Intend a plan) f e = absurd (cc)
  same_step form n k d f e = record { planned = refl; covers = refl; sets = refl; value = refl }

  same_then : (f t u : File P V C U S) → SamePlans f t → SamePlans t u → SamePlans f u
  same_then f t u h i = record { planned = i.planned ∙ h.planned; covers = i.covers ∙ h.covers; sets = i.sets ∙ h.sets; value = i.value ∙ h.value }

  pub same_plans : (form : Form P V C U S) (n k : ℕ) (ds : List (Deed P V C U S)) (f : File P V C U S) → PlanNone ds → SamePlans f (after_deeds form n k ds f)
  same_plans form n k [] f h = record { planned = refl; covers = refl; sets = refl; value = refl }
  same_plans form n k (d ∷ ds) f h = same_then f (step form n k f d) (after_deeds form n k ds (step form n k f d)) (same_step form n k d f h.0) (same_plans form n k ds (step form n k f d) h.1)

  none_both : (xs ys : List (Deed P V C U S)) → PlanNone xs → PlanNone ys → PlanNone (xs ++ ys)
  none_both [] ys h i = i
  none_both (x ∷ xs) ys h i = (h.0, none_both xs ys h.1 i)

  none_if : (t : Bool) (xs ys : List (Deed P V C U S)) → PlanNone xs → PlanNone ys → PlanNone (cond t xs ys)
  none_if true xs ys h i = h
  none_if false xs ys h i = i

  none_either : (t : Bool) (x y : Deed P V C U S) → plans_none x ≡ true → plans_none y ≡ true → PlanNone (cond t x y ∷ [])
  none_either true x y h i = (h, tt)
  none_either false x y h i = (i, tt)

module _ {P V C U S : Type 0} (R : Reading P V C U S) (plans : Plans P V U S) (n k g : ℕ) where
  none_dressed : (e : Act) → plans_none (dressed R plans n k g e) ≡ true
  none_dressed (Choose a p) = refl
  none_dressed e = refl

  pub none_acts : (es : List Act) → PlanNone (map (dressed R plans n k g) es)
  none_acts [] = tt
  none_acts (e ∷ es) = (none_dressed e, none_acts es)

  none_failed : (a b : ℕ) (q : Request) (version : Option ℕ) (old now : Brick) → PlanNone (deeds_failed R plans n k g a b q version old now)
  none_failed a b q None old now = tt
  none_failed a b q (Some version) old now = none_if (R.is_write g q && is_partial q) _ [] (none_either (is_granted old q) (Tear a b (R.writes g q) (pieces_of R plans n k g (now.records g))) (Spoil b (R.writes g q) (pieces_of R plans n k g (now.records g))) refl refl) tt

  none_answered : (f : File P V C U S) (a b : ℕ) (q : Request) (old : Brick) (out : Out) → PlanNone (deeds_answered R plans n k g f a b q old out)
  none_answered f a b q old out = none_if (is_done out.says) _ _ (none_if (R.is_write g q) _ [] (none_either (is_granted old q) (Write a b (R.writes g q)) (Spoil b (R.writes g q) (pieces_of R plans n k g (out.brick.records g))) refl refl) tt) (none_if (shows out.says && R.is_read g q && is_at_base f.heads a b) (Read a b (R.reads g q) ∷ []) [] (refl, tt) tt)

  pub none_executed : (m : Net) (v : View) (f : File P V C U S) (o : Option Message) (version : Option ℕ) (failed : Bool) → PlanNone (deeds_executed R plans n k g m v f o version failed)
  none_executed m v f None version failed = tt
  none_executed m v f (Some msg) version failed = body msg.body failed
    where
      body : (z : Body) (failed : Bool) → PlanNone (deeds_of_request R plans n k g m v f msg z version failed)
      body (ToBrick q) true = none_failed (v.of msg.no) msg.brick q version (m.brick msg.brick) (out_of m msg q version true).brick
      body (ToBrick q) false = none_answered f (v.of msg.no) msg.brick q (m.brick msg.brick) (out_of m msg q version false)
      body (ToClient re reply) failed = tt

  pub none_torn : (m : Net) (v : View) (o : Option Message) (count : ℕ) (version : Option ℕ) → PlanNone (deeds_torn R plans n k g m v o count version)
  none_torn m v None count version = tt
  none_torn m v (Some msg) count version = body msg.body
    where
      body : (z : Body) → PlanNone (deeds_of_torn R plans n k g m v msg z count version)
      body (ToBrick q) = none_failed (v.of msg.no) msg.brick q version (m.brick msg.brick) (torn_out m msg q count version).brick
      body (ToClient re reply) = tt

  -- an entry of which the deeds on data plan nothing leaves plans as they are
  pub same_entry : (m : Net) (v : View) (f : File P V C U S) (e : Entry) → PlanNone (data_deeds R plans n k g m v f e) → SamePlans f (file_after R plans n k g m v f e)
  same_entry m v f e h = same_plans R.form n k (data_deeds R plans n k g m v f e ++ map (dressed R plans n k g) (acts g m v e)) f (none_both (data_deeds R plans n k g m v f e) (map (dressed R plans n k g) (acts g m v e)) h (none_acts (acts g m v e)))

-- ## Plans of calls

-- what was said and what calls began with stays
pub record Stays (m t : Net) (b c : Books) : Type 0 where
  pub next : m.next ≤ t.next
  pub said : (j : ℕ) → j < m.next → t.said j ≡ m.said j
  pub given : (a : ℕ) (given : Given) → b.given a ≡ Some given → c.given a ≡ Some given

plan_stays : (g : ℕ) (m t : Net) (b c : Books) (f h : NameFile) (a : ℕ) → Stays m t b c → ((name : List ℕ) → h.covers a name ≡ f.covers a name) → ((name : List ℕ) (i : ℕ) → h.sets a name i ≡ f.sets a name i) → ((name : List ℕ) → h.value a name ≡ f.value a name) → HasPlan g m b f a → HasPlan g t c h a
plan_stays g m t b c f h a s covers sets value p = record {
  begun = p.begun;
  below = let lt = p.below in let le = s.next in omega (arith, lt, le);
  given = p.given;
  made = ap (λ (o : Option Message). c.given (call_of o)) (s.said (a - 2 ^ 61) (let lt = p.below in let le = p.begun in omega (arith, lt, le))) ∙ s.given (call_of (m.said (a - 2 ^ 61))) p.given p.made;
  covers = λ name. covers name ∙ p.covers name;
  sets = λ name i. sets name i ∙ p.sets name i;
  value = λ name. value name ∙ p.value name;
}

module _ (plans : NamePlans) (n k g : ℕ) (m : Net) (v : View) (b c : Books) (f : NameFile) (have : HavePlans g m v b f) where
  -- by an entry that plans nothing
  pub have_same : (e : Entry) → PlanNone (data_deeds of_directory plans n k g m v f e) → Stays m (net_after m e) b c → (net_after m e).said ≡ m.said → (seen_after g m v e).of ≡ v.of → HavePlans g (net_after m e) (seen_after g m v e) c (file_after of_directory plans n k g m v f e)
  have_same e none s said of =
      let same = same_entry of_directory plans n k g m v f e none in
      record {
        has = λ a h. plan_stays g m (net_after m e) b c f (file_after of_directory plans n k g m v f e) a s (λ name. ap (λ (z : ℕ → List ℕ → Bool). z a name) same.covers) (λ name i. ap (λ (z : ℕ → List ℕ → ℕ → Option (Option Child)). z a name i) same.sets) (λ name. ap (λ (z : ℕ → List ℕ → Option Child). z a name) same.value) (have.has a (sym (ap (λ (z : ℕ → Bool). z a) same.planned) ∙ h));
        sent = λ i x q is body w. let o = have.sent i x q (sym (ap (λ (z : ℕ → Option Message). z i) said) ∙ is) body w in let at = ap (λ (z : ℕ → ℕ). z i) of in (ap (λ (z : ℕ → Bool). z ((seen_after g m v e).of i)) same.planned ∙ (ap f.planned at ∙ o.0), subst (λ (j : ℕ). 2 ^ 61 ≤ j) (sym at) o.1);
      }

  module _ (msg : Message) (s : Stays m (net_after m (Sent msg)) b c) (more : Adds m.said (net_after m (Sent msg)).said v.of (seen_after g m v (Sent msg)).of msg.no msg) where
    abbrev a : ℕ
    a = turn_of g v msg

    abbrev t : Net
    t = net_after m (Sent msg)

    abbrev h : NameFile
    h = file_after of_directory plans n k g m v f (Sent msg)

    mine : (seen_after g m v (Sent msg)).of msg.no ≡ a
    mine = put_here v.of msg.no (turn_of g v msg) msg.no refl

    abbrev told : NameFile
    told = step of_directory.form n k f (Intend a (plans.plan a))

    by_acts : (ds : List (Deed (List ℕ) (Option Child) (Option Child) (Option Child) Shape)) → SamePlans (after_deeds of_directory.form n k ds f) (after_deeds of_directory.form n k (ds ++ map (dressed of_directory plans n k g) (acts g m v (Sent msg))) f)
    by_acts ds = subst (λ (z : NameFile). SamePlans (after_deeds of_directory.form n k ds f) z) (sym (deeds_both of_directory.form n k ds (map (dressed of_directory plans n k g) (acts g m v (Sent msg))) f)) (same_plans of_directory.form n k (map (dressed of_directory plans n k g) (acts g m v (Sent msg))) (after_deeds of_directory.form n k ds f) (none_acts of_directory plans n k g (acts g m v (Sent msg))))

    abbrev Deeds : Type 0
    Deeds = List (Deed (List ℕ) (Option Child) (Option Child) (Option Child) Shape)

    sent_none : (u : Bool) → u ≡ false → PlanNone (cond {A = Deeds} (u && not (f.planned a)) (Intend a (plans.plan a) ∷ []) [])
    sent_none false e = tt
    sent_none true e = absurd (cc)

    abbrev sent_by : Body → Deeds
    sent_by z = deeds_sent of_directory plans n k g f a z

    from : (ds : List (Deed (List ℕ) (Option Child) (Option Child) (Option Child) Shape)) → sent_by msg.body ≡ ds → SamePlans (after_deeds of_directory.form n k ds f) h
    from ds e = subst (λ (y : List (Deed (List ℕ) (Option Child) (Option Child) (Option Child) Shape)). SamePlans (after_deeds of_directory.form n k y f) h) e (by_acts (sent_by msg.body))

    -- the turns that have planned still have, and those that plan have their call's plan
    carried : (x : ℕ) → SamePlans f h → h.planned x ≡ true → HasPlan g t c h x
    carried x same is = plan_stays g m t b c f h x s (λ name. ap (λ (z : ℕ → List ℕ → Bool). z x name) same.covers) (λ name i. ap (λ (z : ℕ → List ℕ → ℕ → Option (Option Child)). z x name i) same.sets) (λ name. ap (λ (z : ℕ → List ℕ → Option Child). z x name) same.value) (have.has x (sym (ap (λ (z : ℕ → Bool). z x) same.planned) ∙ is))

    pick : {X : Type 0} (u : Bool) (x y : X) → u ≡ true → cond u x y ≡ x
    pick true x y e = refl
    pick false x y e = absurd (cc)

    skip : {X : Type 0} (u : Bool) (x y : X) → u ≡ false → cond u x y ≡ y
    skip false x y e = refl
    skip true x y e = absurd (cc)

    module _ (given : Given) (shape : Shape) (made : b.given msg.call ≡ Some given) (plan : f.planned a ≡ false → plans.plan a ≡ name_plan given shape) (begun : 2 ^ 61 ≤ a) (below : a < 2 ^ 61 + t.next) (call : call_of (t.said (a - 2 ^ 61)) ≡ msg.call) where
      planned_now : f.planned a ≡ false → SamePlans told h → (x : ℕ) → h.planned x ≡ true → HasPlan g t c h x
      planned_now none same x is = by (x == a) refl (sym (ap (λ (z : ℕ → Bool). z x) same.planned) ∙ is)
        where
          by : (u : Bool) → (x == a) ≡ u → cond u true (f.planned x) ≡ true → HasPlan g t c h x
          by true e p =
              let z = plan none in
              subst (λ (y : ℕ). HasPlan g t c h y) (sym (equal x a e)) (record {
                begun = begun;
                below = below;
                given = given;
                made = ap c.given call ∙ s.given msg.call given made;
                covers = λ name. ap (λ (y : ℕ → List ℕ → Bool). y a name) same.covers ∙ (pick (a == a) ((plans.plan a).covers name) (f.covers a name) (itself a) ∙ ap (λ p. p.covers name) z);
                sets = λ name i. ap (λ (y : ℕ → List ℕ → ℕ → Option (Option Child)). y a name i) same.sets ∙ (pick (a == a) ((plans.plan a).sets name i) (f.sets a name i) (itself a) ∙ ap (λ p. p.sets name i) z);
                value = λ name. ap (λ (y : ℕ → List ℕ → Option Child). y a name) same.value ∙ (pick (a == a) ((plans.plan a).value name) (f.value a name) (itself a) ∙ ap (λ p. p.value name) z);
              })
          by false e p = plan_stays g m t b c f h x s
              (λ name. ap (λ (y : ℕ → List ℕ → Bool). y x name) same.covers ∙ skip (x == a) ((plans.plan a).covers name) (f.covers x name) e)
              (λ name i. ap (λ (y : ℕ → List ℕ → ℕ → Option (Option Child)). y x name i) same.sets ∙ skip (x == a) ((plans.plan a).sets name i) (f.sets x name i) e)
              (λ name. ap (λ (y : ℕ → List ℕ → Option Child). y x name) same.value ∙ skip (x == a) ((plans.plan a).value name) (f.value x name) e)
              (have.has x p)

      has_now : (q : Request) → msg.body ≡ ToBrick q → (x : ℕ) → h.planned x ≡ true → HasPlan g t c h x
      has_now q body x is = by (is_naming g q || is_post_on g q) (f.planned a) refl refl
        where
          by : (u w : Bool) → (is_naming g q || is_post_on g q) ≡ u → f.planned a ≡ w → HasPlan g t c h x
          by false w e p = carried x (from [] (ap sent_by body ∙ ap (λ (y : Bool). cond (y && not (f.planned a)) (Intend a (plans.plan a) ∷ []) []) e)) is
          by true true e p = carried x (from [] (ap sent_by body ∙ (ap (λ (y : Bool). cond (y && not (f.planned a)) (Intend a (plans.plan a) ∷ []) []) e ∙ ap (λ (y : Bool). cond (not y) (Intend a (plans.plan a) ∷ []) []) p))) is
          by true false e p = planned_now p (from (Intend a (plans.plan a) ∷ []) (ap sent_by body ∙ (ap (λ (y : Bool). cond (y && not (f.planned a)) (Intend a (plans.plan a) ∷ []) []) e ∙ ap (λ (y : Bool). cond (not y) (Intend a (plans.plan a) ∷ []) []) p))) x is

    -- messages that were sent
    sent_now : ((q : Request) → msg.body ≡ ToBrick q → (is_naming g q || is_post_on g q) ≡ true → 2 ^ 61 ≤ a) → (i : ℕ) (x : Message) (q : Request) → t.said i ≡ Some x → x.body ≡ ToBrick q → (is_naming g q || is_post_on g q) ≡ true → (h.planned ((seen_after g m v (Sent msg)).of i) ≡ true) × (2 ^ 61 ≤ (seen_after g m v (Sent msg)).of i)
    sent_now begun i x q is body w = ⊎_elim
        (λ z. let mine' = ap (seen_after g m v (Sent msg)).of z.0 ∙ mine in let own = ap (λ (y : Message). y.body) z.1 ∙ body in (ap h.planned mine' ∙ newly_planned of_directory plans n k g m v f msg q own w, subst (λ (j : ℕ). 2 ^ 61 ≤ j) (sym mine') (begun q own w)))
        (λ z. let at = (more.still i x z).1 in let o = have.sent i x q z body w in (ap h.planned at ∙ planned_deeds of_directory.form n k (data_deeds of_directory plans n k g m v f (Sent msg) ++ map (dressed of_directory plans n k g) (acts g m v (Sent msg))) f (v.of i) o.0, subst (λ (j : ℕ). 2 ^ 61 ≤ j) (sym at) o.1))
        (more.newest i x is)

    -- by a reply
    pub have_reply : (re : ℕ) (reply : Reply) → msg.body ≡ ToClient re reply → HavePlans g t (seen_after g m v (Sent msg)) c h
    have_reply re reply body =
        let none : PlanNone (data_deeds of_directory plans n k g m v f (Sent msg)) = subst (λ (z : Body). PlanNone (deeds_sent of_directory plans n k g f a z)) (sym body) tt in
        let same = same_entry of_directory plans n k g m v f (Sent msg) none in
        record {
          has = λ x is. carried x same is;
          sent = sent_now (λ q own w. absurd (let e = sym body ∙ own in cc));
        }

    -- by a request
    pub have_request : (given : Given) (shape : Shape) (q : Request) → msg.body ≡ ToBrick q → b.given msg.call ≡ Some given → (f.planned a ≡ false → plans.plan a ≡ name_plan given shape) → ((is_naming g q || is_post_on g q) ≡ true → (2 ^ 61 ≤ a) × (a < 2 ^ 61 + t.next) × (call_of (t.said (a - 2 ^ 61)) ≡ msg.call)) → HavePlans g t (seen_after g m v (Sent msg)) c h
    have_request given shape q body made plan turn = record { has = by (is_naming g q || is_post_on g q) refl; sent = sent_now (λ r own w. (turn (subst (λ (y : Request). (is_naming g y || is_post_on g y) ≡ true) (body_is r q (sym own ∙ body)) w)).0) }
      where
        body_is : (r s : Request) → ToBrick r ≡ ToBrick s → r ≡ s
        body_is r s e = cc

        by : (u : Bool) → (is_naming g q || is_post_on g q) ≡ u → (x : ℕ) → h.planned x ≡ true → HasPlan g t c h x
        by true e x is = let o = turn e in has_now given shape made plan o.0 o.1 o.2 q body x is
        by false e x is = carried x (same_entry of_directory plans n k g m v f (Sent msg) (subst (λ (z : Body). PlanNone (sent_by z)) (sym body) (sent_none (is_naming g q || is_post_on g q) e))) is
