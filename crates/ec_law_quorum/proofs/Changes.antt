-- What an act changes, as far as several bricks together are concerned, and that it keeps what holds of them.
use Rattle.std.proofs.Common.{◌≡◌, ◌⊎◌, ℕ, zero, suc, ◌+◌, ◌<◌, ◌≤◌, Bool, true, false, Some, None, refl, sym, ◌∙◌, ap, arith, inl, inr, ⊎_elim}
use Rattle.std.proofs.lemmas.Bool.Decides.{nat_tests}
use Rattle.ec_attr.specs.Bricks.{count_below}
use Rattle.ec_attr.proofs.Sets.{count_none, count_in, count_out}
use Rattle.ec_law_base.specs.State.{State, Head, Ballot, target}
use Rattle.ec_law_ballots.specs.Words.{group, at_base, head}
use Rattle.ec_law_ballots.specs.Guard.{IsCommitted, HasQuorum}
use Rattle.ec_law_ballots.specs.Begin.{is_plain}
use Rattle.ec_law_base.proofs.Counts.{mono, same, some}
use Rattle.ec_law_ballots.specs.Clauses.{Local}
use Rattle.ec_law_ballots.specs.Facts.{BegunMoment, NumberMoment, NumberMaking, OriginLe}
use Rattle.ec_law_quorum.specs.Wide.{Wide, Void, Dying, Promised, Known, KnownMarked, BaseKnown}
use Rattle.ec_law_quorum.proofs.Quorums.{read, either, is_false, group_saw, promised, numbered, alike}

-- all of a set are in another, or there is one that tells something else
pub pick : (p q : ℕ → Bool) (Q : Type 0) (n : ℕ) → ((c : ℕ) → p c ≡ true → (q c ≡ true) ⊎ Q) → (count_below n p ≤ count_below n q) ⊎ Q
pick p q Q zero h = inl (rw (count_none, count_none) (omega arith))
pick p q Q (suc n) h = both (p n) (q n) refl refl (pick p q Q n h)
  where
    both : (u v : Bool) → p n ≡ u → q n ≡ v → (count_below n p ≤ count_below n q) ⊎ Q → (count_below (suc n) p ≤ count_below (suc n) q) ⊎ Q
    both u v e f (inr x) = inr x
    both true true e f (inl le) = inl (let o = count_in n p e in let i = count_in n q f in omega arith)
    both true false e f (inl le) = ⊎_elim (λ y. absurd (cc)) (λ x. inr x) (h n e)
    both false true e f (inl le) = inl (let o = count_out n p e in let i = count_in n q f in omega arith)
    both false false e f (inl le) = inl (let o = count_out n p e in let i = count_out n q f in omega arith)

-- what only grows, and what stays
pub record Grows (s t : State) : Type 0 where
  pub pre : (a b : ℕ) → s.pre a b ≡ true → t.pre a b ≡ true
  pub post : (a b : ℕ) → s.post a b ≡ true → t.post a b ≡ true
  pub spost : (a b : ℕ) → s.spost a b ≡ true → t.spost a b ≡ true
  pub seen : (a b : ℕ) (h : Head) → s.seen a b ≡ Some h → t.seen a b ≡ Some h
  pub ballot : (a : ℕ) → 0 < (s.ballot a).number → t.ballot a ≡ s.ballot a
  pub moment : (x : ℕ) → s.moment x ≡ true → t.moment x ≡ true
  pub at_pre : (x e c : ℕ) → s.moment x ≡ true → t.at_pre x e c ≡ s.at_pre x e c
  pub at_post : (x e c : ℕ) → s.moment x ≡ true → t.at_post x e c ≡ s.at_post x e c
  pub begun : (x e : ℕ) → s.moment x ≡ true → t.begun x e ≡ s.begun x e
  pub carries : (x : ℕ) → s.moment x ≡ true → t.carries x ≡ s.carries x
  pub making : s.making ≡ true → t.making ≡ true
  pub origin : t.origin ≡ s.origin
  pub old : t.old ≡ s.old
  pub began : t.began ≡ s.began
  pub old_post : (a b : ℕ) → s.old a ≡ true → t.post a b ≡ s.post a b

-- turn a took its ballot by this act
pub record NewBallot (n k : ℕ) (s t : State) (a : ℕ) : Type 0 where
  pub real : s.old a ≡ false
  pub moment : s.moment a ≡ true
  pub seen : (c : ℕ) → t.seen a c ≡ s.seen a c
  pub carries : t.carries a ≡ s.carries a
  pub base : ((s.carries a ≡ None) × (k ≤ count_below n (λ c. at_base (t.ballot a) (s.seen a c)))) ⊎ ((c : ℕ) × (s.carries a ≡ Some c) × ((t.ballot a).base ≡ target (s.ballot c)))

-- at the moment of x, by this act, turn a had a ballot
pub record NewHad (s t : State) (x a : ℕ) : Type 0 where
  pub moment : t.moment x ≡ true
  pub number : 0 < (s.ballot a).number
  pub posts : (e c : ℕ) → t.at_post x e c ≡ s.post e c
  pub real : s.old x ≡ false

pub record Changes (n k : ℕ) (s t : State) : Type 0 where
  pub grows : Grows s t
  pub posted : (a b : ℕ) → t.post a b ≡ true → (s.post a b ≡ true) ⊎ HasQuorum n k s a
  pub sposted : (a b : ℕ) → t.spost a b ≡ true → (s.spost a b ≡ true) ⊎ HasQuorum n k s a
  pub chose : (a : ℕ) → 0 < (t.ballot a).number → (0 < (s.ballot a).number) ⊎ NewBallot n k s t a
  pub carried : (x a : ℕ) → t.carries x ≡ Some a → (s.carries x ≡ Some a) ⊎ (IsCommitted n k s a × ((t.ballot x).number ≡ 0))
  pub had : (x a : ℕ) → t.had x a ≡ true → (s.had x a ≡ true) ⊎ NewHad s t x a
  pub begun : BegunMoment t
  pub seen : (x b : ℕ) (h : Head) → t.seen x b ≡ Some h → (s.seen x b ≡ Some h) ⊎ ((h ≡ head s b) × ((s.ballot x).number ≡ 0))
  pub void : (e : ℕ) → t.voided e ≡ true → ((s.voided e ≡ true) × (t.voider e ≡ s.voider e)) ⊎ Void s e (t.voider e)
  pub dying : (e : ℕ) → t.dead e ≡ true → ((s.dead e ≡ true) × (t.killer e ≡ s.killer e)) ⊎ Dying s e (t.killer e)
  pub known : (b : ℕ) → t.present b ≡ true → t.marked b ≡ false → ((s.present b ≡ true) × (s.marked b ≡ false) × (t.version b ≡ s.version b)) ⊎ Known n k t b (t.version b)
  pub known_marked : (b : ℕ) → t.present b ≡ true → ((s.present b ≡ true) × (t.version b ≡ s.version b)) ⊎ KnownMarked n k t b (t.version b)

plain_fact : (g h : Head) (v : ℕ) → g.present ≡ true → g.version ≡ h.version → g.marked ≡ h.marked → h.version ≡ v → h.marked ≡ false → is_plain v g ≡ true
plain_fact g h v p ev em e m = grind (arith, nat_tests)

below_or : (x y : ℕ) → (x < y) ⊎ (y ≤ x)
below_or x y = grind arith

module _ (n k : ℕ) (most : n < k + k) (fits : k ≤ n) (s t : State) (l : (b : ℕ) → Local s b) (lt : (b : ℕ) → Local t b) (w : Wide n k s) (ch : Changes n k s t) where
  gr : Grows s t
  gr = ch.grows

  target_same : (e : ℕ) → 0 < (s.ballot e).number → target (t.ballot e) ≡ target (s.ballot e)
  target_same e h = ap target (gr.ballot e h)

  base_same : (a : ℕ) → 0 < (s.ballot a).number → (t.ballot a).base ≡ (s.ballot a).base
  base_same a h = ap (λ (p : Ballot). p.base) (gr.ballot a h)

  old_same : (a : ℕ) (u : Bool) → s.old a ≡ u → t.old a ≡ u
  old_same a u e = ap (λ (f : ℕ → Bool). f a) gr.old ∙ e

  old_back : (a : ℕ) (u : Bool) → t.old a ≡ u → s.old a ≡ u
  old_back a u e = sym (ap (λ (f : ℕ → Bool). f a) gr.old) ∙ e

  pub keeps_promise : (a : ℕ) → Promised n k s a → Promised n k t a
  keeps_promise a h = let m = mono (s.pre a) (t.pre a) n (λ c q. gr.pre a c q) in (omega (arith, h.0), λ o. let q = h.1 (old_back a false o) in omega arith)

  by_k : (a : ℕ) → HasQuorum n k s a → Promised n k s a
  by_k a h = (omega arith, λ o. h)

  pub keeps_commit : (a : ℕ) → IsCommitted n k s a → IsCommitted n k t a
  keeps_commit a h = let m = mono (s.post a) (t.post a) n (λ c q. gr.post a c q) in omega arith

  commit_number : (e : ℕ) → IsCommitted n k s e → 0 < (s.ballot e).number
  commit_number e h = numbered n k most fits s l w e (promised n k most fits s l w e h)

  commit_target : (e : ℕ) → IsCommitted n k s e → target (t.ballot e) ≡ target (s.ballot e)
  commit_target e h = target_same e (commit_number e h)

  pub known_grows : (b v : ℕ) → Known n k s b v → Known n k t b v
  known_grows b v (inl z) = inl (rw gr.origin z)
  known_grows b v (inr (inl e)) = inr (inl (e.0, gr.post e.0 b e.1, target_same e.0 ((l b).pre_seen e.0 ((l b).post_pre e.0 e.1)).1 ∙ e.2))
  known_grows b v (inr (inr e)) = inr (inr (e.0, keeps_commit e.0 e.1, commit_target e.0 e.1 ∙ e.2))

  marked_grows : (b v : ℕ) → KnownMarked n k s b v → KnownMarked n k t b v
  marked_grows b v (inl h) = inl (known_grows b v h)
  marked_grows b v (inr e) = inr (e.0, gr.spost e.0 b e.1, target_same e.0 (numbered n k most fits s l w e.0 (w.sink_whole e.0 b e.1)) ∙ e.2)

  seen_known : (x b : ℕ) (h : Head) → t.seen x b ≡ Some h → h.present ≡ true → h.marked ≡ false → Known n k t b h.version
  seen_known x b h e p m = known_grows b h.version (⊎_elim (λ q. w.seen_known x b h q p m) (λ q. rw q.0 (w.known b (rw q.0 at p) (rw q.0 at m))) (ch.seen x b h e))

  group_known : (a c : ℕ) → group t a c ≡ true → Known n k t c (t.ballot a).base
  group_known a c e = let r = read (t.ballot a) (t.seen a c) e in rw r.2 at (seen_known a c r.0 r.1 r.5 r.4)

  was_promised : (a b : ℕ) → t.post a b ≡ true → Promised n k s a
  was_promised a b h = ⊎_elim (λ q. w.whole a b q) (by_k a) (ch.posted a b h)

  whole : (a b : ℕ) → t.post a b ≡ true → Promised n k t a
  whole a b h = keeps_promise a (was_promised a b h)

  -- no group stands below the version of the beginning
  not_below : (a : ℕ) → k ≤ count_below n (group t a) → t.origin ≤ (t.ballot a).base
  not_below a members = ⊎_elim (λ less. absurd (few less)) (λ ge. ge) (below_or (t.ballot a).base t.origin)
    where
      was : (t.ballot a).base < t.origin → (c : ℕ) → group t a c ≡ true → is_plain (t.ballot a).base (s.began c) ≡ true
      was below c g =
          let r = read (t.ballot a) (t.seen a c) g in
          let o = (lt c).seen_began a r.0 r.1 r.5 (omega (arith, r.2, below)) in
          let same' : t.began c ≡ s.began c = ap (λ (y : ℕ → Head). y c) gr.began in
          plain_fact (s.began c) r.0 (t.ballot a).base (ap (λ (y : Head). y.present) (sym same') ∙ o.0) (ap (λ (y : Head). y.version) (sym same') ∙ o.1) (ap (λ (y : Head). y.marked) (sym same') ∙ o.2) r.2 r.4

      few : (t.ballot a).base < t.origin → ⊥
      few below = let m = mono (group t a) (λ c. is_plain (t.ballot a).base (s.began c)) n (was below) in let f = w.few_below (t.ballot a).base (omega (arith, gr.origin, below)) in omega arith

  -- a base over a group is that of the beginning or of a commit
  group_base : (a : ℕ) → k ≤ count_below n (group t a) → BaseKnown n k t a
  group_base a members =
      let one = some (group t a) n (omega arith) in
      ⊎_elim (λ z. inl (let o = not_below a members in omega arith)) (λ rest. ⊎_elim (λ e. by_post one.0 e) (λ e. inr e) rest) (group_known a one.0 one.1)
    where
      member : (b : ℕ) (e : (x : ℕ) × (t.post x b ≡ true) × (target (t.ballot x) ≡ (t.ballot a).base)) → (c : ℕ) → group t a c ≡ true → (t.post e.0 c ≡ true) ⊎ BaseKnown n k t a
      member b e c g = ⊎_elim (λ z. inr (inl (let o = not_below a members in omega arith))) (λ rest. ⊎_elim (λ f. inl (found f)) (λ f. inr (inr f)) rest) (group_known a c g)
        where
          target_was : (x y : ℕ) → t.post x y ≡ true → target (t.ballot x) ≡ target (s.ballot x)
          target_was x y h = target_same x (numbered n k most fits s l w x (was_promised x y h))

          found : (f : ℕ) × (t.post f c ≡ true) × (target (t.ballot f) ≡ (t.ballot a).base) → t.post e.0 c ≡ true
          found f = ⊎_elim (λ eq. rw eq f.1) (λ ne. absurd (alike n k most fits s l w e.0 f.0 ne (was_promised e.0 b e.1) (was_promised f.0 c f.1) (sym (target_was e.0 b e.1) ∙ (e.2 ∙ (sym f.2 ∙ target_was f.0 c f.1))))) (either e.0 f.0)

      by_post : (b : ℕ) → (e : ℕ) × (t.post e b ≡ true) × (target (t.ballot e) ≡ (t.ballot a).base) → BaseKnown n k t a
      by_post b e = ⊎_elim (λ le. inr (e.0, omega (arith, members), e.2)) (λ q. q) (pick (group t a) (t.post e.0) (BaseKnown n k t a) n (member b e))

  based : (a : ℕ) → t.old a ≡ false → t.carries a ≡ None → 0 < (t.ballot a).number → k ≤ count_below n (group t a)
  based a real free h = ⊎_elim old new (ch.chose a h)
    where
      more : (f : 0 < (s.ballot a).number) (c : ℕ) → group s a c ≡ true → group t a c ≡ true
      more f c x = let r = read (s.ballot a) (s.seen a c) x in rw (gr.ballot a f, gr.seen a c r.0 r.1) (rw r.1 at x)

      old : 0 < (s.ballot a).number → k ≤ count_below n (group t a)
      old f = let m = mono (group s a) (group t a) n (more f) in let b = w.based a (old_back a false real) (sym (gr.carries a (w.number_moment a f)) ∙ free) f in omega arith

      new : NewBallot n k s t a → k ≤ count_below n (group t a)
      new f = ⊎_elim (λ g. let m = mono (λ c. at_base (t.ballot a) (s.seen a c)) (group t a) n (λ c x. ap (at_base (t.ballot a)) (f.seen c) ∙ x) in omega (arith, g.1)) (λ g. absurd (let e = sym free ∙ (f.carries ∙ g.1) in cc)) f.base

  base_grows : (a : ℕ) → 0 < (s.ballot a).number → BaseKnown n k s a → BaseKnown n k t a
  base_grows a h (inl z) = inl (base_same a h ∙ (z ∙ sym gr.origin))
  base_grows a h (inr e) = inr (e.0, keeps_commit e.0 e.1, commit_target e.0 e.1 ∙ (e.2 ∙ sym (base_same a h)))

  carried : (x a : ℕ) → t.carries x ≡ Some a → IsCommitted n k t a × (0 < (t.ballot x).number → (t.ballot x).base ≡ target (t.ballot a))
  carried x a e = ⊎_elim old new (ch.carried x a e)
    where
      old : s.carries x ≡ Some a → IsCommitted n k t a × (0 < (t.ballot x).number → (t.ballot x).base ≡ target (t.ballot a))
      old q =
          let o = w.carried x a q in (
            keeps_commit a o.0,
            λ h. ⊎_elim
                (λ f. base_same x f ∙ (o.1 f ∙ sym (commit_target a o.0)))
                (λ f. ⊎_elim (λ g. absurd (let z = sym g.0 ∙ q in cc)) (λ g. g.2 ∙ sym (let same_turn : g.0 ≡ a = some_same (sym g.1 ∙ q) in rw same_turn (commit_target a o.0))) f.base)
                (ch.chose x h),
          )
        where
          some_same : {u v : ℕ} → Some u ≡ Some v → u ≡ v
          some_same e = cc

      new : IsCommitted n k s a × ((t.ballot x).number ≡ 0) → IsCommitted n k t a × (0 < (t.ballot x).number → (t.ballot x).base ≡ target (t.ballot a))
      new q = (keeps_commit a q.0, λ h. absurd (omega (arith, q.1)))

  chosen : (a : ℕ) → 0 < (t.ballot a).number → BaseKnown n k t a
  chosen a h = ⊎_elim (λ q. base_grows a q (w.chosen a q)) new (ch.chose a h)
    where
      new : NewBallot n k s t a → BaseKnown n k t a
      new f = ⊎_elim (λ g. group_base a (based a (old_same a false f.real) (f.carries ∙ g.0) h)) (λ g. let c = carried a g.0 (f.carries ∙ g.1) in inr (g.0, c.0, sym (c.1 h))) f.base

  had_number : (x a : ℕ) → t.had x a ≡ true → (0 < (t.ballot a).number) × (t.moment x ≡ true) × (t.old x ≡ false)
  had_number x a h = ⊎_elim (λ q. let o = w.had_number x a q in (rw (gr.ballot a o.0) o.0, gr.moment x o.1, old_same x false o.2)) (λ q. (rw (gr.ballot a q.number) q.number, q.moment, old_same x false q.real)) (ch.had x a h)

  had_chosen : (x a : ℕ) → t.had x a ≡ true → ((t.ballot a).base ≡ t.origin) ⊎ ((e : ℕ) × (k ≤ count_below n (t.at_post x e)) × (target (t.ballot e) ≡ (t.ballot a).base))
  had_chosen x a h = ⊎_elim old new (ch.had x a h)
    where
      old : s.had x a ≡ true → ((t.ballot a).base ≡ t.origin) ⊎ ((e : ℕ) × (k ≤ count_below n (t.at_post x e)) × (target (t.ballot e) ≡ (t.ballot a).base))
      old q =
          let o = w.had_number x a q in
          ⊎_elim (λ z. inl (base_same a o.0 ∙ (z ∙ sym gr.origin)))
          (λ e.
          let still = same (t.at_post x e.0) (s.at_post x e.0) n (λ c. gr.at_post x e.0 c o.1) in
          let m = mono (s.at_post x e.0) (s.post e.0) n (λ c y. ((l c).at_post_is x e.0 y).0) in
          inr (e.0, omega (arith, e.1), commit_target e.0 (omega (arith, e.1)) ∙ (e.2 ∙ sym (base_same a o.0))))
          (w.had_chosen x a q)

      new : NewHad s t x a → ((t.ballot a).base ≡ t.origin) ⊎ ((e : ℕ) × (k ≤ count_below n (t.at_post x e)) × (target (t.ballot e) ≡ (t.ballot a).base))
      new q = ⊎_elim (λ z. inl (base_same a q.number ∙ (z ∙ sym gr.origin)))
          (λ e. let still = same (t.at_post x e.0) (s.post e.0) n (λ c. q.posts e.0 c) in inr (e.0, omega (arith, e.1), commit_target e.0 e.1 ∙ (e.2 ∙ sym (base_same a q.number))))
          (w.chosen a q.number)

  number_moment : NumberMoment t
  number_moment a h = ⊎_elim (λ q. gr.moment a (w.number_moment a q)) (λ q. gr.moment a q.moment) (ch.chose a h)

  number_making : NumberMaking t
  number_making a h = ⊎_elim (λ q. gr.making (w.number_making a q)) new (ch.chose a h)
    where
      no_false : (u : Bool) → (u ≡ false → ⊥) → u ≡ true
      no_false true f = refl
      no_false false f = absurd (f refl)

      seen_one : k ≤ count_below n (λ c. at_base (t.ballot a) (s.seen a c)) → s.making ≡ true
      seen_one g =
          let c = some (λ c. at_base (t.ballot a) (s.seen a c)) n (omega arith) in
          let r = read (t.ballot a) (s.seen a c.0) c.1 in
          no_false s.making λ z. let x = (l c.0).not_made_seen a r.0 z r.1 in let y = r.5 in cc

      new : NewBallot n k s t a → t.making ≡ true
      new f = gr.making (⊎_elim (λ g. seen_one g.1) (λ g. w.number_making g.0 (commit_number g.0 (w.carried a g.0 g.1).0)) f.base)

  origins : OriginLe t
  origins a h = ⊎_elim old new (ch.chose a h)
    where
      old : 0 < (s.ballot a).number → (t.origin ≤ (t.ballot a).base) × (t.old a ≡ true → (t.ballot a).base ≡ t.origin)
      old q = let o = w.origin_le a q in (omega (arith, o.0, gr.origin, base_same a q), λ z. base_same a q ∙ (o.1 (old_back a true z) ∙ sym gr.origin))

      new : NewBallot n k s t a → (t.origin ≤ (t.ballot a).base) × (t.old a ≡ true → (t.ballot a).base ≡ t.origin)
      new q = (⊎_elim (λ g. not_below a (based a (old_same a false q.real) (q.carries ∙ g.0) h)) (λ g. let c = (w.carried a g.0 g.1).0 in let o = (w.origin_le g.0 (commit_number g.0 c)).0 in omega (arith, g.2, gr.origin)) q.base, λ z. absurd (let r = old_same a false q.real in cc))

  -- a group stays, and what it hasn't done of a turn that had begun it won't do
  group_back : (v c : ℕ) → 0 < (s.ballot v).number → group t v c ≡ true → group s v c ≡ true
  group_back v c number g =
      let r = read (t.ballot v) (t.seen v c) g in
      let seen : s.seen v c ≡ Some r.0 = ⊎_elim (λ q. q) (λ q. absurd (omega (arith, q.1))) (ch.seen v c r.0 r.1) in
      ap (at_base (s.ballot v)) seen ∙ (ap (λ (p : Ballot). at_base p (Some r.0)) (sym (gr.ballot v number)) ∙ (ap (at_base (t.ballot v)) (sym r.1) ∙ g))

  void_grows : (e v : ℕ) → Void s e v → Void t e v
  void_grows e v o = record {
    number = rw (gr.ballot v o.number) o.number;
    real = old_same v false o.real;
    free = gr.carries v (w.number_moment v o.number) ∙ o.free;
    begun = gr.begun v e (w.begun_moment v e o.begun).1 ∙ o.begun;
    apart = λ c g. is_false (t.post e c) λ p.
        let bm = w.begun_moment v e o.begun in
        let snap = (lt c).no_more_post v e (gr.begun v e bm.1 ∙ o.begun) (group_saw t v c g) bm.2 p in
        let was = ((l c).at_post_is v e (sym (gr.at_post v e c bm.1) ∙ snap)).0 in
        let not_posted = o.apart c (group_back v c o.number g) in
        cc;
  }

  dying_grows : (e v : ℕ) → Dying s e v → Dying t e v
  dying_grows e v o = record {
    number = rw (gr.ballot v o.number) o.number;
    real = old_same v false o.real;
    free = gr.carries v (w.number_moment v o.number) ∙ o.free;
    begun = gr.begun v e (w.begun_moment v e o.begun).1 ∙ o.begun;
    apart = λ c g. is_false (t.pre e c) λ p.
        let bm = w.begun_moment v e o.begun in
        let snap = (lt c).no_more_pre v e (gr.begun v e bm.1 ∙ o.begun) (group_saw t v c g) bm.2 p in
        let was = ((l c).at_pre_is v e (sym (gr.at_pre v e c bm.1) ∙ snap)).0 in
        let not_there = o.apart c (group_back v c o.number g) in
        cc;
  }

  old_number : (a : ℕ) → s.old a ≡ true → 0 < (s.ballot a).number
  old_number a o = numbered n k most fits s l w a (w.old_promised a o, λ r. absurd (cc))

  pub wide_next : Wide n k t
  wide_next = record {
    whole = whole;
    sink_whole = λ a b h. keeps_promise a (⊎_elim (λ q. w.sink_whole a b q) (by_k a) (ch.sposted a b h));
    based = based;
    carried = carried;
    chosen = chosen;
    had_number = had_number;
    had_chosen = had_chosen;
    begun_moment = ch.begun;
    number_moment = number_moment;
    number_making = number_making;
    origin_le = origins;
    old_target = λ a o. let q = old_back a true o in target_same a (old_number a q) ∙ w.old_target a q;
    old_short = λ a o. let e = same (t.post a) (s.post a) n (λ c. gr.old_post a c (old_back a true o)) in let q = w.old_short a (old_back a true o) in omega arith;
    old_promised = λ a o. let m = mono (s.pre a) (t.pre a) n (λ c q. gr.pre a c q) in let q = w.old_promised a (old_back a true o) in omega arith;
    few_below = λ v h. rw gr.began (w.few_below v (rw gr.origin at h));
    void = λ e h. ⊎_elim (λ q. rw q.1 (void_grows e (s.voider e) (w.void e q.0))) (λ q. void_grows e (t.voider e) q) (ch.void e h);
    dying = λ e h. ⊎_elim (λ q. rw q.1 (dying_grows e (s.killer e) (w.dying e q.0))) (λ q. dying_grows e (t.killer e) q) (ch.dying e h);
    known = λ b p m. ⊎_elim (λ q. rw q.2 (known_grows b (s.version b) (w.known b q.0 q.1))) (λ q. q) (ch.known b p m);
    known_marked = λ b p. ⊎_elim (λ q. rw q.1 (marked_grows b (s.version b) (w.known_marked b q.0))) (λ q. q) (ch.known_marked b p);
    seen_known = seen_known;
  }
