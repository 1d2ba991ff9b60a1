-- What an act changes, as far as the index is concerned, and that it keeps what holds.
use Rattle.std.proofs.Common.{◌≡◌, ◌⊎◌, ℕ, ◌<◌, ◌≤◌, true, false, Some, sym, ◌∙◌, ap, subst, arith, inl, inr, ⊎_elim}
use Rattle.ec_law_base.specs.State.{State, Head, target}
use Rattle.ec_law_ballots.specs.Words.{head}
use Rattle.ec_law_ballots.specs.Guard.{IsPlainAt}
use Rattle.ec_law_ballots.specs.Begin.{is_plain}
use Rattle.ec_law_base.proofs.Counts.{some}
use Rattle.ec_law_quorum.specs.Wide.{Inv}
use Rattle.ec_law_index.specs.Clauses.{Gone, Left, Clean, Index}
use Rattle.ec_law_index.specs.Clauses.Clean.{Under, Whole, Old, First, Fresh}

-- a mark on a lower version: whoever did a PostOp to this one commits no more
abbrev pub Lowered : State → State → ℕ → Type 0
Lowered s t b = (s.origin < s.version b) × ((a : ℕ) → s.post a b ≡ true → s.old a ≡ false → target (s.ballot a) ≡ s.version b → t.voided a ≡ true)

pub record Moves (n k : ℕ) (s t : State) : Type 0 where
  pub origin : t.origin ≡ s.origin
  pub began : t.began ≡ s.began
  pub old : t.old ≡ s.old
  pub ballot : (a : ℕ) → 0 < (s.ballot a).number → t.ballot a ≡ s.ballot a
  pub post : (a b : ℕ) → s.post a b ≡ true → t.post a b ≡ true
  pub mark : (a b : ℕ) → s.mark a b ≡ true → t.mark a b ≡ true
  pub born : (b : ℕ) → s.born b ≡ true → t.born b ≡ true
  pub voided : (a : ℕ) → t.voided a ≡ false → s.voided a ≡ false
  pub posted : (a b : ℕ) → t.post a b ≡ true → (s.post a b ≡ true) ⊎ IsPlainAt t b (target (t.ballot a))
  pub made : (b : ℕ) → t.born b ≡ true → (s.born b ≡ true) ⊎ IsPlainAt t b 0
  pub stays : (b : ℕ) → s.present b ≡ true → s.marked b ≡ false → IsPlainAt t b (s.version b) ⊎ (Gone t b (s.version b) ⊎ Lowered s t b)
  pub dirty : (b : ℕ) → is_plain s.origin (s.began b) ≡ true → IsPlainAt s b s.origin → 0 < s.dirty b → IsPlainAt t b s.origin → 0 < t.dirty b
  pub clean : (b : ℕ) → t.present b ≡ true → t.marked b ≡ false → t.dirty b ≡ 0 → ((s.present b ≡ true) × (s.marked b ≡ false) × (s.dirty b ≡ 0) × (t.version b ≡ s.version b)) ⊎ Clean n k t b (t.version b)
  pub seen : (x b : ℕ) (h : Head) → t.seen x b ≡ Some h → (s.seen x b ≡ Some h) ⊎ (h ≡ head s b)
  pub fresh : (d : ℕ) → (t.making ≡ false) ⊎ (t.maker d ≡ true) → (s.making ≡ false) ⊎ (s.maker d ≡ true)

-- an act that touches no record
pub record Still (s t : State) : Type 0 where
  pub origin : t.origin ≡ s.origin
  pub began : t.began ≡ s.began
  pub old : t.old ≡ s.old
  pub ballot : (a : ℕ) → 0 < (s.ballot a).number → t.ballot a ≡ s.ballot a
  pub post : t.post ≡ s.post
  pub mark : t.mark ≡ s.mark
  pub born : t.born ≡ s.born
  pub voided : t.voided ≡ s.voided
  pub present : (b : ℕ) → t.present b ≡ s.present b
  pub version : t.version ≡ s.version
  pub dirty : t.dirty ≡ s.dirty
  pub marked : t.marked ≡ s.marked
  pub seen : (x b : ℕ) (h : Head) → t.seen x b ≡ Some h → (s.seen x b ≡ Some h) ⊎ (h ≡ head s b)
  pub fresh : (d : ℕ) → (t.making ≡ false) ⊎ (t.maker d ≡ true) → (s.making ≡ false) ⊎ (s.maker d ≡ true)

module _ (n k : ℕ) (s t : State) where
  pub moves_still : Still s t → Moves n k s t
  moves_still q = record {
    origin = q.origin;
    began = q.began;
    old = q.old;
    ballot = q.ballot;
    post = λ a b p. rw q.post p;
    mark = λ a b p. rw q.mark p;
    born = λ b p. rw q.born p;
    voided = λ a p. rw (← q.voided) p;
    posted = λ a b p. inl (rw (← q.post) p);
    made = λ b p. inl (rw (← q.born) p);
    stays = λ b p m. inl (q.present b ∙ p, ap (λ (f : ℕ → ℕ). f b) q.version, rw q.marked m);
    dirty = λ b i p z r. rw q.dirty z;
    clean = λ b p m z. inl (sym (q.present b) ∙ p, rw (← q.marked) m, rw (← q.dirty) z, ap (λ (f : ℕ → ℕ). f b) q.version);
    seen = q.seen;
    fresh = q.fresh;
  }

  module _ (i : Inv n k s) (mv : Moves n k s t) (fits : k ≤ n) (some_brick : 0 < n) where
    post_number : (a b : ℕ) → s.post a b ≡ true → 0 < (s.ballot a).number
    post_number a b p = ((i.local b).pre_seen a ((i.local b).post_pre a p)).1

    gone_next : (b v : ℕ) → Gone s b v → Gone t b v
    gone_next b v (inl (e, p, q)) = inl (e, mv.post e b p, rw (mv.ballot e (post_number e b p)) q)
    gone_next b v (inr (x, m, q)) = inr (x, mv.mark x b m, rw (mv.ballot x ((i.local b).mark_seen x m).1) q)

    left_next : (b v : ℕ) → Left s b v → (s.version b ≡ v → Lowered s t b → ⊥) → Left t b v
    left_next b v (inr g) never = inr (gone_next b v g)
    left_next b v (inl p) never = pick (mv.stays b p.0 p.2)
      where
        pick : IsPlainAt t b (s.version b) ⊎ (Gone t b (s.version b) ⊎ Lowered s t b) → Left t b v
        pick (inl q) = inl (q.0, q.1 ∙ p.1, q.2)
        pick (inr (inl g)) = inr (subst (λ (w : ℕ). Gone t b w) p.1 g)
        pick (inr (inr l)) = absurd (never p.1 l)

    clean_next : (b v : ℕ) → Clean n k s b v → Clean n k t b v
    clean_next b v (Under h) = Under (rw mv.origin h)
    clean_next b v (Whole a e o h) = Whole a (rw (mv.ballot a (post_number a 0 (h 0 some_brick))) e) (rw mv.old o) (λ c lt. mv.post a c (h c lt))
    clean_next b v (Old a o e) = Old a (rw mv.old o) (rw (mv.ballot a (old_number a o)) e)
      where
        old_number : (a : ℕ) → s.old a ≡ true → 0 < (s.ballot a).number
        old_number a o = let d = some (s.pre a) n (let h = i.wide.old_promised a o in omega arith) in ((i.local d.0).pre_seen a d.1).1
    clean_next b v (First e h) = First (rw mv.origin e) (rw (mv.origin, mv.began) h)
    clean_next b v (Fresh e h) = Fresh e (λ c lt. mv.born c (h c lt))

    pub index_next : Index n k s → Index n k t
    index_next x = record {
      left_post = λ a b p o v. ⊎_elim (λ q. let e = mv.ballot a (post_number a b q) in rw e (left_next b (target (s.ballot a)) (x.left_post a b q (rw (← mv.old) o) (mv.voided a v)) (λ w l. let r = l.1 a q (rw (← mv.old) o) (sym w) in cc))) (λ q. inl q) (mv.posted a b p);
      left_start = λ b h. rw mv.origin (left_next b s.origin (x.left_start b (rw (← mv.origin, ← mv.began) h)) (λ w l. omega (arith, l.0, w)));
      left_born = λ b h. ⊎_elim (λ q. left_next b 0 (x.left_born b q) (λ w l. omega (arith, l.0, w))) (λ q. inl q) (mv.made b h);
      dirty_start = λ b h z p. rw mv.origin (dirty_next b (rw (← mv.origin, ← mv.began) h) (rw (← mv.began) z) (rw (← mv.origin) p));
      clean_at = λ b p m z. ⊎_elim (λ q. rw q.3 (clean_next b (s.version b) (x.clean_at b q.0 q.1 q.2))) (λ c. c) (mv.clean b p m z);
      seen_clean = λ y b h e p m z. ⊎_elim (λ q. clean_next b h.version (x.seen_clean y b h q p m z)) (λ q. clean_next b h.version (at_head b h q p m z)) (mv.seen y b h e);
      fresh = λ d b h. rw mv.began (x.fresh d b (mv.fresh d h));
    }
      where
        at_head : (b : ℕ) (h : Head) → h ≡ head s b → h.present ≡ true → h.marked ≡ false → h.dirty ≡ 0 → Clean n k s b h.version
        at_head b h e p m z = subst (λ (g : Head). g.present ≡ true → g.marked ≡ false → g.dirty ≡ 0 → Clean n k s b g.version) (sym e) (λ p m z. x.clean_at b p m z) p m z

        dirty_next : (b : ℕ) → is_plain s.origin (s.began b) ≡ true → 0 < (s.began b).dirty → IsPlainAt t b s.origin → (0 < t.dirty b) ⊎ Gone t b s.origin
        dirty_next b h z p = ⊎_elim (λ q. ⊎_elim (λ d. inl (mv.dirty b h q d p)) (λ g. inr (gone_next b s.origin g)) (x.dirty_start b h z q)) (λ g. inr (gone_next b s.origin g)) (x.left_start b h)
