-- The law of the index over whole runs.
use Rattle.std.proofs.Common.{◌≡◌, ◌⊎◌, ℕ, ◌+◌, ◌<◌, ◌≤◌, Bool, true, false, not, List, [], ◌∷◌, refl, sym, ◌∙◌, subst, arith, inl, inr, ⊎_elim}
use Rattle.std.proofs.lemmas.Bool.Decides.{nat_tests}
use Rattle.ec_attr.specs.Bricks.{count_below}
use Rattle.ec_law_base.specs.State.{State, Head, target}
use Rattle.ec_law_base.proofs.Counts.{mono}
use Rattle.ec_law_ballots.specs.Words.{head}
use Rattle.ec_law_ballots.specs.Act.{Act, step, after}
use Rattle.ec_law_ballots.specs.Guard.{IsPlainAt, IsCommitted, Runs}
use Rattle.ec_law_ballots.specs.Begin.{begin, is_plain, Standing}
use Rattle.ec_law_quorum.specs.Wide.{Inv, Promised}
use Rattle.ec_law_quorum.proofs.Quorums.{either, order, alive, alike, not_void, numbered, promised}
use Rattle.ec_law_quorum.proofs.Changes.{pick}
use Rattle.ec_law_quorum.proofs.Begins.{inv_begin, old_at}
use Rattle.ec_law_quorum.proofs.Laws.{inv_step}
use Rattle.ec_law_index.specs.Index.{InIndex, IndexLaws, KeepsAll}
use Rattle.ec_law_index.specs.Clauses.{Gone, Left, FirstGroup, Clean, Index}
use Rattle.ec_law_index.specs.Clauses.Clean.{Under, Whole, Old, First, Fresh}
use Rattle.ec_law_index.proofs.Acts.{moves}
use Rattle.ec_law_index.proofs.Group.{diff, some_in, share_in, at_least}
use Rattle.ec_law_index.proofs.Moves.{index_next}

plain_parts : (h : Head) (v : ℕ) → is_plain v h ≡ true → (h.present ≡ true) × (h.version ≡ v) × (h.marked ≡ false)
plain_parts h v e = (grind (arith, nat_tests), grind (arith, nat_tests), grind (arith, nat_tests))

is_there : (h : Head) (v : ℕ) → h.present ≡ true → h.version ≡ v → h.marked ≡ false → is_plain v h ≡ true
is_there h v p e m = grind (arith, nat_tests)

zero_or : (x : ℕ) → (0 < x) ⊎ (x ≡ 0)
zero_or x = grind arith

module _ (n k : ℕ) (most : n < k + k) (fits : k ≤ n) (s : State) (i : Inv n k s) (x : Index n k s) where
  abbrev At : ℕ → ℕ → Bool
  At v c = is_plain v (head s c)

  abbrev Witness : ℕ → Type 0
  Witness v = (c : ℕ) × (c < n) × (At v c ≡ true) × (0 < s.dirty c)

  -- K unmarked records that agree are at the flat version of the beginning or above
  not_below : (v : ℕ) → k ≤ count_below n (At v) → s.origin ≤ v
  not_below v members = ⊎_elim (λ le. le) (λ below. absurd (few below)) (at_least s.origin v)
    where
      few : v < s.origin → ⊥
      few below =
          let m = mono (At v) (λ c. is_plain v (s.began c)) n (λ c e.
          let h = plain_parts (head s c) v e in
          let o = (i.local c).began_is h.0 (let q = h.1 in omega arith) in
          is_there (s.began c) v o.0 (o.1 ∙ h.1) (o.2 ∙ h.2)) in
          let f = i.wide.few_below v below in omega arith

  module _ (v : ℕ) (members : k ≤ count_below n (At v)) where
    -- who has a PreOp on their version, with so many others that it matters
    promised_here : (e : ℕ) → Promised n k s e → (s.ballot e).base ≡ v → Witness v
    promised_here e pe is =
        let c = share_in (s.pre e) (At v) n (omega (arith, pe.0, members)) in
        let h = plain_parts (head s c.0) v c.3 in
        let d = (i.local c.0).kept_dirty e c.2 (alive n k most fits s i.local i.wide e pe) h.0 (is ∙ sym h.1) in
        let u = numbered n k most fits s i.local i.wide e pe in
        (c.0, c.1, c.3, omega arith)

    -- a commit to a higher version left fewer than K there
    not_above : (e : ℕ) → IsCommitted n k s e → v < target (s.ballot e) → ⊥
    not_above e ce lt =
        let c = share_in (s.post e) (At v) n (omega (arith, ce, members)) in
        let h = plain_parts (head s c.0) v c.3 in
        let u = (i.local c.0).past e c.2 (not_void n k most fits s i.local i.wide e ce) h.0 in
        omega (arith, h.1)

    went : (b : ℕ) → Gone s b v → Witness v
    went b (inl (e, p, q)) = promised_here e (i.wide.whole e b p) q
    went b (inr (t, m, lt)) = ⊎_elim (λ z. absurd (let o = not_below v members in omega (arith, z))) (λ e. absurd (not_above e.0 e.1 (omega (arith, e.2)))) (i.wide.chosen t ((i.local b).mark_seen t m).1)

    left_here : (b : ℕ) → At v b ≡ false → Left s b v → Witness v
    left_here b out (inl p) = absurd (let u = is_there (head s b) v p.0 p.1 p.2 in cc)
    left_here b out (inr g) = went b g

    all_did : (a : ℕ) → ((c : ℕ) → c < n → s.post a c ≡ true) → IsCommitted n k s a
    all_did a all = ⊎_elim (λ le. le) (λ few. absurd (let c = diff (At v) (s.post a) n (omega (arith, members)) in let u = all c.0 c.1 in let w = c.3 in cc)) (at_least k (count_below n (s.post a)))

    -- no K agree in a version above the flat one of the beginning that no commit set
    not_old : (a : ℕ) → s.old a ≡ true → target (s.ballot a) ≡ v → ⊥
    not_old a o is = ⊎_elim (λ le. let w = i.wide.old_short a o in omega (arith, members)) (λ z. z) (pick (At v) (s.post a) ⊥ n by_post)
      where
        whole : Promised n k s a
        whole = (i.wide.old_promised a o, λ r. absurd (cc))

        above : s.origin < v
        above = let u = numbered n k most fits s i.local i.wide a whole in let w = (i.wide.origin_le a u).0 in omega (arith, is)

        by_post : (c : ℕ) → At v c ≡ true → (s.post a c ≡ true) ⊎ ⊥
        by_post c e =
            let h = plain_parts (head s c) v e in
            ⊎_elim (λ z. absurd (let w = above in omega (arith, h.1))) (λ r. ⊎_elim (λ p. ⊎_elim (λ q. inl (rw (← q) p.1)) (λ ne. absurd (alike n k most fits s i.local i.wide p.0 a ne (i.wide.whole p.0 c p.1) whole (p.2 ∙ (h.1 ∙ sym is)))) (either p.0 a)) (λ p. ⊎_elim (λ q. absurd (let w = i.wide.old_short a o in let y = subst (λ (z : ℕ). IsCommitted n k s z) q p.1 in omega arith)) (λ ne. absurd (alike n k most fits s i.local i.wide p.0 a ne (promised n k most fits s i.local i.wide p.0 p.1) whole (p.2 ∙ (h.1 ∙ sym is)))) (either p.0 a)) r) (i.wide.known c h.0 h.2)

    module _ (b : ℕ) (here : b < n) (out : At v b ≡ false) where
      -- by a brick of theirs whose dirty number is 0
      by_clean : (c : ℕ) → (v ≡ s.origin → (is_plain s.origin (s.began c) ≡ true) ⊎ FirstGroup n k s → Witness v) → Clean n k s c v → Witness v
      by_clean c first (Under lt) = absurd (let o = not_below v members in omega arith)
      by_clean c first (Whole a is real all) = left_here b out (subst (λ (w : ℕ). Left s b w) is (x.left_post a b (all b here) real (not_void n k most fits s i.local i.wide a (all_did a all))))
      by_clean c first (Old a o is) = absurd (not_old a o is)
      by_clean c first (First is h) = first is h
      by_clean c first (Fresh is all) = left_here b out (rw is (x.left_born b (all b here)))

      by_member : (c : ℕ) → c < n → At v c ≡ true → (v ≡ s.origin → (is_plain s.origin (s.began c) ≡ true) ⊎ FirstGroup n k s → Witness v) → Witness v
      by_member c lt e first =
          let h = plain_parts (head s c) v e in
          ⊎_elim (λ d. (c, lt, e, d)) (λ z. by_clean c first (subst (λ (w : ℕ). Clean n k s c w) h.1 (x.clean_at c h.0 h.2 z))) (zero_or (s.dirty c))

      -- where the run began with a group: it was all N, or one of it had a dirty number
      by_start : InIndex n k s.began → FirstGroup n k s → v ≡ s.origin → Witness v
      by_start start group is = tell (is_plain s.origin (s.began b)) refl
        where
          at_origin : (c : ℕ) → Left s c s.origin → Left s c v
          at_origin c l = subst (λ (w : ℕ). Left s c w) (sym is) l

          kept : (c : ℕ) → c < n → IsPlainAt s c s.origin → (0 < s.dirty c) ⊎ Gone s c s.origin → Witness v
          kept c lt p (inl d) = (c, lt, is_there (head s c) v p.0 (p.1 ∙ sym is) p.2, d)
          kept c lt p (inr g) = went c (subst (λ (w : ℕ). Gone s c w) (sym is) g)

          shown : (c : ℕ) → c < n → is_plain s.origin (s.began c) ≡ true → 0 < (s.began c).dirty → Left s c s.origin → Witness v
          shown c lt e d (inl p) = kept c lt p (x.dirty_start c e d p)
          shown c lt e d (inr g) = went c (subst (λ (w : ℕ). Gone s c w) (sym is) g)

          tell : (u : Bool) → is_plain s.origin (s.began b) ≡ u → Witness v
          tell true e = left_here b out (at_origin b (x.left_start b e))
          tell false e = let c = start s.origin group b here e in shown c.0 c.1 c.2 c.3 (x.left_start c.0 c.2)

      witness : InIndex n k s.began → Witness v
      witness start = ⊎_elim (λ group. let c = some_in (At v) n (omega (arith, members)) in by_member c.0 c.1 c.2 (λ is z. by_start start group is)) (λ few. let c = diff (At v) (λ c. is_plain s.origin (s.began c)) n (omega (arith, members)) in by_member c.0 c.1 c.2 (λ is z. absurd (neither c.0 c.3 few z))) (at_least k (count_below n (λ c. is_plain s.origin (s.began c))))
        where
          neither : (c : ℕ) → is_plain s.origin (s.began c) ≡ false → count_below n (λ c. is_plain s.origin (s.began c)) < k → (is_plain s.origin (s.began c) ≡ true) ⊎ FirstGroup n k s → ⊥
          neither c e few (inl h) = cc
          neither c e few (inr h) = omega arith

  pub in_index_now : InIndex n k s.began → InIndex n k (head s)
  in_index_now start v members b here out = witness v members b here out start

module _ (n k : ℕ) (most : n < k + k) (fits : k ≤ n) where
  in_index_after : (es : List Act) (s : State) → Runs n k es s → KeepsAll n es s → Inv n k s → Index n k s → InIndex n k s.began → InIndex n k (head (after es s))
  in_index_after [] s r keep i x start = in_index_now n k most fits s i x start
  in_index_after (e ∷ es) s r keep i x start =
      let m = moves n k most fits s i x e r.0 keep.0 in
      in_index_after es (step s e) r.1 keep.1 (inv_step n k most fits s e r.0 i) (index_next n k s (step s e) i m fits (omega arith) x) (rw m.began start)

  pub index_begin : (origin : ℕ) (heads : ℕ → Head) (fresh : Bool) (call : ℕ → ℕ) → Standing n k origin heads fresh → Index n k (begin n origin heads fresh call)
  index_begin origin heads fresh call st = record {
    left_post = λ a b p o v. absurd (old_post a b p o);
    left_start = λ b h. inl (plain_parts (heads b) origin h);
    left_born = λ b h. absurd (cc);
    dirty_start = λ b h z p. inl z;
    clean_at = λ b p m z. clean b p m (order (heads b).version origin);
    seen_clean = λ y b h e p m z. absurd (cc);
    fresh = λ d b h. ⊎_elim (λ f. (st.none (is_fresh fresh f)).1 b) (λ f. absurd (cc)) h;
  }
    where
      first : State
      first = begin n origin heads fresh call

      old_post : (a b : ℕ) → first.post a b ≡ true → first.old a ≡ false → ⊥
      old_post a b p o = grind (arith, nat_tests)

      is_fresh : (u : Bool) → not u ≡ false → u ≡ true
      is_fresh true e = refl
      is_fresh false e = absurd (cc)

      clean : (b : ℕ) → (heads b).present ≡ true → (heads b).marked ≡ false → ((heads b).version < origin) ⊎ (((heads b).version ≡ origin) ⊎ (origin < (heads b).version)) → Clean n k first b (heads b).version
      clean b p m (inl lt) = Under lt
      clean b p m (inr (inl same)) = First same (inl (is_there (heads b) origin p same m))
      clean b p m (inr (inr gt)) = let o = old_at n k most fits origin heads fresh call st b p gt in Old (heads b).version o ((inv_begin n k most fits origin heads fresh call st).wide.old_target (heads b).version o)

pub laws : IndexLaws
laws = record { in_index = λ n k most fits origin heads fresh call st start acts r keep. in_index_after n k most fits acts (begin n origin heads fresh call) r keep (inv_begin n k most fits origin heads fresh call st) (index_begin n k most fits origin heads fresh call st) start }
