-- What holds as a run begins, from bricks that stand.
use Rattle.std.proofs.Common.{◌≡◌, ◌⊎◌, ℕ, zero, suc, ◌+◌, ◌<◌, ◌≤◌, Bool, true, false, not, ◌==◌, ◌&&◌, refl, arith, inl, inr, ⊎_elim}
use Rattle.std.proofs.lemmas.Bool.Decides.{nat_tests}
use Rattle.ec_attr.specs.Bricks.{count_below}
use Rattle.ec_attr.proofs.Sets.{count_none, count_in, count_out}
use Rattle.ec_law_base.specs.State.{State, Head, target}
use Rattle.ec_law_ballots.specs.Begin.{begin, is_leftover, is_low, is_plain, Standing}
use Rattle.ec_law_base.proofs.Counts.{mono, some}
use Rattle.ec_law_ballots.specs.Clauses.{Local}
use Rattle.ec_law_quorum.specs.Wide.{Promised, Known, KnownMarked, Inv}

is_fresh : (fresh : Bool) → not fresh ≡ false → fresh ≡ true
is_fresh true e = refl
is_fresh false e = absurd (cc)

no_leftover : (n origin : ℕ) (heads : ℕ → Head) → ((b : ℕ) → (heads b).present ≡ false) → (a : ℕ) → is_leftover n origin heads a ≡ false
no_leftover n origin heads none a = pick (is_leftover n origin heads a) refl
  where
    pick : (u : Bool) → is_leftover n origin heads a ≡ u → u ≡ false
    pick false e = refl
    pick true e =
        let c = some (λ b. (heads b).present && ((heads b).version == a)) n (grind (arith, nat_tests)) in
        let p = none c.0 in
        absurd (let q = c.1 in grind (arith, nat_tests))

module _ (n origin : ℕ) (heads : ℕ → Head) (fresh : Bool) (call : ℕ → ℕ) (none : fresh ≡ true → (origin ≡ 0) × ((b : ℕ) → (heads b).present ≡ false)) where
  local_begin : (b : ℕ) → Local (begin n origin heads fresh call) b
  local_begin b = record {
    saw = λ a f. grind (arith, nat_tests);
    holder_granted = λ a f. grind (arith, nat_tests);
    early_granted = λ a f. grind (arith, nat_tests);
    pre_seen = λ a f. grind (arith, nat_tests);
    post_pre = λ a f. grind (arith, nat_tests);
    spost_seen = λ a f. grind (arith, nat_tests);
    mark_seen = λ a f. grind (arith, nat_tests);
    fixed_seen = λ a f. grind (arith, nat_tests);
    group_mark = λ a f. grind (arith, nat_tests);
    old_none = λ a f. grind (arith, nat_tests);
    still_seen = λ a h f g i j l m o. grind (arith, nat_tests);
    still_fixed = λ a f g i j. grind (arith, nat_tests);
    still_pre = λ a f g i j. grind (arith, nat_tests);
    still_did = λ a c f g i. grind (arith, nat_tests);
    carried_below = λ x a e f g i j. grind (arith, nat_tests);
    held_pre = λ x e f g i j l. grind (arith, nat_tests);
    held_post = λ x e f g i j l. grind (arith, nat_tests);
    held_mark = λ x e f g i j l. grind (arith, nat_tests);
    held_saw = λ x e f g i j l. grind (arith, nat_tests);
    shared_none = λ x f. grind (arith, nat_tests);
    shared_pre = λ x e f g i j l. grind (arith, nat_tests);
    shared_post = λ x e f g i j l. grind (arith, nat_tests);
    shared_mark = λ x e f g i j l. grind (arith, nat_tests);
    shared_saw = λ x e f g i j l m. grind (arith, nat_tests);
    shared_still = λ x h f g i j l. grind (arith, nat_tests);
    strip_marked = λ x f g i j. grind (arith, nat_tests);
    strip_pre = λ x e f g i j l. grind (arith, nat_tests);
    strip_post = λ x e f g i j l. grind (arith, nat_tests);
    strip_mark = λ x e f g i j l. grind (arith, nat_tests);
    kept = λ a f g. grind (arith, nat_tests);
    kept_dirty = λ a f g i j. grind (arith, nat_tests);
    past = λ a f g i. grind (arith, nat_tests);
    apart = λ a c f g i j l m. grind (arith, nat_tests);
    passed = λ a c f g i j l m o. grind (arith, nat_tests);
    post_order = λ a e f g i j. grind (arith, nat_tests);
    low_dirty = λ x e h f g i j l. grind (arith, nat_tests);
    low_version = λ x e h f g i j. grind (arith, nat_tests);
    no_more_pre = λ x e f g i j. grind (arith, nat_tests);
    no_more_post = λ x e f g i j. grind (arith, nat_tests);
    too_late = λ x e f g i j. grind (arith, nat_tests);
    at_pre_is = λ x e f. grind (arith, nat_tests);
    at_post_is = λ x e f. grind (arith, nat_tests);
    begun_post = λ x t e f g. grind (arith, nat_tests);
    began_is = λ f g. grind (arith, nat_tests);
    seen_began = λ x h f g i. grind (arith, nat_tests);
    not_made = λ f. ((none (is_fresh fresh f)).1 b, refl);
    not_made_pre = λ a f. (let e = no_leftover n origin heads (none (is_fresh fresh f)).1 a in grind (arith, nat_tests), refl);
    not_made_seen = λ a h f g. grind (arith, nat_tests);
    unborn_pre = λ a f g i j. grind (arith, nat_tests);
    unborn_seen = λ a h f g i j l. grind (arith, nat_tests);
    young_present = λ f. grind (arith, nat_tests);
    young_dirty = λ f g i. grind (arith, nat_tests);
    young_seen = λ a h f g i j l. grind (arith, nat_tests);
    young_pre = λ a f g i. grind (arith, nat_tests);
    young_risen = λ f. grind (arith, nat_tests);
  }

count_not : (p : ℕ → Bool) (n : ℕ) → count_below n p + count_below n (λ c. not (p c)) ≡ n
count_not p zero = rw (count_none, count_none) refl
count_not p (suc n) = pick (p n) refl (count_not p n)
  where
    pick : (u : Bool) → p n ≡ u → count_below n p + count_below n (λ c. not (p c)) ≡ n → count_below (suc n) p + count_below (suc n) (λ c. not (p c)) ≡ suc n
    pick true e h = let x = count_in n p e in let y = count_out n (λ c. not (p c)) (rw e refl) in omega arith
    pick false e h = let x = count_out n p e in let y = count_in n (λ c. not (p c)) (rw e refl) in omega arith

count_has : (p : ℕ → Bool) (n b : ℕ) → b < n → p b ≡ true → 0 < count_below n p
count_has p zero b lt e = absurd (omega arith)
count_has p (suc n) b lt e = ⊎_elim (λ less. grow (p n) refl (count_has p n b less e)) (λ same. let x = count_in n p (rw same at e) in omega arith) (split b n lt)
  where
    split : (x y : ℕ) → x < suc y → (x < y) ⊎ (x ≡ y)
    split x y h = grind arith

    grow : (u : Bool) → p n ≡ u → 0 < count_below n p → 0 < count_below (suc n) p
    grow true f h = let x = count_in n p f in omega arith
    grow false f h = let x = count_out n p f in omega arith

at_most : (x y : ℕ) → (x ≤ y) ⊎ (y < x)
at_most x y = grind arith

module _ (n k : ℕ) (most : n < k + k) (fits : k ≤ n) (origin : ℕ) (heads : ℕ → Head) (fresh : Bool) (call : ℕ → ℕ) (st : Standing n k origin heads fresh) where
  abbrev pub first : State
  first = begin n origin heads fresh call

  some_at : (a : ℕ) → is_leftover n origin heads a ≡ true → (origin < a) × ((b : ℕ) × ((heads b).present ≡ true) × ((heads b).version ≡ a))
  some_at a o =
      let h = split o in
      let c = some (λ b. (heads b).present && ((heads b).version == a)) n h.1 in
      (h.0, (c.0, let q = c.1 in grind (arith, nat_tests), let q = c.1 in grind (arith, nat_tests)))
    where
      split : is_leftover n origin heads a ≡ true → (origin < a) × (0 < count_below n (λ b. (heads b).present && ((heads b).version == a)))
      split o = grind (arith, nat_tests)

  number_of : (a : ℕ) → 0 < (first.ballot a).number → is_leftover n origin heads a ≡ true
  number_of a h = grind (arith, nat_tests)

  old_low : (a : ℕ) → is_leftover n origin heads a ≡ true → n < count_below n (first.pre a) + k
  old_low a o =
      let b = some_at a o in
      let few = st.few_low b.1.0 b.1.1 (omega (arith, b.0, b.1.2)) in
      let all = count_not (λ c. is_low origin (heads b.1.0).version (heads c)) n in
      let m = mono (λ c. not (is_low origin (heads b.1.0).version (heads c))) (first.pre a) n (λ c q. let e = b.1.2 in grind (arith, nat_tests)) in
      omega arith

  old_few : (a : ℕ) → is_leftover n origin heads a ≡ true → count_below n (first.post a) < k
  old_few a o =
      let b = some_at a o in
      let few = st.few_alike a (let h = b.0 in omega arith) in
      let m = mono (first.post a) (λ b. is_plain a (heads b)) n (λ c q. grind (arith, nat_tests)) in
      omega arith

  pub old_at : (b : ℕ) → (heads b).present ≡ true → origin < (heads b).version → is_leftover n origin heads (heads b).version ≡ true
  old_at b p lt =
      let inside : b < n = ⊎_elim (λ le. absurd (let h = st.beyond b le in cc)) (λ h. h) (at_most n b) in
      let c = count_has (λ x. (heads x).present && ((heads x).version == (heads b).version)) n b inside (grind (arith, nat_tests)) in
      grind (arith, nat_tests)

  old_is : (a : ℕ) → is_leftover n origin heads a ≡ true → ((first.ballot a).base ≡ origin) × (target (first.ballot a) ≡ a)
  old_is a o = let h = (some_at a o).0 in (grind (arith, nat_tests), grind (arith, nat_tests))

  at_itself : (b : ℕ) → (heads b).present ≡ true → is_leftover n origin heads (heads b).version ≡ true → (heads b).marked ≡ false → first.post (heads b).version b ≡ true
  at_itself b p o m = grind (arith, nat_tests)

  at_itself_marked : (b : ℕ) → (heads b).present ≡ true → is_leftover n origin heads (heads b).version ≡ true → (heads b).marked ≡ true → first.spost (heads b).version b ≡ true
  at_itself_marked b p o m = grind (arith, nat_tests)

  known_at : (b : ℕ) → (heads b).present ≡ true → (heads b).marked ≡ false → Known n k first b (heads b).version
  known_at b p m = ⊎_elim (λ le. inl le) (λ lt. let o = old_at b p lt in inr (inl ((heads b).version, at_itself b p o m, (old_is (heads b).version o).1))) (at_most (heads b).version origin)

  known_any : (b : ℕ) → (heads b).present ≡ true → KnownMarked n k first b (heads b).version
  known_any b p = pick (heads b).marked refl
    where
      pick : (u : Bool) → (heads b).marked ≡ u → KnownMarked n k first b (heads b).version
      pick false m = inl (known_at b p m)
      pick true m = ⊎_elim (λ le. inl (inl le)) (λ lt. let o = old_at b p lt in inr ((heads b).version, at_itself_marked b p o m, (old_is (heads b).version o).1)) (at_most (heads b).version origin)

  promised_old : (a : ℕ) → is_leftover n origin heads a ≡ true → Promised n k first a
  promised_old a o = (old_low a o, λ r. absurd (let x = r in let y = o in cc))

  post_old : (a b : ℕ) → first.post a b ≡ true → is_leftover n origin heads a ≡ true
  post_old a b h = grind (arith, nat_tests)

  spost_old : (a b : ℕ) → first.spost a b ≡ true → is_leftover n origin heads a ≡ true
  spost_old a b h = grind (arith, nat_tests)

  no_true : (u : Bool) → (u ≡ true → ⊥) → not u ≡ true
  no_true true f = absurd (f refl)
  no_true false f = refl

  pub inv_begin : Inv n k first
  inv_begin = record {
    local = local_begin n origin heads fresh call st.none;
    wide = record {
      whole = λ a b h. promised_old a (post_old a b h);
      sink_whole = λ a b h. promised_old a (spost_old a b h);
      based = λ a r f h. absurd (let o = number_of a h in let x = r in cc);
      carried = λ x a h. absurd (cc);
      chosen = λ a h. inl (old_is a (number_of a h)).0;
      had_number = λ x a h. absurd (cc);
      had_chosen = λ x a h. absurd (cc);
      begun_moment = λ x e h. absurd (cc);
      number_moment = λ a h. number_of a h;
      number_making = λ a h. no_true fresh (λ f. let e = no_leftover n origin heads (st.none f).1 a in let o = number_of a h in cc);
      origin_le = λ a h. let o = old_is a (number_of a h) in (omega (arith, o.0), λ q. o.0);
      old_target = λ a o. (old_is a o).1;
      old_short = λ a o. old_few a o;
      old_promised = λ a o. old_low a o;
      few_below = λ v h. st.few_alike v (omega arith);
      void = λ e h. absurd (cc);
      dying = λ e h. absurd (cc);
      known = λ b p m. known_at b p m;
      known_marked = λ b p. known_any b p;
      seen_known = λ x b h e p m. absurd (cc);
    };
  }
