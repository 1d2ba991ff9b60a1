-- After every run what a turn was told is what had been committed at its moment.
use Rattle.std.proofs.Common.{◌≡◌, ◌≢◌, ◌⊎◌, ℕ, ◌+◌, ◌<◌, ◌≤◌, Bool, true, false, Option, Some, None, refl, sym, ◌∙◌, ap, subst, arith, inl, inr, ⊎_elim}
use Rattle.std.proofs.lemmas.Bool.Decides.{nat_tests}
use Rattle.ec_attr.specs.Bricks.{count_below}
use Rattle.ec_law_base.specs.State.{State, Head, Ballot, target}
use Rattle.ec_law_base.proofs.Counts.{mono, same, some}
use Rattle.ec_law_ballots.specs.Words.{head, saw, at_base, tied}
use Rattle.ec_law_ballots.specs.Act.{Act, step}
use Rattle.ec_law_ballots.specs.Act.Act.{Grant, Free, Share, Unshare, Moment, See, Keep, Carry, Choose, Choose_kept, Pre, Sink_pre, Post, Sink_post, Clear, Heal_grant, Heal_free, Mark, Unmark, Maker_grant, Maker_free, Make, Made, Unmake, Stop, Replace}
use Rattle.ec_law_ballots.specs.Guard.{May}
use Rattle.ec_law_quorum.specs.Wide.{Inv, Promised, Known}
use Rattle.ec_law_quorum.proofs.Quorums.{either, is_false, read, alike}
use Rattle.ec_law_quorum.proofs.Changes.{pick}
use Rattle.ec_law_moments.specs.Then.{has_grant, KnownThen, FlatThen, Then}
use Rattle.ec_law_moments.proofs.Held.{Stays, stays, WasHeld, was-grant, was-free, was-share, was-unshare, was-see, was-keep, was-carry, was-choose, was-choose_kept, was-pre, was-sink_pre, was-post, was-sink_post, was-clear, was-heal_grant, was-heal_free, was-mark, was-maker_grant, was-maker_free, was-made, was-unmake, was-stop, was-replace}

below_or : (x y : ℕ) → (x < y) ⊎ (y ≤ x)
below_or x y = grind arith

-- a Query that is answered tells the head under a grant
see_new : (s : State) (t d x b : ℕ) (h : Head) → (step s (See t d)).seen x b ≡ Some h → (s.seen x b ≡ Some h) ⊎ ((x ≡ t) × (b ≡ d) × (h ≡ head s d))
see_new s t d x b h e = grind (arith, nat_tests)

holds_there : (s : State) (t d : ℕ) → (s.holder d ≡ Some t) ⊎ (s.shares t d ≡ true) → has_grant s t d ≡ true
holds_there s t d h = grind (arith, nat_tests)

held_or_shared : (s : State) (x b : ℕ) → has_grant s x b ≡ true → (s.holder b ≡ Some x) ⊎ (s.shares x b ≡ true)
held_or_shared s x b h = grind (arith, nat_tests)

tied_saw : (s : State) (t d : ℕ) → (s.mark t d ≡ true → saw s t d ≡ true) → tied s t d ≡ true → saw s t d ≡ true
tied_saw s t d m h = grind (arith, nat_tests)

is_at_base : (p : Ballot) (o : Option Head) (h : Head) → o ≡ Some h → at_base p o ≡ true → at_base p (Some h) ≡ true
is_at_base p o h e q = rw e at q

module _ (n k : ℕ) (most : n < k + k) (fits : k ≤ n) (s t : State) (i : Inv n k s) (st : Stays s t) where
  posted_number : (x e b : ℕ) → s.at_post x e b ≡ true → 0 < (s.ballot e).number
  posted_number x e b h = ((i.local b).pre_seen e ((i.local b).post_pre e ((i.local b).at_post_is x e h).0)).1

  count_number : (x e : ℕ) → k ≤ count_below n (s.at_post x e) → 0 < (s.ballot e).number
  count_number x e h = let c = some (s.at_post x e) n (omega arith) in posted_number x e c.0 c.1

  count_stays : (x e : ℕ) → s.moment x ≡ true → k ≤ count_below n (s.at_post x e) → k ≤ count_below n (t.at_post x e)
  count_stays x e m h = let q = same (t.at_post x e) (s.at_post x e) n (λ c. st.at_post x e c m) in omega arith

  target_stays : (e : ℕ) → 0 < (s.ballot e).number → target (t.ballot e) ≡ target (s.ballot e)
  target_stays e h = ap target (st.ballot e h)

  pub known_grows : (x b v : ℕ) → s.moment x ≡ true → KnownThen n k s x b v → KnownThen n k t x b v
  known_grows x b v m (inl z) = inl (rw st.origin z)
  known_grows x b v m (inr (inl e)) = inr (inl (e.0, st.at_post x e.0 b m ∙ e.1, target_stays e.0 (posted_number x e.0 b e.1) ∙ e.2))
  known_grows x b v m (inr (inr e)) = inr (inr (e.0, count_stays x e.0 m e.1, target_stays e.0 (count_number x e.0 e.1) ∙ e.2))

  pub flat_grows : (x v : ℕ) → s.moment x ≡ true → FlatThen n k s x v → FlatThen n k t x v
  flat_grows x v m (inl z) = inl (z ∙ sym st.origin)
  flat_grows x v m (inr e) = inr (e.0, count_stays x e.0 m e.1, target_stays e.0 (count_number x e.0 e.1) ∙ e.2)

  -- what turn a stood on was known at the moment of x, if a had begun by then
  pub from_before : (a x b v : ℕ) → FlatThen n k s a v → (a ≢ x → s.begun x a ≡ true) → KnownThen n k s x b v
  from_before a x b v (inl z) f = inl (omega arith)
  from_before a x b v (inr e) f = inr (inr (e.0, ⊎_elim (λ same'. rw same' at e.1) (λ ne. let m = mono (s.at_post a e.0) (s.at_post x e.0) n (λ c q. (i.local c).begun_post x a e.0 (f ne) q) in omega (arith, e.1)) (either a x), e.2))

-- K bricks that told one version by turn x: it was the flat one
pub told_flat : (n k : ℕ) → n < k + k → k ≤ n → (s : State) → Inv n k s → (x v : ℕ) (p : ℕ → Bool) → k ≤ count_below n p → s.origin ≤ v → ((b : ℕ) → p b ≡ true → KnownThen n k s x b v) → FlatThen n k s x v
told_flat n k most fits s i x v p members not_below each =
    let one = some p n (omega arith) in
    ⊎_elim (λ z. inl (omega arith)) (λ rest. ⊎_elim (by_post one.0) (λ e. inr e) rest) (each one.0 one.1)
  where
    posted : (e b : ℕ) → s.at_post x e b ≡ true → Promised n k s e
    posted e b h = i.wide.whole e b ((i.local b).at_post_is x e h).0

    member : (b : ℕ) (e : (y : ℕ) × (s.at_post x y b ≡ true) × (target (s.ballot y) ≡ v)) → (c : ℕ) → p c ≡ true → (s.at_post x e.0 c ≡ true) ⊎ FlatThen n k s x v
    member b e c q = ⊎_elim (λ z. inr (inl (omega arith))) (λ rest. ⊎_elim (λ f. inl (found f)) (λ f. inr (inr f)) rest) (each c q)
      where
        found : (f : ℕ) × (s.at_post x f c ≡ true) × (target (s.ballot f) ≡ v) → s.at_post x e.0 c ≡ true
        found f = ⊎_elim (λ eq. rw eq f.1) (λ ne. absurd (alike n k most fits s i.local i.wide e.0 f.0 ne (posted e.0 b e.1) (posted f.0 c f.1) (e.2 ∙ sym f.2))) (either e.0 f.0)

    by_post : (b : ℕ) → (e : ℕ) × (s.at_post x e b ≡ true) × (target (s.ballot e) ≡ v) → FlatThen n k s x v
    by_post b e = ⊎_elim (λ le. inr (e.0, omega (arith, members), e.2)) (λ q. q) (pick p (s.at_post x e.0) (FlatThen n k s x v) n (member b e))

module _ (n k : ℕ) (most : n < k + k) (fits : k ≤ n) (s : State) (i : Inv n k s) (th : Then n k s) where
  still_held : (e : Act) (may : May n k s e) (x b : ℕ) → WasHeld s (step s e) x b → KnownThen n k (step s e) x b ((step s e).version b)
  still_held e may x b w = rw w.6 (known_grows n k most fits s (step s e) i (stays n k s e may) x b (s.version b) w.2 (th.held x b w.0 w.1 w.2 w.3 w.4 w.5))

  -- as a turn comes to its moment: what is known now is known then
  now_then : (x b v : ℕ) → Known n k s b v → KnownThen n k (step s (Moment x)) x b v
  now_then x b v (inl z) = inl z
  now_then x b v (inr (inl e)) = inr (inl (e.0, snap s x e.0 b e.1, e.2))
    where
      snap : (s : State) (x e b : ℕ) → s.post e b ≡ true → (step s (Moment x)).at_post x e b ≡ true
      snap s x e b h = grind (arith, nat_tests)
  now_then x b v (inr (inr e)) = inr (inr (e.0, (let m = mono (s.post e.0) ((step s (Moment x)).at_post x e.0) n (λ c h. snap s x e.0 c h) in omega (arith, e.1)), e.2))
    where
      snap : (s : State) (x e b : ℕ) → s.post e b ≡ true → (step s (Moment x)).at_post x e b ≡ true
      snap s x e b h = grind (arith, nat_tests)

  held_moment : (y : ℕ) (may : May n k s (Moment y)) (x b : ℕ) → has_grant s x b ≡ true → s.early x b ≡ true → (step s (Moment y)).moment x ≡ true → s.pre x b ≡ false → s.present b ≡ true → s.marked b ≡ false → KnownThen n k (step s (Moment y)) x b (s.version b)
  held_moment y may x b h f g j l m = ⊎_elim (λ e. rw e (now_then y b (s.version b) (i.wide.known b l m))) (λ ne. known_grows n k most fits s (step s (Moment y)) i (stays n k s (Moment y) may) x b (s.version b) (was s x y ne g) (th.held x b h f (was s x y ne g) j l m)) (either x y)
    where
      was : (s : State) (x y : ℕ) → x ≢ y → (step s (Moment y)).moment x ≡ true → s.moment x ≡ true
      was s x y ne g = grind (arith, nat_tests)

  held_unmark : (y d : ℕ) (may : May n k s (Unmark y d)) (x b : ℕ) → has_grant s x b ≡ true → s.early x b ≡ true → s.moment x ≡ true → s.pre x b ≡ false → s.present b ≡ true → (step s (Unmark y d)).marked b ≡ false → KnownThen n k (step s (Unmark y d)) x b (s.version b)
  held_unmark y d may x b h f g j l m = known_grows n k most fits s (step s (Unmark y d)) i (stays n k s (Unmark y d) may) x b (s.version b) g (⊎_elim at_d (λ ne. th.held x b h f g j l (plain s y d b ne m)) (either b d))
    where
      plain : (s : State) (y d b : ℕ) → b ≢ d → (step s (Unmark y d)).marked b ≡ false → s.marked b ≡ false
      plain s y d b ne m = grind (arith, nat_tests)

      seen : saw s y d ≡ true
      seen = tied_saw s y d (λ q. ((i.local d).mark_seen y q).0) may.4

      at_d : b ≡ d → KnownThen n k s x b (s.version b)
      at_d e = from_before n k most fits s s i (record { ballot = λ a q. refl; at_post = λ a c q r. refl; origin = refl }) y x b (s.version b) (subst (λ (v : ℕ). FlatThen n k s y v) (sym (ap s.version e ∙ may.1.1)) (th.chosen y may.2.real may.3 may.2.number)) begun
        where
          begun : y ≢ x → s.begun x y ≡ true
          begun ne = ⊎_elim (λ q. (i.local d).held_saw x y (rw e at q) (rw e at f) g seen ne) (λ q. (i.local d).shared_saw x y (rw e at q) (rw e at f) g seen may.7 ne) (held_or_shared s x b h)

  held_make : (d : ℕ) (may : May n k s (Make d)) (x b : ℕ) → has_grant s x b ≡ true → s.early x b ≡ true → s.moment x ≡ true → s.pre x b ≡ false → (step s (Make d)).present b ≡ true → (step s (Make d)).marked b ≡ false → KnownThen n k (step s (Make d)) x b ((step s (Make d)).version b)
  held_make d may x b h f g j l m = ⊎_elim (λ e. inl (low s d b e)) (λ ne. still_held (Make d) may x b (h, f, g, j, same_present s d b ne l, same_marked s d b ne m, same_version s d b ne)) (either b d)
    where
      low : (s : State) (d b : ℕ) → b ≡ d → (step s (Make d)).version b ≤ s.origin
      low s d b e = grind (arith, nat_tests)

      same_present : (s : State) (d b : ℕ) → b ≢ d → (step s (Make d)).present b ≡ true → s.present b ≡ true
      same_present s d b ne l = grind (arith, nat_tests)

      same_marked : (s : State) (d b : ℕ) → b ≢ d → (step s (Make d)).marked b ≡ false → s.marked b ≡ false
      same_marked s d b ne l = grind (arith, nat_tests)

      same_version : (s : State) (d b : ℕ) → b ≢ d → (step s (Make d)).version b ≡ s.version b
      same_version s d b ne = grind (arith, nat_tests)

  abbrev pub HeldAfter : Act → Type 0
  HeldAfter e = (x b : ℕ) → has_grant (step s e) x b ≡ true → (step s e).early x b ≡ true → (step s e).moment x ≡ true → (step s e).pre x b ≡ false → (step s e).present b ≡ true → (step s e).marked b ≡ false → KnownThen n k (step s e) x b ((step s e).version b)

  held_step : (e : Act) → May n k s e → HeldAfter e
  held_step (Grant t d) may x b f g h j l m = still_held (Grant t d) may x b (was-grant n k s t d may (i.local d).shared_none x b f g h j l m)
  held_step (Free d) may x b f g h j l m = still_held (Free d) may x b (was-free n k s d may x b f g h j l m)
  held_step (Share t d) may x b f g h j l m = still_held (Share t d) may x b (was-share n k s t d may x b f g h j l m)
  held_step (Unshare t d) may x b f g h j l m = still_held (Unshare t d) may x b (was-unshare n k s t d may x b f g h j l m)
  held_step (Moment t) may x b f g h j l m = held_moment t may x b f g h j l m
  held_step (See t d) may x b f g h j l m = still_held (See t d) may x b (was-see n k s t d may x b f g h j l m)
  held_step (Keep t u) may x b f g h j l m = still_held (Keep t u) may x b (was-keep n k s t u may x b f g h j l m)
  held_step (Carry u t d) may x b f g h j l m = still_held (Carry u t d) may x b (was-carry n k s u t d may (i.local d).shared_none x b f g h j l m)
  held_step (Choose t p) may x b f g h j l m = still_held (Choose t p) may x b (was-choose n k s t p may x b f g h j l m)
  held_step (Choose_kept t u p) may x b f g h j l m = still_held (Choose_kept t u p) may x b (was-choose_kept n k s t u p may x b f g h j l m)
  held_step (Pre t d) may x b f g h j l m = still_held (Pre t d) may x b (was-pre n k s t d may (i.local d).shared_none x b f g h j l m)
  held_step (Sink_pre t d) may x b f g h j l m = still_held (Sink_pre t d) may x b (was-sink_pre n k s t d may (i.local d).shared_none x b f g h j l m)
  held_step (Post t d) may x b f g h j l m = still_held (Post t d) may x b (was-post n k s t d may (i.local d).shared_none x b f g h j l m)
  held_step (Sink_post t d) may x b f g h j l m = still_held (Sink_post t d) may x b (was-sink_post n k s t d may (i.local d).shared_none x b f g h j l m)
  held_step (Clear t d) may x b f g h j l m = still_held (Clear t d) may x b (was-clear n k s t d may (i.local d).shared_none x b f g h j l m)
  held_step (Heal_grant w d) may x b f g h j l m = still_held (Heal_grant w d) may x b (was-heal_grant n k s w d may x b f g h j l m)
  held_step (Heal_free d) may x b f g h j l m = still_held (Heal_free d) may x b (was-heal_free n k s d may x b f g h j l m)
  held_step (Mark t d) may x b f g h j l m = still_held (Mark t d) may x b (was-mark n k s t d may (i.local d).shared_none x b f g h j l m)
  held_step (Unmark t d) may x b f g h j l m = held_unmark t d may x b f g h j l m
  held_step (Maker_grant d) may x b f g h j l m = still_held (Maker_grant d) may x b (was-maker_grant n k s d may x b f g h j l m)
  held_step (Maker_free d) may x b f g h j l m = still_held (Maker_free d) may x b (was-maker_free n k s d may x b f g h j l m)
  held_step (Make d) may x b f g h j l m = held_make d may x b f g h j l m
  held_step (Made d) may x b f g h j l m = still_held (Made d) may x b (was-made n k s d may x b f g h j l m)
  held_step (Unmake d) may x b f g h j l m = still_held (Unmake d) may x b (was-unmake n k s d may x b f g h j l m)
  held_step (Stop d) may x b f g h j l m = still_held (Stop d) may x b (was-stop n k s d may x b f g h j l m)
  held_step (Replace d) may x b f g h j l m = still_held (Replace d) may x b (was-replace n k s d may x b f g h j l m)

  -- what a Query tells is known under its grant
  seen_see : (t d : ℕ) (may : May n k s (See t d)) (x b : ℕ) (h : Head) → (step s (See t d)).seen x b ≡ Some h → h.present ≡ true → h.marked ≡ false → KnownThen n k s x b h.version
  seen_see t d may x b h e p m = ⊎_elim (λ q. th.seen x b h q p m) (λ q. new q.0 q.1 q.2) (see_new s t d x b h e)
    where
      new : x ≡ t → b ≡ d → h ≡ head s d → KnownThen n k s x b h.version
      new ex eb eh = rw (ex, eb, eh) (th.held t d (holds_there s t d may.0) may.1 may.2 (is_false (s.pre t d) λ q. let z = ((i.local d).pre_seen t q).1 in let y = may.4 in absurd (omega arith)) (rw eh at p) (rw eh at m))

  seen_step : (e : Act) → May n k s e → (x b : ℕ) (h : Head) → (step s e).seen x b ≡ Some h → h.present ≡ true → h.marked ≡ false → KnownThen n k s x b h.version
  seen_step (Grant t d) may x b h e p m = th.seen x b h e p m
  seen_step (Free d) may x b h e p m = th.seen x b h e p m
  seen_step (Share t d) may x b h e p m = th.seen x b h e p m
  seen_step (Unshare t d) may x b h e p m = th.seen x b h e p m
  seen_step (Moment t) may x b h e p m = th.seen x b h e p m
  seen_step (See t d) may x b h e p m = seen_see t d may x b h e p m
  seen_step (Keep t u) may x b h e p m = th.seen x b h e p m
  seen_step (Carry u t d) may x b h e p m = th.seen x b h e p m
  seen_step (Choose t p) may x b h e q m = th.seen x b h e q m
  seen_step (Choose_kept t u p) may x b h e q m = th.seen x b h e q m
  seen_step (Pre t d) may x b h e p m = th.seen x b h e p m
  seen_step (Sink_pre t d) may x b h e p m = th.seen x b h e p m
  seen_step (Post t d) may x b h e p m = th.seen x b h e p m
  seen_step (Sink_post t d) may x b h e p m = th.seen x b h e p m
  seen_step (Clear t d) may x b h e p m = th.seen x b h e p m
  seen_step (Heal_grant w d) may x b h e p m = th.seen x b h e p m
  seen_step (Heal_free d) may x b h e p m = th.seen x b h e p m
  seen_step (Mark t d) may x b h e p m = th.seen x b h e p m
  seen_step (Unmark t d) may x b h e p m = th.seen x b h e p m
  seen_step (Maker_grant d) may x b h e p m = th.seen x b h e p m
  seen_step (Maker_free d) may x b h e p m = th.seen x b h e p m
  seen_step (Make d) may x b h e p m = th.seen x b h e p m
  seen_step (Made d) may x b h e p m = th.seen x b h e p m
  seen_step (Unmake d) may x b h e p m = th.seen x b h e p m
  seen_step (Stop d) may x b h e p m = th.seen x b h e p m
  seen_step (Replace d) may x b h e p m = th.seen x b h e p m

  saw_moment : (x b : ℕ) (h : Head) → s.seen x b ≡ Some h → s.moment x ≡ true
  saw_moment x b h e = ((i.local b).saw x (some_saw s x b h e)).2
    where
      some_saw : (s : State) (x b : ℕ) (h : Head) → s.seen x b ≡ Some h → saw s x b ≡ true
      some_saw s x b h e = grind (arith, nat_tests)

  see_moment : (e : Act) → May n k s e → (x b : ℕ) (h : Head) → (step s e).seen x b ≡ Some h → s.moment x ≡ true
  see_moment (Grant t d) may x b h e = saw_moment x b h e
  see_moment (Free d) may x b h e = saw_moment x b h e
  see_moment (Share t d) may x b h e = saw_moment x b h e
  see_moment (Unshare t d) may x b h e = saw_moment x b h e
  see_moment (Moment t) may x b h e = saw_moment x b h e
  see_moment (See t d) may x b h e = ⊎_elim (λ q. saw_moment x b h q) (λ q. rw q.0 may.2) (see_new s t d x b h e)
  see_moment (Keep t u) may x b h e = saw_moment x b h e
  see_moment (Carry u t d) may x b h e = saw_moment x b h e
  see_moment (Choose t p) may x b h e = saw_moment x b h e
  see_moment (Choose_kept t u p) may x b h e = saw_moment x b h e
  see_moment (Pre t d) may x b h e = saw_moment x b h e
  see_moment (Sink_pre t d) may x b h e = saw_moment x b h e
  see_moment (Post t d) may x b h e = saw_moment x b h e
  see_moment (Sink_post t d) may x b h e = saw_moment x b h e
  see_moment (Clear t d) may x b h e = saw_moment x b h e
  see_moment (Heal_grant w d) may x b h e = saw_moment x b h e
  see_moment (Heal_free d) may x b h e = saw_moment x b h e
  see_moment (Mark t d) may x b h e = saw_moment x b h e
  see_moment (Unmark t d) may x b h e = saw_moment x b h e
  see_moment (Maker_grant d) may x b h e = saw_moment x b h e
  see_moment (Maker_free d) may x b h e = saw_moment x b h e
  see_moment (Make d) may x b h e = saw_moment x b h e
  see_moment (Made d) may x b h e = saw_moment x b h e
  see_moment (Unmake d) may x b h e = saw_moment x b h e
  see_moment (Stop d) may x b h e = saw_moment x b h e
  see_moment (Replace d) may x b h e = saw_moment x b h e

  -- a group's version was the flat one at the turn's moment
  chosen_choose : (t : ℕ) (p : Ballot) (may : May n k s (Choose t p)) → Inv n k (step s (Choose t p)) → FlatThen n k s t p.base
  chosen_choose t p may j = told_flat n k most fits s i t p.base (λ b. at_base p (s.seen t b)) may.2 (not_below (own s t p)) each
    where
      own : (s : State) (t : ℕ) (p : Ballot) → (step s (Choose t p)).ballot t ≡ p
      own s t p = grind (arith, nat_tests)

      not_below : (step s (Choose t p)).ballot t ≡ p → s.origin ≤ p.base
      not_below e = let o = (j.wide.origin_le t (rw e may.1)).0 in omega (arith, ap (λ (q : Ballot). q.base) e)

      each : (b : ℕ) → at_base p (s.seen t b) ≡ true → KnownThen n k s t b p.base
      each b q = let r = read p (s.seen t b) q in rw r.2 at (th.seen t b r.0 r.1 r.5 r.4)

  abbrev pub ChosenAfter : Act → Type 0
  ChosenAfter e = (a : ℕ) → (step s e).old a ≡ false → (step s e).carries a ≡ None → 0 < ((step s e).ballot a).number → FlatThen n k (step s e) a ((step s e).ballot a).base

  old_chosen : (e : Act) (may : May n k s e) (a : ℕ) → s.old a ≡ false → s.carries a ≡ None → 0 < (s.ballot a).number → FlatThen n k (step s e) a ((step s e).ballot a).base
  old_chosen e may a real free h = let z = stays n k s e may in subst (λ (v : ℕ). FlatThen n k (step s e) a v) (sym (ap (λ (p : Ballot). p.base) (z.ballot a h))) (flat_grows n k most fits s (step s e) i z a (s.ballot a).base (i.wide.number_moment a h) (th.chosen a real free h))

  chosen_step : (e : Act) → (may : May n k s e) → Inv n k (step s e) → ChosenAfter e
  chosen_step (Grant t d) may j a real free h = old_chosen (Grant t d) may a real free h
  chosen_step (Free d) may j a real free h = old_chosen (Free d) may a real free h
  chosen_step (Share t d) may j a real free h = old_chosen (Share t d) may a real free h
  chosen_step (Unshare t d) may j a real free h = old_chosen (Unshare t d) may a real free h
  chosen_step (Moment t) may j a real free h = old_chosen (Moment t) may a real free h
  chosen_step (See t d) may j a real free h = old_chosen (See t d) may a real free h
  chosen_step (Keep t u) may j a real free h = old_chosen (Keep t u) may a real (was s t u a free) h
    where
      was : (s : State) (t u a : ℕ) → (step s (Keep t u)).carries a ≡ None → s.carries a ≡ None
      was s t u a e = grind (arith, nat_tests)
  chosen_step (Carry u t d) may j a real free h = old_chosen (Carry u t d) may a real free h
  chosen_step (Choose t p) may j a real free h = ⊎_elim new old (either a t)
    where
      kept : (s : State) (t a : ℕ) (p : Ballot) → a ≢ t → (step s (Choose t p)).ballot a ≡ s.ballot a
      kept s t a p ne = grind (arith, nat_tests)

      own : (s : State) (t : ℕ) (p : Ballot) → (step s (Choose t p)).ballot t ≡ p
      own s t p = grind (arith, nat_tests)

      old : a ≢ t → FlatThen n k (step s (Choose t p)) a ((step s (Choose t p)).ballot a).base
      old ne = old_chosen (Choose t p) may a real free (rw (kept s t a p ne) at h)

      new : a ≡ t → FlatThen n k (step s (Choose t p)) a ((step s (Choose t p)).ballot a).base
      new e = rw e (subst (λ (q : Ballot). FlatThen n k (step s (Choose t p)) t q.base) (sym (own s t p)) (flat_grows n k most fits s (step s (Choose t p)) i (stays n k s (Choose t p) may) t p.base may.3 (chosen_choose t p may j)))
  chosen_step (Choose_kept t u p) may j a real free h = ⊎_elim (λ e. absurd (let z = rw e at free in let y = may.2 in cc)) (λ ne. old_chosen (Choose_kept t u p) may a real free (rw (kept s t u a p ne) at h)) (either a t)
    where
      kept : (s : State) (t u a : ℕ) (p : Ballot) → a ≢ t → (step s (Choose_kept t u p)).ballot a ≡ s.ballot a
      kept s t u a p ne = grind (arith, nat_tests)
  chosen_step (Pre t d) may j a real free h = old_chosen (Pre t d) may a real free h
  chosen_step (Sink_pre t d) may j a real free h = old_chosen (Sink_pre t d) may a real free h
  chosen_step (Post t d) may j a real free h = old_chosen (Post t d) may a real free h
  chosen_step (Sink_post t d) may j a real free h = old_chosen (Sink_post t d) may a real free h
  chosen_step (Clear t d) may j a real free h = old_chosen (Clear t d) may a real free h
  chosen_step (Heal_grant w d) may j a real free h = old_chosen (Heal_grant w d) may a real free h
  chosen_step (Heal_free d) may j a real free h = old_chosen (Heal_free d) may a real free h
  chosen_step (Mark t d) may j a real free h = old_chosen (Mark t d) may a real free h
  chosen_step (Unmark t d) may j a real free h = old_chosen (Unmark t d) may a real free h
  chosen_step (Maker_grant d) may j a real free h = old_chosen (Maker_grant d) may a real free h
  chosen_step (Maker_free d) may j a real free h = old_chosen (Maker_free d) may a real free h
  chosen_step (Make d) may j a real free h = old_chosen (Make d) may a real free h
  chosen_step (Made d) may j a real free h = old_chosen (Made d) may a real free h
  chosen_step (Unmake d) may j a real free h = old_chosen (Unmake d) may a real free h
  chosen_step (Stop d) may j a real free h = old_chosen (Stop d) may a real free h
  chosen_step (Replace d) may j a real free h = old_chosen (Replace d) may a real free h

  pub then_step : (e : Act) → (may : May n k s e) → Inv n k (step s e) → Then n k (step s e)
  then_step e may j = record {
    held = held_step e may;
    seen = λ x b h f p m. known_grows n k most fits s (step s e) i (stays n k s e may) x b h.version (see_moment e may x b h f) (seen_step e may x b h f p m);
    chosen = chosen_step e may j;
  }
