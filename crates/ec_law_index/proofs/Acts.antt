-- Each act as a move of the index.
use Rattle.std.proofs.Common.{◌≡◌, ◌⊎◌, ℕ, ◌+◌, ◌<◌, ◌≤◌, true, false, Some, None, refl, arith, inl, inr, ⊎_elim}
use Rattle.std.proofs.lemmas.Bool.Decides.{nat_tests}
use Rattle.ec_attr.specs.Bricks.{count_below}
use Rattle.ec_law_base.specs.State.{State, Head, Ballot, target}
use Rattle.ec_law_ballots.specs.Act.{Act, step}
use Rattle.ec_law_ballots.specs.Act.Act.{Grant, Free, Share, Unshare, Moment, See, Keep, Carry, Choose, Choose_kept, Pre, Sink_pre, Post, Sink_post, Clear, Heal_grant, Heal_free, Mark, Unmark, Maker_grant, Maker_free, Make, Made, Unmake, Stop, Replace}
use Rattle.ec_law_ballots.specs.Words.{head, group}
use Rattle.ec_law_ballots.specs.Guard.{May}
use Rattle.ec_law_ballots.specs.Begin.{is_plain}
use Rattle.ec_law_quorum.specs.Wide.{Inv}
use Rattle.ec_law_quorum.proofs.Quorums.{either, order, post_below, read}
use Rattle.ec_law_quorum.proofs.Below.{by_held, pre_below}
use Rattle.ec_law_index.specs.Index.{Keeps}
use Rattle.ec_law_index.specs.Clauses.{Gone, FirstGroup, Clean, Index}
use Rattle.ec_law_index.specs.Clauses.Clean.{Under, Whole, Old, First, Fresh}
use Rattle.ec_law_index.proofs.Group.{diff, some_in, at_least}
use Rattle.ec_law_index.proofs.Moves.{Lowered, Moves, Still, moves_still}

module _ (n k : ℕ) (most : n < k + k) (fits : k ≤ n) (s : State) (i : Inv n k s) (x : Index n k s) where
  still-moment : (a : ℕ) → Still s (step s (Moment a))
  still-moment a = record { origin = refl; began = refl; old = refl; ballot = λ e h. refl; post = refl; mark = refl; born = refl; voided = refl; present = λ b. refl; version = refl; dirty = refl; marked = refl; seen = λ y b h e. inl e; fresh = λ d h. h }

  still-see : (a d : ℕ) → Still s (step s (See a d))
  still-see a d = record { origin = refl; began = refl; old = refl; ballot = λ e h. refl; post = refl; mark = refl; born = refl; voided = refl; present = λ b. refl; version = refl; dirty = refl; marked = refl; seen = λ y b h e. new y b h e; fresh = λ d h. h }
    where
      new : (y b : ℕ) (h : Head) → (step s (See a d)).seen y b ≡ Some h → (s.seen y b ≡ Some h) ⊎ (h ≡ head s b)
      new y b h e = ⊎_elim (λ p. ⊎_elim (λ q. inr (grind (arith, nat_tests))) (λ ne. inl (grind (arith, nat_tests))) (either b d)) (λ ne. inl (grind (arith, nat_tests))) (either y a)

  still-choose : (a : ℕ) (p : Ballot) → May n k s (Choose a p) → Still s (step s (Choose a p))
  still-choose a p may = record { origin = refl; began = refl; old = refl; ballot = λ e h. grind (arith, nat_tests); post = refl; mark = refl; born = refl; voided = refl; present = λ b. refl; version = refl; dirty = refl; marked = refl; seen = λ y b h e. inl e; fresh = λ d h. h }

  still-choose_kept : (a c : ℕ) (p : Ballot) → May n k s (Choose_kept a c p) → Still s (step s (Choose_kept a c p))
  still-choose_kept a c p may = record { origin = refl; began = refl; old = refl; ballot = λ e h. grind (arith, nat_tests); post = refl; mark = refl; born = refl; voided = refl; present = λ b. refl; version = refl; dirty = refl; marked = refl; seen = λ y b h e. inl e; fresh = λ d h. h }

  still-maker_grant : (d : ℕ) → May n k s (Maker_grant d) → Still s (step s (Maker_grant d))
  still-maker_grant d may = record { origin = refl; began = refl; old = refl; ballot = λ e h. refl; post = refl; mark = refl; born = refl; voided = refl; present = λ b. refl; version = refl; dirty = refl; marked = refl; seen = λ y b h e. inl e; fresh = λ c h. inl may }

  still-maker_free : (d : ℕ) → Still s (step s (Maker_free d))
  still-maker_free d = record { origin = refl; began = refl; old = refl; ballot = λ e h. refl; post = refl; mark = refl; born = refl; voided = refl; present = λ b. refl; version = refl; dirty = refl; marked = refl; seen = λ y b h e. inl e; fresh = λ c h. ⊎_elim (λ q. inl q) (λ q. inr (grind (arith, nat_tests))) h }

  still-stop : (d : ℕ) → Still s (step s (Stop d))
  still-stop d = record { origin = refl; began = refl; old = refl; ballot = λ e h. refl; post = refl; mark = refl; born = refl; voided = refl; present = λ b. refl; version = refl; dirty = refl; marked = refl; seen = λ y b h e. inl e; fresh = λ c h. ⊎_elim (λ q. inl q) (λ q. inr (grind (arith, nat_tests))) h }

  still-unmake : (d : ℕ) → s.present d ≡ false → Still s (step s (Unmake d))
  still-unmake d gone = record { origin = refl; began = refl; old = refl; ballot = λ e h. refl; post = refl; mark = refl; born = refl; voided = refl; present = λ b. grind (arith, nat_tests); version = refl; dirty = refl; marked = refl; seen = λ y b h e. inl e; fresh = λ c h. h }

  still-replace : (d : ℕ) → s.present d ≡ false → Still s (step s (Replace d))
  still-replace d gone = record { origin = refl; began = refl; old = refl; ballot = λ e h. refl; post = refl; mark = refl; born = refl; voided = refl; present = λ b. grind (arith, nat_tests); version = refl; dirty = refl; marked = refl; seen = λ y b h e. inl e; fresh = λ c h. h }

  moves-pre : (a d : ℕ) → May n k s (Pre a d) → Moves n k s (step s (Pre a d))
  moves-pre a d may = record {
    origin = refl;
    began = refl;
    old = refl;
    ballot = λ e h. refl;
    post = λ e b h. h;
    mark = λ e b h. h;
    born = λ b h. h;
    voided = λ e h. h;
    posted = λ e b h. inl h;
    made = λ b h. inl h;
    stays = λ b p m. inl (p, refl, m);
    dirty = λ b h p z q. let y = may.2.number in grind (arith, nat_tests);
    clean = λ b p m z. inl (p, m, let y = may.2.number in grind (arith, nat_tests), refl);
    seen = λ y b h e. inl e;
    fresh = λ c h. h;
  }

  moves-sink_pre : (a d : ℕ) → May n k s (Sink_pre a d) → Moves n k s (step s (Sink_pre a d))
  moves-sink_pre a d may = record {
    origin = refl;
    began = refl;
    old = refl;
    ballot = λ e h. refl;
    post = λ e b h. h;
    mark = λ e b h. h;
    born = λ b h. h;
    voided = λ e h. h;
    posted = λ e b h. inl h;
    made = λ b h. inl h;
    stays = λ b p m. inl (p, refl, m);
    dirty = λ b h p z q. let y = may.2.number in grind (arith, nat_tests);
    clean = λ b p m z. inl (p, m, let y = may.2.number in grind (arith, nat_tests), refl);
    seen = λ y b h e. inl e;
    fresh = λ c h. h;
  }

  moves-post : (a d : ℕ) → May n k s (Post a d) → Moves n k s (step s (Post a d))
  moves-post a d may = record {
    origin = refl;
    began = refl;
    old = refl;
    ballot = λ e h. refl;
    post = λ e b h. grind (arith, nat_tests);
    mark = λ e b h. h;
    born = λ b h. h;
    voided = λ e h. h;
    posted = λ e b h. ⊎_elim (λ p. ⊎_elim (λ q. inr (grind (arith, nat_tests), grind (arith, nat_tests), grind (arith, nat_tests))) (λ ne. inl (grind (arith, nat_tests))) (either b d)) (λ ne. inl (grind (arith, nat_tests))) (either e a);
    made = λ b h. inl h;
    stays = λ b p m. ⊎_elim (λ q. inr (inl (inl (a, grind (arith, nat_tests), grind (arith, nat_tests))))) (λ ne. inl (p, grind (arith, nat_tests), m)) (either b d);
    dirty = λ b h p z q. grind (arith, nat_tests);
    clean = λ b p m z. ⊎_elim (λ q. absurd (grind (arith, nat_tests))) (λ ne. inl (p, m, grind (arith, nat_tests), grind (arith, nat_tests))) (either b d);
    seen = λ y b h e. inl e;
    fresh = λ c h. h;
  }

  moves-sink_post : (a d : ℕ) → May n k s (Sink_post a d) → Moves n k s (step s (Sink_post a d))
  moves-sink_post a d may = record {
    origin = refl;
    began = refl;
    old = refl;
    ballot = λ e h. refl;
    post = λ e b h. h;
    mark = λ e b h. h;
    born = λ b h. h;
    voided = λ e h. h;
    posted = λ e b h. inl h;
    made = λ b h. inl h;
    stays = λ b p m. ⊎_elim (λ q. absurd (let o = may.1.2 in grind (arith, nat_tests))) (λ ne. inl (p, grind (arith, nat_tests), m)) (either b d);
    dirty = λ b h p z q. grind (arith, nat_tests);
    clean = λ b p m z. ⊎_elim (λ q. absurd (grind (arith, nat_tests))) (λ ne. inl (p, m, grind (arith, nat_tests), grind (arith, nat_tests))) (either b d);
    seen = λ y b h e. inl e;
    fresh = λ c h. h;
  }

  moves-clear : (a d : ℕ) → May n k s (Clear a d) → Moves n k s (step s (Clear a d))
  moves-clear a d may = record {
    origin = refl;
    began = refl;
    old = refl;
    ballot = λ e h. refl;
    post = λ e b h. h;
    mark = λ e b h. h;
    born = λ b h. h;
    voided = λ e h. h;
    posted = λ e b h. inl h;
    made = λ b h. inl h;
    stays = λ b p m. inl (p, refl, m);
    dirty = λ b h p z q. ⊎_elim (λ w. absurd (above b w p.1)) (λ ne. grind (arith, nat_tests)) (either b d);
    clean = λ b p m z. ⊎_elim (λ q. inr (Whole a (grind (arith, nat_tests)) may.3 may.4)) (λ ne. inl (p, m, grind (arith, nat_tests), refl)) (either b d);
    seen = λ y b h e. inl e;
    fresh = λ c h. h;
  }
    where
      above : (b : ℕ) → b ≡ d → s.version b ≡ s.origin → ⊥
      above b w v =
          let y = ((i.local d).pre_seen a ((i.local d).post_pre a may.2)).1 in
          let o = (i.wide.origin_le a y).0 in
          let u = may.1.1 in
          grind (arith, nat_tests)

  moves-make : (d : ℕ) → May n k s (Make d) → Moves n k s (step s (Make d))
  moves-make d may = record {
    origin = refl;
    began = refl;
    old = refl;
    ballot = λ e h. refl;
    post = λ e b h. h;
    mark = λ e b h. h;
    born = λ b h. grind (arith, nat_tests);
    voided = λ e h. h;
    posted = λ e b h. inl h;
    made = λ b h. ⊎_elim (λ q. inr (grind (arith, nat_tests), grind (arith, nat_tests), grind (arith, nat_tests))) (λ ne. inl (grind (arith, nat_tests))) (either b d);
    stays = λ b p m. inl (grind (arith, nat_tests), grind (arith, nat_tests), grind (arith, nat_tests));
    dirty = λ b h p z q. grind (arith, nat_tests);
    clean = λ b p m z. ⊎_elim (λ q. absurd (grind (arith, nat_tests))) (λ ne. inl (grind (arith, nat_tests), grind (arith, nat_tests), grind (arith, nat_tests), grind (arith, nat_tests))) (either b d);
    seen = λ y b h e. inl e;
    fresh = λ c h. ⊎_elim (λ q. absurd (cc)) (λ q. inr q) h;
  }

  moves-made : (d : ℕ) → May n k s (Made d) → ((c : ℕ) → c < n → s.born c ≡ true) → Moves n k s (step s (Made d))
  moves-made d may all = record {
    origin = refl;
    began = refl;
    old = refl;
    ballot = λ e h. refl;
    post = λ e b h. h;
    mark = λ e b h. h;
    born = λ b h. h;
    voided = λ e h. h;
    posted = λ e b h. inl h;
    made = λ b h. inl h;
    stays = λ b p m. inl (p, refl, m);
    dirty = λ b h p z q. absurd (let y = x.fresh d b (inr may.0) in grind (arith, nat_tests));
    clean = λ b p m z. ⊎_elim (λ q. inr (Fresh (let v = may.4.1 in grind (arith, nat_tests)) all)) (λ ne. inl (p, m, grind (arith, nat_tests), refl)) (either b d);
    seen = λ y b h e. inl e;
    fresh = λ c h. h;
  }

  moves-mark : (a d : ℕ) → May n k s (Mark a d) → Moves n k s (step s (Mark a d))
  moves-mark a d may = record {
    origin = refl;
    began = refl;
    old = refl;
    ballot = λ e h. refl;
    post = λ e b h. h;
    mark = λ e b h. grind (arith, nat_tests);
    born = λ b h. h;
    voided = λ e h. grind (arith, nat_tests);
    posted = λ e b h. inl h;
    made = λ b h. inl h;
    stays = λ b p m. ⊎_elim (λ q. inr (at_brick b q p m (order (s.ballot a).base (s.version b)))) (λ ne. inl (grind (arith, nat_tests), grind (arith, nat_tests), grind (arith, nat_tests))) (either b d);
    dirty = λ b h p z q. let m = q.2 in grind (arith, nat_tests);
    clean = λ b p m z. ⊎_elim (λ q. absurd (grind (arith, nat_tests))) (λ ne. inl (grind (arith, nat_tests), grind (arith, nat_tests), grind (arith, nat_tests), grind (arith, nat_tests))) (either b d);
    seen = λ y b h e. inl e;
    fresh = λ c h. h;
  }
    where
      t : State
      t = step s (Mark a d)

      lowered : (b : ℕ) → b ≡ d → (s.ballot a).base < s.version b → Lowered s t b
      lowered b q lt = (let o = (i.wide.origin_le a may.2.number).0 in omega (arith, o), λ e p r v. void e p v (below e p) (λ less. post_below n k most fits s i.local i.wide e a b p may.2.number less))
        where
          below : (e : ℕ) → s.post e b ≡ true → (s.ballot e).base ≤ (s.ballot a).base
          below e p = pre_below n k most fits s i.local i.wide d a may.2.real may.3 may.2.number (by_held n k most fits s i.local i.wide d a may.2.real may.3 may.2.number may.0 ((i.local d).saw a may.4).1) e (rw (← q) ((i.local b).post_pre e p))

          void : (e : ℕ) → s.post e b ≡ true → target (s.ballot e) ≡ s.version b → (s.ballot e).base ≤ (s.ballot a).base → ((s.ballot e).base < (s.ballot a).base → target (s.ballot e) ≤ (s.ballot a).base) → t.voided e ≡ true
          void e p v le f = ⊎_elim (λ less. absurd (let g = f less in omega arith)) (λ r. ⊎_elim (λ same. grind (arith, nat_tests)) (λ more. absurd (omega arith)) r) (order (s.ballot e).base (s.ballot a).base)

      at_brick : (b : ℕ) → b ≡ d → s.present b ≡ true → s.marked b ≡ false → ((s.ballot a).base < s.version b) ⊎ (((s.ballot a).base ≡ s.version b) ⊎ (s.version b < (s.ballot a).base)) → Gone t b (s.version b) ⊎ Lowered s t b
      at_brick b q p m (inl lt) = inr (lowered b q lt)
      at_brick b q p m (inr (inl same)) = absurd (let g = may.10 in grind (arith, nat_tests))
      at_brick b q p m (inr (inr gt)) = inl (inr (a, grind (arith, nat_tests), gt))

  -- whoever takes a mark away and sets the dirty number 0 saw that number in its group
  clean_group : (a d : ℕ) → s.old a ≡ false → s.carries a ≡ None → (s.ballot a).number ≡ 1 → Clean n k s d (s.ballot a).base
  clean_group a d real free one = ⊎_elim few many (at_least k (count_below n (λ c. is_plain s.origin (s.began c))))
    where
      quorum : k ≤ count_below n (group s a)
      quorum = i.wide.based a real free (omega (arith, one))

      seen_so : (c : ℕ) → group s a c ≡ true → Clean n k s c (s.ballot a).base
      seen_so c g = let r = read (s.ballot a) (s.seen a c) g in rw (← r.2) (x.seen_clean a c r.0 r.1 r.5 r.4 (omega (arith, r.3, one)))

      hand : (c v : ℕ) → ((is_plain s.origin (s.began c) ≡ true) ⊎ FirstGroup n k s → FirstGroup n k s) → Clean n k s c v → Clean n k s d v
      hand c v f (Under h) = Under h
      hand c v f (Whole e q r h) = Whole e q r h
      hand c v f (Old e r q) = Old e r q
      hand c v f (First q h) = First q (inr (f h))
      hand c v f (Fresh q h) = Fresh q h

      few : FirstGroup n k s → Clean n k s d (s.ballot a).base
      few h = let c = some_in (group s a) n (omega (arith, quorum)) in hand c.0 (s.ballot a).base (λ z. h) (seen_so c.0 c.2)

      many : count_below n (λ c. is_plain s.origin (s.began c)) < k → Clean n k s d (s.ballot a).base
      many h = let c = diff (group s a) (λ c. is_plain s.origin (s.began c)) n (omega (arith, quorum)) in hand c.0 (s.ballot a).base (λ z. ⊎_elim (λ y. absurd (let u = c.3 in cc)) (λ y. y) z) (seen_so c.0 c.2)

  moves-unmark : (a d : ℕ) → May n k s (Unmark a d) → Moves n k s (step s (Unmark a d))
  moves-unmark a d may = record {
    origin = refl;
    began = refl;
    old = refl;
    ballot = λ e h. refl;
    post = λ e b h. h;
    mark = λ e b h. h;
    born = λ b h. h;
    voided = λ e h. h;
    posted = λ e b h. inl h;
    made = λ b h. inl h;
    stays = λ b p m. ⊎_elim (λ q. absurd (let o = may.1.2 in grind (arith, nat_tests))) (λ ne. inl (p, refl, grind (arith, nat_tests))) (either b d);
    dirty = λ b h p z q. let o = may.1.2 in let m = p.2 in grind (arith, nat_tests);
    clean = λ b p m z. ⊎_elim (λ q. inr (unchanged b (rw (version b q) (clean_group a b may.2.real may.3 (one b q z))))) (λ ne. inl (p, grind (arith, nat_tests), grind (arith, nat_tests), refl)) (either b d);
    seen = λ y b h e. inl e;
    fresh = λ c h. h;
  }
    where
      version : (b : ℕ) → b ≡ d → s.version b ≡ (s.ballot a).base
      version b q = let o = may.1.1 in cc

      one : (b : ℕ) → b ≡ d → (step s (Unmark a d)).dirty b ≡ 0 → (s.ballot a).number ≡ 1
      one b q z = let o = may.2.number in grind (arith, nat_tests)

      unchanged : (b : ℕ) → Clean n k s b (s.version b) → Clean n k (step s (Unmark a d)) b (s.version b)
      unchanged b (Under h) = Under h
      unchanged b (Whole e q r h) = Whole e q r h
      unchanged b (Old e r q) = Old e r q
      unchanged b (First q h) = First q h
      unchanged b (Fresh q h) = Fresh q h

  pub moves : (e : Act) → May n k s e → Keeps n s e → Moves n k s (step s e)
  moves (Grant a d) may keep = moves_still n k s (step s (Grant a d)) (record { origin = refl; began = refl; old = refl; ballot = λ e h. refl; post = refl; mark = refl; born = refl; voided = refl; present = λ b. refl; version = refl; dirty = refl; marked = refl; seen = λ y b h e. inl e; fresh = λ c h. h })
  moves (Free d) may keep = moves_still n k s (step s (Free d)) (record { origin = refl; began = refl; old = refl; ballot = λ e h. refl; post = refl; mark = refl; born = refl; voided = refl; present = λ b. refl; version = refl; dirty = refl; marked = refl; seen = λ y b h e. inl e; fresh = λ c h. h })
  moves (Share a d) may keep = moves_still n k s (step s (Share a d)) (record { origin = refl; began = refl; old = refl; ballot = λ e h. refl; post = refl; mark = refl; born = refl; voided = refl; present = λ b. refl; version = refl; dirty = refl; marked = refl; seen = λ y b h e. inl e; fresh = λ c h. h })
  moves (Unshare a d) may keep = moves_still n k s (step s (Unshare a d)) (record { origin = refl; began = refl; old = refl; ballot = λ e h. refl; post = refl; mark = refl; born = refl; voided = refl; present = λ b. refl; version = refl; dirty = refl; marked = refl; seen = λ y b h e. inl e; fresh = λ c h. h })
  moves (Moment a) may keep = moves_still n k s (step s (Moment a)) (still-moment a)
  moves (See a d) may keep = moves_still n k s (step s (See a d)) (still-see a d)
  moves (Keep a c) may keep = moves_still n k s (step s (Keep a c)) (record { origin = refl; began = refl; old = refl; ballot = λ e h. refl; post = refl; mark = refl; born = refl; voided = refl; present = λ b. refl; version = refl; dirty = refl; marked = refl; seen = λ y b h e. inl e; fresh = λ c h. h })
  moves (Carry a c d) may keep = moves_still n k s (step s (Carry a c d)) (record { origin = refl; began = refl; old = refl; ballot = λ e h. refl; post = refl; mark = refl; born = refl; voided = refl; present = λ b. refl; version = refl; dirty = refl; marked = refl; seen = λ y b h e. inl e; fresh = λ c h. h })
  moves (Choose a p) may keep = moves_still n k s (step s (Choose a p)) (still-choose a p may)
  moves (Choose_kept a c p) may keep = moves_still n k s (step s (Choose_kept a c p)) (still-choose_kept a c p may)
  moves (Pre a d) may keep = moves-pre a d may
  moves (Sink_pre a d) may keep = moves-sink_pre a d may
  moves (Post a d) may keep = moves-post a d may
  moves (Sink_post a d) may keep = moves-sink_post a d may
  moves (Clear a d) may keep = moves-clear a d may
  moves (Heal_grant h d) may keep = moves_still n k s (step s (Heal_grant h d)) (record { origin = refl; began = refl; old = refl; ballot = λ e h. refl; post = refl; mark = refl; born = refl; voided = refl; present = λ b. refl; version = refl; dirty = refl; marked = refl; seen = λ y b h e. inl e; fresh = λ c h. h })
  moves (Heal_free d) may keep = moves_still n k s (step s (Heal_free d)) (record { origin = refl; began = refl; old = refl; ballot = λ e h. refl; post = refl; mark = refl; born = refl; voided = refl; present = λ b. refl; version = refl; dirty = refl; marked = refl; seen = λ y b h e. inl e; fresh = λ c h. h })
  moves (Mark a d) may keep = moves-mark a d may
  moves (Unmark a d) may keep = moves-unmark a d may
  moves (Maker_grant d) may keep = moves_still n k s (step s (Maker_grant d)) (still-maker_grant d may)
  moves (Maker_free d) may keep = moves_still n k s (step s (Maker_free d)) (still-maker_free d)
  moves (Make d) may keep = moves-make d may
  moves (Made d) may keep = moves-made d may keep
  moves (Unmake d) may keep = moves_still n k s (step s (Unmake d)) (still-unmake d keep)
  moves (Stop d) may keep = moves_still n k s (step s (Stop d)) (still-stop d)
  moves (Replace d) may keep = moves_still n k s (step s (Replace d)) (still-replace d keep)
