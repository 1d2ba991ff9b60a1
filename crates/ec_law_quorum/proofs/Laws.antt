-- The laws of versions over whole runs.
use Rattle.std.proofs.Common.{◌≡◌, ◌≢◌, ◌⊎◌, ℕ, zero, suc, ◌+◌, ◌<◌, ◌≤◌, true, false, List, [], ◌∷◌, refl, sym, ◌∙◌, ap, arith, inl, inr, ⊎_elim}
use Rattle.std.proofs.lemmas.Bool.Decides.{nat_tests}
use Rattle.ec_attr.specs.Bricks.{count_below}
use Rattle.ec_law_base.specs.State.{State, Ballot, target}
use Rattle.ec_law_ballots.specs.Words.{did}
use Rattle.ec_law_ballots.specs.Act.{Act, step, after}
use Rattle.ec_law_ballots.specs.Act.Act.{Grant, Free, Share, Unshare, Moment, See, Keep, Carry, Choose, Choose_kept, Pre, Sink_pre, Post, Sink_post, Clear, Heal_grant, Heal_free, Mark, Unmark, Maker_grant, Maker_free, Make, Made, Unmake, Stop, Replace}
use Rattle.ec_law_ballots.specs.Guard.{May, Runs, IsCommitted}
use Rattle.ec_law_ballots.specs.Begin.{begin}
use Rattle.ec_law_base.proofs.Counts.{mono}
use Rattle.ec_law_quorum.specs.Wide.{Promised, Known, Inv}
use Rattle.ec_law_quorum.specs.Laws.{AfterEveryRun, NoTwoAlike, AboveOthers, VersionLaws}
use Rattle.ec_law_quorum.proofs.Quorums.{order, promised, numbered, alike, low, beats}
use Rattle.ec_law_quorum.proofs.Begins.{inv_begin}
use Rattle.ec_law_quorum.proofs.Chosen.{inv-moment, inv-see, inv-keep, inv-choose, inv-choose_kept}
use Rattle.ec_law_quorum.proofs.Written.{inv-pre, inv-sink_pre, inv-post, inv-sink_post, inv-mark, inv-unmark}
use Rattle.ec_law_quorum.proofs.Stood.{inv-grant, inv-free, inv-share, inv-unshare, inv-carry, inv-clear, inv-heal_grant, inv-heal_free, inv-maker_grant, inv-maker_free, inv-make, inv-made, inv-unmake, inv-stop, inv-replace}

module _ (n k : ℕ) (most : n < k + k) (fits : k ≤ n) where
  pub inv_step : (s : State) (e : Act) → May n k s e → Inv n k s → Inv n k (step s e)
  inv_step s (Grant t d) may i = inv-grant n k most fits s i t d may
  inv_step s (Free d) may i = inv-free n k most fits s i d may
  inv_step s (Share t d) may i = inv-share n k most fits s i t d may
  inv_step s (Unshare t d) may i = inv-unshare n k most fits s i t d may
  inv_step s (Moment t) may i = inv-moment n k most fits s i t may
  inv_step s (See t d) may i = inv-see n k most fits s i t d may
  inv_step s (Keep t u) may i = inv-keep n k most fits s i t u may
  inv_step s (Carry u t d) may i = inv-carry n k most fits s i u t d may
  inv_step s (Choose t p) may i = inv-choose n k most fits s i t p may
  inv_step s (Choose_kept t u p) may i = inv-choose_kept n k most fits s i t u p may
  inv_step s (Pre t d) may i = inv-pre n k most fits s i t d may
  inv_step s (Sink_pre t d) may i = inv-sink_pre n k most fits s i t d may
  inv_step s (Post t d) may i = inv-post n k most fits s i t d may
  inv_step s (Sink_post t d) may i = inv-sink_post n k most fits s i t d may
  inv_step s (Clear t d) may i = inv-clear n k most fits s i t d may
  inv_step s (Heal_grant h d) may i = inv-heal_grant n k most fits s i h d may
  inv_step s (Heal_free d) may i = inv-heal_free n k most fits s i d may
  inv_step s (Mark t d) may i = inv-mark n k most fits s i t d may
  inv_step s (Unmark t d) may i = inv-unmark n k most fits s i t d may
  inv_step s (Maker_grant d) may i = inv-maker_grant n k most fits s i d may
  inv_step s (Maker_free d) may i = inv-maker_free n k most fits s i d may
  inv_step s (Make d) may i = inv-make n k most fits s i d may
  inv_step s (Made d) may i = inv-made n k most fits s i d may
  inv_step s (Unmake d) may i = inv-unmake n k most fits s i d may
  inv_step s (Stop d) may i = inv-stop n k most fits s i d may
  inv_step s (Replace d) may i = inv-replace n k most fits s i d may

  pub inv_after : (es : List Act) (s : State) → Runs n k es s → Inv n k s → Inv n k (after es s)
  inv_after [] s r i = i
  inv_after (e ∷ es) s r i = inv_after es (step s e) r.1 (inv_step s e r.0 i)

  -- two turns of which a brick did a PostOp
  differ : (s : State) → Inv n k s → NoTwoAlike n k s
  differ s i a c b d ne pa pc = alike n k most fits s i.local i.wide a c ne (i.wide.whole a b pa) (i.wide.whole c d pc)

  -- between a promised turn and a ballot on a higher base stands a commit on the first one's base
  module _ (s : State) (i : Inv n k s) where
    through_to : (v : ℕ) (e a : ℕ) → Promised n k s e → 0 < (s.ballot a).number → (s.ballot e).base < (s.ballot a).base → (s.ballot a).base ≤ v → (c : ℕ) × IsCommitted n k s c × ((s.ballot c).base ≡ (s.ballot e).base)
    through_to zero e a pe na lower top = absurd (omega arith)
    through_to (suc v) e a pe na lower top = ⊎_elim (λ z. absurd (let o = (i.wide.origin_le e (numbered n k most fits s i.local i.wide e pe)).0 in omega arith)) (by_commit (λ c pc. through_to v e c pe (numbered n k most fits s i.local i.wide c pc))) (i.wide.chosen a na)
      where
        by_commit : ((c : ℕ) → Promised n k s c → (s.ballot e).base < (s.ballot c).base → (s.ballot c).base ≤ v → (x : ℕ) × IsCommitted n k s x × ((s.ballot x).base ≡ (s.ballot e).base)) → (c : ℕ) × IsCommitted n k s c × (target (s.ballot c) ≡ (s.ballot a).base) → (x : ℕ) × IsCommitted n k s x × ((s.ballot x).base ≡ (s.ballot e).base)
        by_commit deeper c =
            let pc = promised n k most fits s i.local i.wide c.0 c.1 in
            let nc = numbered n k most fits s i.local i.wide c.0 pc in
            ⊎_elim (λ lt. absurd (let h = low n k most fits s i.local i.wide c.0 e pc (numbered n k most fits s i.local i.wide e pe) lt in omega (arith, c.2))) (λ rest. ⊎_elim (λ eq. (c.0, c.1, eq)) (λ gt. deeper c.0 pc gt (omega (arith, c.2))) rest) (order (s.ballot c.0).base (s.ballot e).base)

    pub through : (e a : ℕ) → Promised n k s e → 0 < (s.ballot a).number → (s.ballot e).base < (s.ballot a).base → (c : ℕ) × IsCommitted n k s c × ((s.ballot c).base ≡ (s.ballot e).base)
    through e a pe na lower = through_to (s.ballot a).base e a pe na lower (omega arith)

  -- turn a commits by an act from s to t, which changes no ballot
  module _ (s t : State) (i : Inv n k s) (j : Inv n k t) (same : (a : ℕ) → t.ballot a ≡ s.ballot a) (more : (a b : ℕ) → s.post a b ≡ true → t.post a b ≡ true) (a : ℕ) (pa : Promised n k s a) (fewer : count_below n (s.post a) < k) (reached : IsCommitted n k t a) where
    -- nobody else commits on its base
    pub alone : (x : ℕ) → IsCommitted n k s x → (s.ballot x).base ≡ (s.ballot a).base → ⊥
    alone x cx e =
        let grown = mono (s.post x) (t.post x) n (λ c h. more x c h) in
        let ct : IsCommitted n k t x = omega (arith, cx) in
        let other : a ≢ x = λ eq. let h = rw (← eq) at cx in omega arith in
        let base : (t.ballot a).base ≡ (t.ballot x).base = ap (λ (p : Ballot). p.base) (same a) ∙ (sym e ∙ ap (λ (p : Ballot). p.base) (sym (same x))) in
        let one = beats n k most fits t j.local j.wide a x other reached (promised n k most fits t j.local j.wide x ct) base in
        let two = beats n k most fits t j.local j.wide x a (λ eq. other (sym eq)) ct (promised n k most fits t j.local j.wide a reached) (sym base) in
        omega arith

    below_commit : (e : ℕ) → a ≢ e → Promised n k t e → target (t.ballot e) < target (t.ballot a)
    below_commit e ne pe = ⊎_elim higher (⊎_elim level lower) (order (t.ballot a).base (t.ballot e).base)
      where
        level : (t.ballot a).base ≡ (t.ballot e).base → target (t.ballot e) < target (t.ballot a)
        level eq = let b = beats n k most fits t j.local j.wide a e ne reached pe eq in omega arith

        lower : (t.ballot e).base < (t.ballot a).base → target (t.ballot e) < target (t.ballot a)
        lower lt =
            let na = numbered n k most fits t j.local j.wide a (promised n k most fits t j.local j.wide a reached) in
            let b = low n k most fits t j.local j.wide e a pe na lt in omega arith

        higher : (t.ballot a).base < (t.ballot e).base → target (t.ballot e) < target (t.ballot a)
        higher lt =
            let number = numbered n k most fits t j.local j.wide e pe in
            let x = through s i a e pa (rw same at number) (rw (same a, same e) at lt) in
            absurd (alone x.0 x.1 x.2)

    pub commit_above : ((x : ℕ) → t.old x ≡ s.old x) → ((x y : ℕ) → s.pre x y ≡ true → t.pre x y ≡ true) → t.origin ≡ s.origin → (c : ℕ) → s.present c ≡ true → s.post a c ≡ false → s.spost a c ≡ false → s.version c < target (t.ballot a)
    commit_above old_same more_pre origin_same c there outside sink = ⊎_elim plain (λ e. of e.0 (λ eq. let h = rw (← eq) at e.1 in absurd (cc)) (i.wide.sink_whole e.0 c e.1) (sym e.2)) (i.wide.known_marked c there)
      where
        own : Promised n k t a
        own = promised n k most fits t j.local j.wide a reached

        of : (e : ℕ) → a ≢ e → Promised n k s e → s.version c ≡ target (s.ballot e) → s.version c < target (t.ballot a)
        of e ne p v =
            let m = mono (s.pre e) (t.pre e) n (λ x y. more_pre e x y) in
            let b = below_commit e ne (let q = p.0 in omega arith, λ o. let q = p.1 (sym (old_same e) ∙ o) in omega arith) in
            omega (arith, v, ap target (same e))

        plain : Known n k s c (s.version c) → s.version c < target (t.ballot a)
        plain (inl z) = let u = numbered n k most fits t j.local j.wide a own in let h = (j.wide.origin_le a u).0 in omega (arith, origin_same)
        plain (inr (inl e)) = of e.0 (λ eq. let h = rw (← eq) at e.1 in absurd (cc)) (i.wide.whole e.0 c e.1) (sym e.2)
        plain (inr (inr e)) = of e.0 (λ eq. let h = rw (← eq) at e.1 in absurd (let f = fewer in omega arith)) (promised n k most fits s i.local i.wide e.0 e.1) (sym e.2)

  above : (s : State) → Inv n k s → AboveOthers n k s
  above s i a b c h outside there =
      let may = h.0 in
      let q = may.5 in
      commit_above s (step s (Post a b)) i (inv_step s (Post a b) may i) (λ x. refl) (λ x y p. grind (arith, nat_tests)) a (let m = most in omega arith, λ o. q) (under (λ (p : k ≤ count_below n (s.post a)). h.1 p)) h.2 (λ x. refl) (λ x y p. p) refl c there (undone s a b c outside).0 (undone s a b c outside).1
    where
      under : {x y : ℕ} → (x ≤ y → ⊥) → y < x
      under {x} {y} f = ⊎_elim (λ le. absurd (f le)) (λ lt. lt) (split x y)
        where
          split : (x y : ℕ) → (x ≤ y) ⊎ (y < x)
          split x y = grind arith

      undone : (s : State) (a b c : ℕ) → did (step s (Post a b)) a c ≡ false → (s.post a c ≡ false) × (s.spost a c ≡ false)
      undone s a b c h = (grind (arith, nat_tests), grind (arith, nat_tests))

pub no_two_alike : AfterEveryRun NoTwoAlike
no_two_alike n k most fits origin heads fresh call st acts r = let s = after acts (begin n origin heads fresh call) in differ n k most fits s (inv_after n k most fits acts (begin n origin heads fresh call) r (inv_begin n k most fits origin heads fresh call st))

pub above_others : AfterEveryRun AboveOthers
above_others n k most fits origin heads fresh call st acts r = above n k most fits (after acts (begin n origin heads fresh call)) (inv_after n k most fits acts (begin n origin heads fresh call) r (inv_begin n k most fits origin heads fresh call st))

pub laws : VersionLaws
laws = record { no_two_alike = no_two_alike; above_others = above_others }
