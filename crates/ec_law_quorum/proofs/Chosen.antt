-- Moments, Queries, kept grants and ballots.
use Rattle.std.proofs.Common.{◌≡◌, ◌⊎◌, ℕ, ◌+◌, ◌<◌, ◌≤◌, Bool, true, false, ◌==◌, Some, refl, arith, inl, inr, ⊎_elim, eqb-true}
use Rattle.std.proofs.lemmas.Bool.Decides.{nat_tests}
use Rattle.ec_law_base.specs.State.{State, Head, Ballot}
use Rattle.ec_law_ballots.specs.Words.{head}
use Rattle.ec_law_ballots.specs.Act.{step}
use Rattle.ec_law_ballots.specs.Act.Act.{Moment, See, Keep, Choose, Choose_kept}
use Rattle.ec_law_ballots.specs.Guard.{May, IsCommitted}
use Rattle.ec_law_ballots.specs.Clauses.{Local}
use Rattle.ec_law_ballots.specs.Facts.{BegunMoment, CarriesNumber}
use Rattle.ec_law_quorum.specs.Wide.{Inv}
use Rattle.ec_law_ballots.proofs.Grants.{local-keep}
use Rattle.ec_law_ballots.proofs.Moments.{local-moment, local-see}
use Rattle.ec_law_ballots.proofs.Ballots.{local-choose, local-choose_kept}
use Rattle.ec_law_quorum.proofs.Quorums.{either, numbered, promised}
use Rattle.ec_law_quorum.proofs.Changes.{Changes, NewBallot, NewHad, wide_next}

module _ (n k : ℕ) (most : n < k + k) (fits : k ≤ n) (s : State) (i : Inv n k s) where
  carries_number : CarriesNumber s
  carries_number x a e = numbered n k most fits s i.local i.wide a (promised n k most fits s i.local i.wide a (i.wide.carried x a e).0)

  module _ (t : ℕ) (may : May n k s (Moment t)) where
    new_had-moment : (x a : ℕ) → (step s (Moment t)).had x a ≡ true → (s.had x a ≡ true) ⊎ NewHad s (step s (Moment t)) x a
    new_had-moment x a h = ⊎_elim (λ q. inr (record { moment = grind (arith, nat_tests); number = grind (arith, nat_tests); posts = λ e c. grind (arith, nat_tests); real = rw q may.1 })) (λ q. inl (grind (arith, nat_tests))) (either x t)

    new_begun-moment : BegunMoment (step s (Moment t))
    new_begun-moment x e h = let b = i.wide.begun_moment x e in grind (arith, nat_tests)

    changes-moment : Changes n k s (step s (Moment t))
    changes-moment = record {
      grows = record {
        pre = λ a b h. h;
        post = λ a b h. h;
        spost = λ a b h. h;
        seen = λ a b h e. e;
        ballot = λ a h. refl;
        moment = λ x h. grind (arith, nat_tests);
        at_pre = λ x e c h. grind (arith, nat_tests);
        at_post = λ x e c h. grind (arith, nat_tests);
        begun = λ x e h. grind (arith, nat_tests);
        carries = λ x h. refl;
        making = λ h. h;
        origin = refl;
        old = refl;
        began = refl;
        old_post = λ a b h. refl;
      };
      posted = λ a b h. inl h;
      sposted = λ a b h. inl h;
      chose = λ a h. inl h;
      carried = λ x a h. inl h;
      had = new_had-moment;
      begun = new_begun-moment;
      seen = λ x b h e. inl e;
      void = λ e h. inl (h, refl);
      dying = λ e h. inl (h, refl);
      known = λ b p m. inl (p, m, refl);
      known_marked = λ b p. inl (p, refl);
    }

    pub inv-moment : Inv n k (step s (Moment t))
    inv-moment =
        let local : (b : ℕ) → Local (step s (Moment t)) b = λ b. local-moment n k s b t may i.wide.begun_moment (i.local b) in
        record { local = local; wide = wide_next n k most fits s (step s (Moment t)) i.local local i.wide changes-moment }

  module _ (t : ℕ) (d : ℕ) (may : May n k s (See t d)) where
    new_seen-see : (x b : ℕ) (h : Head) → (step s (See t d)).seen x b ≡ Some h → (s.seen x b ≡ Some h) ⊎ ((h ≡ head s b) × ((s.ballot x).number ≡ 0))
    new_seen-see x b h e = let z = may.4 in grind (arith, nat_tests)

    changes-see : Changes n k s (step s (See t d))
    changes-see = record {
      grows = record {
        pre = λ a b h. h;
        post = λ a b h. h;
        spost = λ a b h. h;
        seen = λ a b h e. grind (arith, nat_tests);
        ballot = λ a h. refl;
        moment = λ x h. h;
        at_pre = λ x e c h. refl;
        at_post = λ x e c h. refl;
        begun = λ x e h. refl;
        carries = λ x h. refl;
        making = λ h. h;
        origin = refl;
        old = refl;
        began = refl;
        old_post = λ a b h. refl;
      };
      posted = λ a b h. inl h;
      sposted = λ a b h. inl h;
      chose = λ a h. inl h;
      carried = λ x a h. inl h;
      had = λ x a h. inl h;
      begun = i.wide.begun_moment;
      seen = new_seen-see;
      void = λ e h. inl (h, refl);
      dying = λ e h. inl (h, refl);
      known = λ b p m. inl (p, m, refl);
      known_marked = λ b p. inl (p, refl);
    }

    pub inv-see : Inv n k (step s (See t d))
    inv-see =
        let local : (b : ℕ) → Local (step s (See t d)) b = λ b. local-see n k s b t d may (i.local b) in
        record { local = local; wide = wide_next n k most fits s (step s (See t d)) i.local local i.wide changes-see }

  module _ (t : ℕ) (u : ℕ) (may : May n k s (Keep t u)) where
    new_carried-keep : (x a : ℕ) → (step s (Keep t u)).carries x ≡ Some a → (s.carries x ≡ Some a) ⊎ (IsCommitted n k s a × ((s.ballot x).number ≡ 0))
    new_carried-keep x a h = ⊎_elim (λ q. inr (let e : u ≡ a = grind (arith, nat_tests) in rw e at may.4, rw q not_yet)) (λ q. inl (grind (arith, nat_tests))) (either x t)
      where
        not_yet : (s.ballot t).number ≡ 0
        not_yet = let m = i.wide.number_moment t in let f = may.1 in grind (arith, nat_tests)

    changes-keep : Changes n k s (step s (Keep t u))
    changes-keep = record {
      grows = record {
        pre = λ a b h. h;
        post = λ a b h. h;
        spost = λ a b h. h;
        seen = λ a b h e. e;
        ballot = λ a h. refl;
        moment = λ x h. h;
        at_pre = λ x e c h. refl;
        at_post = λ x e c h. refl;
        begun = λ x e h. refl;
        carries = λ x h. grind (arith, nat_tests);
        making = λ h. h;
        origin = refl;
        old = refl;
        began = refl;
        old_post = λ a b h. refl;
      };
      posted = λ a b h. inl h;
      sposted = λ a b h. inl h;
      chose = λ a h. inl h;
      carried = new_carried-keep;
      had = λ x a h. inl h;
      begun = i.wide.begun_moment;
      seen = λ x b h e. inl e;
      void = λ e h. inl (h, refl);
      dying = λ e h. inl (h, refl);
      known = λ b p m. inl (p, m, refl);
      known_marked = λ b p. inl (p, refl);
    }

    pub inv-keep : Inv n k (step s (Keep t u))
    inv-keep =
        let local : (b : ℕ) → Local (step s (Keep t u)) b = λ b. local-keep n k s b t u may (i.local b) in
        record { local = local; wide = wide_next n k most fits s (step s (Keep t u)) i.local local i.wide changes-keep }

  module _ (t : ℕ) (p : Ballot) (may : May n k s (Choose t p)) where
    new_ballot-choose : (a : ℕ) → 0 < ((step s (Choose t p)).ballot a).number → (0 < (s.ballot a).number) ⊎ NewBallot n k s (step s (Choose t p)) a
    new_ballot-choose a h = pick_turn (a == t) refl
      where
        pick_turn : (u : Bool) → (a == t) ≡ u → (0 < (s.ballot a).number) ⊎ NewBallot n k s (step s (Choose t p)) a
        pick_turn true e = let q = eqb-true a t e in inr (record { real = rw q may.4; moment = rw q may.3; seen = λ c. refl; carries = refl; base = inl (rw q may.5, rw e (rw q may.2)) })
        pick_turn false e = inl (grind (arith, nat_tests))

    changes-choose : Changes n k s (step s (Choose t p))
    changes-choose = record {
      grows = record {
        pre = λ a b h. h;
        post = λ a b h. h;
        spost = λ a b h. h;
        seen = λ a b h e. e;
        ballot = λ a h. grind (arith, nat_tests);
        moment = λ x h. h;
        at_pre = λ x e c h. refl;
        at_post = λ x e c h. refl;
        begun = λ x e h. refl;
        carries = λ x h. refl;
        making = λ h. h;
        origin = refl;
        old = refl;
        began = refl;
        old_post = λ a b h. refl;
      };
      posted = λ a b h. inl h;
      sposted = λ a b h. inl h;
      chose = new_ballot-choose;
      carried = λ x a h. inl h;
      had = λ x a h. inl h;
      begun = i.wide.begun_moment;
      seen = λ x b h e. inl e;
      void = λ e h. inl (h, refl);
      dying = λ e h. inl (h, refl);
      known = λ b p m. inl (p, m, refl);
      known_marked = λ b p. inl (p, refl);
    }

    pub inv-choose : Inv n k (step s (Choose t p))
    inv-choose =
        let local : (b : ℕ) → Local (step s (Choose t p)) b = λ b. local-choose n k s b t p may carries_number (i.local b) in
        record { local = local; wide = wide_next n k most fits s (step s (Choose t p)) i.local local i.wide changes-choose }

  module _ (t : ℕ) (u : ℕ) (p : Ballot) (may : May n k s (Choose_kept t u p)) where
    new_ballot-choose_kept : (a : ℕ) → 0 < ((step s (Choose_kept t u p)).ballot a).number → (0 < (s.ballot a).number) ⊎ NewBallot n k s (step s (Choose_kept t u p)) a
    new_ballot-choose_kept a h = pick_turn (a == t) refl
      where
        pick_turn : (v : Bool) → (a == t) ≡ v → (0 < (s.ballot a).number) ⊎ NewBallot n k s (step s (Choose_kept t u p)) a
        pick_turn true e = let q = eqb-true a t e in inr (record { real = rw q may.5; moment = rw q may.4; seen = λ c. refl; carries = refl; base = inr (u, rw q may.2, rw e may.3) })
        pick_turn false e = inl (grind (arith, nat_tests))

    changes-choose_kept : Changes n k s (step s (Choose_kept t u p))
    changes-choose_kept = record {
      grows = record {
        pre = λ a b h. h;
        post = λ a b h. h;
        spost = λ a b h. h;
        seen = λ a b h e. e;
        ballot = λ a h. grind (arith, nat_tests);
        moment = λ x h. h;
        at_pre = λ x e c h. refl;
        at_post = λ x e c h. refl;
        begun = λ x e h. refl;
        carries = λ x h. refl;
        making = λ h. h;
        origin = refl;
        old = refl;
        began = refl;
        old_post = λ a b h. refl;
      };
      posted = λ a b h. inl h;
      sposted = λ a b h. inl h;
      chose = new_ballot-choose_kept;
      carried = λ x a h. inl h;
      had = λ x a h. inl h;
      begun = i.wide.begun_moment;
      seen = λ x b h e. inl e;
      void = λ e h. inl (h, refl);
      dying = λ e h. inl (h, refl);
      known = λ b p m. inl (p, m, refl);
      known_marked = λ b p. inl (p, refl);
    }

    pub inv-choose_kept : Inv n k (step s (Choose_kept t u p))
    inv-choose_kept =
        let local : (b : ℕ) → Local (step s (Choose_kept t u p)) b = λ b. local-choose_kept n k s b t u p may carries_number (i.local b) in
        record { local = local; wide = wide_next n k most fits s (step s (Choose_kept t u p)) i.local local i.wide changes-choose_kept }
