-- PreOps and PostOps, marks and what takes them away.
use Rattle.std.proofs.Common.{◌≡◌, ◌≢◌, ◌⊎◌, ℕ, ◌+◌, ◌<◌, ◌≤◌, Bool, true, false, not, cond, ◌&&◌, ◌||◌, Option, Some, None, refl, sym, ◌∙◌, subst, arith, inl, inr, ⊎_elim}
use Rattle.std.proofs.lemmas.Bool.Decides.{nat_tests}
use Rattle.ec_law_base.specs.State.{State}
use Rattle.ec_law_ballots.specs.Words.{saw}
use Rattle.ec_law_ballots.specs.Act.{step, overtakes}
use Rattle.ec_law_ballots.specs.Act.Act.{Pre, Sink_pre, Post, Sink_post, Mark, Unmark}
use Rattle.ec_law_ballots.specs.Guard.{May, HasQuorum}
use Rattle.ec_law_ballots.specs.Clauses.{Local}
use Rattle.ec_law_ballots.specs.Facts.{PreBelow}
use Rattle.ec_law_quorum.specs.Wide.{Void, Dying, Promised, Known, KnownMarked, BaseKnown, Inv}
use Rattle.ec_law_ballots.proofs.Writes.{local-pre, local-post}
use Rattle.ec_law_ballots.proofs.Sinks.{local-sink_pre, local-sink_post}
use Rattle.ec_law_ballots.proofs.Heals.{local-mark, local-unmark}
use Rattle.ec_law_quorum.proofs.Quorums.{either, is_false, read, group_saw, alive, outside, post_below}
use Rattle.ec_law_quorum.proofs.Below.{Before, by_held, pre_below, mark_below, number_below}
use Rattle.ec_law_quorum.proofs.Changes.{Changes, wide_next}

promised_by : (n k : ℕ) (s : State) (t : ℕ) → n < k + k → HasQuorum n k s t → Promised n k s t
promised_by n k s t most q = (omega arith, λ o. q)

-- a base is where a version may be from
base_known : (n k : ℕ) (s : State) (t b v : ℕ) → v ≡ (s.ballot t).base → BaseKnown n k s t → Known n k s b v
base_known n k s t b v e (inl z) = inl (omega arith)
base_known n k s t b v e (inr c) = inr (inr (c.0, c.1, c.2 ∙ sym e))

over : (s : State) (t d e : ℕ) → overtakes s t d e ≡ true → (s.pre e d ≡ true) × ((s.ballot e).base ≡ (s.ballot t).base) × ((s.ballot t).number ≤ (s.ballot e).number)
over s t d e o = (grind (arith, nat_tests), grind (arith, nat_tests), grind (arith, nat_tests))

other : (s : State) (t d e : ℕ) → s.pre t d ≡ false → s.pre e d ≡ true → e ≢ t
other s t d e f p eq = let x = subst (λ (y : ℕ). s.pre y d ≡ true) eq p in cc

-- who is dead by an act of t at d was dead, or is overtaken by it
new_dead : (s : State) (t d e : ℕ) → (s.dead e ≡ false → overtakes s t d e ≡ true → Dying s e t) → (s.dead e || overtakes s t d e) ≡ true → ((s.dead e ≡ true) × (cond (not (s.dead e) && overtakes s t d e) t (s.killer e) ≡ s.killer e)) ⊎ Dying s e (cond (not (s.dead e) && overtakes s t d e) t (s.killer e))
new_dead s t d e f h = pick_dead (s.dead e) (overtakes s t d e) refl refl
  where
    pick_dead : (u v : Bool) → s.dead e ≡ u → overtakes s t d e ≡ v → ((s.dead e ≡ true) × (cond (not (s.dead e) && overtakes s t d e) t (s.killer e) ≡ s.killer e)) ⊎ Dying s e (cond (not (s.dead e) && overtakes s t d e) t (s.killer e))
    pick_dead true v x y = inl (x, rw x refl)
    pick_dead false true x y = inr (rw (x, y) (f x y))
    pick_dead false false x y = absurd (grind (arith, nat_tests))

module _ (n k : ℕ) (most : n < k + k) (fits : k ≤ n) (s : State) (i : Inv n k s) where
  held : (d t : ℕ) → (real : s.old t ≡ false) → (free : s.carries t ≡ None) → (number : 0 < (s.ballot t).number) → s.holder d ≡ Some t → saw s t d ≡ true → Before n k most fits s i.local i.wide d t real free number
  held d t real free number h y = by_held n k most fits s i.local i.wide d t real free number h ((i.local d).saw t y).1

  -- turn t overtakes e at d
  overtaken : (t d : ℕ) (real : s.old t ≡ false) (free : s.carries t ≡ None) (number : 0 < (s.ballot t).number) → Before n k most fits s i.local i.wide d t real free number → s.pre t d ≡ false → (e : ℕ) → s.dead e ≡ false → overtakes s t d e ≡ true → Dying s e t
  overtaken t d real free number had not_pre e alive' o =
      let x = over s t d e o in
      let b = ((i.local d).at_pre_is t e (had.0 e x.0 (other s t d e not_pre x.0))).2 in
      record { number = number; real = real; free = free; begun = b; apart = outside n k most fits s i.local i.wide t e number b alive' x.1 x.2 }

  -- turn t brings d back to the base of e, which did its PostOp there
  brought_back : (t d : ℕ) → s.old t ≡ false → s.carries t ≡ None → 0 < (s.ballot t).number → s.holder d ≡ Some t → s.early t d ≡ true → s.pre t d ≡ false → (e : ℕ) → s.voided e ≡ false → s.post e d ≡ true → (s.ballot e).base ≡ (s.ballot t).base → Void s e t
  brought_back t d real free number h y not_pre e v p same =
      let pre = (i.local d).post_pre e p in
      let ne = other s t d e not_pre pre in
      let snap = (i.local d).held_post t e h y (i.wide.number_moment t number) p ne in
      let b = ((i.local d).at_post_is t e snap).2 in
      record {
        number = number;
        real = real;
        free = free;
        begun = b;
        apart = λ c g. is_false (s.post e c) λ q.
            let r = read (s.ballot t) (s.seen t c) g in
            let a = (i.local c).no_more_post t e b (group_saw s t c g) ne q in
            let lo = (i.local c).low_version t e r.0 a r.1 r.5 v in
            let num = ((i.local d).pre_seen e pre).1 in
            omega (arith, r.2);
      }

  -- whoever has a PreOp at a brick that turn t holds stands on a base at or below its own
  sink_below : (t d : ℕ) → May n k s (Sink_post t d) → PreBelow s d t
  sink_below t d may = pick_kept (s.carries t) refl
    where
      pick_kept : (u : Option ℕ) → s.carries t ≡ u → PreBelow s d t
      pick_kept None free = pre_below n k most fits s i.local i.wide d t may.2.real free may.2.number (held d t may.2.real free may.2.number may.0 may.3)
      pick_kept (Some a) kept = λ e p.
          let c = (i.wide.carried t a kept).1 may.2.number in
          let b = (i.local d).carried_below t a e may.0 kept p (other s t d e may.4 p) in
          omega arith

  stripping : (t d : ℕ) (may : May n k s (Unmark t d)) → Before n k most fits s i.local i.wide d t may.2.real may.3 may.2.number
  stripping t d may = (λ e p ne. (i.local d).strip_pre t e may.0 may.4 may.5 p ne, λ e p ne. (i.local d).strip_mark t e may.0 may.4 may.5 p ne)

  module _ (t : ℕ) (d : ℕ) (may : May n k s (Pre t d)) where
    changes-pre : Changes n k s (step s (Pre t d))
    changes-pre = record {
      grows = record {
        pre = λ a b h. grind (arith, nat_tests);
        post = λ a b h. h;
        spost = λ a b h. h;
        seen = λ a b h e. e;
        ballot = λ a h. refl;
        moment = λ x h. h;
        at_pre = λ x e c h. refl;
        at_post = λ x e c h. refl;
        begun = λ x e h. refl;
        carries = λ x h. refl;
        making = λ h. h;
        origin = refl;
        old = refl;
        began = refl;
        old_post = λ a b h. refl;
      };
      posted = λ a b h. inl h;
      sposted = λ a b h. inl h;
      chose = λ a h. inl h;
      carried = λ x a h. inl h;
      had = λ x a h. inl h;
      begun = i.wide.begun_moment;
      seen = λ x b h e. inl e;
      void = λ e h. inl (h, refl);
      dying = λ e h. inl (h, refl);
      known = λ b p m. inl (p, m, refl);
      known_marked = λ b p. inl (p, refl);
    }

    pub inv-pre : Inv n k (step s (Pre t d))
    inv-pre =
        let local : (b : ℕ) → Local (step s (Pre t d)) b = λ b. local-pre n k s b t d may i.wide.number_moment (i.local b) in
        record { local = local; wide = wide_next n k most fits s (step s (Pre t d)) i.local local i.wide changes-pre }

  module _ (t : ℕ) (d : ℕ) (may : May n k s (Sink_pre t d)) where
    new_dying-sink_pre : (e : ℕ) → (step s (Sink_pre t d)).dead e ≡ true → ((s.dead e ≡ true) × ((step s (Sink_pre t d)).killer e ≡ s.killer e)) ⊎ Dying s e ((step s (Sink_pre t d)).killer e)
    new_dying-sink_pre e h = new_dead s t d e (λ z o. pick_kept (s.carries t) refl z o) h
      where
        pick_kept : (u : Option ℕ) → s.carries t ≡ u → s.dead e ≡ false → overtakes s t d e ≡ true → Dying s e t
        pick_kept None free z o = overtaken t d may.2.real free may.2.number (held d t may.2.real free may.2.number may.0 may.3) may.4 e z o
        pick_kept (Some a) kept z o =
            let x = over s t d e o in
            let c = (i.wide.carried t a kept).1 may.2.number in
            let b = (i.local d).carried_below t a e may.0 kept x.0 (other s t d e may.4 x.0) in
            absurd (omega (arith, x.1))

    changes-sink_pre : Changes n k s (step s (Sink_pre t d))
    changes-sink_pre = record {
      grows = record {
        pre = λ a b h. h;
        post = λ a b h. h;
        spost = λ a b h. h;
        seen = λ a b h e. e;
        ballot = λ a h. refl;
        moment = λ x h. h;
        at_pre = λ x e c h. refl;
        at_post = λ x e c h. refl;
        begun = λ x e h. refl;
        carries = λ x h. refl;
        making = λ h. h;
        origin = refl;
        old = refl;
        began = refl;
        old_post = λ a b h. refl;
      };
      posted = λ a b h. inl h;
      sposted = λ a b h. inl h;
      chose = λ a h. inl h;
      carried = λ x a h. inl h;
      had = λ x a h. inl h;
      begun = i.wide.begun_moment;
      seen = λ x b h e. inl e;
      void = λ e h. inl (h, refl);
      dying = new_dying-sink_pre;
      known = λ b p m. inl (p, m, refl);
      known_marked = λ b p. inl (p, refl);
    }

    pub inv-sink_pre : Inv n k (step s (Sink_pre t d))
    inv-sink_pre =
        let local : (b : ℕ) → Local (step s (Sink_pre t d)) b = λ b. local-sink_pre n k s b t d may (i.local b) in
        record { local = local; wide = wide_next n k most fits s (step s (Sink_pre t d)) i.local local i.wide changes-sink_pre }

  module _ (t : ℕ) (d : ℕ) (may : May n k s (Post t d)) where
    new_known-post : (b : ℕ) → s.present b ≡ true → s.marked b ≡ false → ((s.present b ≡ true) × (s.marked b ≡ false) × ((step s (Post t d)).version b ≡ s.version b)) ⊎ Known n k (step s (Post t d)) b ((step s (Post t d)).version b)
    new_known-post b p m = ⊎_elim (λ e. inr (inr (inl (t, grind (arith, nat_tests), grind (arith, nat_tests))))) (λ ne. inl (p, m, grind (arith, nat_tests))) (either b d)

    new_marked-post : (b : ℕ) → s.present b ≡ true → ((s.present b ≡ true) × ((step s (Post t d)).version b ≡ s.version b)) ⊎ KnownMarked n k (step s (Post t d)) b ((step s (Post t d)).version b)
    new_marked-post b p = ⊎_elim (λ e. inr (inl (inr (inl (t, grind (arith, nat_tests), grind (arith, nat_tests)))))) (λ ne. inl (p, grind (arith, nat_tests))) (either b d)

    changes-post : Changes n k s (step s (Post t d))
    changes-post = record {
      grows = record {
        pre = λ a b h. h;
        post = λ a b h. grind (arith, nat_tests);
        spost = λ a b h. h;
        seen = λ a b h e. e;
        ballot = λ a h. refl;
        moment = λ x h. h;
        at_pre = λ x e c h. refl;
        at_post = λ x e c h. refl;
        begun = λ x e h. refl;
        carries = λ x h. refl;
        making = λ h. h;
        origin = refl;
        old = refl;
        began = refl;
        old_post = λ a b h. grind (arith, nat_tests);
      };
      posted = λ a b h. ⊎_elim (λ e. inr (rw e may.5)) (λ ne. inl (grind (arith, nat_tests))) (either a t);
      sposted = λ a b h. inl h;
      chose = λ a h. inl h;
      carried = λ x a h. inl h;
      had = λ x a h. inl h;
      begun = i.wide.begun_moment;
      seen = λ x b h e. inl e;
      void = λ e h. inl (h, refl);
      dying = λ e h. inl (h, refl);
      known = new_known-post;
      known_marked = new_marked-post;
    }

    pub inv-post : Inv n k (step s (Post t d))
    inv-post =
        let local : (b : ℕ) → Local (step s (Post t d)) b = λ b. local-post n k s b t d may i.wide.origin_le (alive n k most fits s i.local i.wide t (promised_by n k s t most may.5)) (i.local b) in
        record { local = local; wide = wide_next n k most fits s (step s (Post t d)) i.local local i.wide changes-post }

  module _ (t : ℕ) (d : ℕ) (may : May n k s (Sink_post t d)) where
    still_version-sink_post : (b : ℕ) → s.marked b ≡ false → (step s (Sink_post t d)).version b ≡ s.version b
    still_version-sink_post b m = let o = may.1.2 in grind (arith, nat_tests)

    new_marked-sink_post : (b : ℕ) → s.present b ≡ true → ((s.present b ≡ true) × ((step s (Sink_post t d)).version b ≡ s.version b)) ⊎ KnownMarked n k (step s (Sink_post t d)) b ((step s (Sink_post t d)).version b)
    new_marked-sink_post b p = ⊎_elim (λ e. inr (inr (t, grind (arith, nat_tests), grind (arith, nat_tests)))) (λ ne. inl (p, grind (arith, nat_tests))) (either b d)

    changes-sink_post : Changes n k s (step s (Sink_post t d))
    changes-sink_post = record {
      grows = record {
        pre = λ a b h. h;
        post = λ a b h. h;
        spost = λ a b h. grind (arith, nat_tests);
        seen = λ a b h e. e;
        ballot = λ a h. refl;
        moment = λ x h. h;
        at_pre = λ x e c h. refl;
        at_post = λ x e c h. refl;
        begun = λ x e h. refl;
        carries = λ x h. refl;
        making = λ h. h;
        origin = refl;
        old = refl;
        began = refl;
        old_post = λ a b h. refl;
      };
      posted = λ a b h. inl h;
      sposted = λ a b h. ⊎_elim (λ e. inr (rw e may.5)) (λ ne. inl (grind (arith, nat_tests))) (either a t);
      chose = λ a h. inl h;
      carried = λ x a h. inl h;
      had = λ x a h. inl h;
      begun = i.wide.begun_moment;
      seen = λ x b h e. inl e;
      void = λ e h. inl (h, refl);
      dying = λ e h. inl (h, refl);
      known = λ b p m. inl (p, m, still_version-sink_post b m);
      known_marked = new_marked-sink_post;
    }

    pub inv-sink_post : Inv n k (step s (Sink_post t d))
    inv-sink_post =
        let local : (b : ℕ) → Local (step s (Sink_post t d)) b = λ b. local-sink_post n k s b t d may (sink_below t d may) i.wide.origin_le (i.local b) in
        record { local = local; wide = wide_next n k most fits s (step s (Sink_post t d)) i.local local i.wide changes-sink_post }

  module _ (t : ℕ) (d : ℕ) (may : May n k s (Mark t d)) where
    was_plain-mark : (b : ℕ) → (step s (Mark t d)).present b ≡ true → (step s (Mark t d)).marked b ≡ false → (s.present b ≡ true) × (s.marked b ≡ false) × ((step s (Mark t d)).version b ≡ s.version b)
    was_plain-mark b p m = (grind (arith, nat_tests), grind (arith, nat_tests), grind (arith, nat_tests))

    new_marked-mark : (b : ℕ) → (step s (Mark t d)).present b ≡ true → ((s.present b ≡ true) × ((step s (Mark t d)).version b ≡ s.version b)) ⊎ KnownMarked n k (step s (Mark t d)) b ((step s (Mark t d)).version b)
    new_marked-mark b p = ⊎_elim (λ e. inr (inl (base_known n k (step s (Mark t d)) t b ((step s (Mark t d)).version b) (grind (arith, nat_tests)) (i.wide.chosen t may.2.number)))) (λ ne. inl (grind (arith, nat_tests), grind (arith, nat_tests))) (either b d)

    new_dying-mark : (e : ℕ) → (step s (Mark t d)).dead e ≡ true → ((s.dead e ≡ true) × ((step s (Mark t d)).killer e ≡ s.killer e)) ⊎ Dying s e ((step s (Mark t d)).killer e)
    new_dying-mark e h = new_dead s t d e (λ z o. overtaken t d may.2.real may.3 may.2.number (held d t may.2.real may.3 may.2.number may.0 may.4) may.6 e z o) h

    new_void-mark : (e : ℕ) → (step s (Mark t d)).voided e ≡ true → ((s.voided e ≡ true) × ((step s (Mark t d)).voider e ≡ s.voider e)) ⊎ Void s e ((step s (Mark t d)).voider e)
    new_void-mark e h = pick_void (s.voided e) refl
      where
        pick_void : (u : Bool) → s.voided e ≡ u → ((s.voided e ≡ true) × ((step s (Mark t d)).voider e ≡ s.voider e)) ⊎ Void s e ((step s (Mark t d)).voider e)
        pick_void true v = inl (v, grind (arith, nat_tests))
        pick_void false v =
            let is : (step s (Mark t d)).voider e ≡ t = grind (arith, nat_tests) in
            let y = (i.local d).saw t may.4 in
            inr (rw is (brought_back t d may.2.real may.3 may.2.number may.0 y.1 may.6 e v (grind (arith, nat_tests)) (grind (arith, nat_tests))))

    changes-mark : Changes n k s (step s (Mark t d))
    changes-mark = record {
      grows = record {
        pre = λ a b h. h;
        post = λ a b h. h;
        spost = λ a b h. h;
        seen = λ a b h e. e;
        ballot = λ a h. refl;
        moment = λ x h. h;
        at_pre = λ x e c h. refl;
        at_post = λ x e c h. refl;
        begun = λ x e h. refl;
        carries = λ x h. refl;
        making = λ h. h;
        origin = refl;
        old = refl;
        began = refl;
        old_post = λ a b h. refl;
      };
      posted = λ a b h. inl h;
      sposted = λ a b h. inl h;
      chose = λ a h. inl h;
      carried = λ x a h. inl h;
      had = λ x a h. inl h;
      begun = i.wide.begun_moment;
      seen = λ x b h e. inl e;
      void = new_void-mark;
      dying = new_dying-mark;
      known = λ b p m. inl (was_plain-mark b p m);
      known_marked = new_marked-mark;
    }

    pub inv-mark : Inv n k (step s (Mark t d))
    inv-mark =
        let local : (b : ℕ) → Local (step s (Mark t d)) b = λ b. local-mark n k s b t d may (pre_below n k most fits s i.local i.wide d t may.2.real may.3 may.2.number (held d t may.2.real may.3 may.2.number may.0 may.4)) (post_below n k most fits s i.local i.wide) i.wide.origin_le i.wide.number_making (i.local b) in
        record { local = local; wide = wide_next n k most fits s (step s (Mark t d)) i.local local i.wide changes-mark }

  module _ (t : ℕ) (d : ℕ) (may : May n k s (Unmark t d)) where
    new_known-unmark : (b : ℕ) → s.present b ≡ true → (step s (Unmark t d)).marked b ≡ false → ((s.present b ≡ true) × (s.marked b ≡ false) × (s.version b ≡ s.version b)) ⊎ Known n k (step s (Unmark t d)) b (s.version b)
    new_known-unmark b p m = ⊎_elim (λ e. inr (base_known n k (step s (Unmark t d)) t b (s.version b) (rw e may.1.1) (i.wide.chosen t may.2.number))) (λ ne. inl (p, grind (arith, nat_tests), refl)) (either b d)

    new_dying-unmark : (e : ℕ) → (step s (Unmark t d)).dead e ≡ true → ((s.dead e ≡ true) × ((step s (Unmark t d)).killer e ≡ s.killer e)) ⊎ Dying s e ((step s (Unmark t d)).killer e)
    new_dying-unmark e h = new_dead s t d e (λ z o. overtaken t d may.2.real may.3 may.2.number (stripping t d may) may.6 e z o) h

    changes-unmark : Changes n k s (step s (Unmark t d))
    changes-unmark = record {
      grows = record {
        pre = λ a b h. h;
        post = λ a b h. h;
        spost = λ a b h. h;
        seen = λ a b h e. e;
        ballot = λ a h. refl;
        moment = λ x h. h;
        at_pre = λ x e c h. refl;
        at_post = λ x e c h. refl;
        begun = λ x e h. refl;
        carries = λ x h. refl;
        making = λ h. h;
        origin = refl;
        old = refl;
        began = refl;
        old_post = λ a b h. refl;
      };
      posted = λ a b h. inl h;
      sposted = λ a b h. inl h;
      chose = λ a h. inl h;
      carried = λ x a h. inl h;
      had = λ x a h. inl h;
      begun = i.wide.begun_moment;
      seen = λ x b h e. inl e;
      void = λ e h. inl (h, refl);
      dying = new_dying-unmark;
      known = new_known-unmark;
      known_marked = λ b p. inl (p, refl);
    }

    pub inv-unmark : Inv n k (step s (Unmark t d))
    inv-unmark =
        let local : (b : ℕ) → Local (step s (Unmark t d)) b = λ b. local-unmark n k s b t d may i.wide.origin_le (number_below n k most fits s i.local i.wide d t may.2.real may.3 may.2.number (stripping t d may) may.6) (mark_below n k most fits s i.local i.wide d t may.2.real may.3 may.2.number (stripping t d may)) (i.local b) in
        record { local = local; wide = wide_next n k most fits s (step s (Unmark t d)) i.local local i.wide changes-unmark }
