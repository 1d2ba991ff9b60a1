-- Records that are made and removed, and acts that change no version and no PreOp.
use Rattle.std.proofs.Common.{◌≡◌, ◌⊎◌, ℕ, ◌+◌, ◌<◌, ◌≤◌, Bool, true, false, Option, refl, arith, inl, inr, ⊎_elim}
use Rattle.std.proofs.lemmas.Bool.Decides.{nat_tests}
use Rattle.ec_law_base.specs.State.{State}
use Rattle.ec_law_ballots.specs.Act.{step}
use Rattle.ec_law_ballots.specs.Act.Act.{Make, Unmake, Replace, Grant, Free, Share, Unshare, Carry, Clear, Heal_grant, Heal_free, Maker_grant, Maker_free, Made, Stop}
use Rattle.ec_law_ballots.specs.Guard.{May}
use Rattle.ec_law_ballots.specs.Clauses.{Local}
use Rattle.ec_law_quorum.specs.Wide.{Wide, Known, KnownMarked, Inv}
use Rattle.ec_law_ballots.proofs.Grants.{local-grant, local-free, local-share, local-unshare, local-carry}
use Rattle.ec_law_ballots.proofs.Writes.{local-clear}
use Rattle.ec_law_ballots.proofs.Heals.{local-heal_grant, local-heal_free}
use Rattle.ec_law_ballots.proofs.Making.{local-maker_grant, local-maker_free, local-make, local-made, local-unmake, local-stop, local-replace}
use Rattle.ec_law_quorum.proofs.Quorums.{either}
use Rattle.ec_law_quorum.proofs.Changes.{Changes, wide_next}

-- nothing that is said of several bricks speaks of grants, dirty numbers or what is remembered of a Make
still : (n k : ℕ) (s : State) (holder healer : ℕ → Option ℕ) (shares : ℕ → ℕ → Bool) (reads : ℕ → Bool) (maker grown removed : ℕ → Bool) (granted early : ℕ → ℕ → Bool) (dirty : ℕ → ℕ) → Wide n k s → Wide n k (record s { holder = holder; healer = healer; shares = shares; reads = reads; maker = maker; grown = grown; removed = removed; granted = granted; early = early; dirty = dirty })
still n k s holder healer shares reads maker grown removed granted early dirty w = record {
  whole = w.whole;
  sink_whole = w.sink_whole;
  based = w.based;
  carried = w.carried;
  chosen = w.chosen;
  had_number = w.had_number;
  had_chosen = w.had_chosen;
  begun_moment = w.begun_moment;
  number_moment = w.number_moment;
  number_making = w.number_making;
  origin_le = w.origin_le;
  old_target = w.old_target;
  old_short = w.old_short;
  old_promised = w.old_promised;
  few_below = w.few_below;
  void = λ e h. let o = w.void e h in record { number = o.number; real = o.real; free = o.free; begun = o.begun; apart = o.apart };
  dying = λ e h. let o = w.dying e h in record { number = o.number; real = o.real; free = o.free; begun = o.begun; apart = o.apart };
  known = w.known;
  known_marked = w.known_marked;
  seen_known = w.seen_known;
}

module _ (n k : ℕ) (most : n < k + k) (fits : k ≤ n) (s : State) (i : Inv n k s) where
  pub inv-grant : (t : ℕ) (d : ℕ) → May n k s (Grant t d) → Inv n k (step s (Grant t d))
  inv-grant t d may = record { local = λ b. local-grant n k s b t d may i.wide.begun_moment (i.local b); wide = still n k s ((step s (Grant t d)).holder) s.healer s.shares s.reads s.maker s.grown s.removed ((step s (Grant t d)).granted) ((step s (Grant t d)).early) s.dirty i.wide }

  pub inv-free : (d : ℕ) → May n k s (Free d) → Inv n k (step s (Free d))
  inv-free d may = record { local = λ b. local-free n k s b d may (i.local b); wide = still n k s ((step s (Free d)).holder) s.healer s.shares s.reads s.maker s.grown s.removed s.granted s.early s.dirty i.wide }

  pub inv-share : (t : ℕ) (d : ℕ) → May n k s (Share t d) → Inv n k (step s (Share t d))
  inv-share t d may = record { local = λ b. local-share n k s b t d may (i.local b); wide = still n k s s.holder s.healer ((step s (Share t d)).shares) ((step s (Share t d)).reads) s.maker s.grown s.removed ((step s (Share t d)).granted) ((step s (Share t d)).early) s.dirty i.wide }

  pub inv-unshare : (t : ℕ) (d : ℕ) → May n k s (Unshare t d) → Inv n k (step s (Unshare t d))
  inv-unshare t d may = record { local = λ b. local-unshare n k s b t d may (i.local b); wide = still n k s s.holder s.healer ((step s (Unshare t d)).shares) s.reads s.maker s.grown s.removed s.granted s.early s.dirty i.wide }

  pub inv-carry : (u : ℕ) (t : ℕ) (d : ℕ) → May n k s (Carry u t d) → Inv n k (step s (Carry u t d))
  inv-carry u t d may = record { local = λ b. local-carry n k s b u t d may i.wide.begun_moment (i.local b); wide = still n k s ((step s (Carry u t d)).holder) s.healer s.shares s.reads s.maker s.grown s.removed ((step s (Carry u t d)).granted) ((step s (Carry u t d)).early) s.dirty i.wide }

  pub inv-clear : (t : ℕ) (d : ℕ) → May n k s (Clear t d) → Inv n k (step s (Clear t d))
  inv-clear t d may = record { local = λ b. local-clear n k s b t d may (i.local b); wide = still n k s s.holder s.healer s.shares s.reads s.maker s.grown s.removed s.granted s.early ((step s (Clear t d)).dirty) i.wide }

  pub inv-heal_grant : (h : ℕ) (d : ℕ) → May n k s (Heal_grant h d) → Inv n k (step s (Heal_grant h d))
  inv-heal_grant h d may = record { local = λ b. local-heal_grant n k s b h d may (i.local b); wide = still n k s s.holder ((step s (Heal_grant h d)).healer) s.shares s.reads s.maker s.grown s.removed s.granted s.early s.dirty i.wide }

  pub inv-heal_free : (d : ℕ) → May n k s (Heal_free d) → Inv n k (step s (Heal_free d))
  inv-heal_free d may = record { local = λ b. local-heal_free n k s b d may (i.local b); wide = still n k s s.holder ((step s (Heal_free d)).healer) s.shares s.reads s.maker s.grown s.removed s.granted s.early s.dirty i.wide }

  pub inv-maker_grant : (d : ℕ) → May n k s (Maker_grant d) → Inv n k (step s (Maker_grant d))
  inv-maker_grant d may = record { local = λ b. local-maker_grant n k s b d may (i.local b); wide = still n k s s.holder s.healer s.shares s.reads ((step s (Maker_grant d)).maker) s.grown s.removed s.granted s.early s.dirty i.wide }

  pub inv-maker_free : (d : ℕ) → May n k s (Maker_free d) → Inv n k (step s (Maker_free d))
  inv-maker_free d may = record { local = λ b. local-maker_free n k s b d may (i.local b); wide = still n k s s.holder s.healer s.shares s.reads ((step s (Maker_free d)).maker) s.grown s.removed s.granted s.early s.dirty i.wide }

  pub inv-made : (d : ℕ) → May n k s (Made d) → Inv n k (step s (Made d))
  inv-made d may = record { local = λ b. local-made n k s b d may (i.local b); wide = still n k s s.holder s.healer s.shares s.reads s.maker ((step s (Made d)).grown) s.removed s.granted s.early ((step s (Made d)).dirty) i.wide }

  pub inv-stop : (d : ℕ) → May n k s (Stop d) → Inv n k (step s (Stop d))
  inv-stop d may = record { local = λ b. local-stop n k s b d may (i.local b); wide = still n k s ((step s (Stop d)).holder) ((step s (Stop d)).healer) ((step s (Stop d)).shares) s.reads ((step s (Stop d)).maker) s.grown ((step s (Stop d)).removed) s.granted s.early s.dirty i.wide }

  module _ (d : ℕ) (may : May n k s (Make d)) where
    new_known-make : (b : ℕ) → (step s (Make d)).present b ≡ true → (step s (Make d)).marked b ≡ false → ((s.present b ≡ true) × (s.marked b ≡ false) × ((step s (Make d)).version b ≡ s.version b)) ⊎ Known n k (step s (Make d)) b ((step s (Make d)).version b)
    new_known-make b p m = ⊎_elim (λ e. inr (inl (grind (arith, nat_tests)))) (λ ne. inl (grind (arith, nat_tests), grind (arith, nat_tests), grind (arith, nat_tests))) (either b d)

    new_marked-make : (b : ℕ) → (step s (Make d)).present b ≡ true → ((s.present b ≡ true) × ((step s (Make d)).version b ≡ s.version b)) ⊎ KnownMarked n k (step s (Make d)) b ((step s (Make d)).version b)
    new_marked-make b p = ⊎_elim (λ e. inr (inl (inl (grind (arith, nat_tests))))) (λ ne. inl (grind (arith, nat_tests), grind (arith, nat_tests))) (either b d)

    changes-make : Changes n k s (step s (Make d))
    changes-make = record {
      grows = record {
        pre = λ a b h. h;
        post = λ a b h. h;
        spost = λ a b h. h;
        seen = λ a b h e. e;
        ballot = λ a h. refl;
        moment = λ x h. h;
        at_pre = λ x e c h. refl;
        at_post = λ x e c h. refl;
        begun = λ x e h. refl;
        carries = λ x h. refl;
        making = λ h. refl;
        origin = refl;
        old = refl;
        began = refl;
        old_post = λ a b h. refl;
      };
      posted = λ a b h. inl h;
      sposted = λ a b h. inl h;
      chose = λ a h. inl h;
      carried = λ x a h. inl h;
      had = λ x a h. inl h;
      begun = i.wide.begun_moment;
      seen = λ x b h e. inl e;
      void = λ e h. inl (h, refl);
      dying = λ e h. inl (h, refl);
      known = new_known-make;
      known_marked = new_marked-make;
    }

    pub inv-make : Inv n k (step s (Make d))
    inv-make =
        let local : (b : ℕ) → Local (step s (Make d)) b = λ b. local-make n k s b d may (i.local b) in
        record { local = local; wide = wide_next n k most fits s (step s (Make d)) i.local local i.wide changes-make }

  module _ (d : ℕ) (may : May n k s (Unmake d)) where
    was_there-unmake : (b : ℕ) → (step s (Unmake d)).present b ≡ true → s.present b ≡ true
    was_there-unmake b p = grind (arith, nat_tests)

    changes-unmake : Changes n k s (step s (Unmake d))
    changes-unmake = record {
      grows = record {
        pre = λ a b h. h;
        post = λ a b h. h;
        spost = λ a b h. h;
        seen = λ a b h e. e;
        ballot = λ a h. refl;
        moment = λ x h. h;
        at_pre = λ x e c h. refl;
        at_post = λ x e c h. refl;
        begun = λ x e h. refl;
        carries = λ x h. refl;
        making = λ h. h;
        origin = refl;
        old = refl;
        began = refl;
        old_post = λ a b h. refl;
      };
      posted = λ a b h. inl h;
      sposted = λ a b h. inl h;
      chose = λ a h. inl h;
      carried = λ x a h. inl h;
      had = λ x a h. inl h;
      begun = i.wide.begun_moment;
      seen = λ x b h e. inl e;
      void = λ e h. inl (h, refl);
      dying = λ e h. inl (h, refl);
      known = λ b p m. inl (was_there-unmake b p, m, refl);
      known_marked = λ b p. inl (was_there-unmake b p, refl);
    }

    pub inv-unmake : Inv n k (step s (Unmake d))
    inv-unmake =
        let local : (b : ℕ) → Local (step s (Unmake d)) b = λ b. local-unmake n k s b d may (i.local b) in
        record { local = local; wide = wide_next n k most fits s (step s (Unmake d)) i.local local i.wide changes-unmake }

  module _ (d : ℕ) (may : May n k s (Replace d)) where
    was_there-replace : (b : ℕ) → (step s (Replace d)).present b ≡ true → s.present b ≡ true
    was_there-replace b p = grind (arith, nat_tests)

    changes-replace : Changes n k s (step s (Replace d))
    changes-replace = record {
      grows = record {
        pre = λ a b h. h;
        post = λ a b h. h;
        spost = λ a b h. h;
        seen = λ a b h e. e;
        ballot = λ a h. refl;
        moment = λ x h. h;
        at_pre = λ x e c h. refl;
        at_post = λ x e c h. refl;
        begun = λ x e h. refl;
        carries = λ x h. refl;
        making = λ h. h;
        origin = refl;
        old = refl;
        began = refl;
        old_post = λ a b h. refl;
      };
      posted = λ a b h. inl h;
      sposted = λ a b h. inl h;
      chose = λ a h. inl h;
      carried = λ x a h. inl h;
      had = λ x a h. inl h;
      begun = i.wide.begun_moment;
      seen = λ x b h e. inl e;
      void = λ e h. inl (h, refl);
      dying = λ e h. inl (h, refl);
      known = λ b p m. inl (was_there-replace b p, m, refl);
      known_marked = λ b p. inl (was_there-replace b p, refl);
    }

    pub inv-replace : Inv n k (step s (Replace d))
    inv-replace =
        let local : (b : ℕ) → Local (step s (Replace d)) b = λ b. local-replace n k s b d may (i.local b) in
        record { local = local; wide = wide_next n k most fits s (step s (Replace d)) i.local local i.wide changes-replace }
