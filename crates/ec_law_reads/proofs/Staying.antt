-- What a turn was given of a place stays: while the turn holds the brick and has planned nothing, nobody writes there.
use Rattle.std.proofs.Common.{◌≡◌, ◌⊎◌, ◌<◌, ◌≤◌, ◌+◌, ℕ, Bool, true, false, cond, ◌==◌, ◌&&◌, Option, Some, None, List, [], ◌∷◌, map, refl, sym, ◌∙◌, ap, subst, inl, inr, arith, ⊎_elim}
use Rattle.std.proofs.lemmas.Bool.Decides.{nat_tests}
use Rattle.ec_law_ballots.specs.Act.{Act, step as act_step}
use Rattle.ec_law_ballots.specs.Act.Act.{Grant, Free, Share, Unshare, Moment, See, Keep, Carry, Choose, Choose_kept, Pre, Sink_pre, Post, Sink_post, Clear, Heal_grant, Heal_free, Mark, Unmark, Maker_grant, Maker_free, Make, Made, Unmake, Stop, Replace}
use Rattle.ec_law_ballots.specs.Clauses.{Local}
use Rattle.ec_law_ballots.specs.Guard.{Holds, May, Runs}
use Rattle.ec_law_pieces.specs.Deed.{Deed, after as after_deeds, step}
use Rattle.ec_law_pieces.specs.Deed.Deed.{Do, Look, Take, Take_kept, Read, Intend, Write, Tear, Copy, Spoil, Commit, Follow, Begin, Finish, Create}
use Rattle.ec_law_pieces.specs.File.{File, Form}
use Rattle.ec_law_quorum.specs.Wide.{Inv}
use Rattle.ec_law_quorum.proofs.Laws.{inv_step}
use Rattle.ec_law_data.specs.Deeds.{dressed}
use Rattle.ec_law_data.specs.Reading.{Plans, Reading}

-- the brick did the PreOp of the turn, which was given this, and as long as it holds the brick this is there
pub record Stays {P V C U S : Type 0} (f : File P V C U S) (a b : ℕ) (p : P) (y : C) : Type 0 where
  pub pre : f.heads.pre a b ≡ true
  pub got : f.got a b p ≡ Some y
  pub there : f.heads.holder b ≡ Some a → f.piece b p ≡ y

-- as long as the turn has planned nothing
abbrev pub StaysYet : {P V C U S : Type 0} → File P V C U S → ℕ → ℕ → P → C → Type 0
StaysYet f a b p y = f.planned a ≡ false → Stays f a b p y

put_true : (t u : Bool) → u ≡ true → cond t true u ≡ true
put_true true u e = refl
put_true false u e = e

freed : (t : Bool) (o : Option ℕ) (a : ℕ) → cond t None o ≡ Some a → o ≡ Some a
freed true o a e = absurd (cc)
freed false o a e = e

module _ {P V C U S : Type 0} (f : File P V C U S) (local : (b : ℕ) → Local f.heads b) (a b : ℕ) (p : P) (y : C) where
  -- a turn whose PreOp was done was granted the brick, or is none of this run
  granted : f.heads.pre a b ≡ true → (f.heads.old a ≡ true) ⊎ (f.heads.granted a b ≡ true)
  granted pre = ⊎_elim (λ o. inl o) (λ s. inr ((local b).saw a s).0) ((local b).pre_seen a pre).0

  -- so it isn't granted again
  regranted : (x c : ℕ) → f.heads.granted x c ≡ false → f.heads.old x ≡ false → f.heads.pre a b ≡ true → (t : Bool) → (b == c) ≡ t → cond t (Some x) (f.heads.holder b) ≡ Some a → f.heads.holder b ≡ Some a
  regranted x c never real pre false e h = h
  regranted x c never real pre true e h =
      let turn : x ≡ a = cc in
      let place : b ≡ c = grind (arith, nat_tests) in
      absurd (⊎_elim
      (λ o. let z = sym o ∙ (ap f.heads.old (sym turn) ∙ real) in cc)
      (λ o. let z = sym o ∙ (ap (λ (w : ℕ). f.heads.granted w b) (sym turn) ∙ (ap (f.heads.granted x) place ∙ never)) in cc)
      (granted pre))

-- What the deed of an entry stands on, as far as pieces go.
abbrev pub Fits : {P V C U S : Type 0} → ℕ → ℕ → File P V C U S → Deed P V C U S → Type 0
Fits n k f (Do act) = May n k f.heads act
Fits n k f (Create b shape) = May n k f.heads (Make b)
Fits n k f (Read a b places) = f.heads.pre a b ≡ true → Holds f.heads a b
Fits n k f (Write a b places) = Holds f.heads a b × (f.planned a ≡ true)
Fits n k f (Tear a b places pieces) = Holds f.heads a b × (f.planned a ≡ true)
Fits n k f (Copy a b places pieces) = ⊥
Fits n k f (Spoil b places pieces) = ⊥
Fits n k f d = Unit {0}

module _ {P V C U S : Type 0} (form : Form P V C U S) (n k : ℕ) where
  -- a write by another turn, or by one that has planned, is elsewhere
  unwritten : (f : File P V C U S) (a b : ℕ) (p : P) (y : C) (x c : ℕ) → Holds f.heads x c → f.planned x ≡ true → f.planned a ≡ false → Stays f a b p y → (t u : Bool) (z : C) → (b == c) ≡ t → f.heads.holder b ≡ Some a → cond (t && u) z (f.piece b p) ≡ y
  unwritten f a b p y x c holds planned free h false u z e holder = h.there holder
  unwritten f a b p y x c holds planned free h true false z e holder = h.there holder
  unwritten f a b p y x c holds planned free h true true z e holder =
      let place : b ≡ c = grind (arith, nat_tests) in
      let same : Some x ≡ Some a = sym holds ∙ (ap f.heads.holder (sym place) ∙ holder) in
      let turn : x ≡ a = cc in
      absurd (let w = sym planned ∙ (ap f.planned turn ∙ free) in cc)

  act_stays : (act : Act) (f : File P V C U S) → ((b : ℕ) → Local f.heads b) → May n k f.heads act → (a b : ℕ) (p : P) (y : C) → StaysYet f a b p y → StaysYet (record f { heads = act_step f.heads act }) a b p y
  act_stays (Grant x c) f local may a b p y h free = let o = h free in record { pre = o.pre; got = o.got; there = λ z. o.there (regranted f local a b p y x c may.1 may.2 o.pre (b == c) refl z) }
  act_stays (Free c) f local may a b p y h free = let o = h free in record { pre = o.pre; got = o.got; there = λ z. o.there (freed (b == c) (f.heads.holder b) a z) }
  act_stays (Carry w x c) f local may a b p y h free = let o = h free in record { pre = o.pre; got = o.got; there = λ z. o.there (regranted f local a b p y x c may.3 may.5 o.pre (b == c) refl z) }
  act_stays (Pre x c) f local may a b p y h free = let o = h free in record { pre = put_true ((a == x) && (b == c)) (f.heads.pre a b) o.pre; got = o.got; there = o.there }
  act_stays (Stop c) f local may a b p y h free = let o = h free in record { pre = o.pre; got = o.got; there = λ z. o.there (freed (b == c) (f.heads.holder b) a z) }
  act_stays (Share x c) f local may a b p y h free = let o = h free in record { pre = o.pre; got = o.got; there = o.there }
  act_stays (Unshare x c) f local may a b p y h free = let o = h free in record { pre = o.pre; got = o.got; there = o.there }
  act_stays (Moment x) f local may a b p y h free = let o = h free in record { pre = o.pre; got = o.got; there = o.there }
  act_stays (See x c) f local may a b p y h free = let o = h free in record { pre = o.pre; got = o.got; there = o.there }
  act_stays (Keep w x) f local may a b p y h free = let o = h free in record { pre = o.pre; got = o.got; there = o.there }
  act_stays (Choose x q) f local may a b p y h free = let o = h free in record { pre = o.pre; got = o.got; there = o.there }
  act_stays (Choose_kept w x q) f local may a b p y h free = let o = h free in record { pre = o.pre; got = o.got; there = o.there }
  act_stays (Sink_pre x c) f local may a b p y h free = let o = h free in record { pre = o.pre; got = o.got; there = o.there }
  act_stays (Post x c) f local may a b p y h free = let o = h free in record { pre = o.pre; got = o.got; there = o.there }
  act_stays (Sink_post x c) f local may a b p y h free = let o = h free in record { pre = o.pre; got = o.got; there = o.there }
  act_stays (Clear x c) f local may a b p y h free = let o = h free in record { pre = o.pre; got = o.got; there = o.there }
  act_stays (Heal_grant w c) f local may a b p y h free = let o = h free in record { pre = o.pre; got = o.got; there = o.there }
  act_stays (Heal_free c) f local may a b p y h free = let o = h free in record { pre = o.pre; got = o.got; there = o.there }
  act_stays (Mark x c) f local may a b p y h free = let o = h free in record { pre = o.pre; got = o.got; there = o.there }
  act_stays (Unmark x c) f local may a b p y h free = let o = h free in record { pre = o.pre; got = o.got; there = o.there }
  act_stays (Maker_grant c) f local may a b p y h free = let o = h free in record { pre = o.pre; got = o.got; there = o.there }
  act_stays (Maker_free c) f local may a b p y h free = let o = h free in record { pre = o.pre; got = o.got; there = o.there }
  act_stays (Make c) f local may a b p y h free = let o = h free in record { pre = o.pre; got = o.got; there = o.there }
  act_stays (Made c) f local may a b p y h free = let o = h free in record { pre = o.pre; got = o.got; there = o.there }
  act_stays (Unmake c) f local may a b p y h free = let o = h free in record { pre = o.pre; got = o.got; there = o.there }
  act_stays (Replace c) f local may a b p y h free = let o = h free in record { pre = o.pre; got = o.got; there = o.there }

  pub deed_stays : (d : Deed P V C U S) (f : File P V C U S) → ((b : ℕ) → Local f.heads b) → Fits n k f d → (a b : ℕ) (p : P) (y : C) → StaysYet f a b p y → StaysYet (step form n k f d) a b p y
  deed_stays (Do act) f local fits a b p y h free = act_stays act f local fits a b p y h free
  deed_stays (Look x c) f local fits a b p y h free = let o = h free in record { pre = o.pre; got = o.got; there = o.there }
  deed_stays (Take x q shape) f local fits a b p y h free = let o = h free in record { pre = o.pre; got = o.got; there = o.there }
  deed_stays (Take_kept w x q) f local fits a b p y h free = let o = h free in record { pre = o.pre; got = o.got; there = o.there }
  deed_stays (Read x c places) f local fits a b p y h free = let o = h free in record { pre = o.pre; got = again o (a == x) (b == c) (places p) refl refl; there = o.there }
    where
      again : Stays f a b p y → (t u w : Bool) → (a == x) ≡ t → (b == c) ≡ u → cond (t && u && w) (Some (f.piece c p)) (f.got a b p) ≡ Some y
      again o false u w e d = o.got
      again o true false w e d = o.got
      again o true true false e d = o.got
      again o true true true e d =
          let turn : a ≡ x = grind (arith, nat_tests) in
          let place : b ≡ c = grind (arith, nat_tests) in
          let pre : f.heads.pre x c ≡ true = subst (λ (z : ℕ). f.heads.pre z c ≡ true) turn (subst (λ (z : ℕ). f.heads.pre a z ≡ true) place o.pre) in
          let holder : f.heads.holder b ≡ Some a = ap f.heads.holder place ∙ (fits pre ∙ ap (λ (z : ℕ). Some z) (sym turn)) in
          ap (λ (z : C). Some z) (ap (λ (z : ℕ). f.piece z p) (sym place) ∙ o.there holder)
  deed_stays (Intend x plan) f local fits a b p y h free = let o = h (before (a == x) free) in record { pre = o.pre; got = o.got; there = o.there }
    where
      before : (t : Bool) → cond t true (f.planned a) ≡ false → f.planned a ≡ false
      before true e = absurd (cc)
      before false e = e
  deed_stays (Write x c places) f local fits a b p y h free = let o = h free in record { pre = o.pre; got = o.got; there = λ holder. unwritten f a b p y x c fits.0 fits.1 free o (b == c) (places p) (form.code (f.value x p) c) refl holder }
  deed_stays (Tear x c places pieces) f local fits a b p y h free = let o = h free in record { pre = o.pre; got = o.got; there = λ holder. unwritten f a b p y x c fits.0 fits.1 free o (b == c) (places p) (pieces p) refl holder }
  deed_stays (Copy x c places pieces) f local fits a b p y h free = absurd fits
  deed_stays (Spoil c places pieces) f local fits a b p y h free = absurd fits
  deed_stays (Commit x c) f local fits a b p y h free = let o = h free in record { pre = o.pre; got = o.got; there = o.there }
  deed_stays (Follow x c) f local fits a b p y h free = let o = h free in record { pre = o.pre; got = o.got; there = o.there }
  deed_stays (Begin x c) f local fits a b p y h free = let o = h free in record { pre = o.pre; got = o.got; there = o.there }
  deed_stays (Finish x c) f local fits a b p y h free = let o = h free in record { pre = o.pre; got = o.got; there = o.there }
  deed_stays (Create c shape) f local fits a b p y h free = let o = h free in record { pre = o.pre; got = o.got; there = λ holder. made o (b == c) refl holder }
    where
      -- where a Make is done no turn has come by
      made : Stays f a b p y → (t : Bool) → (b == c) ≡ t → f.heads.holder b ≡ Some a → cond t (form.code form.zero c) (f.piece b p) ≡ y
      made o false e holder = o.there holder
      made o true e holder =
          let place : b ≡ c = grind (arith, nat_tests) in
          absurd (let z = sym o.pre ∙ (ap (f.heads.pre a) place ∙ ((local c).unborn_pre a fits.0 fits.1 fits.3 fits.2).0) in cc)

module _ {P V C U S : Type 0} (R : Reading P V C U S) (plans : Plans P V U S) (n k g : ℕ) (most : n < k + k) (enough : k ≤ n) where
  dressed_fits : (e : Act) (f : File P V C U S) → May n k f.heads e → Fits n k f (dressed R plans n k g e)
  dressed_fits (Grant a b) f may = may
  dressed_fits (Free b) f may = may
  dressed_fits (Share a b) f may = may
  dressed_fits (Unshare a b) f may = may
  dressed_fits (Moment a) f may = may
  dressed_fits (See a b) f may = tt
  dressed_fits (Keep x a) f may = may
  dressed_fits (Carry a x b) f may = may
  dressed_fits (Choose a p) f may = tt
  dressed_fits (Choose_kept x a p) f may = tt
  dressed_fits (Pre a b) f may = may
  dressed_fits (Sink_pre a b) f may = may
  dressed_fits (Post a b) f may = tt
  dressed_fits (Sink_post a b) f may = tt
  dressed_fits (Clear a b) f may = may
  dressed_fits (Heal_grant h b) f may = may
  dressed_fits (Heal_free b) f may = may
  dressed_fits (Mark a b) f may = tt
  dressed_fits (Unmark a b) f may = tt
  dressed_fits (Maker_grant b) f may = may
  dressed_fits (Maker_free b) f may = may
  dressed_fits (Make b) f may = may
  dressed_fits (Made b) f may = may
  dressed_fits (Unmake b) f may = may
  dressed_fits (Stop b) f may = may
  dressed_fits (Replace b) f may = may

  dressed_heads : (e : Act) (f : File P V C U S) → (step R.form n k f (dressed R plans n k g e)).heads ≡ act_step f.heads e
  dressed_heads (Grant a b) f = refl
  dressed_heads (Free b) f = refl
  dressed_heads (Share a b) f = refl
  dressed_heads (Unshare a b) f = refl
  dressed_heads (Moment a) f = refl
  dressed_heads (See a b) f = refl
  dressed_heads (Keep x a) f = refl
  dressed_heads (Carry a x b) f = refl
  dressed_heads (Choose a p) f = refl
  dressed_heads (Choose_kept x a p) f = refl
  dressed_heads (Pre a b) f = refl
  dressed_heads (Sink_pre a b) f = refl
  dressed_heads (Post a b) f = refl
  dressed_heads (Sink_post a b) f = refl
  dressed_heads (Clear a b) f = refl
  dressed_heads (Heal_grant h b) f = refl
  dressed_heads (Heal_free b) f = refl
  dressed_heads (Mark a b) f = refl
  dressed_heads (Unmark a b) f = refl
  dressed_heads (Maker_grant b) f = refl
  dressed_heads (Maker_free b) f = refl
  dressed_heads (Make b) f = refl
  dressed_heads (Made b) f = refl
  dressed_heads (Unmake b) f = refl
  dressed_heads (Stop b) f = refl
  dressed_heads (Replace b) f = refl

  -- so what a turn was given stays by all acts of an entry
  pub acts_stay : (es : List Act) (f : File P V C U S) → Inv n k f.heads → Runs n k es f.heads → (a b : ℕ) (p : P) (y : C) → StaysYet f a b p y → StaysYet (after_deeds R.form n k (map (dressed R plans n k g) es) f) a b p y
  acts_stay [] f inv runs a b p y h = h
  acts_stay (e ∷ es) f inv runs a b p y h =
      let same = sym (dressed_heads e f) in
      acts_stay es (step R.form n k f (dressed R plans n k g e))
      (subst (Inv n k) same (inv_step n k most enough f.heads e runs.0 inv))
      (subst (Runs n k es) same runs.1) a b p y
      (deed_stays R.form n k (dressed R plans n k g e) f inv.local (dressed_fits e f runs.0) a b p y h)
