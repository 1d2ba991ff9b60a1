-- What a turn was given under its grant of a place that was closed at its moment is what stood there, and so is what a heal
-- copies.
use Rattle.std.proofs.Common.{◌≡◌, ◌⊎◌, ℕ, ◌+◌, ◌<◌, ◌≤◌, Bool, true, false, not, cond, ◌==◌, ◌||◌, Option, Some, refl, sym, ◌∙◌, ap, subst, arith, inr, ⊎_elim, eqb-true}
use Rattle.std.proofs.lemmas.Bool.Decides.{nat_tests}
use Rattle.ec_history.specs.Flat.Opener.{Nobody}
use Rattle.ec_law_base.specs.State.{State, Ballot, target}
use Rattle.ec_law_ballots.specs.Words.{saw}
use Rattle.ec_law_ballots.specs.Act.{Act, step as act_step}
use Rattle.ec_law_ballots.specs.Act.Act.{Grant, Free, Share, Unshare, Moment, See, Keep, Carry, Choose, Choose_kept, Pre, Sink_pre, Post, Sink_post, Clear, Heal_grant, Heal_free, Mark, Unmark, Maker_grant, Maker_free, Make, Made, Unmake, Stop, Replace}
use Rattle.ec_law_ballots.specs.Guard.{May, Holds, HasBallot, HasQuorum}
use Rattle.ec_law_quorum.specs.Wide.{Inv}
use Rattle.ec_law_pieces.specs.File.{Form, File}
use Rattle.ec_law_pieces.specs.Deed.{Deed, Plan, step, MayDo, HasBase, mark_places, is_plain}
use Rattle.ec_law_pieces.specs.Deed.Deed.{Do, Look, Take, Take_kept, Read, Intend, Write, Tear, Copy, Spoil, Commit, Follow, Begin, Finish, Create}
use Rattle.ec_law_pieces.specs.Clauses.{Good}
use Rattle.ec_law_pieces.proofs.Known.{did_post}
use Rattle.ec_law_moments.specs.Then.{FlatThen}
use Rattle.ec_law_moments.specs.Windows.{Fenced}
use Rattle.ec_law_moments.proofs.Views.{View}
use Rattle.ec_law_moments.proofs.Sinks.{then_one}

-- turn x was given at brick b what the flat value g was
abbrev pub Got : {P V C U S : Type 0} → Form P V C U S → File P V C U S → File P V C U S → ℕ → ℕ → P → Type 0
Got {P} {V} {C} form g f x b p =
    (y : C) → f.got x b p ≡ Some y → f.planned x ≡ false → (f.heads.ballot x).base ≡ g.flat.version → g.flat.opener p ≡ Nobody → y ≡ form.code (g.content p) b

-- what a turn was given now, or before
pub fetched : {P C : Type 0} (g : ℕ → ℕ → P → Option C) (x d : ℕ) (places : P → Bool) (f : P → C) (y b : ℕ) (p : P) (z : C) → mark_places g x d places (λ p. Some (f p)) y b p ≡ Some z → (g y b p ≡ Some z) ⊎ ((y ≡ x) × (b ≡ d) × (f p ≡ z))
fetched g x d places f y b p z e = grind (arith, nat_tests)

kept_ballot : (s : State) (y : ℕ) (q : Ballot) (x : ℕ) → (s.ballot y).number ≡ 0 → 0 < (s.ballot x).number → (act_step s (Choose y q)).ballot x ≡ s.ballot x
kept_ballot s y q x z h = grind (arith, nat_tests)

not_planned : {P V C U S : Type 0} (form : Form P V C U S) (n k : ℕ) (f : File P V C U S) (y : ℕ) (plan : Plan P V U S) (x : ℕ) → (step form n k f (Intend y plan)).planned x ≡ false → f.planned x ≡ false
not_planned form n k f y plan x e = grind (arith, nat_tests)

put_shape : {S : Type 0} (u : Bool) (new old shape : S) → (u ≡ true → new ≡ old) → old ≡ shape → cond u new old ≡ shape
put_shape true new old shape f e = f refl ∙ e
put_shape false new old shape f e = e

kept_shape : {S : Type 0} (m u : Bool) (old new : S) → m ≡ true → cond (m || u) old new ≡ old
kept_shape true u old new e = refl
kept_shape false u old new e = absurd (cc)

module _ {P V C U S : Type 0} (form : Form P V C U S) (n k : ℕ) (most : n < k + k) (fits : k ≤ n) (g f : File P V C U S) (i : Inv n k f.heads) (good : Good form n k f) (x : ℕ) where
  number_of : (b : ℕ) (p : P) (z : C) → f.got x b p ≡ Some z → 0 < (f.heads.ballot x).number
  number_of b p z e = good.got_number x b p z e

  got_read : (y d : ℕ) (places : P → Bool) → MayDo form n k f (Read y d places) → Fenced f (Read y d places) → (b : ℕ) (p : P) → View form g f x b p → Got form g f x b p → Got form g (step form n k f (Read y d places)) x b p
  got_read y d places m fence b p view got z e plan v o = ⊎_elim (λ q. got z q plan v o) (λ q. new q.0 q.1 q.2) (fetched f.got y d places (f.piece d) x b p z e)
    where
      new : x ≡ y → b ≡ d → f.piece d p ≡ z → z ≡ form.code (g.content p) b
      new ex eb ez =
          let there = subst (λ (u : ℕ). View form g f x u p) eb view in
          let base = subst (λ (u : ℕ). HasBase form n k f u d) (sym ex) m.0 in
          let held = subst (λ (u : ℕ). Holds f.heads u d × (saw f.heads u d ≡ true)) (sym ex) fence in
          let looked = (i.local d).saw x held.1 in
          subst (λ (c : ℕ). z ≡ form.code (g.content p) c) (sym eb) (sym ez ∙ there (inr (held.0, plan)) looked.1 looked.2 base.0 (base.1 ∙ v) o (good.synced_all d p base.0 m.1))

  got_do : (e : Act) → May n k f.heads e → is_plain form n k e ≡ true → (b : ℕ) (p : P) → Got form g f x b p → Got form g (step form n k f (Do e)) x b p
  got_do (Grant y d) may z b p got = got
  got_do (Free d) may z b p got = got
  got_do (Share y d) may z b p got = got
  got_do (Unshare y d) may z b p got = got
  got_do (Moment y) may z b p got = got
  got_do (See y d) may z b p got = absurd (cc)
  got_do (Keep y u) may z b p got = got
  got_do (Carry u y d) may z b p got = got
  got_do (Choose y q) may z b p got = absurd (cc)
  got_do (Choose_kept y u q) may z b p got = absurd (cc)
  got_do (Pre y d) may z b p got = got
  got_do (Sink_pre y d) may z b p got = got
  got_do (Post y d) may z b p got = absurd (cc)
  got_do (Sink_post y d) may z b p got = absurd (cc)
  got_do (Clear y d) may z b p got = got
  got_do (Heal_grant y d) may z b p got = got
  got_do (Heal_free d) may z b p got = got
  got_do (Mark y d) may z b p got = absurd (cc)
  got_do (Unmark y d) may z b p got = absurd (cc)
  got_do (Maker_grant d) may z b p got = got
  got_do (Maker_free d) may z b p got = got
  got_do (Make d) may z b p got = absurd (cc)
  got_do (Made d) may z b p got = got
  got_do (Unmake d) may z b p got = got
  got_do (Stop d) may z b p got = got
  got_do (Replace d) may z b p got = got

  pub got_step : (e : Deed P V C U S) → MayDo form n k f e → Fenced f e → (b : ℕ) (p : P) → View form g f x b p → Got form g f x b p → Got form g (step form n k f e) x b p
  got_step (Do e) m fence b p view got = got_do e m.0 m.1 b p got
  got_step (Look y d) m fence b p view got = got
  got_step (Take y q shape) m fence b p view got = λ z e plan v o. got z e plan (sym (ap (λ (t : Ballot). t.base) (kept_ballot f.heads y q x m.0.0 (number_of b p z e))) ∙ v) o
  got_step (Take_kept y u q) m fence b p view got = λ z e plan v o. got z e plan (sym (ap (λ (t : Ballot). t.base) (kept_ballot f.heads y q x m.0 (number_of b p z e))) ∙ v) o
  got_step (Read y d places) m fence b p view got = got_read y d places m fence b p view got
  got_step (Intend y plan) m fence b p view got = λ z e q v o. got z e (not_planned form n k f y plan x q) v o
  got_step (Write y d places) m fence b p view got = got
  got_step (Tear y d places pieces) m fence b p view got = got
  got_step (Copy y d places pieces) m fence b p view got = got
  got_step (Spoil d places pieces) m fence b p view got = got
  got_step (Commit y d) m fence b p view got = got
  got_step (Follow y d) m fence b p view got = got
  got_step (Begin y d) m fence b p view got = got
  got_step (Finish y d) m fence b p view got = got
  got_step (Create d shape) m fence b p view got = got

  -- the flat version of a moment has the shape of the moment
  module _ (was : f.heads.moment x ≡ true) (then : FlatThen n k f.heads x g.flat.version) where
    posted_shape : (y : ℕ) → HasBallot f.heads y → HasQuorum n k f.heads y → (g.flat.version == target (f.heads.ballot y)) ≡ true → f.becomes y ≡ f.shape_of g.flat.version
    posted_shape y has quorum same' =
        let e = eqb-true g.flat.version (target (f.heads.ballot y)) same' in
        let c = then_one form n k most fits g f i x was g.flat.version y then (let q = quorum in (omega arith, λ r. quorum)) has.number (sym e) in
        good.becomes_is y c.0 (did_post f.heads y c.0 ((i.local c.0).at_post_is x y c.1).0) has.real ∙ ap f.shape_of (sym e)

    pub shape_step : (e : Deed P V C U S) → MayDo form n k f e → (shape : S) → f.heads.making ≡ true → f.shape_of g.flat.version ≡ shape → (step form n k f e).shape_of g.flat.version ≡ shape
    shape_step (Do e) m s mk h = h
    shape_step (Look y d) m s mk h = h
    shape_step (Take y q shape) m s mk h = h
    shape_step (Take_kept y u q) m s mk h = h
    shape_step (Read y d places) m s mk h = h
    shape_step (Intend y plan) m s mk h = h
    shape_step (Write y d places) m s mk h = h
    shape_step (Tear y d places pieces) m s mk h = h
    shape_step (Copy y d places pieces) m s mk h = h
    shape_step (Spoil d places pieces) m s mk h = h
    shape_step (Commit y d) m s mk h = put_shape (g.flat.version == target (f.heads.ballot y)) (f.becomes y) (f.shape_of g.flat.version) s (posted_shape y m.0.2 m.0.5) h
    shape_step (Follow y d) m s mk h = put_shape (g.flat.version == target (f.heads.ballot y)) (f.becomes y) (f.shape_of g.flat.version) s (posted_shape y m.0.2 m.0.5) h
    shape_step (Begin y d) m s mk h = h
    shape_step (Finish y d) m s mk h = h
    shape_step (Create d shape) m s mk h = kept_shape f.heads.making (not (g.flat.version == 0)) (f.shape_of g.flat.version) shape mk ∙ h
