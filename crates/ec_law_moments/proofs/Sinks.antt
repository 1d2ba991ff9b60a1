-- As long as a heal has its Heal grant, what its last window could read of a sink, at a place that was closed at the window's
-- moment, stays: another's data request is noted, and no other turn copies there.
use Rattle.std.proofs.Common.{◌≡◌, ◌≢◌, ℕ, ◌+◌, ◌<◌, ◌≤◌, Bool, true, false, Some, sym, ◌∙◌, subst, arith, inl, inr, ⊎_elim}
use Rattle.std.proofs.lemmas.Bool.Decides.{nat_tests}
use Rattle.ec_history.specs.Flat.Opener.{Nobody}
use Rattle.ec_law_base.specs.State.{State, target}
use Rattle.ec_law_base.proofs.Counts.{some}
use Rattle.ec_law_ballots.specs.Words.{saw, tied}
use Rattle.ec_law_ballots.specs.Act.{Act, step as act_step}
use Rattle.ec_law_ballots.specs.Act.Act.{Grant, Free, Share, Unshare, Moment, See, Keep, Carry, Choose, Choose_kept, Pre, Sink_pre, Post, Sink_post, Clear, Heal_grant, Heal_free, Mark, Unmark, Maker_grant, Maker_free, Make, Made, Unmake, Stop, Replace}
use Rattle.ec_law_ballots.specs.Guard.{May}
use Rattle.ec_law_quorum.specs.Wide.{Inv, Promised}
use Rattle.ec_law_quorum.proofs.Quorums.{either, alike}
use Rattle.ec_law_pieces.specs.File.{Form, File}
use Rattle.ec_law_pieces.specs.Deed.{Deed, step, MayDo, is_plain}
use Rattle.ec_law_pieces.specs.Deed.Deed.{Do, Look, Take, Take_kept, Read, Intend, Write, Tear, Copy, Spoil, Commit, Follow, Begin, Finish, Create}
use Rattle.ec_law_moments.specs.Then.{FlatThen}
use Rattle.ec_law_moments.specs.Windows.{IsLast, Fenced, stirs}
use Rattle.ec_law_moments.proofs.Views.{CopyIs, copy_of, View}

-- brick b, a sink of the window x, holds what the flat value g was
abbrev pub Rest : {P V C U S : Type 0} → Form P V C U S → File P V C U S → File P V C U S → (ℕ → ℕ → P → Bool) → ℕ → ℕ → P → Type 0
Rest form g f st x b p =
    f.heads.healer b ≡ Some (f.heads.call x) → tied f.heads x b ≡ true → f.heads.marked b ≡ true → f.heads.present b ≡ true → f.heads.version b ≡ g.flat.version → g.flat.opener p ≡ Nobody → f.synced b p ≡ true → st x b p ≡ false → f.piece b p ≡ form.code (g.content p) b

abbrev pub Sink : {P V C U S : Type 0} → Form P V C U S → File P V C U S → File P V C U S → (ℕ → ℕ → P → Bool) → ℕ → ℕ → P → Type 0
Sink form g f st x b p = IsLast f.heads x → Rest form g f st x b p

rest-heal_grant : {P V C U S : Type 0} (form : Form P V C U S) (n k : ℕ) (g f : File P V C U S) (st : ℕ → ℕ → P → Bool) (y d : ℕ) → May n k f.heads (Heal_grant y d) → (x b : ℕ) (p : P) → (tied f.heads x d ≡ true → f.heads.granted x d ≡ true) → Rest form g f st x b p → Rest form g (step form n k f (Do (Heal_grant y d))) (stirs {V = V} {C = C} {U = U} {S = S} (Do (Heal_grant y d)) st) x b p
rest-heal_grant form n k g f st y d may x b p tg rest' a e h j l m o r = grind (arith, nat_tests)

rest-heal_free : {P V C U S : Type 0} (form : Form P V C U S) (n k : ℕ) (g f : File P V C U S) (st : ℕ → ℕ → P → Bool) (d : ℕ) → May n k f.heads (Heal_free d) → (x b : ℕ) (p : P) → Rest form g f st x b p → Rest form g (step form n k f (Do (Heal_free d))) (stirs {V = V} {C = C} {U = U} {S = S} (Do (Heal_free d)) st) x b p
rest-heal_free form n k g f st d may x b p rest' a e h j l m o r = grind (arith, nat_tests)

rest-stop : {P V C U S : Type 0} (form : Form P V C U S) (n k : ℕ) (g f : File P V C U S) (st : ℕ → ℕ → P → Bool) (d : ℕ) → May n k f.heads (Stop d) → (x b : ℕ) (p : P) → Rest form g f st x b p → Rest form g (step form n k f (Do (Stop d))) (stirs {V = V} {C = C} {U = U} {S = S} (Do (Stop d)) st) x b p
rest-stop form n k g f st d may x b p rest' a e h j l m o r = grind (arith, nat_tests)

rest-unmake : {P V C U S : Type 0} (form : Form P V C U S) (n k : ℕ) (g f : File P V C U S) (st : ℕ → ℕ → P → Bool) (d : ℕ) → May n k f.heads (Unmake d) → (x b : ℕ) (p : P) → Rest form g f st x b p → Rest form g (step form n k f (Do (Unmake d))) (stirs {V = V} {C = C} {U = U} {S = S} (Do (Unmake d)) st) x b p
rest-unmake form n k g f st d may x b p rest' a e h j l m o r = grind (arith, nat_tests)

rest-replace : {P V C U S : Type 0} (form : Form P V C U S) (n k : ℕ) (g f : File P V C U S) (st : ℕ → ℕ → P → Bool) (d : ℕ) → May n k f.heads (Replace d) → (x b : ℕ) (p : P) → Rest form g f st x b p → Rest form g (step form n k f (Do (Replace d))) (stirs {V = V} {C = C} {U = U} {S = S} (Do (Replace d)) st) x b p
rest-replace form n k g f st d may x b p rest' a e h j l m o r = grind (arith, nat_tests)

rest-moment : {P V C U S : Type 0} (form : Form P V C U S) (n k : ℕ) (g f : File P V C U S) (st : ℕ → ℕ → P → Bool) (y : ℕ) → May n k f.heads (Moment y) → (x b : ℕ) (p : P) → (f.heads.moment x ≡ true) → Rest form g f st x b p → Rest form g (step form n k f (Do (Moment y))) (stirs {V = V} {C = C} {U = U} {S = S} (Do (Moment y)) st) x b p
rest-moment form n k g f st y may x b p was rest' a e h j l m o r = grind (arith, nat_tests)

rest-look : {P V C U S : Type 0} (form : Form P V C U S) (n k : ℕ) (g f : File P V C U S) (st : ℕ → ℕ → P → Bool) (y d : ℕ) → May n k f.heads (See y d) → (x b : ℕ) (p : P) → (x ≡ y → b ≡ d → f.heads.present d ≡ true → f.heads.version d ≡ g.flat.version → g.flat.opener p ≡ Nobody → f.synced d p ≡ true → f.piece d p ≡ form.code (g.content p) d) → Rest form g f st x b p → Rest form g (step form n k f (Look y d)) (stirs {V = V} {C = C} {U = U} {S = S} (Look y d) st) x b p
rest-look form n k g f st y d may x b p here rest' a e h j l m o r = grind (arith, nat_tests)

rest-write : {P V C U S : Type 0} (form : Form P V C U S) (n k : ℕ) (g f : File P V C U S) (st : ℕ → ℕ → P → Bool) (y d : ℕ) (places : P → Bool) → MayDo form n k f (Write y d places) → (x b : ℕ) (p : P) → Rest form g f st x b p → Rest form g (step form n k f (Write y d places)) (stirs {V = V} {C = C} {U = U} {S = S} (Write y d places) st) x b p
rest-write form n k g f st y d places may x b p rest' a e h j l m o r = grind (arith, nat_tests)

rest-tear : {P V C U S : Type 0} (form : Form P V C U S) (n k : ℕ) (g f : File P V C U S) (st : ℕ → ℕ → P → Bool) (y d : ℕ) (places : P → Bool) (pieces : P → C) → MayDo form n k f (Tear y d places pieces) → (x b : ℕ) (p : P) → Rest form g f st x b p → Rest form g (step form n k f (Tear y d places pieces)) (stirs {V = V} {C = C} {U = U} {S = S} (Tear y d places pieces) st) x b p
rest-tear form n k g f st y d places pieces may x b p rest' a e h j l m o r = grind (arith, nat_tests)

rest-copy : {P V C U S : Type 0} (form : Form P V C U S) (n k : ℕ) (g f : File P V C U S) (st : ℕ → ℕ → P → Bool) (y d : ℕ) (places : P → Bool) (pieces : P → C) → MayDo form n k f (Copy y d places pieces) → (x b : ℕ) (p : P) → (f.heads.healer d ≡ Some (f.heads.call x) → tied f.heads x d ≡ true → places p ≡ true → f.heads.version d ≡ g.flat.version → g.flat.opener p ≡ Nobody → pieces p ≡ form.code (g.content p) d) → Rest form g f st x b p → Rest form g (step form n k f (Copy y d places pieces)) (stirs {V = V} {C = C} {U = U} {S = S} (Copy y d places pieces) st) x b p
rest-copy form n k g f st y d places pieces may x b p mine rest' a e h j l m o r = grind (arith, nat_tests)

rest-spoil : {P V C U S : Type 0} (form : Form P V C U S) (n k : ℕ) (g f : File P V C U S) (st : ℕ → ℕ → P → Bool) (d : ℕ) (places : P → Bool) (pieces : P → C) → MayDo form n k f (Spoil d places pieces) → (x b : ℕ) (p : P) → Rest form g f st x b p → Rest form g (step form n k f (Spoil d places pieces)) (stirs {V = V} {C = C} {U = U} {S = S} (Spoil d places pieces) st) x b p
rest-spoil form n k g f st d places pieces may x b p rest' a e h j l m o r = grind (arith, nat_tests)

rest-commit : {P V C U S : Type 0} (form : Form P V C U S) (n k : ℕ) (g f : File P V C U S) (st : ℕ → ℕ → P → Bool) (y d : ℕ) → MayDo form n k f (Commit y d) → (x b : ℕ) (p : P) → Rest form g f st x b p → Rest form g (step form n k f (Commit y d)) (stirs {V = V} {C = C} {U = U} {S = S} (Commit y d) st) x b p
rest-commit form n k g f st y d may x b p rest' a e h j l m o r = grind (arith, nat_tests)

rest-follow : {P V C U S : Type 0} (form : Form P V C U S) (n k : ℕ) (g f : File P V C U S) (st : ℕ → ℕ → P → Bool) (y d : ℕ) → MayDo form n k f (Follow y d) → (x b : ℕ) (p : P) → (tied f.heads x d ≡ true → target (f.heads.ballot y) ≡ g.flat.version → ⊥) → Rest form g f st x b p → Rest form g (step form n k f (Follow y d)) (stirs {V = V} {C = C} {U = U} {S = S} (Follow y d) st) x b p
rest-follow form n k g f st y d may x b p late rest' a e h j l m o r = grind (arith, nat_tests)

rest-begin : {P V C U S : Type 0} (form : Form P V C U S) (n k : ℕ) (g f : File P V C U S) (st : ℕ → ℕ → P → Bool) (y d : ℕ) → MayDo form n k f (Begin y d) → (x b : ℕ) (p : P) → Rest form g f st x b p → Rest form g (step form n k f (Begin y d)) (stirs {V = V} {C = C} {U = U} {S = S} (Begin y d) st) x b p
rest-begin form n k g f st y d may x b p rest' a e h j l m o r = grind (arith, nat_tests)

rest-finish : {P V C U S : Type 0} (form : Form P V C U S) (n k : ℕ) (g f : File P V C U S) (st : ℕ → ℕ → P → Bool) (y d : ℕ) → MayDo form n k f (Finish y d) → (x b : ℕ) (p : P) → Rest form g f st x b p → Rest form g (step form n k f (Finish y d)) (stirs {V = V} {C = C} {U = U} {S = S} (Finish y d) st) x b p
rest-finish form n k g f st y d may x b p rest' a e h j l m o r = grind (arith, nat_tests)

rest-create : {P V C U S : Type 0} (form : Form P V C U S) (n k : ℕ) (g f : File P V C U S) (st : ℕ → ℕ → P → Bool) (d : ℕ) (shape : S) → MayDo form n k f (Create d shape) → (x b : ℕ) (p : P) → Rest form g f st x b p → Rest form g (step form n k f (Create d shape)) (stirs {V = V} {C = C} {U = U} {S = S} (Create d shape) st) x b p
rest-create form n k g f st d shape may x b p rest' a e h j l m o r = grind (arith, nat_tests)

pub tied_saw : (s : State) (t d : ℕ) → (s.mark t d ≡ true → saw s t d ≡ true) → tied s t d ≡ true → saw s t d ≡ true
tied_saw s t d m h = grind (arith, nat_tests)

pub same_call : (x y : ℕ) → Some x ≡ Some y → x ≡ y
same_call x y e = cc

moment_after : (s : State) (y z : ℕ) → s.moment z ≡ true → (act_step s (Moment y)).moment z ≡ true
moment_after s y z m = grind (arith, nat_tests)

begun_before : (s : State) (x y z : ℕ) → x ≢ y → (act_step s (Moment y)).begun x z ≡ true → s.begun x z ≡ true
begun_before s x y z ne h = grind (arith, nat_tests)

other_moment : (s : State) (x y : ℕ) → s.moment x ≡ true → s.moment y ≡ false → x ≡ y → ⊥
other_moment s x y m f e = cc

-- no turn of the call had its moment after that of x, so it was so before
last_before : (n k : ℕ) (s : State) (e : Act) → May n k s e → (x : ℕ) → s.moment x ≡ true → IsLast (act_step s e) x → IsLast s x
last_before n k s (Grant y d) may x was last = last
last_before n k s (Free d) may x was last = last
last_before n k s (Share y d) may x was last = last
last_before n k s (Unshare y d) may x was last = last
last_before n k s (Moment y) may x was last = λ z c m ne. begun_before s x y z (other_moment s x y was may.0) (last z c (moment_after s y z m) ne)
last_before n k s (See y d) may x was last = last
last_before n k s (Keep y u) may x was last = last
last_before n k s (Carry u y d) may x was last = last
last_before n k s (Choose y q) may x was last = last
last_before n k s (Choose_kept y u q) may x was last = last
last_before n k s (Pre y d) may x was last = last
last_before n k s (Sink_pre y d) may x was last = last
last_before n k s (Post y d) may x was last = last
last_before n k s (Sink_post y d) may x was last = last
last_before n k s (Clear y d) may x was last = last
last_before n k s (Heal_grant y d) may x was last = last
last_before n k s (Heal_free d) may x was last = last
last_before n k s (Mark y d) may x was last = last
last_before n k s (Unmark y d) may x was last = last
last_before n k s (Maker_grant d) may x was last = last
last_before n k s (Maker_free d) may x was last = last
last_before n k s (Make d) may x was last = last
last_before n k s (Made d) may x was last = last
last_before n k s (Unmake d) may x was last = last
last_before n k s (Stop d) may x was last = last
last_before n k s (Replace d) may x was last = last

module _ {P V C U S : Type 0} (form : Form P V C U S) (n k : ℕ) (most : n < k + k) (fits : k ≤ n) (g f : File P V C U S) (i : Inv n k f.heads) (x : ℕ) (was : f.heads.moment x ≡ true) where
  tied_seen : (b : ℕ) → tied f.heads x b ≡ true → saw f.heads x b ≡ true
  tied_seen b t = tied_saw f.heads x b (λ q. ((i.local b).mark_seen x q).0) t

  -- whoever is promised the version of a moment had been committed by then
  pub then_one : (v y : ℕ) → FlatThen n k f.heads x v → Promised n k f.heads y → 0 < (f.heads.ballot y).number → target (f.heads.ballot y) ≡ v → (c : ℕ) × (f.heads.at_post x y c ≡ true)
  then_one v y (inl z) py number t = absurd (let o = (i.wide.origin_le y number).0 in omega arith)
  then_one v y (inr e) py number t =
      let c = some (f.heads.at_post x e.0) n (let q = e.1 in omega arith) in
      let pe = i.wide.whole e.0 c.0 ((i.local c.0).at_post_is x e.0 c.1).0 in
      ⊎_elim (λ (q : e.0 ≡ y). (c.0, subst (λ (z : ℕ). f.heads.at_post x z c.0 ≡ true) q c.1)) (λ ne. absurd (alike n k most fits f.heads i.local i.wide e.0 y ne pe py (e.2 ∙ sym t))) (either e.0 y)

  -- a turn that had begun at the moment of x holds no brick that x has asked since
  too_late : (y d : ℕ) → f.heads.begun x y ≡ true → y ≢ x → saw f.heads x d ≡ true → f.heads.holder d ≡ Some y → saw f.heads y d ≡ true → ⊥
  too_late y d begun ne seen holds looked = let l = (i.local d).too_late x y begun seen ne holds in let e = ((i.local d).saw y looked).1 in cc

  late_follow : (y d : ℕ) → May n k f.heads (Sink_post y d) → FlatThen n k f.heads x g.flat.version → tied f.heads x d ≡ true → target (f.heads.ballot y) ≡ g.flat.version → ⊥
  late_follow y d may then t e =
      let c = then_one g.flat.version y then (let q = may.5 in (omega arith, λ r. may.5)) may.2.number e in
      let begun = ((i.local c.0).at_post_is x y c.1).2 in
      too_late y d begun (i.wide.begun_moment x y begun).2 (tied_seen d t) may.0 may.3

  -- a copy at a sink of the last window x is its own
  own_copy : (y d : ℕ) (places : P → Bool) (pieces : P → C) → MayDo form n k f (Copy y d places pieces) → Fenced f (Copy y d places pieces) → IsLast f.heads x → CopyIs form n k g f x → (p : P) → f.heads.healer d ≡ Some (f.heads.call x) → tied f.heads x d ≡ true → places p ≡ true → f.heads.version d ≡ g.flat.version → g.flat.opener p ≡ Nobody → pieces p ≡ form.code (g.content p) d
  own_copy y d places pieces m fence last cp p healer t at v o = ⊎_elim mine (λ ne. absurd (others ne)) (either y x)
    where
      mine : y ≡ x → pieces p ≡ form.code (g.content p) d
      mine e = copy_of form n k g f x y d p (pieces p) cp e (m.3 p at) m.1 m.2 v o

      looked : saw f.heads y d ≡ true
      looked = tied_saw f.heads y d (λ q. ((i.local d).mark_seen y q).0) fence.2

      others : y ≢ x → ⊥
      others ne = too_late y d (last y (same_call (f.heads.call y) (f.heads.call x) (sym fence.0 ∙ healer)) ((i.local d).saw y looked).2 ne) ne (tied_seen d t) m.0 looked

  tied_granted : (b : ℕ) → tied f.heads x b ≡ true → f.heads.granted x b ≡ true
  tied_granted b t = ((i.local b).saw x (tied_seen b t)).0

  module _ (st : ℕ → ℕ → P → Bool) where
    rest_do : (e : Act) → May n k f.heads e → is_plain form n k e ≡ true → (b : ℕ) (p : P) → Rest form g f st x b p → Rest form g (step form n k f (Do e)) (stirs {V = V} {C = C} {U = U} {S = S} (Do e) st) x b p
    rest_do (Grant y d) may z b p r = r
    rest_do (Free d) may z b p r = r
    rest_do (Share y d) may z b p r = r
    rest_do (Unshare y d) may z b p r = r
    rest_do (Moment y) may z b p r = rest-moment form n k g f st y may x b p was r
    rest_do (See y d) may z b p r = absurd (cc)
    rest_do (Keep y u) may z b p r = r
    rest_do (Carry u y d) may z b p r = r
    rest_do (Choose y q) may z b p r = absurd (cc)
    rest_do (Choose_kept y u q) may z b p r = absurd (cc)
    rest_do (Pre y d) may z b p r = r
    rest_do (Sink_pre y d) may z b p r = r
    rest_do (Post y d) may z b p r = absurd (cc)
    rest_do (Sink_post y d) may z b p r = absurd (cc)
    rest_do (Clear y d) may z b p r = r
    rest_do (Heal_grant y d) may z b p r = rest-heal_grant form n k g f st y d may x b p (tied_granted d) r
    rest_do (Heal_free d) may z b p r = rest-heal_free form n k g f st d may x b p r
    rest_do (Mark y d) may z b p r = absurd (cc)
    rest_do (Unmark y d) may z b p r = absurd (cc)
    rest_do (Maker_grant d) may z b p r = r
    rest_do (Maker_free d) may z b p r = r
    rest_do (Make d) may z b p r = absurd (cc)
    rest_do (Made d) may z b p r = r
    rest_do (Unmake d) may z b p r = rest-unmake form n k g f st d may x b p r
    rest_do (Stop d) may z b p r = rest-stop form n k g f st d may x b p r
    rest_do (Replace d) may z b p r = rest-replace form n k g f st d may x b p r

    pub sink_step : (e : Deed P V C U S) → MayDo form n k f e → Fenced f e → FlatThen n k f.heads x g.flat.version → CopyIs form n k g f x → ((0 < (f.heads.ballot x).number → ⊥) → f.planned x ≡ false) → (b : ℕ) (p : P) → View form g f x b p → Sink form g f st x b p → Sink form g (step form n k f e) (stirs e st) x b p
    sink_step (Do e) m fence then cp free b p view s = λ last. rest_do e m.0 m.1 b p (s (last_before n k f.heads e m.0 x was last))
    sink_step (Look y d) m fence then cp free b p view s = λ last. rest-look form n k g f st y d m x b p (λ ex eb. looks ex eb) (s last)
      where
        looks : x ≡ y → b ≡ d → f.heads.present d ≡ true → f.heads.version d ≡ g.flat.version → g.flat.opener p ≡ Nobody → f.synced d p ≡ true → f.piece d p ≡ form.code (g.content p) d
        looks ex eb h v o q =
            let mx = subst (λ (u : ℕ). May n k f.heads (See u d)) (sym ex) m in
            let there = subst (λ (u : ℕ). View form g f x u p) eb view in
            there (⊎_elim (λ z. inr (z, free (λ l. let u = mx.4 in omega arith))) (λ z. inl z) mx.0) mx.1 was h v o q
    sink_step (Take y q shape) m fence then cp free b p view s = s
    sink_step (Take_kept y u q) m fence then cp free b p view s = s
    sink_step (Read y d places) m fence then cp free b p view s = s
    sink_step (Intend y plan) m fence then cp free b p view s = s
    sink_step (Write y d places) m fence then cp free b p view s = λ last. rest-write form n k g f st y d places m x b p (s last)
    sink_step (Tear y d places pieces) m fence then cp free b p view s = λ last. rest-tear form n k g f st y d places pieces m x b p (s last)
    sink_step (Copy y d places pieces) m fence then cp free b p view s = λ last. rest-copy form n k g f st y d places pieces m x b p (own_copy y d places pieces m fence last cp p) (s last)
    sink_step (Spoil d places pieces) m fence then cp free b p view s = λ last. rest-spoil form n k g f st d places pieces m x b p (s last)
    sink_step (Commit y d) m fence then cp free b p view s = λ last. rest-commit form n k g f st y d m x b p (s last)
    sink_step (Follow y d) m fence then cp free b p view s = λ last. rest-follow form n k g f st y d m x b p (late_follow y d m.0 then) (s last)
    sink_step (Begin y d) m fence then cp free b p view s = λ last. rest-begin form n k g f st y d m x b p (s last)
    sink_step (Finish y d) m fence then cp free b p view s = λ last. rest-finish form n k g f st y d m x b p (s last)
    sink_step (Create d shape) m fence then cp free b p view s = λ last. rest-create form n k g f st d shape m x b p (s last)
