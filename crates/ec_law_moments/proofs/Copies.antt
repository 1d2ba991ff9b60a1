-- What heals have copied stays what they had read, and under a grant no data request comes between.
use Rattle.std.proofs.Common.{◌≡◌, ℕ, Bool, true, false, cond, ◌==◌, ◌&&◌, Some, refl, sym, ◌∙◌, subst, arith, eqb-true}
use Rattle.std.proofs.lemmas.Bool.Decides.{nat_tests}
use Rattle.ec_law_base.specs.State.{State}
use Rattle.ec_law_ballots.specs.Act.{Act}
use Rattle.ec_law_ballots.specs.Act.Act.{Grant, Free, Share, Unshare, Moment, See, Keep, Carry, Choose, Choose_kept, Pre, Sink_pre, Post, Sink_post, Clear, Heal_grant, Heal_free, Mark, Unmark, Maker_grant, Maker_free, Make, Made, Unmake, Stop, Replace}
use Rattle.ec_law_ballots.specs.Guard.{May}
use Rattle.ec_law_quorum.specs.Wide.{Inv}
use Rattle.ec_law_pieces.specs.File.{Form, File}
use Rattle.ec_law_pieces.specs.Deed.{Deed, Plan, step, MayDo, IsCopy, is_plain}
use Rattle.ec_law_pieces.specs.Deed.Deed.{Do, Look, Take, Take_kept, Read, Intend, Write, Tear, Copy, Spoil, Commit, Follow, Begin, Finish, Create}
use Rattle.ec_law_moments.specs.Windows.{Source, Fenced, stirs, copies}
use Rattle.ec_law_moments.proofs.Sinks.{tied_saw, same_call}

-- while a turn holds a brick and plans no commit, no data request has been executed there since its moment
abbrev pub Calm : {P V C U S : Type 0} → File P V C U S → (ℕ → ℕ → P → Bool) → ℕ → ℕ → P → Type 0
Calm f st x b p = f.heads.holder b ≡ Some x → f.heads.early x b ≡ true → f.heads.moment x ≡ true → f.planned x ≡ false → st x b p ≡ false

-- what a copy wrote is what its window had read, but where a data request was executed since
abbrev pub IsCopied : {P V C U S : Type 0} → Form P V C U S → ℕ → ℕ → File P V C U S → (ℕ → ℕ → P → Bool) → ℕ → P → Source P V C U S → C → Type 0
IsCopied form n k f st b p c y = (f.heads.moment c.turn ≡ true) × (st c.turn b p ≡ false → IsCopy form n k c.file c.turn b p y)

abbrev pub Copied : {P V C U S : Type 0} → Form P V C U S → ℕ → ℕ → File P V C U S → (ℕ → ℕ → P → Bool) → (ℕ → P → Source P V C U S) → ℕ → P → Type 0
Copied form n k f st c b p = f.heads.marked b ≡ true → f.synced b p ≡ true → IsCopied form n k f st b p (c b p) (f.piece b p)

-- as long as the heal that marked a brick has its Heal grant, the copies are its own
abbrev pub Own : {P V C U S : Type 0} → File P V C U S → (ℕ → P → Source P V C U S) → ℕ → ℕ → P → Type 0
Own f c x b p = f.heads.mark x b ≡ true → f.heads.healer b ≡ Some (f.heads.call x) → f.heads.marked b ≡ true → f.synced b p ≡ true → f.heads.call (c b p).turn ≡ f.heads.call x

calm-grant : {P V C U S : Type 0} (form : Form P V C U S) (n k : ℕ) (f : File P V C U S) (st : ℕ → ℕ → P → Bool) (y d : ℕ) → May n k f.heads (Grant y d) → (x b : ℕ) (p : P) → Calm f st x b p → Calm (step form n k f (Do (Grant y d))) (stirs {V = V} {C = C} {U = U} {S = S} (Do (Grant y d)) st) x b p
calm-grant form n k f st y d may x b p calm' h e m q = grind (arith, nat_tests)

calm-free : {P V C U S : Type 0} (form : Form P V C U S) (n k : ℕ) (f : File P V C U S) (st : ℕ → ℕ → P → Bool) (d : ℕ) → May n k f.heads (Free d) → (x b : ℕ) (p : P) → Calm f st x b p → Calm (step form n k f (Do (Free d))) (stirs {V = V} {C = C} {U = U} {S = S} (Do (Free d)) st) x b p
calm-free form n k f st d may x b p calm' h e m q = grind (arith, nat_tests)

calm-share : {P V C U S : Type 0} (form : Form P V C U S) (n k : ℕ) (f : File P V C U S) (st : ℕ → ℕ → P → Bool) (y d : ℕ) → May n k f.heads (Share y d) → (x b : ℕ) (p : P) → Calm f st x b p → Calm (step form n k f (Do (Share y d))) (stirs {V = V} {C = C} {U = U} {S = S} (Do (Share y d)) st) x b p
calm-share form n k f st y d may x b p calm' h e m q = grind (arith, nat_tests)

calm-moment : {P V C U S : Type 0} (form : Form P V C U S) (n k : ℕ) (f : File P V C U S) (st : ℕ → ℕ → P → Bool) (y : ℕ) → May n k f.heads (Moment y) → (x b : ℕ) (p : P) → Calm f st x b p → Calm (step form n k f (Do (Moment y))) (stirs {V = V} {C = C} {U = U} {S = S} (Do (Moment y)) st) x b p
calm-moment form n k f st y may x b p calm' h e m q = grind (arith, nat_tests)

calm-carry : {P V C U S : Type 0} (form : Form P V C U S) (n k : ℕ) (f : File P V C U S) (st : ℕ → ℕ → P → Bool) (u y d : ℕ) → May n k f.heads (Carry u y d) → (x b : ℕ) (p : P) → Calm f st x b p → Calm (step form n k f (Do (Carry u y d))) (stirs {V = V} {C = C} {U = U} {S = S} (Do (Carry u y d)) st) x b p
calm-carry form n k f st u y d may x b p calm' h e m q = grind (arith, nat_tests)

calm-stop : {P V C U S : Type 0} (form : Form P V C U S) (n k : ℕ) (f : File P V C U S) (st : ℕ → ℕ → P → Bool) (d : ℕ) → May n k f.heads (Stop d) → (x b : ℕ) (p : P) → Calm f st x b p → Calm (step form n k f (Do (Stop d))) (stirs {V = V} {C = C} {U = U} {S = S} (Do (Stop d)) st) x b p
calm-stop form n k f st d may x b p calm' h e m q = grind (arith, nat_tests)

calm-intend : {P V C U S : Type 0} (form : Form P V C U S) (n k : ℕ) (f : File P V C U S) (st : ℕ → ℕ → P → Bool) (y : ℕ) (plan : Plan P V U S) → MayDo form n k f (Intend y plan) → (x b : ℕ) (p : P) → Calm f st x b p → Calm (step form n k f (Intend y plan)) (stirs {V = V} {C = C} {U = U} {S = S} (Intend y plan) st) x b p
calm-intend form n k f st y plan may x b p calm' h e m q = grind (arith, nat_tests)

calm-write : {P V C U S : Type 0} (form : Form P V C U S) (n k : ℕ) (f : File P V C U S) (st : ℕ → ℕ → P → Bool) (y d : ℕ) (places : P → Bool) → MayDo form n k f (Write y d places) → (x b : ℕ) (p : P) → Calm f st x b p → Calm (step form n k f (Write y d places)) (stirs {V = V} {C = C} {U = U} {S = S} (Write y d places) st) x b p
calm-write form n k f st y d places may x b p calm' h e m q = grind (arith, nat_tests)

calm-tear : {P V C U S : Type 0} (form : Form P V C U S) (n k : ℕ) (f : File P V C U S) (st : ℕ → ℕ → P → Bool) (y d : ℕ) (places : P → Bool) (pieces : P → C) → MayDo form n k f (Tear y d places pieces) → (x b : ℕ) (p : P) → Calm f st x b p → Calm (step form n k f (Tear y d places pieces)) (stirs {V = V} {C = C} {U = U} {S = S} (Tear y d places pieces) st) x b p
calm-tear form n k f st y d places pieces may x b p calm' h e m q = grind (arith, nat_tests)

own-heal_grant : {P V C U S : Type 0} (form : Form P V C U S) (n k : ℕ) (f : File P V C U S) (c : ℕ → P → Source P V C U S) (y d : ℕ) → May n k f.heads (Heal_grant y d) → (x b : ℕ) (p : P) → (f.heads.mark x d ≡ true → f.heads.granted x d ≡ true) → Own f c x b p → Own (step form n k f (Do (Heal_grant y d))) (copies (Do (Heal_grant y d)) f c) x b p
own-heal_grant form n k f c y d may x b p mg own' m h j l = grind (arith, nat_tests)

own-heal_free : {P V C U S : Type 0} (form : Form P V C U S) (n k : ℕ) (f : File P V C U S) (c : ℕ → P → Source P V C U S) (d : ℕ) → May n k f.heads (Heal_free d) → (x b : ℕ) (p : P) → Own f c x b p → Own (step form n k f (Do (Heal_free d))) (copies (Do (Heal_free d)) f c) x b p
own-heal_free form n k f c d may x b p own' m h j l = grind (arith, nat_tests)

own-stop : {P V C U S : Type 0} (form : Form P V C U S) (n k : ℕ) (f : File P V C U S) (c : ℕ → P → Source P V C U S) (d : ℕ) → May n k f.heads (Stop d) → (x b : ℕ) (p : P) → Own f c x b p → Own (step form n k f (Do (Stop d))) (copies (Do (Stop d)) f c) x b p
own-stop form n k f c d may x b p own' m h j l = grind (arith, nat_tests)

own-copy : {P V C U S : Type 0} (form : Form P V C U S) (n k : ℕ) (f : File P V C U S) (c : ℕ → P → Source P V C U S) (y d : ℕ) (places : P → Bool) (pieces : P → C) → MayDo form n k f (Copy y d places pieces) → (x b : ℕ) (p : P) → (f.heads.healer d ≡ Some (f.heads.call x) → f.heads.call y ≡ f.heads.call x) → Own f c x b p → Own (step form n k f (Copy y d places pieces)) (copies (Copy y d places pieces) f c) x b p
own-copy form n k f c y d places pieces may x b p one own' m h j l = grind (arith, nat_tests)

own-spoil : {P V C U S : Type 0} (form : Form P V C U S) (n k : ℕ) (f : File P V C U S) (c : ℕ → P → Source P V C U S) (d : ℕ) (places : P → Bool) (pieces : P → C) → MayDo form n k f (Spoil d places pieces) → (x b : ℕ) (p : P) → Own f c x b p → Own (step form n k f (Spoil d places pieces)) (copies (Spoil d places pieces) f c) x b p
own-spoil form n k f c d places pieces may x b p own' m h j l = grind (arith, nat_tests)

own-begin : {P V C U S : Type 0} (form : Form P V C U S) (n k : ℕ) (f : File P V C U S) (c : ℕ → P → Source P V C U S) (y d : ℕ) → MayDo form n k f (Begin y d) → (x b : ℕ) (p : P) → Own f c x b p → Own (step form n k f (Begin y d)) (copies (Begin y d) f c) x b p
own-begin form n k f c y d may x b p own' m h j l = grind (arith, nat_tests)

own-finish : {P V C U S : Type 0} (form : Form P V C U S) (n k : ℕ) (f : File P V C U S) (c : ℕ → P → Source P V C U S) (y d : ℕ) → MayDo form n k f (Finish y d) → (x b : ℕ) (p : P) → Own f c x b p → Own (step form n k f (Finish y d)) (copies (Finish y d) f c) x b p
own-finish form n k f c y d may x b p own' m h j l = grind (arith, nat_tests)

own-create : {P V C U S : Type 0} (form : Form P V C U S) (n k : ℕ) (f : File P V C U S) (c : ℕ → P → Source P V C U S) (d : ℕ) (shape : S) → MayDo form n k f (Create d shape) → (x b : ℕ) (p : P) → Own f c x b p → Own (step form n k f (Create d shape)) (copies (Create d shape) f c) x b p
own-create form n k f c d shape may x b p own' m h j l = grind (arith, nat_tests)

-- what is said of a place that is put, or not
put_stirred : {C : Type 0} (u s : Bool) (old new : C) (R : C → Type 0) → (s ≡ false → R old) → cond u true s ≡ false → R (cond u new old)
put_stirred true s old new R h e = absurd (cc)
put_stirred false s old new R h e = h e

put_copied : {X C : Type 0} (u s : Bool) (from to : X) (old new : C) (R : X → C → Type 0) → (s ≡ true → R from old) → (u ≡ true → R to new) → cond u true s ≡ true → R (cond u to from) (cond u new old)
put_copied true s from to old new R h g e = g refl
put_copied false s from to old new R h g e = h e

put_spoiled : {C : Type 0} (u s : Bool) (old new : C) (R : C → Type 0) → (s ≡ true → R old) → cond u false s ≡ true → R (cond u new old)
put_spoiled true s old new R h e = absurd (cc)
put_spoiled false s old new R h e = h e

put_begun : (u m s : Bool) (R : Type 0) → (m ≡ true → s ≡ true → R) → cond u true m ≡ true → cond u false s ≡ true → R
put_begun true m s R h e g = absurd (cc)
put_begun false m s R h e g = h e g

put_made : {C : Type 0} (u m s : Bool) (old new : C) (R : C → Type 0) → (m ≡ true → s ≡ true → R old) → cond u false m ≡ true → cond u true s ≡ true → R (cond u new old)
put_made true m s old new R h e g = absurd (cc)
put_made false m s old new R h e g = h e g

put_finished : (u m : Bool) (R : Type 0) → (m ≡ true → R) → cond u false m ≡ true → R
put_finished true m R h e = absurd (cc)
put_finished false m R h e = h e

put_moment : (u m s : Bool) (R : Type 0) → (u ≡ true → ⊥) → (m ≡ true) × (s ≡ false → R) → (cond u true m ≡ true) × (cond u false s ≡ false → R)
put_moment true m s R never h = absurd (never refl)
put_moment false m s R never h = h

both_parts : {P : Type 0} (b d : ℕ) (places : P → Bool) (p : P) → ((b == d) && places p) ≡ true → (b ≡ d) × (places p ≡ true)
both_parts b d places p e = (grind (arith, nat_tests), grind (arith, nat_tests))

no_moment : (s : State) (t y : ℕ) → s.moment t ≡ true → s.moment y ≡ false → t ≡ y → ⊥
no_moment s t y m f e = cc

-- what holds of the sinks of heals
pub record Heals {P V C U S : Type 0} (form : Form P V C U S) (n k : ℕ) (f : File P V C U S) (st : ℕ → ℕ → P → Bool) (c : ℕ → P → Source P V C U S) : Type 0 where
  pub calm : (x b : ℕ) (p : P) → Calm f st x b p
  pub copied : (b : ℕ) (p : P) → Copied form n k f st c b p
  pub own : (x b : ℕ) (p : P) → Own f c x b p

module _ {P V C U S : Type 0} (form : Form P V C U S) (n k : ℕ) (f : File P V C U S) (i : Inv n k f.heads) (st : ℕ → ℕ → P → Bool) (c : ℕ → P → Source P V C U S) (h : Heals form n k f st c) where
  mark_granted : (x d : ℕ) → f.heads.mark x d ≡ true → f.heads.granted x d ≡ true
  mark_granted x d m = ((i.local d).saw x ((i.local d).mark_seen x m).0).0

  abbrev pub HealsAfter : Deed P V C U S → Type 0
  HealsAfter e = Heals form n k (step form n k f e) (stirs e st) (copies e f c)

  copied_moment : (y : ℕ) → May n k f.heads (Moment y) → (b : ℕ) (p : P) → Copied form n k (step form n k f (Do (Moment y))) (stirs {V = V} {C = C} {U = U} {S = S} (Do (Moment y)) st) c b p
  copied_moment y may b p m s =
      let o = h.copied b p m s in
      put_moment ((c b p).turn == y) (f.heads.moment (c b p).turn) (st (c b p).turn b p) (IsCopy form n k (c b p).file (c b p).turn b p (f.piece b p)) (λ e. no_moment f.heads (c b p).turn y o.0 may.0 (eqb-true (c b p).turn y e)) o

  heals_do : (e : Act) → May n k f.heads e → is_plain form n k e ≡ true → HealsAfter (Do e)
  heals_do (Grant y d) may z = record { calm = λ x b p. calm-grant form n k f st y d may x b p (h.calm x b p); copied = h.copied; own = h.own }
  heals_do (Free d) may z = record { calm = λ x b p. calm-free form n k f st d may x b p (h.calm x b p); copied = h.copied; own = h.own }
  heals_do (Share y d) may z = record { calm = λ x b p. calm-share form n k f st y d may x b p (h.calm x b p); copied = h.copied; own = h.own }
  heals_do (Unshare y d) may z = record { calm = h.calm; copied = h.copied; own = h.own }
  heals_do (Moment y) may z = record { calm = λ x b p. calm-moment form n k f st y may x b p (h.calm x b p); copied = copied_moment y may; own = h.own }
  heals_do (See y d) may z = absurd (cc)
  heals_do (Keep y u) may z = record { calm = h.calm; copied = h.copied; own = h.own }
  heals_do (Carry u y d) may z = record { calm = λ x b p. calm-carry form n k f st u y d may x b p (h.calm x b p); copied = h.copied; own = h.own }
  heals_do (Choose y q) may z = absurd (cc)
  heals_do (Choose_kept y u q) may z = absurd (cc)
  heals_do (Pre y d) may z = record { calm = h.calm; copied = h.copied; own = h.own }
  heals_do (Sink_pre y d) may z = record { calm = h.calm; copied = h.copied; own = h.own }
  heals_do (Post y d) may z = absurd (cc)
  heals_do (Sink_post y d) may z = absurd (cc)
  heals_do (Clear y d) may z = record { calm = h.calm; copied = h.copied; own = h.own }
  heals_do (Heal_grant y d) may z = record { calm = h.calm; copied = h.copied; own = λ x b p. own-heal_grant form n k f c y d may x b p (mark_granted x d) (h.own x b p) }
  heals_do (Heal_free d) may z = record { calm = h.calm; copied = h.copied; own = λ x b p. own-heal_free form n k f c d may x b p (h.own x b p) }
  heals_do (Mark y d) may z = absurd (cc)
  heals_do (Unmark y d) may z = absurd (cc)
  heals_do (Maker_grant d) may z = record { calm = h.calm; copied = h.copied; own = h.own }
  heals_do (Maker_free d) may z = record { calm = h.calm; copied = h.copied; own = h.own }
  heals_do (Make d) may z = absurd (cc)
  heals_do (Made d) may z = record { calm = h.calm; copied = h.copied; own = h.own }
  heals_do (Unmake d) may z = record { calm = h.calm; copied = h.copied; own = h.own }
  heals_do (Stop d) may z = record { calm = λ x b p. calm-stop form n k f st d may x b p (h.calm x b p); copied = h.copied; own = λ x b p. own-stop form n k f c d may x b p (h.own x b p) }
  heals_do (Replace d) may z = record { calm = h.calm; copied = h.copied; own = h.own }

  copied_copy : (y d : ℕ) (places : P → Bool) (pieces : P → C) → MayDo form n k f (Copy y d places pieces) → Fenced f (Copy y d places pieces) → (b : ℕ) (p : P) → Copied form n k (step form n k f (Copy y d places pieces)) st (copies (Copy y d places pieces) f c) b p
  copied_copy y d places pieces m fence b p marked s =
      put_copied ((b == d) && places p) (f.synced b p) (c b p) (record { turn = y; file = f }) (f.piece b p) (pieces p) (λ (z : Source P V C U S) (y : C). IsCopied form n k f st b p z y) (h.copied b p marked) (λ e. let q = both_parts b d places p e in ((now, λ r. subst (λ (u : ℕ). IsCopy form n k f y u p (pieces p)) (sym q.0) (m.3 p q.1)))) s
    where
      now : f.heads.moment y ≡ true
      now = ((i.local d).saw y (tied_saw f.heads y d (λ q. ((i.local d).mark_seen y q).0) fence.2)).2

  pub heals_step : (e : Deed P V C U S) → MayDo form n k f e → Fenced f e → HealsAfter e
  heals_step (Do e) m fence = heals_do e m.0 m.1
  heals_step (Look y d) m fence = record { calm = h.calm; copied = h.copied; own = h.own }
  heals_step (Take y q shape) m fence = record { calm = h.calm; copied = h.copied; own = h.own }
  heals_step (Take_kept y u q) m fence = record { calm = h.calm; copied = h.copied; own = h.own }
  heals_step (Read y d places) m fence = record { calm = h.calm; copied = h.copied; own = h.own }
  heals_step (Intend y plan) m fence = record { calm = λ x b p. calm-intend form n k f st y plan m x b p (h.calm x b p); copied = h.copied; own = h.own }
  heals_step (Write y d places) m fence = record { calm = λ x b p. calm-write form n k f st y d places m x b p (h.calm x b p); copied = λ b p m s. let o = h.copied b p m s in (o.0, λ e. put_stirred ((b == d) && places p) (st (c b p).turn b p) (f.piece b p) (form.code (f.value y p) d) (λ (y : C). IsCopy form n k (c b p).file (c b p).turn b p y) o.1 e); own = h.own }
  heals_step (Tear y d places pieces) m fence = record { calm = λ x b p. calm-tear form n k f st y d places pieces m x b p (h.calm x b p); copied = λ b p m s. let o = h.copied b p m s in (o.0, λ e. put_stirred ((b == d) && places p) (st (c b p).turn b p) (f.piece b p) (pieces p) (λ (y : C). IsCopy form n k (c b p).file (c b p).turn b p y) o.1 e); own = h.own }
  heals_step (Copy y d places pieces) m fence = record { calm = h.calm; copied = copied_copy y d places pieces m fence; own = λ x b p. own-copy form n k f c y d places pieces m x b p (λ q. same_call (f.heads.call y) (f.heads.call x) (sym fence.0 ∙ q)) (h.own x b p) }
  heals_step (Spoil d places pieces) m fence = record { calm = h.calm; copied = λ b p m s. put_spoiled ((b == d) && places p) (f.synced b p) (f.piece b p) (pieces p) (λ (y : C). IsCopied form n k f st b p (c b p) y) (h.copied b p m) s; own = λ x b p. own-spoil form n k f c d places pieces m x b p (h.own x b p) }
  heals_step (Commit y d) m fence = record { calm = h.calm; copied = h.copied; own = h.own }
  heals_step (Follow y d) m fence = record { calm = h.calm; copied = h.copied; own = h.own }
  heals_step (Begin y d) m fence = record { calm = h.calm; copied = λ b p m s. put_begun (b == d) (f.heads.marked b) (f.synced b p) (IsCopied form n k f st b p (c b p) (f.piece b p)) (h.copied b p) m s; own = λ x b p. own-begin form n k f c y d m x b p (h.own x b p) }
  heals_step (Finish y d) m fence = record { calm = h.calm; copied = λ b p m s. put_finished (b == d) (f.heads.marked b) (IsCopied form n k f st b p (c b p) (f.piece b p)) (λ q. h.copied b p q s) m; own = λ x b p. own-finish form n k f c y d m x b p (h.own x b p) }
  heals_step (Create d shape) m fence = record { calm = h.calm; copied = λ b p m s. put_made (b == d) (f.heads.marked b) (f.synced b p) (f.piece b p) (form.code form.zero d) (λ (y : C). IsCopied form n k f st b p (c b p) y) (h.copied b p) m s; own = λ x b p. own-create form n k f c d shape m x b p (h.own x b p) }
