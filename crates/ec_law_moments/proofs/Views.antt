-- While a turn has a shared grant, or an exclusive one and plans no commit, what it could read of a place that was closed at
-- its moment stays.
use Rattle.std.proofs.Common.{◌≡◌, ◌⊎◌, ℕ, Bool, true, false, Some, refl, subst, arith}
use Rattle.std.proofs.lemmas.Bool.Decides.{nat_tests}
use Rattle.ec_history.specs.Flat.Opener.{Nobody}
use Rattle.ec_law_ballots.specs.Act.{Act}
use Rattle.ec_law_ballots.specs.Act.Act.{Grant, Free, Share, Unshare, Moment, See, Keep, Carry, Choose, Choose_kept, Pre, Sink_pre, Post, Sink_post, Clear, Heal_grant, Heal_free, Mark, Unmark, Maker_grant, Maker_free, Make, Made, Unmake, Stop, Replace}
use Rattle.ec_law_ballots.specs.Guard.{May}
use Rattle.ec_law_ballots.specs.Clauses.{SharedNone}
use Rattle.ec_law_quorum.specs.Wide.{Inv}
use Rattle.ec_law_pieces.specs.File.{Form, File}
use Rattle.ec_law_pieces.specs.Deed.{Deed, Plan, step, MayDo, HasBase, IsCopy, is_plain}
use Rattle.ec_law_pieces.specs.Deed.Deed.{Do, Look, Take, Take_kept, Read, Intend, Write, Tear, Copy, Spoil, Commit, Follow, Begin, Finish, Create}
use Rattle.ec_law_moments.proofs.Held.{Stays, stays}

-- what lets turn x see brick b
abbrev pub MaySee : {P V C U S : Type 0} → File P V C U S → ℕ → ℕ → Type 0
MaySee f x b = (f.heads.shares x b ≡ true) ⊎ ((f.heads.holder b ≡ Some x) × (f.planned x ≡ false))

-- what turn x copies of a place that was closed is the code of what the flat value g was
abbrev pub CopyIs : {P V C U S : Type 0} → Form P V C U S → ℕ → ℕ → File P V C U S → File P V C U S → ℕ → Type 0
CopyIs {P} {V} {C} form n k g f x =
    (d : ℕ) (p : P) (z : C) → IsCopy form n k f x d p z → HasBase form n k f x d → f.planned x ≡ false → f.heads.version d ≡ g.flat.version → g.flat.opener p ≡ Nobody → z ≡ form.code (g.content p) d

pub copy_of : {P V C U S : Type 0} (form : Form P V C U S) (n k : ℕ) (g f : File P V C U S) (x y d : ℕ) (p : P) (z : C) → CopyIs form n k g f x → y ≡ x → IsCopy form n k f y d p z → HasBase form n k f y d → f.planned y ≡ false → f.heads.version d ≡ g.flat.version → g.flat.opener p ≡ Nobody → z ≡ form.code (g.content p) d
copy_of form n k g f x y d p z cp e c h q a o = cp d p z (subst (λ (u : ℕ). IsCopy form n k f u d p z) e c) (subst (λ (u : ℕ). HasBase form n k f u d) e h) (subst (λ (u : ℕ). f.planned u ≡ false) e q) a o

-- turn x sees at brick b what the flat value g was
abbrev pub View : {P V C U S : Type 0} → Form P V C U S → File P V C U S → File P V C U S → ℕ → ℕ → P → Type 0
View form g f x b p =
    MaySee f x b → f.heads.early x b ≡ true → f.heads.moment x ≡ true → f.heads.present b ≡ true → f.heads.version b ≡ g.flat.version → g.flat.opener p ≡ Nobody → f.synced b p ≡ true → f.piece b p ≡ form.code (g.content p) b

view-grant : {P V C U S : Type 0} (form : Form P V C U S) (n k : ℕ) (g f : File P V C U S) (y d : ℕ) → May n k f.heads (Grant y d) → (x b : ℕ) (p : P) → View form g f x b p → View form g (step form n k f (Do (Grant y d))) x b p
view-grant form n k g f y d may x b p view' e h j l m o r = grind (arith, nat_tests)

view-free : {P V C U S : Type 0} (form : Form P V C U S) (n k : ℕ) (g f : File P V C U S) (d : ℕ) → May n k f.heads (Free d) → (x b : ℕ) (p : P) → View form g f x b p → View form g (step form n k f (Do (Free d))) x b p
view-free form n k g f d may x b p view' e h j l m o r = grind (arith, nat_tests)

view-share : {P V C U S : Type 0} (form : Form P V C U S) (n k : ℕ) (g f : File P V C U S) (y d : ℕ) → May n k f.heads (Share y d) → (x b : ℕ) (p : P) → View form g f x b p → View form g (step form n k f (Do (Share y d))) x b p
view-share form n k g f y d may x b p view' e h j l m o r = grind (arith, nat_tests)

view-unshare : {P V C U S : Type 0} (form : Form P V C U S) (n k : ℕ) (g f : File P V C U S) (y d : ℕ) → May n k f.heads (Unshare y d) → (x b : ℕ) (p : P) → View form g f x b p → View form g (step form n k f (Do (Unshare y d))) x b p
view-unshare form n k g f y d may x b p view' e h j l m o r = grind (arith, nat_tests)

view-carry : {P V C U S : Type 0} (form : Form P V C U S) (n k : ℕ) (g f : File P V C U S) (u y d : ℕ) → May n k f.heads (Carry u y d) → SharedNone f.heads d → (x b : ℕ) (p : P) → View form g f x b p → View form g (step form n k f (Do (Carry u y d))) x b p
view-carry form n k g f u y d may none x b p view' e h j l m o r = grind (arith, nat_tests)

view-unmake : {P V C U S : Type 0} (form : Form P V C U S) (n k : ℕ) (g f : File P V C U S) (d : ℕ) → May n k f.heads (Unmake d) → (x b : ℕ) (p : P) → View form g f x b p → View form g (step form n k f (Do (Unmake d))) x b p
view-unmake form n k g f d may x b p view' e h j l m o r = grind (arith, nat_tests)

view-stop : {P V C U S : Type 0} (form : Form P V C U S) (n k : ℕ) (g f : File P V C U S) (d : ℕ) → May n k f.heads (Stop d) → (x b : ℕ) (p : P) → View form g f x b p → View form g (step form n k f (Do (Stop d))) x b p
view-stop form n k g f d may x b p view' e h j l m o r = grind (arith, nat_tests)

view-replace : {P V C U S : Type 0} (form : Form P V C U S) (n k : ℕ) (g f : File P V C U S) (d : ℕ) → May n k f.heads (Replace d) → (x b : ℕ) (p : P) → View form g f x b p → View form g (step form n k f (Do (Replace d))) x b p
view-replace form n k g f d may x b p view' e h j l m o r = grind (arith, nat_tests)

view-write : {P V C U S : Type 0} (form : Form P V C U S) (n k : ℕ) (g f : File P V C U S) (y d : ℕ) (places : P → Bool) → MayDo form n k f (Write y d places) → SharedNone f.heads d → (x b : ℕ) (p : P) → View form g f x b p → View form g (step form n k f (Write y d places)) x b p
view-write form n k g f y d places may none x b p view' e h j l m o r = grind (arith, nat_tests)

view-tear : {P V C U S : Type 0} (form : Form P V C U S) (n k : ℕ) (g f : File P V C U S) (y d : ℕ) (places : P → Bool) (pieces : P → C) → MayDo form n k f (Tear y d places pieces) → SharedNone f.heads d → (x b : ℕ) (p : P) → View form g f x b p → View form g (step form n k f (Tear y d places pieces)) x b p
view-tear form n k g f y d places pieces may none x b p view' e h j l m o r = grind (arith, nat_tests)

view-copy : {P V C U S : Type 0} (form : Form P V C U S) (n k : ℕ) (g f : File P V C U S) (y d : ℕ) (places : P → Bool) (pieces : P → C) → MayDo form n k f (Copy y d places pieces) → SharedNone f.heads d → (x b : ℕ) (p : P) → (y ≡ x → places p ≡ true → f.heads.version d ≡ g.flat.version → g.flat.opener p ≡ Nobody → pieces p ≡ form.code (g.content p) d) → View form g f x b p → View form g (step form n k f (Copy y d places pieces)) x b p
view-copy form n k g f y d places pieces may none x b p own view' e h j l m o r = grind (arith, nat_tests)

view-spoil : {P V C U S : Type 0} (form : Form P V C U S) (n k : ℕ) (g f : File P V C U S) (d : ℕ) (places : P → Bool) (pieces : P → C) → MayDo form n k f (Spoil d places pieces) → (x b : ℕ) (p : P) → View form g f x b p → View form g (step form n k f (Spoil d places pieces)) x b p
view-spoil form n k g f d places pieces may x b p view' e h j l m o r = grind (arith, nat_tests)

view-commit : {P V C U S : Type 0} (form : Form P V C U S) (n k : ℕ) (g f : File P V C U S) (y d : ℕ) → MayDo form n k f (Commit y d) → SharedNone f.heads d → (x b : ℕ) (p : P) → View form g f x b p → View form g (step form n k f (Commit y d)) x b p
view-commit form n k g f y d may none x b p view' e h j l m o r = grind (arith, nat_tests)

view-follow : {P V C U S : Type 0} (form : Form P V C U S) (n k : ℕ) (g f : File P V C U S) (y d : ℕ) → MayDo form n k f (Follow y d) → SharedNone f.heads d → (x b : ℕ) (p : P) → View form g f x b p → View form g (step form n k f (Follow y d)) x b p
view-follow form n k g f y d may none x b p view' e h j l m o r = grind (arith, nat_tests)

view-begin : {P V C U S : Type 0} (form : Form P V C U S) (n k : ℕ) (g f : File P V C U S) (y d : ℕ) → MayDo form n k f (Begin y d) → SharedNone f.heads d → (x b : ℕ) (p : P) → View form g f x b p → View form g (step form n k f (Begin y d)) x b p
view-begin form n k g f y d may none x b p view' e h j l m o r = grind (arith, nat_tests)

view-create : {P V C U S : Type 0} (form : Form P V C U S) (n k : ℕ) (g f : File P V C U S) (d : ℕ) (shape : S) → MayDo form n k f (Create d shape) → (g.flat.version ≡ 0 → (p : P) → g.content p ≡ form.zero) → (x b : ℕ) (p : P) → View form g f x b p → View form g (step form n k f (Create d shape)) x b p
view-create form n k g f d shape may zero x b p view' e h j l m o r = grind (arith, nat_tests)

view-intend : {P V C U S : Type 0} (form : Form P V C U S) (n k : ℕ) (g f : File P V C U S) (y : ℕ) (plan : Plan P V U S) → (x b : ℕ) (p : P) → View form g f x b p → View form g (step form n k f (Intend y plan)) x b p
view-intend form n k g f y plan x b p view' e h j l m o r = grind (arith, nat_tests)

module _ {P V C U S : Type 0} (form : Form P V C U S) (n k : ℕ) (g f : File P V C U S) (i : Inv n k f.heads) where
  view_do : (e : Act) → May n k f.heads e → is_plain form n k e ≡ true → (x b : ℕ) (p : P) → (f.heads.moment x ≡ true) → View form g f x b p → View form g (step form n k f (Do e)) x b p
  view_do (Grant y d) may z x b p was v = view-grant form n k g f y d may x b p v
  view_do (Free d) may z x b p was v = view-free form n k g f d may x b p v
  view_do (Share y d) may z x b p was v = view-share form n k g f y d may x b p v
  view_do (Unshare y d) may z x b p was v = view-unshare form n k g f y d may x b p v
  view_do (Moment y) may z x b p was v = λ e h j l m o r. v e h was l m o r
  view_do (See y d) may z x b p was v = absurd (cc)
  view_do (Keep y u) may z x b p was v = v
  view_do (Carry u y d) may z x b p was v = view-carry form n k g f u y d may (i.local d).shared_none x b p v
  view_do (Choose y q) may z x b p was v = absurd (cc)
  view_do (Choose_kept y u q) may z x b p was v = absurd (cc)
  view_do (Pre y d) may z x b p was v = v
  view_do (Sink_pre y d) may z x b p was v = v
  view_do (Post y d) may z x b p was v = absurd (cc)
  view_do (Sink_post y d) may z x b p was v = absurd (cc)
  view_do (Clear y d) may z x b p was v = v
  view_do (Heal_grant y d) may z x b p was v = v
  view_do (Heal_free d) may z x b p was v = v
  view_do (Mark y d) may z x b p was v = absurd (cc)
  view_do (Unmark y d) may z x b p was v = absurd (cc)
  view_do (Maker_grant d) may z x b p was v = v
  view_do (Maker_free d) may z x b p was v = v
  view_do (Make d) may z x b p was v = absurd (cc)
  view_do (Made d) may z x b p was v = v
  view_do (Unmake d) may z x b p was v = view-unmake form n k g f d may x b p v
  view_do (Stop d) may z x b p was v = view-stop form n k g f d may x b p v
  view_do (Replace d) may z x b p was v = view-replace form n k g f d may x b p v

  pub view_step : (e : Deed P V C U S) → MayDo form n k f e → (x : ℕ) → CopyIs form n k g f x → ((b : ℕ) → f.heads.maker b ≡ true → g.flat.version ≡ 0 → (p : P) → g.content p ≡ form.zero) → (b : ℕ) (p : P) → (f.heads.moment x ≡ true) → View form g f x b p → View form g (step form n k f e) x b p
  view_step (Do e) m x cp zero b p was v = view_do e m.0 m.1 x b p was v
  view_step (Look y d) m x cp zero b p was v = v
  view_step (Take y q shape) m x cp zero b p was v = v
  view_step (Take_kept y u q) m x cp zero b p was v = v
  view_step (Read y d places) m x cp zero b p was v = v
  view_step (Intend y plan) m x cp zero b p was v = view-intend form n k g f y plan x b p v
  view_step (Write y d places) m x cp zero b p was v = view-write form n k g f y d places m (i.local d).shared_none x b p v
  view_step (Tear y d places pieces) m x cp zero b p was v = view-tear form n k g f y d places pieces m (i.local d).shared_none x b p v
  view_step (Copy y d places pieces) m x cp zero b p was v = view-copy form n k g f y d places pieces m (i.local d).shared_none x b p (λ e z a o. copy_of form n k g f x y d p (pieces p) cp e (m.3 p z) m.1 m.2 a o) v
  view_step (Spoil d places pieces) m x cp zero b p was v = view-spoil form n k g f d places pieces m x b p v
  view_step (Commit y d) m x cp zero b p was v = view-commit form n k g f y d m (i.local d).shared_none x b p v
  view_step (Follow y d) m x cp zero b p was v = view-follow form n k g f y d m (i.local d).shared_none x b p v
  view_step (Begin y d) m x cp zero b p was v = view-begin form n k g f y d m (i.local d).shared_none x b p v
  view_step (Finish y d) m x cp zero b p was v = v
  view_step (Create d shape) m x cp zero b p was v = view-create form n k g f d shape m (zero d m.0.0) x b p v

  same_state : Stays f.heads f.heads
  same_state = record { ballot = λ a h. refl; at_post = λ x e c h. refl; origin = refl }

  pub deed_stays : (e : Deed P V C U S) → MayDo form n k f e → Stays f.heads (step form n k f e).heads
  deed_stays (Do e) m = stays n k f.heads e m.0
  deed_stays (Look y d) m = stays n k f.heads (See y d) m
  deed_stays (Take y q shape) m = stays n k f.heads (Choose y q) m.0
  deed_stays (Take_kept y u q) m = stays n k f.heads (Choose_kept y u q) m
  deed_stays (Read y d places) m = same_state
  deed_stays (Intend y plan) m = same_state
  deed_stays (Write y d places) m = same_state
  deed_stays (Tear y d places pieces) m = same_state
  deed_stays (Copy y d places pieces) m = same_state
  deed_stays (Spoil d places pieces) m = same_state
  deed_stays (Commit y d) m = stays n k f.heads (Post y d) m.0
  deed_stays (Follow y d) m = stays n k f.heads (Sink_post y d) m.0
  deed_stays (Begin y d) m = stays n k f.heads (Mark y d) m.0
  deed_stays (Finish y d) m = stays n k f.heads (Unmark y d) m.0
  deed_stays (Create d shape) m = stays n k f.heads (Make d) m.0
