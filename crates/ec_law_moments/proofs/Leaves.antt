-- What the acts leave of what turns have seen.
use Rattle.std.proofs.Common.{◌≡◌, ◌⊎◌, ℕ, Bool, true, false, cond, ◌==◌, Some, refl, sym, ◌∙◌, ap, arith, inl, inr, eqb-true}
use Rattle.std.proofs.lemmas.Bool.Decides.{nat_tests}
use Rattle.ec_law_base.specs.State.{State, Head}
use Rattle.ec_law_ballots.specs.Words.{saw}
use Rattle.ec_law_ballots.specs.Act.{Act, step as act_step}
use Rattle.ec_law_ballots.specs.Act.Act.{Grant, Free, Share, Unshare, Moment, See, Keep, Carry, Choose, Choose_kept, Pre, Sink_pre, Post, Sink_post, Clear, Heal_grant, Heal_free, Mark, Unmark, Maker_grant, Maker_free, Make, Made, Unmake, Stop, Replace}
use Rattle.ec_law_ballots.specs.Guard.{May}
use Rattle.ec_law_pieces.specs.File.{Form, File}
use Rattle.ec_law_pieces.specs.Deed.{Deed, step, MayDo}
use Rattle.ec_law_pieces.specs.Deed.Deed.{Do, Look, Take, Take_kept, Read, Intend, Write, Tear, Copy, Spoil, Commit, Follow, Begin, Finish, Create}
use Rattle.ec_law_moments.specs.Reads.{World, noted}

pub record Leaves (s t : State) : Type 0 where
  pub old : (x : ℕ) → t.old x ≡ s.old x
  pub looked : (x b : ℕ) → saw s x b ≡ true → saw t x b ≡ true
  pub seen : (x b : ℕ) (h : Head) → saw s x b ≡ true → t.seen x b ≡ Some h → s.seen x b ≡ Some h
  pub maker : (b : ℕ) → t.maker b ≡ true → (s.maker b ≡ true) ⊎ (s.making ≡ false)
  pub making : t.making ≡ false → s.making ≡ false

pub leaves : (n k : ℕ) (s : State) (e : Act) → May n k s e → Leaves s (act_step s e)
leaves n k s (Grant y d) may = record { old = λ x. refl; looked = λ x b f. f; seen = λ x b h f e. e; maker = λ b f. inl f; making = λ f. f }
leaves n k s (Free d) may = record { old = λ x. refl; looked = λ x b f. f; seen = λ x b h f e. e; maker = λ b f. inl f; making = λ f. f }
leaves n k s (Share y d) may = record { old = λ x. refl; looked = λ x b f. f; seen = λ x b h f e. e; maker = λ b f. inl f; making = λ f. f }
leaves n k s (Unshare y d) may = record { old = λ x. refl; looked = λ x b f. f; seen = λ x b h f e. e; maker = λ b f. inl f; making = λ f. f }
leaves n k s (Moment y) may = record { old = λ x. refl; looked = λ x b f. f; seen = λ x b h f e. e; maker = λ b f. inl f; making = λ f. f }
leaves n k s (See y d) may = record { old = λ x. refl; looked = λ x b f. grind (arith, nat_tests); seen = λ x b h f e. grind (arith, nat_tests); maker = λ b f. inl f; making = λ f. f }
leaves n k s (Keep y u) may = record { old = λ x. refl; looked = λ x b f. f; seen = λ x b h f e. e; maker = λ b f. inl f; making = λ f. f }
leaves n k s (Carry u y d) may = record { old = λ x. refl; looked = λ x b f. f; seen = λ x b h f e. e; maker = λ b f. inl f; making = λ f. f }
leaves n k s (Choose y q) may = record { old = λ x. refl; looked = λ x b f. f; seen = λ x b h f e. e; maker = λ b f. inl f; making = λ f. f }
leaves n k s (Choose_kept y u q) may = record { old = λ x. refl; looked = λ x b f. f; seen = λ x b h f e. e; maker = λ b f. inl f; making = λ f. f }
leaves n k s (Pre y d) may = record { old = λ x. refl; looked = λ x b f. f; seen = λ x b h f e. e; maker = λ b f. inl f; making = λ f. f }
leaves n k s (Sink_pre y d) may = record { old = λ x. refl; looked = λ x b f. f; seen = λ x b h f e. e; maker = λ b f. inl f; making = λ f. f }
leaves n k s (Post y d) may = record { old = λ x. refl; looked = λ x b f. f; seen = λ x b h f e. e; maker = λ b f. inl f; making = λ f. f }
leaves n k s (Sink_post y d) may = record { old = λ x. refl; looked = λ x b f. f; seen = λ x b h f e. e; maker = λ b f. inl f; making = λ f. f }
leaves n k s (Clear y d) may = record { old = λ x. refl; looked = λ x b f. f; seen = λ x b h f e. e; maker = λ b f. inl f; making = λ f. f }
leaves n k s (Heal_grant y d) may = record { old = λ x. refl; looked = λ x b f. f; seen = λ x b h f e. e; maker = λ b f. inl f; making = λ f. f }
leaves n k s (Heal_free d) may = record { old = λ x. refl; looked = λ x b f. f; seen = λ x b h f e. e; maker = λ b f. inl f; making = λ f. f }
leaves n k s (Mark y d) may = record { old = λ x. refl; looked = λ x b f. f; seen = λ x b h f e. e; maker = λ b f. inl f; making = λ f. f }
leaves n k s (Unmark y d) may = record { old = λ x. refl; looked = λ x b f. f; seen = λ x b h f e. e; maker = λ b f. inl f; making = λ f. f }
leaves n k s (Maker_grant d) may = record { old = λ x. refl; looked = λ x b f. f; seen = λ x b h f e. e; maker = λ b f. grind (arith, nat_tests); making = λ f. f }
leaves n k s (Maker_free d) may = record { old = λ x. refl; looked = λ x b f. f; seen = λ x b h f e. e; maker = λ b f. grind (arith, nat_tests); making = λ f. f }
leaves n k s (Make d) may = record { old = λ x. refl; looked = λ x b f. f; seen = λ x b h f e. e; maker = λ b f. inl f; making = λ f. absurd (cc) }
leaves n k s (Made d) may = record { old = λ x. refl; looked = λ x b f. f; seen = λ x b h f e. e; maker = λ b f. inl f; making = λ f. f }
leaves n k s (Unmake d) may = record { old = λ x. refl; looked = λ x b f. f; seen = λ x b h f e. e; maker = λ b f. inl f; making = λ f. f }
leaves n k s (Stop d) may = record { old = λ x. refl; looked = λ x b f. f; seen = λ x b h f e. e; maker = λ b f. grind (arith, nat_tests); making = λ f. f }
leaves n k s (Replace d) may = record { old = λ x. refl; looked = λ x b f. f; seen = λ x b h f e. e; maker = λ b f. inl f; making = λ f. f }

module _ {P V C U S : Type 0} (form : Form P V C U S) (n k : ℕ) where
  same_leaves : (s : State) → Leaves s s
  same_leaves s = record { old = λ x. refl; looked = λ x b f. f; seen = λ x b h f e. e; maker = λ b f. inl f; making = λ f. f }

  pub deed_leaves : (f : File P V C U S) (e : Deed P V C U S) → MayDo form n k f e → Leaves f.heads (step form n k f e).heads
  deed_leaves f (Do e) m = leaves n k f.heads e m.0
  deed_leaves f (Look y d) m = leaves n k f.heads (See y d) m
  deed_leaves f (Take y q shape) m = leaves n k f.heads (Choose y q) m.0
  deed_leaves f (Take_kept y u q) m = leaves n k f.heads (Choose_kept y u q) m
  deed_leaves f (Read y d places) m = same_leaves f.heads
  deed_leaves f (Intend y plan) m = same_leaves f.heads
  deed_leaves f (Write y d places) m = same_leaves f.heads
  deed_leaves f (Tear y d places pieces) m = same_leaves f.heads
  deed_leaves f (Copy y d places pieces) m = same_leaves f.heads
  deed_leaves f (Spoil d places pieces) m = same_leaves f.heads
  deed_leaves f (Commit y d) m = leaves n k f.heads (Post y d) m.0
  deed_leaves f (Follow y d) m = leaves n k f.heads (Sink_post y d) m.0
  deed_leaves f (Begin y d) m = leaves n k f.heads (Mark y d) m.0
  deed_leaves f (Finish y d) m = leaves n k f.heads (Unmark y d) m.0
  deed_leaves f (Create d shape) m = leaves n k f.heads (Make d) m.0

  note_moment : (w : World P V C U S) (x y : ℕ) (e : Deed P V C U S) → e ≡ Do (Moment y) → (u : Bool) → (x == y) ≡ u → ((cond (x == y) w.file (w.then x) ≡ w.then x) × (cond (x == y) true (w.file.heads.moment x) ≡ w.file.heads.moment x)) ⊎ ((e ≡ Do (Moment x)) × (cond (x == y) w.file (w.then x) ≡ w.file))
  note_moment w x y e is true q = inr (is ∙ ap (λ (z : ℕ). Do (Moment z)) (sym (eqb-true x y q)), rw q refl)
  note_moment w x y e is false q = inl (rw q refl, rw q refl)

  -- the file that a turn's moment has kept is that of before, or this is its moment
  pub note : (w : World P V C U S) (e : Deed P V C U S) (x : ℕ) → ((noted w e x ≡ w.then x) × ((step form n k w.file e).heads.moment x ≡ w.file.heads.moment x)) ⊎ ((e ≡ Do (Moment x)) × (noted w e x ≡ w.file))
  note w (Do (Grant y d)) x = inl (refl, refl)
  note w (Do (Free d)) x = inl (refl, refl)
  note w (Do (Share y d)) x = inl (refl, refl)
  note w (Do (Unshare y d)) x = inl (refl, refl)
  note w (Do (Moment y)) x = note_moment w x y (Do (Moment y)) refl (x == y) refl
  note w (Do (See y d)) x = inl (refl, refl)
  note w (Do (Keep y u)) x = inl (refl, refl)
  note w (Do (Carry u y d)) x = inl (refl, refl)
  note w (Do (Choose y q)) x = inl (refl, refl)
  note w (Do (Choose_kept y u q)) x = inl (refl, refl)
  note w (Do (Pre y d)) x = inl (refl, refl)
  note w (Do (Sink_pre y d)) x = inl (refl, refl)
  note w (Do (Post y d)) x = inl (refl, refl)
  note w (Do (Sink_post y d)) x = inl (refl, refl)
  note w (Do (Clear y d)) x = inl (refl, refl)
  note w (Do (Heal_grant y d)) x = inl (refl, refl)
  note w (Do (Heal_free d)) x = inl (refl, refl)
  note w (Do (Mark y d)) x = inl (refl, refl)
  note w (Do (Unmark y d)) x = inl (refl, refl)
  note w (Do (Maker_grant d)) x = inl (refl, refl)
  note w (Do (Maker_free d)) x = inl (refl, refl)
  note w (Do (Make d)) x = inl (refl, refl)
  note w (Do (Made d)) x = inl (refl, refl)
  note w (Do (Unmake d)) x = inl (refl, refl)
  note w (Do (Stop d)) x = inl (refl, refl)
  note w (Do (Replace d)) x = inl (refl, refl)
  note w (Look y d) x = inl (refl, refl)
  note w (Take y q shape) x = inl (refl, refl)
  note w (Take_kept y u q) x = inl (refl, refl)
  note w (Read y d places) x = inl (refl, refl)
  note w (Intend y plan) x = inl (refl, refl)
  note w (Write y d places) x = inl (refl, refl)
  note w (Tear y d places pieces) x = inl (refl, refl)
  note w (Copy y d places pieces) x = inl (refl, refl)
  note w (Spoil d places pieces) x = inl (refl, refl)
  note w (Commit y d) x = inl (refl, refl)
  note w (Follow y d) x = inl (refl, refl)
  note w (Begin y d) x = inl (refl, refl)
  note w (Finish y d) x = inl (refl, refl)
  note w (Create d shape) x = inl (refl, refl)
