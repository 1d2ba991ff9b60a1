-- What the windows of a heal keep to besides, and what the deeds do to its sinks.
use Rattle.std.specs.Prelude.{◌≡◌, ◌≢◌, ℕ, ◌+◌, Bool, true, false, cond, ◌==◌, ◌&&◌, Some}
use Rattle.ec_law_base.specs.State.{State, Head, Ballot}
use Rattle.ec_law_ballots.specs.Words.{at_base, saw, tied}
use Rattle.ec_law_ballots.specs.Act.Act.{Moment}
use Rattle.ec_law_ballots.specs.Guard.{Holds}
use Rattle.ec_law_pieces.specs.File.{File}
use Rattle.ec_law_pieces.specs.Deed.{Deed}
use Rattle.ec_law_pieces.specs.Deed.Deed.{Do, Take, Read, Write, Tear, Copy, Finish}

-- no turn of the same call has its moment after that of a
abbrev pub IsLast : State → ℕ → Type 0
IsLast s a = (x : ℕ) → s.call x ≡ s.call a → s.moment x ≡ true → x ≢ a → s.begun a x ≡ true

-- a turn of the call marked the brick
abbrev pub HasMarked : State → ℕ → ℕ → Type 0
HasMarked s h b = (x : ℕ) × (s.call x ≡ h) × (s.mark x b ≡ true)

-- the ballot is one above a dirty number that a brick of its group told
abbrev pub IsOneAbove : State → ℕ → Ballot → Type 0
IsOneAbove s a p = (c : ℕ) × (h : Head) × (s.seen a c ≡ Some h) × (at_base p (Some h) ≡ true) × (p.number ≡ h.dirty + 1)

-- A ballot over a group is one above the greatest dirty number of the group. A turn reads under its Inode grant, at a brick
-- that its Query was answered by. A heal copies under its Heal grant, to a record that it marked or saw marked. A mark is
-- taken away by the last window of the heal that made it, before its touch.
abbrev pub Fenced : {P V C U S : Type 0} → File P V C U S → Deed P V C U S → Type 0
Fenced f (Take a p shape) = IsOneAbove f.heads a p
Fenced f (Read a b places) = Holds f.heads a b × (saw f.heads a b ≡ true)
Fenced f (Copy a b places pieces) = (f.heads.healer b ≡ Some (f.heads.call a)) × (f.heads.marked b ≡ true) × (tied f.heads a b ≡ true)
Fenced f (Finish a b) = IsLast f.heads a × HasMarked f.heads (f.heads.call a) b × (f.planned a ≡ false)
Fenced f e = f ≡ f

-- By turn, brick and place: whether a data request was executed there since the turn's moment.
abbrev pub stirs : {P V C U S : Type 0} → Deed P V C U S → (ℕ → ℕ → P → Bool) → ℕ → ℕ → P → Bool
stirs (Do (Moment x)) s y b p = cond (y == x) false (s y b p)
stirs (Write a d places) s y b p = cond ((b == d) && places p) true (s y b p)
stirs (Tear a d places pieces) s y b p = cond ((b == d) && places p) true (s y b p)
stirs e s y b p = s y b p

-- a heal's copy: the window that made it, and the file as it was then
pub record Source (P V C U S : Type 0) : Type 0 where
  pub turn : ℕ
  pub file : File P V C U S

-- By brick and place: the last copy.
abbrev pub copies : {P V C U S : Type 0} → Deed P V C U S → File P V C U S → (ℕ → P → Source P V C U S) → ℕ → P → Source P V C U S
copies (Copy a d places pieces) f c b p = cond ((b == d) && places p) (record { turn = a; file = f }) (c b p)
copies e f c b p = c b p
