-- What a turn was told is what had been committed at its moment.
use Rattle.std.specs.Prelude.{◌≡◌, ◌⊎◌, ℕ, ◌<◌, ◌≤◌, Bool, true, false, ◌==◌, ◌||◌, Option, Some, None}
use Rattle.ec_attr.specs.Bricks.{count_below}
use Rattle.ec_law_base.specs.State.{State, Head, target}
use Rattle.ec_law_ballots.specs.Begin.{is_plain}

abbrev pub is_turn : Option ℕ → ℕ → Bool
is_turn None x = false
is_turn (Some a) x = a == x

-- the turn has an Inode grant there, shared or not
abbrev pub has_grant : State → ℕ → ℕ → Bool
has_grant s x b = is_turn (s.holder b) x || s.shares x b

-- the turn has a shared grant there, or an exclusive one and no ballot yet
abbrev pub MayRead : State → ℕ → ℕ → Type 0
MayRead s x b = (s.shares x b ≡ true) ⊎ ((s.holder b ≡ Some x) × ((s.ballot x).number ≡ 0))

-- a Query told an unmarked head of this version
abbrev pub is_told : ℕ → Option Head → Bool
is_told v None = false
is_told v (Some h) = is_plain v h

-- Where a version has come from by the moment of turn x: the beginning, a PostOp that had been done at the brick, or a
-- commit.
abbrev pub KnownThen : ℕ → ℕ → State → ℕ → ℕ → ℕ → Type 0
KnownThen n k s x b v = (v ≤ s.origin) ⊎ (((e : ℕ) × (s.at_post x e b ≡ true) × (target (s.ballot e) ≡ v)) ⊎ ((e : ℕ) × (k ≤ count_below n (s.at_post x e)) × (target (s.ballot e) ≡ v)))

-- it was the flat version then
abbrev pub FlatThen : ℕ → ℕ → State → ℕ → ℕ → Type 0
FlatThen n k s x v = (v ≡ s.origin) ⊎ ((e : ℕ) × (k ≤ count_below n (s.at_post x e)) × (target (s.ballot e) ≡ v))

pub record Then (n k : ℕ) (s : State) : Type 0 where
  pub held : (x b : ℕ) → has_grant s x b ≡ true → s.early x b ≡ true → s.moment x ≡ true → s.pre x b ≡ false → s.present b ≡ true → s.marked b ≡ false → KnownThen n k s x b (s.version b)
  pub seen : (x b : ℕ) (h : Head) → s.seen x b ≡ Some h → h.present ≡ true → h.marked ≡ false → KnownThen n k s x b h.version
  -- a turn with a group stands on what was the flat version at its moment
  pub chosen : (a : ℕ) → s.old a ≡ false → s.carries a ≡ None → 0 < (s.ballot a).number → FlatThen n k s a (s.ballot a).base
