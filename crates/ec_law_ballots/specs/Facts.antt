-- What several bricks together say of turns, as the acts need it at one brick.
use Rattle.std.specs.Prelude.{◌≡◌, ◌≢◌, ℕ, ◌<◌, ◌≤◌, true, false, Some}
use Rattle.ec_law_base.specs.State.{State, target}

-- who had begun at the moment of x
abbrev pub BegunMoment : State → Type 0
BegunMoment s = (x e : ℕ) → s.begun x e ≡ true → (s.moment e ≡ true) × (s.moment x ≡ true) × (e ≢ x) × (s.old x ≡ false)

-- a turn has its ballot after its moment
abbrev pub NumberMoment : State → Type 0
NumberMoment s = (a : ℕ) → 0 < (s.ballot a).number → s.moment a ≡ true

-- a ballot needs a record
abbrev pub NumberMaking : State → Type 0
NumberMaking s = (a : ℕ) → 0 < (s.ballot a).number → s.making ≡ true

-- kept grants are those of a turn with a ballot
abbrev pub CarriesNumber : State → Type 0
CarriesNumber s = (x a : ℕ) → s.carries x ≡ Some a → 0 < (s.ballot a).number

-- every ballot stands on the version of the beginning or above, and those of the beginning on it
abbrev pub OriginLe : State → Type 0
OriginLe s = (a : ℕ) → 0 < (s.ballot a).number → (s.origin ≤ (s.ballot a).base) × (s.old a ≡ true → (s.ballot a).base ≡ s.origin)

-- a PostOp on a lower base leaves its version at or below each higher base
abbrev pub PostBelow : State → Type 0
PostBelow s = (e x b : ℕ) → s.post e b ≡ true → 0 < (s.ballot x).number → (s.ballot e).base < (s.ballot x).base → target (s.ballot e) ≤ (s.ballot x).base

-- OF BRICK b AND A TURN t THAT IS ABOUT TO CHANGE ITS HEAD

-- whoever has a PreOp there stands on a base at or below that of t
abbrev pub PreBelow : State → ℕ → ℕ → Type 0
PreBelow s b t = (e : ℕ) → s.pre e b ≡ true → (s.ballot e).base ≤ (s.ballot t).base

-- whoever has a PostOp there on the base of t has a lower number
abbrev pub NumberBelow : State → ℕ → ℕ → Type 0
NumberBelow s b t = (e : ℕ) → s.post e b ≡ true → (s.ballot e).base ≡ (s.ballot t).base → (s.ballot e).number < (s.ballot t).number

-- whoever marked it stands on a base at or below that of t
abbrev pub MarkBelow : State → ℕ → ℕ → Type 0
MarkBelow s b t = (e : ℕ) → s.mark e b ≡ true → (s.ballot e).base ≤ (s.ballot t).base

-- turn t is none that never gets K PreOps
abbrev pub Alive : State → ℕ → Type 0
Alive s t = s.dead t ≡ false
