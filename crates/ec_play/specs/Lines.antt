-- The lines of an input.
use Rattle.std.specs.Prelude.{◌≡◌, ◌<◌, ℕ, false, All, List, [], ◌∷◌, length, nat_eq, Option, Some, None, if◌then◌else◌}
use Rattle.std.specs.List.{onto_first}

-- a line ends at a newline or at the end of the input
abbrev pub lines : List ℕ → List (List ℕ)
lines [] = []
lines (b ∷ bs) = if nat_eq b 10 then [] ∷ lines bs else onto_first b (lines bs)

-- no byte is a newline
abbrev pub HasNoNewline : List ℕ → Type 0
HasNoNewline bytes = All (λ b. nat_eq b 10 ≡ false) bytes

-- no line is left
abbrev pub HasNoLine : Option (List ℕ) → Type 0
HasNoLine None = Unit {0}
HasNoLine (Some xs) = lines xs ≡ []

-- a line is left
abbrev pub HasLine : Option (List ℕ) → Type 0
HasLine None = Unit {0}
HasLine (Some xs) = (line : List ℕ) × (others : List (List ℕ)) × (lines xs ≡ line ∷ others)

-- the first line is taken
abbrev pub TakesLine : Option (List ℕ) → Option (List ℕ) → List ℕ → Type 0
TakesLine None new line = Unit {0}
TakesLine (Some xs) None line = ⊥
TakesLine (Some xs) (Some ys) line = lines xs ≡ line ∷ lines ys

-- the first line has more than this many bytes
abbrev pub BeginsLong : ℕ → Option (List ℕ) → Type 0
BeginsLong n None = Unit {0}
BeginsLong n (Some xs) = (line : List ℕ) × (others : List (List ℕ)) × (n < length line) × (lines xs ≡ line ∷ others)
