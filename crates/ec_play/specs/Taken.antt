-- How much of a source is taken.
use Rattle.std.specs.Prelude.{◌≡◌, ℕ, ◌+◌, ◌*◌, ◌≤◌, All, List, [], ◌++◌, length, Option, None, Some, IfSome}
use Rattle.std.specs.Io.KnownBytes.{Consumes}
use Rattle.ec_play.specs.Lines.{lines}
use Rattle.ec_play.specs.declared.reader.TheConstants.{LONGEST, MOST_LINES}
use Rattle.ec_play.specs.declared.status.Status.{Status}
use Rattle.ec_play.specs.declared.status.Status.TheVariants as status

-- where the bytes are known, at most this many of them are taken from the front
abbrev pub TakesAtMost : ℕ → Option (List ℕ) → Option (List ℕ) → Type 0
TakesAtMost most old new = (taken : List ℕ) × (length taken ≤ most) × Consumes old new taken

-- the most bytes that are taken of a script: one line more than it may have, and of each the longest with its newline
abbrev pub most_of_script : ℕ
most_of_script = (MOST_LINES + 1) * (LONGEST + 1)

-- none of these lines is too long
abbrev pub AreShort : List (List ℕ) → Type 0
AreShort front = All (λ line. length line ≤ LONGEST) front

-- how many lines a run with this status has obeyed: all, or those before the line that it names
abbrev pub StopsAfter : Status → List (List ℕ) → List (List ℕ) → Type 0
StopsAfter status.Done front rest = rest ≡ []
StopsAfter (status.BadScript number why) front rest = number ≡ length front + 1
StopsAfter how front rest = Unit {0}

-- What a run looks at of its script: the lines that it obeys, none of them too long and no more than a script may have; of the
-- one after them no more than the longest line with its newline; and less than one piece of the source beyond.
pub record LooksAtLines (how : Status) (input left : List ℕ) : Type 0 where
  pub front : List (List ℕ)
  pub rest : List (List ℕ)
  pub parts : lines input ≡ front ++ rest
  pub few : length front ≤ MOST_LINES
  pub short : AreShort front
  pub upto : StopsAfter how front rest
  pub taken : List ℕ
  pub of_input : input ≡ taken ++ left
  pub most : length taken ≤ (length front + 1) * (LONGEST + 1) + 4095

-- the same where the source is known
abbrev pub LooksAt : Status → Option (List ℕ) → Option (List ℕ) → Type 0
LooksAt how old new = IfSome old (λ input. IfSome new (λ left. LooksAtLines how input left))

-- the lines before this number were read, none of them too long
abbrev pub HasSeen : Option (List ℕ) → Option (List ℕ) → ℕ → Type 0
HasSeen None now number = Unit {0}
HasSeen (Some input) None number = ⊥
HasSeen (Some input) (Some now) number = (front : List (List ℕ)) × (lines input ≡ front ++ lines now) × (number ≡ length front + 1) × AreShort front
