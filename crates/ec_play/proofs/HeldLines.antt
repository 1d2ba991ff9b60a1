-- Bytes that are held, or aren't, as lines.
use Rattle.std.proofs.Common.{◌≡◌, ℕ, ◌<◌, inl, inr, List, [], ◌∷◌, ◌++◌, Option, Some, None, length, refl, ap, arith}
use Rattle.std.specs.List.{onto_first}
use Rattle.std.proofs.lemmas.Bool.{cases_eq, eq-eqb, ne_eqb}
use Rattle.std.specs.Io.KnownBytes.{IsAtEnd, prepend_known}
use Rattle.ec_play.specs.Lines.{lines, HasNoLine, HasLine}

-- bytes that are held are a line
onto_some : (b : ℕ) (parts : List (List ℕ)) → (line : List ℕ) × (others : List (List ℕ)) × (onto_first b parts ≡ line ∷ others)
onto_some b [] = (b ∷ [], [], refl)
onto_some b (part ∷ parts) = (b ∷ part, parts, refl)

some_line : (b : ℕ) (bs : List ℕ) → (line : List ℕ) × (others : List (List ℕ)) × (lines (b ∷ bs) ≡ line ∷ others)
some_line b bs =
    elim (cases_eq b 10) [
      | inl newline ↦ ([], lines bs, rw (eq-eqb b 10 newline) refl)
      | inr other ↦
          let first = onto_some b (lines bs) in
          (first.0, first.1, rw (ne_eqb b 10 other) first.2)
    ]

pub held_line : (held : List ℕ) (left : Option (List ℕ)) → 0 < length held → HasLine (prepend_known held left)
held_line held None some = tt
held_line [] (Some xs) some = absurd (omega (arith, some))
held_line (b ∷ bs) (Some xs) some = some_line b (bs ++ xs)

-- no byte is left, so no line
pub no_line : (now : Option (List ℕ)) → IsAtEnd now → HasNoLine now
no_line None e = tt
no_line (Some xs) e = ap lines e
