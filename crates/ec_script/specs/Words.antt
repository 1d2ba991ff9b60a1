-- The words of a line, each with the place of its first byte in the line.
use Rattle.std.specs.Prelude.{ℕ, suc, ◌+◌, ◌-◌, Bool, ◌||◌, ◌&&◌, List, [], ◌∷◌, ◌++◌, length, take, nat_eq, bytes_eq, slice_index, slice_index_or, Option, Some, None, if◌then◌else◌}
use Rattle.std.specs.List.{slice_split}
use Rattle.ec_script.specs.declared.word.Word.{Word}

-- a space or a tab
abbrev pub is_blank : ℕ → Bool
is_blank b = nat_eq b 32 || nat_eq b 9

pub record Placed : Type 0 where
  pub place : ℕ
  pub text : List ℕ

-- a piece is a word, but for an empty one
abbrev pub one_word : ℕ → List ℕ → List Placed
one_word at piece = if nat_eq (length piece) 0 then [] else record { place = at; text = piece } ∷ []

-- The words of pieces, the first of them at a place. Each piece begins behind the blank that ends the one before it.
unfoldable pub placed : ℕ → List (List ℕ) → List Placed
placed at [] = []
placed at (piece ∷ pieces) = one_word at piece ++ placed (at + (length piece + 1)) pieces

-- the words of a line, divided by blanks
abbrev pub words : List ℕ → List Placed
words line = placed 0 (slice_split is_blank line)

-- a line without the carriage return at its end
abbrev pub without_return : List ℕ → List ℕ
without_return line = if nat_eq (slice_index line (length line - 1)) 13 then take (length line - 1) line else line

-- a word of the code as a text with its place
abbrev pub seen : Word → Placed
seen w = record { place = w.place; text = w.text.now }

-- word i of a line
abbrev pub word_at : List Placed → ℕ → Placed
word_at ws i = slice_index_or ws i (record { place = 0; text = [] })

abbrev pub text_at : List Placed → ℕ → List ℕ
text_at ws i = (word_at ws i).text

-- whether there are n words, and word i is this one
abbrev pub has_word : List Placed → ℕ → ℕ → List ℕ → Bool
has_word ws n i word = nat_eq (length ws) n && bytes_eq (text_at ws i) word

-- the pieces of the rest of a text, where there is one
abbrev pub pieces : (ℕ → Bool) → Option (List ℕ) → List (List ℕ)
pieces p None = []
pieces p (Some rest) = slice_split p rest

-- how many bytes are left, one more where a rest begins
abbrev pub rest_len : Option (List ℕ) → ℕ
rest_len None = 0
rest_len (Some rest) = suc (length rest)
