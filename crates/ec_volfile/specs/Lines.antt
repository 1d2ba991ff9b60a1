-- The lines of a text, and the words of a line.
use Rattle.std.specs.Prelude.{ℕ, Bool, ◌||◌, ◌&&◌, not, List, [], ◌∷◌, length, filter, nat_eq, if◌then◌else◌}
use Rattle.std.specs.List.{slice_split, onto_first}

-- A line ends at a newline or at the end of the text, and no line follows a newline that ends the text.
abbrev pub lines : List ℕ → List (List ℕ)
lines [] = []
lines (b ∷ bs) = if nat_eq b 10 then [] ∷ lines bs else onto_first b (lines bs)

-- a space or a tab
abbrev pub is_blank : ℕ → Bool
is_blank b = nat_eq b 32 || nat_eq b 9

-- the words of a line, divided by blanks
abbrev pub words : List ℕ → List (List ℕ)
words line = filter (λ word. not (nat_eq (length word) 0)) (slice_split is_blank line)

-- without the blanks at the front
abbrev pub skip_blanks : List ℕ → List ℕ
skip_blanks [] = []
skip_blanks (b ∷ bs) = if is_blank b then skip_blanks bs else b ∷ bs

-- without the blanks at the end
abbrev pub trim_end : List ℕ → List ℕ
trim_end [] = []
trim_end (b ∷ bs) = if is_blank b && nat_eq (length (trim_end bs)) 0 then [] else b ∷ trim_end bs

-- without the blanks at both ends
abbrev pub trim : List ℕ → List ℕ
trim bs = trim_end (skip_blanks bs)

-- what stands before the first blank
abbrev pub word_of : List ℕ → List ℕ
word_of [] = []
word_of (b ∷ bs) = if is_blank b then [] else b ∷ word_of bs

-- what stands from the first blank on
abbrev pub after_word : List ℕ → List ℕ
after_word [] = []
after_word (b ∷ bs) = if is_blank b then b ∷ bs else after_word bs
