-- A file of which each byte of a stripe is read in any way. A list of lists may have a number for a byte that is none, and its code has
-- the low eight bits; so whoever reads bytes from codes reads these alone.
use Rattle.std.specs.Prelude.{ℕ, List}
use Rattle.ec_law_data.specs.Forms.{Coder, Piece, Shape, file_form, of_file}
use Rattle.ec_law_data.specs.Reading.{Reading}

abbrev pub of_units : (List (List ℕ) → ℕ → ℕ) → ℕ → Coder → Reading ℕ (List (List ℕ)) Piece ℕ Shape
of_units unit k coder = record (of_file k coder) { form = record (file_form k coder) { unit = unit } }
