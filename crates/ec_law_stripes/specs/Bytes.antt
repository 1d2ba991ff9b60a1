-- A file as bricks keep it: stripes are coded with the rows of the volume's algorithm, and of what stands in a stripe for a byte the
-- low eight bits are read, which are all that its codes tell.
use Rattle.std.specs.Prelude.{ℕ, ◌%◌, ◌^◌, List}
use Rattle.ec_attr.specs.declared.geometry.Geometry.{Geometry}
use Rattle.ec_conduct.specs.Data.{stripe_byte}
use Rattle.ec_conduct.specs.Given.{quorum}
use Rattle.ec_law_data.specs.Coding.{by_rows}
use Rattle.ec_law_data.specs.Forms.{Piece, Shape}
use Rattle.ec_law_data.specs.Reading.{Reading}
use Rattle.ec_law_files.specs.Plans.{form_by}
use Rattle.ec_law_flats.specs.Stripes.{of_file_by}
use Rattle.ec_law_reads.specs.Rows.{row_at}

abbrev pub low : ℕ → ℕ
low x = x % 2 ^ 8

-- byte i of a stripe
abbrev pub low_byte : List (List ℕ) → ℕ → ℕ
low_byte stripe i = low (stripe_byte stripe i)

-- with these rows of k entries
abbrev pub of_bytes : ℕ → (ℕ → ℕ → ℕ) → Reading ℕ (List (List ℕ)) Piece ℕ Shape
of_bytes k rows = of_file_by k (by_rows k rows) (form_by low k (by_rows k rows))

-- a file of a volume
abbrev pub of_volume : Geometry → Reading ℕ (List (List ℕ)) Piece ℕ Shape
of_volume geometry = of_bytes (quorum geometry) (row_at (quorum geometry) geometry.algorithm)
