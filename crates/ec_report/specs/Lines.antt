-- The lines of reports. Each ends with one newline, and its parts are divided by one blank.
use Rattle.std.specs.Prelude.{ℕ, Bool, true, false, Option, Some, None, List, [], ◌∷◌, ◌++◌, codes, decimal, map}
use Rattle.std.specs.Int.{to_be_bytes, w128}
use Rattle.uuid.specs.Text.{hyphenated_text, lower}
use Rattle.ec_attr.specs.Marks.{is_marked, stripped}
use Rattle.ec_attr.specs.declared.head.Head.{Head}
use Rattle.ec_wire.specs.Words.{dash, either, kind_word, numbers_word, spaced}

-- a gfid as a UUID in lower case with hyphens
abbrev pub id_text : ℕ → List ℕ
id_text g = hyphenated_text lower (to_be_bytes w128 g)

-- a version without its mark, behind an m where it has one
abbrev pub version_word : ℕ → List ℕ
version_word v = either (is_marked v) (codes "m") [] ++ decimal (stripped v)

-- a brick's version, size and dirty number, or a hyphen where it has no record
abbrev pub state_word : Option Head → List ℕ
state_word None = dash
state_word (Some h) = version_word h.version.content ++ 47 ∷ decimal h.size ++ 47 ∷ decimal h.dirty.content

-- the kind of the lowest brick that has a record
abbrev pub lowest_kind : List (Option Head) → List ℕ
lowest_kind [] = dash
lowest_kind (None ∷ heads) = lowest_kind heads
lowest_kind (Some h ∷ heads) = kind_word h.kind

abbrev pub orphan_words : Bool → List (List ℕ)
orphan_words false = []
orphan_words true = codes "orphan" ∷ []

-- the heads of a gfid by brick, the bricks of its good group, and whether it is an orphan
abbrev pub check_words : List (Option Head) → List ℕ → Bool → List (List ℕ)
check_words heads group orphan = lowest_kind heads ∷ (map state_word heads ++ codes "group" ∷ numbers_word group ∷ orphan_words orphan)

unfoldable pub check_line : ℕ → List (Option Head) → List ℕ → Bool → List ℕ
check_line g heads group orphan = spaced (id_text g ∷ check_words heads group orphan) ++ 10 ∷ []

-- a brick and a gfid of its index
unfoldable pub info_line : ℕ → ℕ → List ℕ
info_line b g = spaced (decimal b ∷ id_text g ∷ []) ++ 10 ∷ []
