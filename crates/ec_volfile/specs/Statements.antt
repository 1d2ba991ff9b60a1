-- What a line of a volume file says.
use Rattle.std.specs.Prelude.{◌≡◌, ℕ, ◌||◌, List, [], ◌∷◌, length, Option, Some, None, Result, Ok, Err, codes, nat_eq, if◌then◌else◌}
use Rattle.ec_volfile.specs.declared.fault.VolumeFault.{VolumeFault}
use Rattle.ec_volfile.specs.declared.fault.VolumeFault.TheVariants.{BadLine, Twice}
use Rattle.ec_volfile.specs.declared.section.OpenSection.{OpenSection}
use Rattle.ec_volfile.specs.declared.section.Subvolumes.{Subvolumes}
use Rattle.ec_volfile.specs.declared.state.Place.{Place}
use Rattle.ec_volfile.specs.declared.state.Place.TheVariants as place
use Rattle.ec_volfile.specs.declared.section.Keyword.{Keyword}
use Rattle.ec_volfile.specs.declared.section.Keyword.TheVariants as keyword
use Rattle.ec_volfile.specs.Lines.{words, skip_blanks, trim, word_of, after_word}
use Rattle.ec_volfile.specs.Options.{key_of, set_by}
use Rattle.ec_volfile.specs.Sections.{Front, keyword_of, one_word, section_of_type, set_named, disperse_names, other_names, front_at_end}
use Rattle.ec_volfile.specs.Grammar.{Item, Sets, Names, IsItem, is_passed}

-- what a line can say
pub data Statement : Type 0 where
  Begins : (name : List ℕ) → Statement
  HasType : (type : List ℕ) → Statement
  Holds : (item : Item) → Statement
  Ends : Statement

-- `volume NAME`, `type T`, an item, or `end-volume`
abbrev pub Says : List ℕ → Statement → Type 0
Says line (Begins name) = words line ≡ codes "volume" ∷ name ∷ []
Says line (HasType type) = words line ≡ codes "type" ∷ type ∷ []
Says line (Holds item) = IsItem line item
Says line Ends = words line ≡ codes "end-volume" ∷ []

-- the statement of a keyword and its arguments
abbrev pub begins : Option (List ℕ) → Option Statement
begins None = None
begins (Some name) = Some (Begins name)

abbrev pub has_type : Option (List ℕ) → Option Statement
has_type None = None
has_type (Some type) = Some (HasType type)

abbrev pub statement_by : Keyword → List ℕ → Option Statement
statement_by keyword.Volume args = begins (one_word args)
statement_by keyword.Type args = has_type (one_word args)
statement_by keyword.Option args = if nat_eq (length (trim (after_word args))) 0 then None else Some (Holds (Sets (word_of args) (trim (after_word args))))
statement_by keyword.Subvolumes args = if nat_eq (length args) 0 then None else Some (Holds (Names (words args)))
statement_by keyword.EndVolume args = if nat_eq (length args) 0 then Some Ends else None
statement_by _ args = None

-- the first word of a line, and what follows it
abbrev pub first_word : List ℕ → List ℕ
first_word line = word_of (skip_blanks line)

abbrev pub arguments : List ℕ → List ℕ
arguments line = skip_blanks (after_word (skip_blanks line))

-- the statement of a line that isn't passed over, if it makes one
abbrev pub statement_of : List ℕ → Option Statement
statement_of line = statement_by (keyword_of (first_word line)) (arguments line)

-- what a section becomes by an item
abbrev pub with_names : OpenSection → List (List ℕ) → Option Subvolumes → Result OpenSection VolumeFault
with_names s names (Some old) = Err Twice
with_names s names None = if s.disperse then disperse_names s names else other_names s

abbrev pub take_item : OpenSection → Item → Result OpenSection VolumeFault
take_item s (Sets key value) = set_named s (key_of key) value
take_item s (Names names) = with_names s names s.subvolumes

-- what a statement leads to
abbrev pub lead : Front → Place → Statement → Result Front VolumeFault
lead f place.Outside (Begins name) = Ok (record f { place = place.Head name })
lead f (place.Head name) (HasType type) = set_by (λ s. record f { place = place.Body s; disperse = f.disperse || s.disperse }) (section_of_type f.disperse name (Some type))
lead f (place.Body s) (Holds item) = set_by (λ s. record f { place = place.Body s }) (take_item s item)
lead f (place.Body s) Ends = front_at_end f s
lead f p st = Err BadLine

abbrev pub lead_if : Front → Place → Option Statement → Result Front VolumeFault
lead_if f p None = Err BadLine
lead_if f p (Some st) = lead f p st

-- where a line leads: nowhere else where it is passed over, and a line that makes no statement is a bad one
abbrev pub advance : Front → List ℕ → Result Front VolumeFault
advance f line = if is_passed line then Ok f else lead_if f f.place (statement_of line)
