-- The grammar of a volume file, and what a file in it means.
use Rattle.std.specs.Prelude.{◌≡◌, ◌≢◌, ℕ, ◌<◌, ◌≤◌, ◌^◌, Bool, true, false, not, List, [], ◌∷◌, ◌++◌, length, filter, Option, Some, option_map, bytes_eq, codes, nat_eq, if◌then◌else◌}
use Rattle.std.specs.List.{AllByRecursion}
use Rattle.ec_attr.specs.Geometry.{IsGeometry}
use Rattle.ec_attr.specs.declared.policy.Policy.TheVariants.{RoundRobin}
use Rattle.ec_volfile.specs.declared.volume.Kernel.TheVariants.{Fused}
use Rattle.ec_volfile.specs.Lines.{lines, words, skip_blanks, trim, after_word}
use Rattle.ec_volfile.specs.Numbers.{number_of}
use Rattle.ec_volfile.specs.Options.{policy_of, eager_of, cache_of, window_of, kernel_of, systematic_of}
use Rattle.ec_volfile.specs.Outline.{Outline}

-- a line without words, or whose first word begins with `#`, is passed over
abbrev pub is_remark : List (List ℕ) → Bool
is_remark [] = true
is_remark ([] ∷ ws) = true
is_remark ((b ∷ bs) ∷ ws) = nat_eq b 35

abbrev pub is_passed : List ℕ → Bool
is_passed line = is_remark (words line)

abbrev pub filled_lines : List (List ℕ) → List (List ℕ)
filled_lines ls = filter (λ line. not (is_passed line)) ls

-- what stands behind the first two words of a line, without the blanks at its ends
abbrev pub value_of : List ℕ → List ℕ
value_of line = trim (after_word (skip_blanks (after_word (skip_blanks line))))

-- within a section, after its type: `option KEY VALUE`, where VALUE isn't empty, and `subvolumes A B ..`
pub data Item : Type 0 where
  Sets : (key value : List ℕ) → Item
  Names : (names : List (List ℕ)) → Item

abbrev pub IsItem : List ℕ → Item → Type 0
IsItem line (Sets key value) = (more : List (List ℕ)) × (words line ≡ codes "option" ∷ key ∷ more) × (value_of line ≡ value) × (0 < length value)
IsItem line (Names names) = (words line ≡ codes "subvolumes" ∷ names) × (0 < length names)

-- a section: its name, its type, and its items in order
pub record Section : Type 0 where
  pub name : List ℕ
  pub type : List ℕ
  pub items : List Item

-- the lines are these items and `end-volume`, and then come the rest
abbrev pub Closes : List (List ℕ) → List Item → List (List ℕ) → Type 0
Closes [] items rest = ⊥
Closes (line ∷ ls) [] rest = (words line ≡ codes "end-volume" ∷ []) × (ls ≡ rest)
Closes (line ∷ ls) (item ∷ items) rest = IsItem line item × Closes ls items rest

-- the lines are `type T`, the items and `end-volume`, and then come the rest
abbrev pub Follows : List (List ℕ) → Section → List (List ℕ) → Type 0
Follows [] s rest = ⊥
Follows (line ∷ ls) s rest = (words line ≡ codes "type" ∷ s.type ∷ []) × Closes ls s.items rest

-- the lines are `volume NAME`, `type T`, the items and `end-volume`, and then come the rest
abbrev pub IsSection : List (List ℕ) → Section → List (List ℕ) → Type 0
IsSection [] s rest = ⊥
IsSection (line ∷ ls) s rest = (words line ≡ codes "volume" ∷ s.name ∷ []) × Follows ls s rest

-- the lines are these sections
abbrev pub AreSections : List (List ℕ) → List Section → Type 0
AreSections ls [] = ls ≡ []
AreSections ls (s ∷ ss) = (rest : List (List ℕ)) × IsSection ls s rest × AreSections rest ss

-- the names that each `subvolumes` gives
abbrev pub names_in : List Item → List (List (List ℕ))
names_in [] = []
names_in (Sets key value ∷ items) = names_in items
names_in (Names names ∷ items) = names ∷ names_in items

-- the values that an option is set to
abbrev pub values : List ℕ → List Item → List (List ℕ)
values key [] = []
values key (Sets k value ∷ items) = if bytes_eq k key then value ∷ values key items else values key items
values key (Names names ∷ items) = values key items

-- at most one `subvolumes` stands in a section, and these are its names
abbrev pub HasNames : List (List (List ℕ)) → List (List ℕ) → Type 0
HasNames [] bricks = bricks ≡ []
HasNames (names ∷ []) bricks = bricks ≡ names
HasNames (names ∷ other ∷ more) bricks = ⊥

-- an option is set at most once, to a value that it can have, and else it is the default
abbrev pub IsChosen : {A : Type 0} → List (List ℕ) → (List ℕ → Option A) → A → A → Type 0
IsChosen [] table default x = x ≡ default
IsChosen (value ∷ []) table default x = table value ≡ Some x
IsChosen (value ∷ other ∷ more) table default x = ⊥

-- an option that must be set once
abbrev pub IsSet : {A : Type 0} → List (List ℕ) → (List ℕ → Option A) → A → Type 0
IsSet [] table x = ⊥
IsSet (value ∷ []) table x = table value ≡ Some x
IsSet (value ∷ other ∷ more) table x = ⊥

-- no name is equal to one after it
abbrev pub NoneTwice : List (List ℕ) → Type 0
NoneTwice [] = Unit {0}
NoneTwice (name ∷ names) = AllByRecursion (λ other. name ≢ other) names × NoneTwice names

-- the algorithm that `code-rows` names
abbrev pub algorithm_of : List ℕ → Option ℕ
algorithm_of value = option_map (λ systematic. if systematic then 1 else 0) (systematic_of value)

abbrev pub disperse_type : List ℕ
disperse_type = codes "cluster/disperse"

-- a disperse section and what it means
pub record Describes (s : Section) (o : Outline) : Type 0 where
  pub type : s.type ≡ disperse_type
  pub name : o.name ≡ s.name
  pub bricks : HasNames (names_in s.items) o.bricks
  pub different : NoneTwice o.bricks
  pub count : o.n ≡ length o.bricks
  pub redundancy : IsSet (values (codes "redundancy") s.items) number_of o.r
  pub algorithm : IsChosen (values (codes "code-rows") s.items) algorithm_of 0 o.algorithm
  pub geometry : IsGeometry o.n o.r o.algorithm
  pub policy : IsChosen (values (codes "read-policy") s.items) policy_of RoundRobin o.policy
  pub eager : IsChosen (values (codes "eager-lock") s.items) eager_of false o.eager
  pub cache : IsChosen (values (codes "stripe-cache") s.items) cache_of 4 o.cache
  pub window : IsChosen (values (codes "self-heal-window-size") s.items) window_of 16 o.window
  pub kernel : IsChosen (values (codes "cpu-extensions") s.items) (λ value. Some (kernel_of value)) Fused o.kernel

-- a section of another type: at most one `subvolumes`, and nothing else is asked
pub record IsOther (s : Section) : Type 0 where
  pub type : s.type ≢ disperse_type
  pub subvolumes : length (names_in s.items) ≤ 1

-- Of all the sections exactly one has the type `cluster/disperse`, and it has this meaning.
pub record IsVolumeFile (bytes : List ℕ) (o : Outline) : Type 0 where
  pub size : length bytes ≤ 2 ^ 20
  pub before : List Section
  pub disperse : Section
  pub after : List Section
  pub sections : AreSections (filled_lines (lines bytes)) (before ++ disperse ∷ after)
  pub others_before : AllByRecursion IsOther before
  pub describes : Describes disperse o
  pub others_after : AllByRecursion IsOther after
