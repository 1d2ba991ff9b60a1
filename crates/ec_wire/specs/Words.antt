-- The words that texts are made of.
use Rattle.std.specs.Prelude.{ℕ, Bool, true, false, Option, Some, None, List, [], ◌∷◌, ◌++◌, codes, decimal, map}
use Rattle.std.specs.List.{flat_map}
use Rattle.hex.specs.Hex.{encode_lower}
use Rattle.ec_attr.specs.Attributes.{config_bytes}
use Rattle.ec_attr.specs.Bricks.{bricks}
use Rattle.ec_attr.specs.declared.attr.Attr.{Attr}
use Rattle.ec_attr.specs.declared.gfid.Gfid.{Gfid}
use Rattle.ec_attr.specs.declared.head.Head.{Head}
use Rattle.ec_attr.specs.declared.kind.Child.{Child}
use Rattle.ec_attr.specs.declared.kind.Kind.{Kind}
use Rattle.ec_attr.specs.declared.kind.Kind.TheVariants.{File, Dir}

-- each word behind a mark
unfoldable pub behind : ℕ → List (List ℕ) → List ℕ
behind mark words = flat_map (λ w. mark ∷ w) words

-- words with a mark between two
unfoldable pub divided : ℕ → List (List ℕ) → List ℕ
divided mark [] = []
divided mark (w ∷ ws) = w ++ behind mark ws

-- words with a blank between two
abbrev pub spaced : List (List ℕ) → List ℕ
spaced words = divided 32 words

-- no item is a hyphen
abbrev pub dash : List ℕ
dash = codes "-"

-- items joined by commas
unfoldable pub joined : List (List ℕ) → List ℕ
joined [] = dash
joined (w ∷ ws) = divided 44 (w ∷ ws)

abbrev pub numbers_word : List ℕ → List ℕ
numbers_word ns = joined (map decimal ns)

-- the set of these bits
abbrev pub bricks_word : ℕ → List ℕ
bricks_word bits = numbers_word (bricks bits)

-- bytes in hexadecimal digits of lower case
unfoldable pub bytes_word : List ℕ → List ℕ
bytes_word [] = dash
bytes_word (b ∷ bs) = encode_lower (b ∷ bs)

abbrev pub gfid_word : Gfid → List ℕ
gfid_word g = decimal g.0

abbrev pub kind_word : Kind → List ℕ
kind_word File = codes "file"
kind_word Dir = codes "dir"

abbrev pub child_word : Child → List ℕ
child_word c = kind_word c.kind ++ 58 ∷ gfid_word c.gfid

-- a child, or this word for none
abbrev pub child_or : List ℕ → Option Child → List ℕ
child_or none None = none
child_or none (Some c) = child_word c

abbrev pub child_words : Child → List (List ℕ)
child_words c = kind_word c.kind ∷ gfid_word c.gfid ∷ []

abbrev pub attr_words : Attr → List (List ℕ)
attr_words a = decimal a.mode ∷ decimal a.owner ∷ decimal a.group ∷ []

-- versions and dirty numbers are the content halves, a version with its mark
abbrev pub head_words : Head → List (List ℕ)
head_words h = kind_word h.kind ∷ encode_lower (config_bytes h.config) ∷ decimal h.version.content ∷ decimal h.size ∷ decimal h.dirty.content ∷ attr_words h.attr

abbrev pub number_or_dash : Option ℕ → List ℕ
number_or_dash None = dash
number_or_dash (Some n) = decimal n

abbrev pub gfid_or_dash : Option Gfid → List ℕ
gfid_or_dash None = dash
gfid_or_dash (Some g) = gfid_word g

-- a name in hexadecimal digits
abbrev pub name_or_dash : Option (List ℕ) → List ℕ
name_or_dash None = dash
name_or_dash (Some n) = encode_lower n

abbrev pub either : Bool → List ℕ → List ℕ → List ℕ
either true a b = a
either false a b = b
