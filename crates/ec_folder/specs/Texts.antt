-- The lines of the files of a brick folder. Numbers of attributes are in hexadecimal digits, highest byte first.
use Rattle.std.specs.Prelude.{◌≡◌, ◌⊎◌, ℕ, List, [], ◌∷◌, ◌++◌, codes, decimal, fold}
use Rattle.std.specs.Int.{to_be_bytes, w128}
use Rattle.byteorder.specs.Endian.{big_bytes}
use Rattle.hex.specs.Hex.{encode_lower}
use Rattle.uuid.specs.Text.{hyphenated_text, lower}
use Rattle.ec_attr.specs.Attributes.{config_bytes, pair_bytes}
use Rattle.ec_attr.specs.Head.{new_attr}
use Rattle.ec_attr.specs.declared.attr.Attr.{Attr}
use Rattle.ec_attr.specs.declared.head.Head.{Head}
use Rattle.ec_attr.specs.declared.kind.Child.{Child}
use Rattle.ec_attr.specs.declared.kind.Kind.{Kind}
use Rattle.ec_attr.specs.declared.kind.Kind.TheVariants.{File, Dir}

abbrev pub kind_word : Kind → List ℕ
kind_word File = codes "file"
kind_word Dir = codes "dir"

unfoldable pub line : List ℕ → List ℕ → List ℕ
line key value = key ++ 32 ∷ value ++ 10 ∷ []

-- a line for each of these values
unfoldable pub five_lines : List ℕ → List ℕ → List ℕ → List ℕ → List ℕ → List ℕ
five_lines kind config version size dirty = (((line (codes "kind") kind ++ line (codes "trusted.ec.config") config) ++ line (codes "trusted.ec.version") version) ++ line (codes "trusted.ec.size") size) ++ line (codes "trusted.ec.dirty") dirty

-- the lines of a head but for the last
abbrev pub old_lines : Head → List ℕ
old_lines h = five_lines (kind_word h.kind) (encode_lower (config_bytes h.config)) (encode_lower (pair_bytes h.version.content h.version.meta)) (encode_lower (big_bytes 8 h.size)) (encode_lower (pair_bytes h.dirty.content h.dirty.meta))

-- the last one: the mode, the owner and the group
abbrev pub attr_line : Attr → List ℕ
attr_line a = codes "attr " ++ decimal a.mode ++ 32 ∷ decimal a.owner ++ 32 ∷ decimal a.group ++ 10 ∷ []

abbrev pub head_lines : Head → List ℕ
head_lines h = old_lines h ++ attr_line h.attr

-- what is read as a head: its lines, or without the last one where its attribute is that of a new record
abbrev pub IsHeadText : List ℕ → Head → Type 0
IsHeadText text h = (text ≡ head_lines h) ⊎ ((text ≡ old_lines h) × (h.attr ≡ new_attr h.kind))

abbrev pub id_text : ℕ → List ℕ
id_text g = hyphenated_text lower (to_be_bytes w128 g)

-- a name, the kind of its child and the id of it
abbrev pub name_line : List ℕ × Child → List ℕ
name_line e = encode_lower e.0 ++ 32 ∷ kind_word e.1.kind ++ 32 ∷ id_text e.1.gfid.0 ++ 10 ∷ []

-- a line for each name
abbrev pub names_lines : List (List ℕ × Child) → List ℕ
names_lines entries = fold (λ text e. text ++ name_line e) [] entries
