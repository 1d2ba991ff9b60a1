-- The steps of reading, line by line, as the code takes them: what each line leads to, or the fault that it is. The
-- grammar is said apart from them, by sections, and so are the faults, by what a line says.
use Rattle.std.specs.Prelude.{ℕ, ◌+◌, ◌*◌, ◌^◌, Bool, true, false, ◌||◌, ◌&&◌, List, [], ◌∷◌, length, take, Option, Some, None, unwrap_or, ok_or, Result, Ok, Err, bytes_eq, codes, nat_eq, nat_lt, nat_le, if◌then◌else◌}
use Rattle.std.specs.List.{list_any}
use Rattle.std.specs.Borrow.{Bor}
use Rattle.ec_attr.specs.declared.policy.Policy.TheVariants.{RoundRobin}
use Rattle.ec_volfile.specs.declared.volume.Kernel.TheVariants.{Fused}
use Rattle.ec_volfile.specs.declared.volume.Volume.{Volume}
use Rattle.ec_volfile.specs.declared.options.Key.{Key}
use Rattle.ec_volfile.specs.declared.options.Options.{Options}
use Rattle.ec_volfile.specs.declared.fault.VolumeFault.{VolumeFault}
use Rattle.ec_volfile.specs.declared.fault.VolumeFault.TheVariants.{TooLong, BadLine, Twice, TwoDisperse, NoRedundancy, BadGeometry, NoEnd, NoDisperse}
use Rattle.ec_volfile.specs.declared.section.Keyword.{Keyword}
use Rattle.ec_volfile.specs.declared.section.Keyword.TheVariants as keyword
use Rattle.ec_volfile.specs.declared.section.Subvolumes.{Subvolumes}
use Rattle.ec_volfile.specs.declared.section.OpenSection.{OpenSection}
use Rattle.ec_volfile.specs.declared.state.Place.{Place}
use Rattle.ec_volfile.specs.declared.state.Place.TheVariants as place
use Rattle.ec_volfile.specs.declared.state.State.{State}
use Rattle.ec_volfile.specs.Lines.{lines, words, skip_blanks, trim, word_of, after_word}
use Rattle.ec_volfile.specs.Options.{key_of, set, set_by}
use Rattle.ec_volfile.specs.Outline.{Outline, outline}

-- what stands after the first lines: where in a section the next line stands, whether a section has the type
-- `cluster/disperse`, and its volume, if that section is over
pub record Front : Type 0 where
  pub place : Place
  pub disperse : Bool
  pub found : Option Outline

abbrev pub outline_in : Option Volume → Option Outline
outline_in None = None
outline_in (Some v) = Some (outline v)

abbrev pub front_of : State → Front
front_of s = record { place = s.place; disperse = s.disperse; found = outline_in s.volume }

-- the keyword that the first word of a line is; a line without words or with a comment says nothing
unfoldable pub keyword_of : List ℕ → Keyword
keyword_of [] = keyword.Nothing
keyword_of (b ∷ bs) =
    if nat_eq b 35 then keyword.Nothing
    else (if bytes_eq (b ∷ bs) (codes "volume") then keyword.Volume
    else (if bytes_eq (b ∷ bs) (codes "type") then keyword.Type
    else (if bytes_eq (b ∷ bs) (codes "option") then keyword.Option
    else (if bytes_eq (b ∷ bs) (codes "subvolumes") then keyword.Subvolumes
    else (if bytes_eq (b ∷ bs) (codes "end-volume") then keyword.EndVolume else keyword.Other)))))

-- the one word that the arguments are
unfoldable pub one_word : List ℕ → Option (List ℕ)
one_word args =
    if nat_eq (length args) 0 then None
    else (if nat_eq (length (skip_blanks (after_word args))) 0 then Some (word_of args) else None)

-- outside a section: `volume NAME`
abbrev pub place_of_name : Option (List ℕ) → Result Place VolumeFault
place_of_name None = Err BadLine
place_of_name (Some name) = Ok (place.Head name)

abbrev pub outside : Keyword → List ℕ → Result Place VolumeFault
outside keyword.Volume args = place_of_name (one_word args)
outside _ args = Err BadLine

-- after `volume NAME`: `type T`
abbrev pub new_section : List ℕ → Bool → OpenSection
new_section name disperse = record {
  name = name;
  disperse = disperse;
  subvolumes = None;
  options = record { redundancy = None; policy = None; eager = None; cache = None; window = None; kernel = None; systematic = None };
}

abbrev pub section_of_type : Bool → List ℕ → Option (List ℕ) → Result OpenSection VolumeFault
section_of_type disperse name None = Err BadLine
section_of_type disperse name (Some type) =
    if bytes_eq type (codes "cluster/disperse") then (if disperse then Err TwoDisperse else Ok (new_section name true))
    else Ok (new_section name false)

abbrev pub head : Bool → List ℕ → Keyword → List ℕ → Result OpenSection VolumeFault
head disperse name keyword.Type args = section_of_type disperse name (one_word args)
head disperse name _ args = Err BadLine

-- `option KEY VALUE`, where only the disperse section's named options are read
abbrev pub with_options : OpenSection → Result Options VolumeFault → Result OpenSection VolumeFault
with_options s changed = set_by (λ o. record s { options = o }) changed

abbrev pub set_named : OpenSection → Option Key → List ℕ → Result OpenSection VolumeFault
set_named s None value = Ok s
set_named s (Some key) value = if s.disperse then with_options s (set s.options key value) else Ok s

abbrev pub option : OpenSection → List ℕ → List ℕ → Result OpenSection VolumeFault
option s key value = if nat_eq (length value) 0 then Err BadLine else set_named s (key_of key) value

-- a name comes twice
abbrev pub repeats : List (List ℕ) → Bool
repeats [] = false
repeats (name ∷ names) = list_any (bytes_eq name) names || repeats names

-- a word is one of these
abbrev pub is_among : List (Bor (List ℕ)) → List ℕ → Bool
is_among seen word = list_any (λ (k : Bor (List ℕ)). bytes_eq word k.now) seen

-- `subvolumes A B ..`: how many there are, and the first 31
abbrev pub subvolumes_of : List (List ℕ) → Subvolumes
subvolumes_of names = record { count = length names; names = take 31 names }

abbrev pub disperse_names : OpenSection → List (List ℕ) → Result OpenSection VolumeFault
disperse_names s names = if repeats names then Err Twice else Ok (record s { subvolumes = Some (subvolumes_of names) })

abbrev pub other_names : OpenSection → Result OpenSection VolumeFault
other_names s = Ok (record s { subvolumes = Some (subvolumes_of []) })

abbrev pub subvolumes : OpenSection → List ℕ → Option Subvolumes → Result OpenSection VolumeFault
subvolumes s args (Some old) = Err Twice
subvolumes s args None = if s.disperse then disperse_names s (words args) else other_names s

-- within a section: an option, or the subvolumes
abbrev pub item : OpenSection → Keyword → List ℕ → Result OpenSection VolumeFault
item s keyword.Option args = option s (word_of args) (trim (after_word args))
item s keyword.Subvolumes args = if nat_eq (length args) 0 then Err BadLine else subvolumes s args s.subvolumes
item s _ args = Err BadLine

-- the shape of a volume
unfoldable pub is_geometry : ℕ → ℕ → Bool
is_geometry n r = nat_lt 0 r && nat_lt (2 * r) n && nat_le (2 + r) n && nat_le n (16 + r) && nat_le n 31

abbrev pub subvolumes_or : Option Subvolumes → Subvolumes
subvolumes_or None = subvolumes_of []
subvolumes_or (Some s) = s

-- what the disperse section says
abbrev pub outline_of : OpenSection → Subvolumes → ℕ → Outline
outline_of s bricks r = record {
  name = s.name;
  bricks = bricks.names;
  n = bricks.count;
  r = r;
  algorithm = if unwrap_or s.options.systematic false then 1 else 0;
  policy = unwrap_or s.options.policy RoundRobin;
  eager = unwrap_or s.options.eager false;
  cache = unwrap_or s.options.cache 4;
  window = unwrap_or s.options.window 16;
  kernel = unwrap_or s.options.kernel Fused;
}

abbrev pub volume_with : OpenSection → Subvolumes → Option ℕ → Result Outline VolumeFault
volume_with s bricks None = Err NoRedundancy
volume_with s bricks (Some r) = if is_geometry bricks.count r then Ok (outline_of s bricks r) else Err (BadGeometry bricks.count r)

abbrev pub volume_of : OpenSection → Result Outline VolumeFault
volume_of s = volume_with s (subvolumes_or s.subvolumes) s.options.redundancy

-- `end-volume`
abbrev pub front_at_end : Front → OpenSection → Result Front VolumeFault
front_at_end f s =
    if s.disperse then set_by (λ v. record f { place = place.Outside; found = Some v }) (volume_of s)
    else Ok (record f { place = place.Outside })

abbrev pub body : Front → OpenSection → Keyword → List ℕ → Result Front VolumeFault
body f s keyword.EndVolume args = if nat_eq (length args) 0 then front_at_end f s else Err BadLine
body f s k args = set_by (λ s. record f { place = place.Body s }) (item s k args)

abbrev pub at_place : Front → Place → Keyword → List ℕ → Result Front VolumeFault
at_place f place.Outside k args = set_by (λ p. record f { place = p }) (outside k args)
at_place f (place.Head name) k args = set_by (λ s. record f { place = place.Body s; disperse = f.disperse || s.disperse }) (head f.disperse name k args)
at_place f (place.Body s) k args = body f s k args

abbrev pub obey : Front → Keyword → List ℕ → Result Front VolumeFault
obey f keyword.Nothing args = Ok f
obey f k args = at_place f f.place k args

-- what a line leads to
unfoldable pub step : Front → List ℕ → Result Front VolumeFault
step f line = let bytes = skip_blanks line in obey f (keyword_of (word_of bytes)) (skip_blanks (after_word bytes))

-- before the first line
abbrev pub start : Front
start = record { place = place.Outside; disperse = false; found = None }

-- the end of the file
abbrev pub finish_at : Place → Option Outline → Result Outline VolumeFault
finish_at place.Outside found = ok_or found NoDisperse
finish_at _ found = Err NoEnd

abbrev pub finish : Front → Result Outline VolumeFault
finish f = finish_at f.place f.found

-- The lines from number n + 1 on, after the lines before them. A fault stands with its line's number.
abbrev pub with_line : {X : Type 0} → ℕ → Result X VolumeFault → Result X (ℕ × VolumeFault)
with_line n (Ok x) = Ok x
with_line n (Err f) = Err (n, f)

abbrev pub run : Front → ℕ → List (List ℕ) → Result Outline (ℕ × VolumeFault)
run f n [] = with_line n (finish f)
run f n (line ∷ lines) = elim (step f line) [ Ok f ↦ run f (n + 1) lines | Err e ↦ Err (n + 1, e) ]

-- what reading a file gives: its volume, or the first fault with its line
abbrev pub outcome : List ℕ → Result Outline (ℕ × VolumeFault)
outcome bytes = if nat_lt (2 ^ 20) (length bytes) then Err (0, TooLong) else run start 0 (lines bytes)
