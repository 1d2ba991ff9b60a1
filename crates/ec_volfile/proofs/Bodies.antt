-- A whole section's items, in both directions.
use Rattle.std.proofs.Common.{◌≡◌, ◌≤◌, ℕ, Bool, true, false, List, [], ◌∷◌, length, Option, Some, None, Result, Ok, Err, refl, sym, ap, ◌∙◌, subst, arith}
use Rattle.std.specs.Prelude.{if◌then◌else◌}
use Rattle.ec_volfile.specs.declared.options.Key.{Key}
use Rattle.ec_volfile.specs.declared.options.Options.{Options}
use Rattle.ec_volfile.specs.declared.section.OpenSection.{OpenSection}
use Rattle.ec_volfile.specs.declared.section.Subvolumes.{Subvolumes}
use Rattle.ec_volfile.specs.declared.fault.VolumeFault.{VolumeFault}
use Rattle.ec_volfile.specs.declared.fault.VolumeFault.TheVariants.{Twice}
use Rattle.ec_volfile.specs.Options.{key_of, set}
use Rattle.ec_volfile.specs.Sections.{set_named, with_options, repeats, subvolumes_of, disperse_names, other_names}
use Rattle.ec_volfile.specs.Grammar.{Item, Sets, Names, names_in}
use Rattle.ec_volfile.proofs.WordLemmas.{at_false}
use Rattle.ec_volfile.proofs.Keys.{key_values}
use Rattle.ec_volfile.specs.Statements.{with_names, take_item}
use Rattle.ec_volfile.proofs.Items.{Becomes, take_items, set_by-Ok, becomes-named, named-becomes, becomes-names, names-becomes}

same_Ok : {A : Type 0} (s u : A) → ◌≡◌ {A = Result A VolumeFault} (Ok s) (Ok u) → s ≡ u
same_Ok s u e = cc

-- an item leaves the type as it is
options_disperse : (s u : OpenSection) (r : Result Options VolumeFault) → with_options s r ≡ Ok u → u.disperse ≡ s.disperse
options_disperse s u r e = let p = set_by-Ok (λ (o : Options). record s { options = o }) r u e in sym (ap (λ (x : OpenSection). x.disperse) p.2)

named_disperse : (o : Option Key) (value : List ℕ) (s u : OpenSection) → set_named s o value ≡ Ok u → u.disperse ≡ s.disperse
named_disperse None value s u e = sym (ap (λ (x : OpenSection). x.disperse) (same_Ok s u e))
named_disperse (Some k) value s u e = by_type s.disperse e where
  by_type : (t : Bool) → (if t then with_options s (set s.options k value) else Ok s) ≡ Ok u → u.disperse ≡ s.disperse
  by_type true e = options_disperse s u (set s.options k value) e
  by_type false e = sym (ap (λ (x : OpenSection). x.disperse) (same_Ok s u e))

names_disperse : (names : List (List ℕ)) (s u : OpenSection) (o : Option Subvolumes) → with_names s names o ≡ Ok u → u.disperse ≡ s.disperse
names_disperse names s u (Some y) e = cc
names_disperse names s u None e = by_type s.disperse (repeats names) e where
  by_type : (t r : Bool) → (if t then (if r then Err Twice else Ok (record s { subvolumes = Some (subvolumes_of names) })) else other_names s) ≡ Ok u → u.disperse ≡ s.disperse
  by_type true true e = cc
  by_type true false e = sym (ap (λ (x : OpenSection). x.disperse) (same_Ok (record s { subvolumes = Some (subvolumes_of names) }) u e))
  by_type false r e = sym (ap (λ (x : OpenSection). x.disperse) (same_Ok (record s { subvolumes = Some (subvolumes_of []) }) u e))

pub item_disperse : (item : Item) (s u : OpenSection) → take_item s item ≡ Ok u → u.disperse ≡ s.disperse
item_disperse (Sets key value) s u e = named_disperse (key_of key) value s u e
item_disperse (Names names) s u e = names_disperse names s u s.subvolumes e

-- one item, then the others
pub take_first : (s t : OpenSection) (items : List Item) (r : Result OpenSection VolumeFault) → ◌≡◌ {A = Result OpenSection VolumeFault} (elim r as (λ _. Result OpenSection VolumeFault) [ Ok u ↦ take_items u items | Err e ↦ Err e ]) (Ok t) → (u : OpenSection) × (r ≡ Ok u) × (take_items u items ≡ Ok t)
take_first s t items (Ok u) e = (u, refl, e)
take_first s t items (Err d) e = cc

pub take_next : (s u : OpenSection) (item : Item) (items : List Item) → take_item s item ≡ Ok u → take_items s (item ∷ items) ≡ take_items u items
take_next s u item items e = ap (λ (r : Result OpenSection VolumeFault). elim r as (λ _. Result OpenSection VolumeFault) [ Ok u ↦ take_items u items | Err e ↦ Err e ]) e

nothing_becomes : (s : OpenSection) → Becomes s (key_values []) [] s
nothing_becomes s = record { name = refl; disperse = refl; subvolumes = refl; redundancy = refl; policy = refl; eager = refl; cache = refl; window = refl; kernel = refl; systematic = refl }

-- the items of a disperse section
pub taken-becomes : (items : List Item) (s t : OpenSection) → s.disperse ≡ true → take_items s items ≡ Ok t → Becomes s (key_values items) (names_in items) t
taken-becomes [] s t d e = subst (Becomes s (key_values []) []) (same_Ok s t e) (nothing_becomes s)
taken-becomes (Sets key value ∷ items) s t d e =
    let p = take_first s t items (take_item s (Sets key value)) e in
    becomes-named (key_of key) value s p.0 t (key_values items) (names_in items) d p.1 (taken-becomes items p.0 t (item_disperse (Sets key value) s p.0 p.1 ∙ d) p.2)
taken-becomes (Names names ∷ items) s t d e =
    let p = take_first s t items (take_item s (Names names)) e in
    becomes-names names s p.0 t (key_values items) (names_in items) d p.1 (taken-becomes items p.0 t (item_disperse (Names names) s p.0 p.1 ∙ d) p.2)

-- a section that becomes itself
same_section : (s t : OpenSection) → Becomes s (key_values []) [] t → s ≡ t
same_section s t b =
    let p : t ≡ s = λ i. record {
      name = b.name i;
      disperse = b.disperse i;
      subvolumes = b.subvolumes i;
      options = record { redundancy = b.redundancy i; policy = b.policy i; eager = b.eager i; cache = b.cache i; window = b.window i; kernel = b.kernel i; systematic = b.systematic i };
    } in
    sym p

pub becomes-taken : (items : List Item) (s t : OpenSection) → s.disperse ≡ true → Becomes s (key_values items) (names_in items) t → take_items s items ≡ Ok t
becomes-taken [] s t d b = ap Ok (same_section s t b)
becomes-taken (Sets key value ∷ items) s t d b =
    let p = named-becomes (key_of key) value s t (key_values items) (names_in items) d b in
    take_next s p.0 (Sets key value) items p.1 ∙ becomes-taken items p.0 t (item_disperse (Sets key value) s p.0 p.1 ∙ d) p.2
becomes-taken (Names names ∷ items) s t d b =
    let p = names-becomes names s t (key_values items) (names_in items) d b in
    take_next s p.0 (Names names) items p.1 ∙ becomes-taken items p.0 t (item_disperse (Names names) s p.0 p.1 ∙ d) p.2

-- how many more `subvolumes` there can be
abbrev pub HasRoom : Option Subvolumes → List (List (List ℕ)) → Type 0
HasRoom None nss = length nss ≤ 1
HasRoom (Some y) nss = length nss ≤ 0

other_named : (o : Option Key) (value : List ℕ) (s : OpenSection) → s.disperse ≡ false → set_named s o value ≡ Ok s
other_named None value s d = refl
other_named (Some k) value s d = at_false s.disperse (with_options s (set s.options k value)) (Ok s) d

other_names-first : (names : List (List ℕ)) (s u : OpenSection) (o : Option Subvolumes) (nss : List (List (List ℕ))) → s.disperse ≡ false → with_names s names o ≡ Ok u → HasRoom u.subvolumes nss → HasRoom o (names ∷ nss)
other_names-first names s u (Some y) nss d e r = cc
other_names-first names s u None nss d e r =
    let h : HasRoom (Some (subvolumes_of [])) nss = subst (λ (x : OpenSection). HasRoom x.subvolumes nss) (sym (same_Ok (record s { subvolumes = Some (subvolumes_of []) }) u (sym (at_false s.disperse (disperse_names s names) (other_names s) d) ∙ e))) r in
    omega (arith, h)

-- the items of a section of another type
pub taken-other : (items : List Item) (s t : OpenSection) → s.disperse ≡ false → take_items s items ≡ Ok t → (t.disperse ≡ false) × HasRoom s.subvolumes (names_in items)
taken-other [] s t d e = (sym (ap (λ (x : OpenSection). x.disperse) (same_Ok s t e)) ∙ d, no_more s.subvolumes) where
  no_more : (o : Option Subvolumes) → HasRoom o []
  no_more None = omega arith
  no_more (Some y) = omega arith
taken-other (Sets key value ∷ items) s t d e =
    let p = take_first s t items (take_item s (Sets key value)) e in
    let u : p.0 ≡ s = same_Ok p.0 s (sym p.1 ∙ other_named (key_of key) value s d) in
    let more = taken-other items p.0 t (ap (λ (x : OpenSection). x.disperse) u ∙ d) p.2 in
    (more.0, subst (λ (x : OpenSection). HasRoom x.subvolumes (names_in items)) u more.1)
taken-other (Names names ∷ items) s t d e =
    let p = take_first s t items (take_item s (Names names)) e in
    let more = taken-other items p.0 t (item_disperse (Names names) s p.0 p.1 ∙ d) p.2 in
    (more.0, other_names-first names s p.0 s.subvolumes (names_in items) d p.1 more.1)

abbrev TakesAll : OpenSection → List Item → Type 0
TakesAll s items = (t : OpenSection) × (take_items s items ≡ Ok t) × (t.disperse ≡ false)

room_names : (names : List (List ℕ)) (s : OpenSection) (o : Option Subvolumes) (nss : List (List (List ℕ))) → s.disperse ≡ false → HasRoom o (names ∷ nss) → (with_names s names o ≡ Ok (record s { subvolumes = Some (subvolumes_of []) })) × (length nss ≤ 0)
room_names names s (Some y) nss d r = absurd (omega (arith, r))
room_names names s None nss d r = (at_false s.disperse (disperse_names s names) (other_names s) d, omega (arith, r))

pub other-taken : (items : List Item) (s : OpenSection) → s.disperse ≡ false → HasRoom s.subvolumes (names_in items) → TakesAll s items
other-taken [] s d r = (s, refl, d)
other-taken (Sets key value ∷ items) s d r =
    let more = other-taken items s d r in
    (more.0, take_next s s (Sets key value) items (other_named (key_of key) value s d) ∙ more.1, more.2)
other-taken (Names names ∷ items) s d r =
    let p = room_names names s s.subvolumes (names_in items) d r in
    let more = other-taken items (record s { subvolumes = Some (subvolumes_of []) }) d p.1 in
    (more.0, take_next s (record s { subvolumes = Some (subvolumes_of []) }) (Names names) items p.0 ∙ more.1, more.2)
