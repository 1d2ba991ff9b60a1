-- What a line says, and that each step is by what its line says.
use Rattle.std.proofs.Common.{◌≡◌, ℕ, Bool, true, false, ◌||◌, nat_eq, List, [], ◌∷◌, length, Option, Some, None, Err, refl, sym}
use Rattle.std.specs.Prelude.{bytes_eq, codes, if◌then◌else◌}
use Rattle.std.proofs.lemmas.Slice.Eq.{bytes_eq-Decides}
use Rattle.ec_volfile.specs.declared.fault.VolumeFault.TheVariants.{BadLine}
use Rattle.ec_volfile.specs.declared.section.Keyword.{Keyword}
use Rattle.ec_volfile.specs.declared.section.Keyword.TheVariants as keyword
use Rattle.ec_volfile.specs.declared.section.Subvolumes.{Subvolumes}
use Rattle.ec_volfile.specs.declared.state.Place.{Place}
use Rattle.ec_volfile.specs.declared.state.Place.TheVariants as place
use Rattle.ec_volfile.specs.Lines.{words, trim, word_of, after_word}
use Rattle.ec_volfile.specs.Options.{key_of, set_by}
use Rattle.ec_volfile.specs.Sections.{Front, keyword_of, one_word, place_of_name, section_of_type, set_named, subvolumes, front_at_end, at_place}
use Rattle.ec_volfile.specs.Grammar.{is_remark, Item, Sets, Names}
use Rattle.ec_volfile.specs.Statements.{Begins, HasType, Holds, Ends, begins, has_type, statement_by, with_names, lead, lead_if}

-- where the place takes no such statement
no_name : (f : Front) (p : Place) (o : Option (List ℕ)) → ((name : List ℕ) → lead f p (Begins name) ≡ Err BadLine) → Err BadLine ≡ lead_if f p (begins o)
no_name f p None h = refl
no_name f p (Some name) h = sym (h name)

no_type : (f : Front) (p : Place) (o : Option (List ℕ)) → ((type : List ℕ) → lead f p (HasType type) ≡ Err BadLine) → Err BadLine ≡ lead_if f p (has_type o)
no_type f p None h = refl
no_type f p (Some type) h = sym (h type)

no_item : (f : Front) (p : Place) (t : Bool) (i : Item) → lead f p (Holds i) ≡ Err BadLine → Err BadLine ≡ lead_if f p (if t then None else Some (Holds i))
no_item f p true i h = refl
no_item f p false i h = sym h

no_end : (f : Front) (p : Place) (t : Bool) → lead f p Ends ≡ Err BadLine → Err BadLine ≡ lead_if f p (if t then Some Ends else None)
no_end f p true h = sym h
no_end f p false h = refl

-- the step by a keyword is the step by its statement
pub by_statement : (f : Front) (p : Place) (k : Keyword) (args : List ℕ) → at_place f p k args ≡ lead_if f p (statement_by k args)
by_statement f place.Outside keyword.Nothing args = refl
by_statement f place.Outside keyword.Volume args = elim (one_word args) as (λ (o : Option (List ℕ)). set_by (λ p. record f { place = p }) (place_of_name o) ≡ lead_if f place.Outside (begins o)) [ None ↦ refl | Some name ↦ refl ]
by_statement f place.Outside keyword.Type args = no_type f place.Outside (one_word args) (λ _. refl)
by_statement f place.Outside keyword.Option args = no_item f place.Outside (nat_eq (length (trim (after_word args))) 0) (Sets (word_of args) (trim (after_word args))) refl
by_statement f place.Outside keyword.Subvolumes args = no_item f place.Outside (nat_eq (length args) 0) (Names (words args)) refl
by_statement f place.Outside keyword.EndVolume args = no_end f place.Outside (nat_eq (length args) 0) refl
by_statement f place.Outside keyword.Other args = refl
by_statement f (place.Head name) keyword.Nothing args = refl
by_statement f (place.Head name) keyword.Volume args = no_name f (place.Head name) (one_word args) (λ _. refl)
by_statement f (place.Head name) keyword.Type args = elim (one_word args) as (λ (o : Option (List ℕ)). set_by (λ s. record f { place = place.Body s; disperse = f.disperse || s.disperse }) (section_of_type f.disperse name o) ≡ lead_if f (place.Head name) (has_type o)) [ None ↦ refl | Some type ↦ refl ]
by_statement f (place.Head name) keyword.Option args = no_item f (place.Head name) (nat_eq (length (trim (after_word args))) 0) (Sets (word_of args) (trim (after_word args))) refl
by_statement f (place.Head name) keyword.Subvolumes args = no_item f (place.Head name) (nat_eq (length args) 0) (Names (words args)) refl
by_statement f (place.Head name) keyword.EndVolume args = no_end f (place.Head name) (nat_eq (length args) 0) refl
by_statement f (place.Head name) keyword.Other args = refl
by_statement f (place.Body s) keyword.Nothing args = refl
by_statement f (place.Body s) keyword.Volume args = no_name f (place.Body s) (one_word args) (λ _. refl)
by_statement f (place.Body s) keyword.Type args = no_type f (place.Body s) (one_word args) (λ _. refl)
by_statement f (place.Body s) keyword.Option args =
    elim (nat_eq (length (trim (after_word args))) 0) as (λ (t : Bool). set_by (λ s. record f { place = place.Body s }) (if t then Err BadLine else set_named s (key_of (word_of args)) (trim (after_word args))) ≡ lead_if f (place.Body s) (if t then None else Some (Holds (Sets (word_of args) (trim (after_word args)))))) [ true ↦ refl | false ↦ refl ]
by_statement f (place.Body s) keyword.Subvolumes args =
    elim (nat_eq (length args) 0) as (λ (t : Bool). set_by (λ s. record f { place = place.Body s }) (if t then Err BadLine else subvolumes s args s.subvolumes) ≡ lead_if f (place.Body s) (if t then None else Some (Holds (Names (words args))))) [ true ↦ refl | false ↦ elim s.subvolumes as (λ (o : Option Subvolumes). set_by (λ s. record f { place = place.Body s }) (subvolumes s args o) ≡ set_by (λ s. record f { place = place.Body s }) (with_names s (words args) o)) [ None ↦ refl | Some old ↦ refl ] ]
by_statement f (place.Body s) keyword.EndVolume args =
    elim (nat_eq (length args) 0) as (λ (t : Bool). (if t then front_at_end f s else Err BadLine) ≡ lead_if f (place.Body s) (if t then Some Ends else None)) [ true ↦ refl | false ↦ refl ]
by_statement f (place.Body s) keyword.Other args = refl

-- what a keyword says of a word
abbrev pub KeywordSays : Keyword → List ℕ → Type 0
KeywordSays keyword.Nothing word = is_remark (word ∷ []) ≡ true
KeywordSays keyword.Volume word = word ≡ codes "volume"
KeywordSays keyword.Type word = word ≡ codes "type"
KeywordSays keyword.Option word = word ≡ codes "option"
KeywordSays keyword.Subvolumes word = word ≡ codes "subvolumes"
KeywordSays keyword.EndVolume word = word ≡ codes "end-volume"
KeywordSays keyword.Other word = Unit {0}

chosen_keyword : (word : List ℕ) (a b c d e g : Bool) → (a ≡ true → is_remark (word ∷ []) ≡ true) → (b ≡ true → word ≡ codes "volume") → (c ≡ true → word ≡ codes "type") → (d ≡ true → word ≡ codes "option") → (e ≡ true → word ≡ codes "subvolumes") → (g ≡ true → word ≡ codes "end-volume")
    → KeywordSays (if a then keyword.Nothing else (if b then keyword.Volume else (if c then keyword.Type else (if d then keyword.Option else (if e then keyword.Subvolumes else (if g then keyword.EndVolume else keyword.Other)))))) word
chosen_keyword word true b c d e g ha hb hc hd he hg = ha refl
chosen_keyword word false true c d e g ha hb hc hd he hg = hb refl
chosen_keyword word false false true d e g ha hb hc hd he hg = hc refl
chosen_keyword word false false false true e g ha hb hc hd he hg = hd refl
chosen_keyword word false false false false true g ha hb hc hd he hg = he refl
chosen_keyword word false false false false false true ha hb hc hd he hg = hg refl
chosen_keyword word false false false false false false ha hb hc hd he hg = tt

is_text : (word text : List ℕ) → bytes_eq word text ≡ true → word ≡ text
is_text word text = (bytes_eq-Decides word text).0

pub keyword_says : (word : List ℕ) → KeywordSays (keyword_of word) word
unfolding keyword_of
keyword_says [] = refl
keyword_says (b ∷ bs) =
    let w : List ℕ = b ∷ bs in
    chosen_keyword (b ∷ bs) (nat_eq b 35) (bytes_eq w (codes "volume")) (bytes_eq w (codes "type")) (bytes_eq w (codes "option")) (bytes_eq w (codes "subvolumes")) (bytes_eq w (codes "end-volume"))
    (λ h. h) (is_text w (codes "volume")) (is_text w (codes "type")) (is_text w (codes "option")) (is_text w (codes "subvolumes")) (is_text w (codes "end-volume"))
