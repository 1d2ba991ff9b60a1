-- What is read is in the grammar, and what is in the grammar is read.
use Rattle.std.proofs.Common.{◌≡◌, ◌≢◌, ◌^◌, ℕ, ◌+◌, Bool, true, false, ◌||◌, not, List, [], ◌∷◌, ◌++◌, length, Option, Some, None, Result, Ok, Err, refl, sym, ap, ◌∙◌, subst, ◌⊎◌, inl, inr, nat_lt}
use Rattle.std.specs.Prelude.{if◌then◌else◌, bytes_eq, codes, ok_or}
use Rattle.std.specs.List.{AllByRecursion}
use Rattle.std.proofs.lemmas.Bool.{false≢true, ltb-false, le-ltb}
use Rattle.std.proofs.lemmas.Slice.Eq.{bytes_eq-Decides}
use Rattle.ec_volfile.specs.declared.section.OpenSection.{OpenSection}
use Rattle.ec_volfile.specs.declared.state.Place.{Place}
use Rattle.ec_volfile.specs.declared.state.Place.TheVariants as place
use Rattle.ec_volfile.specs.declared.fault.VolumeFault.{VolumeFault}
use Rattle.ec_volfile.specs.declared.fault.VolumeFault.TheVariants.{TwoDisperse, NoDisperse, TooLong}
use Rattle.ec_volfile.specs.Lines.{lines, words}
use Rattle.ec_volfile.specs.Options.{set_by}
use Rattle.ec_volfile.specs.Outline.{Outline}
use Rattle.ec_volfile.specs.Sections.{Front, new_section, section_of_type, volume_of, front_at_end, step, start, finish_at, with_line, run, outcome}
use Rattle.ec_volfile.specs.Grammar.{is_passed, filled_lines, Item, IsItem, Section, Closes, Follows, AreSections, names_in, disperse_type, Describes, IsOther, IsVolumeFile}
use Rattle.ec_volfile.proofs.WordLemmas.{at_true, at_false}
use Rattle.ec_volfile.specs.Statements.{Statement, Begins, HasType, Holds, Ends, Says, take_item, lead}
use Rattle.ec_volfile.proofs.LineLaws.{step-passed, step-says, step-of}
use Rattle.ec_volfile.proofs.Keys.{key_values}
use Rattle.ec_volfile.proofs.Items.{Becomes, take_items, set_by-Ok}
use Rattle.ec_volfile.proofs.Bodies.{taken-becomes, becomes-taken, taken-other, other-taken, take_first, take_next, item_disperse}
use Rattle.ec_volfile.proofs.Meanings.{volume-describes, describes-volume}

-- what sections mean where it is known whether one before them has the type, and its meaning
abbrev Means : Bool → Option Outline → List Section → Outline → Type 0
Means d found [] o = found ≡ Some o
Means d found (s ∷ ss) o = (IsOther s × Means d found ss o) ⊎ ((d ≡ false) × (p : Outline) × Describes s p × Means true (Some p) ss o)

-- how a section that was read so far goes on
record Rest (fls : List (List ℕ)) (d : Bool) (found : Option Outline) (o : Outline) (t : OpenSection) : Type 0 where
  items : List Item
  rest : List (List ℕ)
  others : List Section
  read : OpenSection
  closes : Closes fls items rest
  sections : AreSections rest others
  taken : take_items t items ≡ Ok read
  disperse : read.disperse ≡ t.disperse
  means : ((t.disperse ≡ true) × (p : Outline) × (volume_of read ≡ Ok p) × Means d (Some p) others o) ⊎ ((t.disperse ≡ false) × Means d found others o)

record HeadRest (fls : List (List ℕ)) (d : Bool) (found : Option Outline) (o : Outline) (name : List ℕ) : Type 0 where
  section : Section
  rest : List (List ℕ)
  others : List Section
  named : section.name ≡ name
  follows : Follows fls section rest
  sections : AreSections rest others
  means : Means d found (section ∷ others) o

record OutsideRest (fls : List (List ℕ)) (d : Bool) (found : Option Outline) (o : Outline) : Type 0 where
  others : List Section
  sections : AreSections fls others
  means : Means d found others o

-- the lines lead on to the volume
abbrev CompletesAt : Place → Bool → Option Outline → List (List ℕ) → Outline → Type 0
CompletesAt place.Outside d found fls o = OutsideRest fls d found o
CompletesAt (place.Head name) d found fls o = HeadRest fls d found o name
CompletesAt (place.Body t) d found fls o = Rest fls d found o t

abbrev Completes : Front → List (List ℕ) → Outline → Type 0
Completes f fls o = CompletesAt f.place f.disperse f.found fls o

same_Ok : {A : Type 0} (x y : A) → ◌≡◌ {A = Result A VolumeFault} (Ok x) (Ok y) → x ≡ y
same_Ok x y e = cc

-- the front with these parts
abbrev at_front : Place → Bool → Option Outline → Front
at_front p d found = record { place = p; disperse = d; found = found }

-- One line, from what follows it to it.

-- `type cluster/disperse`
disperse_back : (name type line : List ℕ) (found : Option Outline) (fls : List (List ℕ)) (o : Outline) → words line ≡ codes "type" ∷ type ∷ [] → type ≡ disperse_type → Rest fls true found o (new_section name true) → HeadRest (line ∷ fls) false found o name
disperse_back name type line found fls o w e c = record {
  section = record { name = name; type = type; items = c.items };
  rest = c.rest;
  others = c.others;
  named = refl;
  follows = (w, c.closes);
  sections = c.sections;
  means = by_means c.means;
} where
  by_means : ((true ≡ true) × (p : Outline) × (volume_of c.read ≡ Ok p) × Means true (Some p) c.others o) ⊎ ((true ≡ false) × Means true found c.others o) → Means false found (record { name = name; type = type; items = c.items } ∷ c.others) o
  by_means (inl m) = inr (refl, m.1, volume-describes name type c.items c.read m.1 e (taken-becomes c.items (new_section name true) c.read refl c.taken) m.2, m.3)
  by_means (inr m) = absurd (false≢true (sym m.0))

-- another type
other_back : (name type line : List ℕ) (d : Bool) (found : Option Outline) (fls : List (List ℕ)) (o : Outline) → words line ≡ codes "type" ∷ type ∷ [] → type ≢ disperse_type → Rest fls d found o (new_section name false) → HeadRest (line ∷ fls) d found o name
other_back name type line d found fls o w n c = record {
  section = record { name = name; type = type; items = c.items };
  rest = c.rest;
  others = c.others;
  named = refl;
  follows = (w, c.closes);
  sections = c.sections;
  means = by_means c.means;
} where
  by_means : ((false ≡ true) × (p : Outline) × (volume_of c.read ≡ Ok p) × Means d (Some p) c.others o) ⊎ ((false ≡ false) × Means d found c.others o) → Means d found (record { name = name; type = type; items = c.items } ∷ c.others) o
  by_means (inl m) = absurd (false≢true m.0)
  by_means (inr m) = inl (record { type = n; subvolumes = (taken-other c.items (new_section name false) c.read refl c.taken).1 }, m.1)

type_back : (name type line : List ℕ) (d : Bool) (found : Option Outline) (t : OpenSection) (fls : List (List ℕ)) (o : Outline) → words line ≡ codes "type" ∷ type ∷ [] → section_of_type d name (Some type) ≡ Ok t → Rest fls (d || t.disperse) found o t → HeadRest (line ∷ fls) d found o name
type_back name type line true found t fls o w e c = by_type (bytes_eq type disperse_type) refl e where
  by_type : (b : Bool) → bytes_eq type disperse_type ≡ b → ◌≡◌ {A = Result OpenSection VolumeFault} (if b then Err TwoDisperse else Ok (new_section name false)) (Ok t) → HeadRest (line ∷ fls) true found o name
  by_type true h e = cc
  by_type false h e = other_back name type line true found fls o w (λ k. false≢true (sym h ∙ (bytes_eq-Decides type disperse_type).1 k)) (subst (λ (x : OpenSection). Rest fls true found o x) (sym (same_Ok (new_section name false) t e)) c)
type_back name type line false found t fls o w e c = by_type (bytes_eq type disperse_type) refl e where
  by_type : (b : Bool) → bytes_eq type disperse_type ≡ b → ◌≡◌ {A = Result OpenSection VolumeFault} (if b then Ok (new_section name true) else Ok (new_section name false)) (Ok t) → HeadRest (line ∷ fls) false found o name
  by_type true h e = disperse_back name type line found fls o w ((bytes_eq-Decides type disperse_type).0 h) (subst (λ (x : OpenSection). Rest fls x.disperse found o x) (sym (same_Ok (new_section name true) t e)) c)
  by_type false h e = other_back name type line false found fls o w (λ k. false≢true (sym h ∙ (bytes_eq-Decides type disperse_type).1 k)) (subst (λ (x : OpenSection). Rest fls x.disperse found o x) (sym (same_Ok (new_section name false) t e)) c)

-- `end-volume`
end_back : (line : List ℕ) (t : OpenSection) (d : Bool) (found : Option Outline) (g : Front) (fls : List (List ℕ)) (o : Outline) → words line ≡ codes "end-volume" ∷ [] → front_at_end (at_front (place.Body t) d found) t ≡ Ok g → Completes g fls o → Rest (line ∷ fls) d found o t
end_back line t d found g fls o w e c = by_type t.disperse refl e where
  by_type : (b : Bool) → t.disperse ≡ b → ◌≡◌ {A = Result Front VolumeFault} (if b then set_by (λ v. at_front place.Outside d (Some v)) (volume_of t) else Ok (at_front place.Outside d found)) (Ok g) → Rest (line ∷ fls) d found o t
  by_type true h e =
      let p = set_by-Ok (λ (v : Outline). at_front place.Outside d (Some v)) (volume_of t) g e in
      let r : OutsideRest fls d (Some p.0) o = subst (λ (x : Front). Completes x fls o) (sym p.2) c in
      record { items = []; rest = fls; others = r.others; read = t; closes = (w, refl); sections = r.sections; taken = refl; disperse = refl; means = inl (h, p.0, p.1, r.means) }
  by_type false h e =
      let r : OutsideRest fls d found o = subst (λ (x : Front). Completes x fls o) (sym (same_Ok (at_front place.Outside d found) g e)) c in
      record { items = []; rest = fls; others = r.others; read = t; closes = (w, refl); sections = r.sections; taken = refl; disperse = refl; means = inr (h, r.means) }

-- an item
item_back : (line : List ℕ) (item : Item) (t u : OpenSection) (d : Bool) (found : Option Outline) (fls : List (List ℕ)) (o : Outline) → IsItem line item → take_item t item ≡ Ok u → Rest fls d found o u → Rest (line ∷ fls) d found o t
item_back line item t u d found fls o w e c = record {
  items = item ∷ c.items;
  rest = c.rest;
  others = c.others;
  read = c.read;
  closes = (w, c.closes);
  sections = c.sections;
  taken = take_next t u item c.items e ∙ c.taken;
  disperse = c.disperse ∙ item_disperse item t u e;
  means = subst (λ (b : Bool). ((b ≡ true) × (p : Outline) × (volume_of c.read ≡ Ok p) × Means d (Some p) c.others o) ⊎ ((b ≡ false) × Means d found c.others o)) (item_disperse item t u e) c.means;
}

lead_back : (p : Place) (st : Statement) (d : Bool) (found : Option Outline) (g : Front) (line : List ℕ) (fls : List (List ℕ)) (o : Outline) → Says line st → lead (at_front p d found) p st ≡ Ok g → Completes g fls o → CompletesAt p d found (line ∷ fls) o
lead_back place.Outside (Begins name) d found g line fls o says e c =
    let r : HeadRest fls d found o name = subst (λ (x : Front). Completes x fls o) (sym (same_Ok (at_front (place.Head name) d found) g e)) c in
    record { others = r.section ∷ r.others; sections = (r.rest, (says ∙ ap (λ (n : List ℕ). codes "volume" ∷ n ∷ []) (sym r.named), r.follows), r.sections); means = r.means }
lead_back place.Outside (HasType type) d found g line fls o says e c = cc
lead_back place.Outside (Holds item) d found g line fls o says e c = cc
lead_back place.Outside Ends d found g line fls o says e c = cc
lead_back (place.Head name) (Begins name') d found g line fls o says e c = cc
lead_back (place.Head name) (HasType type) d found g line fls o says e c =
    let p = set_by-Ok (λ (t : OpenSection). at_front (place.Body t) (d || t.disperse) found) (section_of_type d name (Some type)) g e in
    type_back name type line d found p.0 fls o says p.1 (subst (λ (x : Front). Completes x fls o) (sym p.2) c)
lead_back (place.Head name) (Holds item) d found g line fls o says e c = cc
lead_back (place.Head name) Ends d found g line fls o says e c = cc
lead_back (place.Body t) (Begins name) d found g line fls o says e c = cc
lead_back (place.Body t) (HasType type) d found g line fls o says e c = cc
lead_back (place.Body t) (Holds item) d found g line fls o says e c =
    let p = set_by-Ok (λ (t : OpenSection). at_front (place.Body t) d found) (take_item t item) g e in
    item_back line item t p.0 d found fls o says p.1 (subst (λ (x : Front). Completes x fls o) (sym p.2) c)
lead_back (place.Body t) Ends d found g line fls o says e c = end_back line t d found g fls o says e c

-- One line, on to what follows it.
record LeadsOn (f : Front) (line : List ℕ) (fls : List (List ℕ)) (o : Outline) : Type 0 where
  passed : is_passed line ≡ false
  front : Front
  step : step f line ≡ Ok front
  completes : Completes front fls o

begin_on : (d : Bool) (found : Option Outline) (line : List ℕ) (fls : List (List ℕ)) (o : Outline) (others : List Section) → AreSections (line ∷ fls) others → Means d found others o → LeadsOn (at_front place.Outside d found) line fls o
begin_on d found line fls o [] a m = cc
begin_on d found line fls o (s ∷ ss) a m =
    let k = step-of (at_front place.Outside d found) line (Begins s.name) a.1.0 in
    record { passed = k.0; front = at_front (place.Head s.name) d found; step = k.1; completes = record { section = s; rest = a.0; others = ss; named = refl; follows = a.1.1; sections = a.2; means = m } }

or_false : (d : Bool) → d ≡ (d || false)
or_false true = refl
or_false false = refl

-- the section's own text, by its parts
type_on : (name : List ℕ) (d : Bool) (found : Option Outline) (line : List ℕ) (fls : List (List ℕ)) (o : Outline) (s : Section) (rest : List (List ℕ)) (ss : List Section) → s.name ≡ name → words line ≡ codes "type" ∷ s.type ∷ [] → Closes fls s.items rest → AreSections rest ss → Means d found (s ∷ ss) o → LeadsOn (at_front (place.Head name) d found) line fls o
type_on name d found line fls o s rest ss n w cl a (inl m) =
    let k = step-of (at_front (place.Head name) d found) line (HasType s.type) w in
    let taken = other-taken s.items (new_section name false) refl m.0.subvolumes in
    record {
      passed = k.0;
      front = at_front (place.Body (new_section name false)) (d || false) found;
      step = k.1 ∙ ap (λ (b : Bool). set_by (λ (t : OpenSection). at_front (place.Body t) (d || t.disperse) found) (if b then (if d then Err TwoDisperse else Ok (new_section name true)) else Ok (new_section name false))) (not_type (bytes_eq s.type disperse_type) refl);
      completes = record { items = s.items; rest = rest; others = ss; read = taken.0; closes = cl; sections = a; taken = taken.1; disperse = taken.2; means = inr (refl, subst (λ (b : Bool). Means b found ss o) (or_false d) m.1) };
    } where
      not_type : (b : Bool) → bytes_eq s.type disperse_type ≡ b → b ≡ false
      not_type true h = absurd (m.0.type ((bytes_eq-Decides s.type disperse_type).0 h))
      not_type false h = refl
type_on name d found line fls o s rest ss n w cl a (inr m) =
    let k = step-of (at_front (place.Head name) d found) line (HasType s.type) w in
    let v = describes-volume s m.1 m.2 in
    record {
      passed = k.0;
      front = at_front (place.Body (new_section name true)) true found;
      step = k.1
          ∙ (ap (λ (b : Bool). set_by (λ (t : OpenSection). at_front (place.Body t) (d || t.disperse) found) (if b then (if d then Err TwoDisperse else Ok (new_section name true)) else Ok (new_section name false))) ((bytes_eq-Decides s.type disperse_type).1 m.2.type)
          ∙ ap (λ (d : Bool). set_by (λ (t : OpenSection). at_front (place.Body t) (d || t.disperse) found) (if d then Err TwoDisperse else Ok (new_section name true))) m.0);
      completes = record { items = s.items; rest = rest; others = ss; read = v.read; closes = cl; sections = a; taken = becomes-taken s.items (new_section name true) v.read refl (subst (λ (x : List ℕ). Becomes (new_section x true) (key_values s.items) (names_in s.items) v.read) n v.becomes); disperse = v.disperse; means = inl (refl, m.1, v.volume, m.3) };
    }

end_on : (t : OpenSection) (d : Bool) (found : Option Outline) (line : List ℕ) (fls : List (List ℕ)) (o : Outline) (rest : List (List ℕ)) (ss : List Section) → words line ≡ codes "end-volume" ∷ [] → fls ≡ rest → AreSections rest ss
    → ((t.disperse ≡ true) × (p : Outline) × (volume_of t ≡ Ok p) × Means d (Some p) ss o) ⊎ ((t.disperse ≡ false) × Means d found ss o) → LeadsOn (at_front (place.Body t) d found) line fls o
end_on t d found line fls o rest ss w e a (inl m) =
    let k = step-of (at_front (place.Body t) d found) line Ends w in
    record {
      passed = k.0;
      front = at_front place.Outside d (Some m.1);
      step = k.1 ∙ (at_true t.disperse (set_by (λ v. at_front place.Outside d (Some v)) (volume_of t)) (Ok (at_front place.Outside d found)) m.0 ∙ ap (set_by (λ v. at_front place.Outside d (Some v))) m.2);
      completes = record { others = ss; sections = subst (λ (x : List (List ℕ)). AreSections x ss) (sym e) a; means = m.3 };
    }
end_on t d found line fls o rest ss w e a (inr m) =
    let k = step-of (at_front (place.Body t) d found) line Ends w in
    record {
      passed = k.0;
      front = at_front place.Outside d found;
      step = k.1 ∙ at_false t.disperse (set_by (λ v. at_front place.Outside d (Some v)) (volume_of t)) (Ok (at_front place.Outside d found)) m.0;
      completes = record { others = ss; sections = subst (λ (x : List (List ℕ)). AreSections x ss) (sym e) a; means = m.1 };
    }

body_on : (t : OpenSection) (d : Bool) (found : Option Outline) (line : List ℕ) (fls : List (List ℕ)) (o : Outline) (items : List Item) (c : Rest (line ∷ fls) d found o t) → c.items ≡ items → Closes (line ∷ fls) items c.rest → take_items t items ≡ Ok c.read → LeadsOn (at_front (place.Body t) d found) line fls o
body_on t d found line fls o [] c i cl e =
    let same : c.read ≡ t = sym (same_Ok t c.read e) in
    end_on t d found line fls o c.rest c.others cl.0 cl.1 c.sections (subst (λ (x : OpenSection). ((t.disperse ≡ true) × (p : Outline) × (volume_of x ≡ Ok p) × Means d (Some p) c.others o) ⊎ ((t.disperse ≡ false) × Means d found c.others o)) same c.means)
body_on t d found line fls o (item ∷ items) c i cl e =
    let p = take_first t c.read items (take_item t item) e in
    let k = step-of (at_front (place.Body t) d found) line (Holds item) cl.0 in
    let same : p.0.disperse ≡ t.disperse = item_disperse item t p.0 p.1 in
    record {
      passed = k.0;
      front = at_front (place.Body p.0) d found;
      step = k.1 ∙ ap (set_by (λ (t : OpenSection). at_front (place.Body t) d found)) p.1;
      completes = record {
        items = items;
        rest = c.rest;
        others = c.others;
        read = c.read;
        closes = cl.1;
        sections = c.sections;
        taken = p.2;
        disperse = c.disperse ∙ sym same;
        means = subst (λ (b : Bool). ((b ≡ true) × (p : Outline) × (volume_of c.read ≡ Ok p) × Means d (Some p) c.others o) ⊎ ((b ≡ false) × Means d found c.others o)) (sym same) c.means;
      };
    }

leads_on : (p : Place) (d : Bool) (found : Option Outline) (line : List ℕ) (fls : List (List ℕ)) (o : Outline) → CompletesAt p d found (line ∷ fls) o → LeadsOn (at_front p d found) line fls o
leads_on place.Outside d found line fls o c = begin_on d found line fls o c.others c.sections c.means
leads_on (place.Head name) d found line fls o c = type_on name d found line fls o c.section c.rest c.others c.named c.follows.0 c.follows.1 c.sections c.means
leads_on (place.Body t) d found line fls o c = body_on t d found line fls o c.items c refl c.closes c.taken

-- all lines, from the end to the front
filled-passed : (line : List ℕ) (ls : List (List ℕ)) → is_passed line ≡ true → filled_lines (line ∷ ls) ≡ filled_lines ls
filled-passed line ls e = ap (λ (t : Bool). if not t then line ∷ filled_lines ls else filled_lines ls) e

pub filled-some : (line : List ℕ) (ls : List (List ℕ)) → is_passed line ≡ false → filled_lines (line ∷ ls) ≡ line ∷ filled_lines ls
filled-some line ls e = ap (λ (t : Bool). if not t then line ∷ filled_lines ls else filled_lines ls) e

found-some : (found : Option Outline) (o : Outline) → ok_or found NoDisperse ≡ Ok o → found ≡ Some o
found-some None o e = cc
found-some (Some p) o e = cc

finish-completes : (p : Place) (d : Bool) (found : Option Outline) (n : ℕ) (o : Outline) → with_line n (finish_at p found) ≡ Ok o → CompletesAt p d found [] o
finish-completes place.Outside d found n o e = record { others = []; sections = refl; means = by_found found e } where
  by_found : (f : Option Outline) → ◌≡◌ {A = Result Outline (ℕ × VolumeFault)} (with_line n (ok_or f NoDisperse)) (Ok o) → f ≡ Some o
  by_found None e = cc
  by_found (Some p) e = cc
finish-completes (place.Head name) d found n o e = cc
finish-completes (place.Body t) d found n o e = cc

completes-finish : (p : Place) (d : Bool) (found : Option Outline) (n : ℕ) (o : Outline) → CompletesAt p d found [] o → with_line n (finish_at p found) ≡ Ok o
completes-finish place.Outside d found n o c = by_sections c.others c.sections c.means where
  by_sections : (ss : List Section) → AreSections [] ss → Means d found ss o → ◌≡◌ {A = Result Outline (ℕ × VolumeFault)} (with_line n (ok_or found NoDisperse)) (Ok o)
  by_sections [] a m = ap (λ (f : Option Outline). with_line n (ok_or f NoDisperse)) m
  by_sections (s ∷ ss) a m = absurd a.1
completes-finish (place.Head name) d found n o c = absurd c.follows
completes-finish (place.Body t) d found n o c = absurd (no_close c.items c.closes) where
  no_close : (items : List Item) → Closes [] items c.rest → ⊥
  no_close items h = h

-- one step of a run
abbrev after : ℕ → List (List ℕ) → Result Front VolumeFault → Result Outline (ℕ × VolumeFault)
after n ls r = elim r as (λ _. Result Outline (ℕ × VolumeFault)) [ Ok g ↦ run g (n + 1) ls | Err e ↦ Err (n + 1, e) ]

after-Ok : (n : ℕ) (ls : List (List ℕ)) (r : Result Front VolumeFault) (o : Outline) → after n ls r ≡ Ok o → (g : Front) × (r ≡ Ok g) × (run g (n + 1) ls ≡ Ok o)
after-Ok n ls (Ok g) o e = (g, refl, e)
after-Ok n ls (Err d) o e = cc

run-completes : (ls : List (List ℕ)) (f : Front) (n : ℕ) (o : Outline) → run f n ls ≡ Ok o → Completes f (filled_lines ls) o
run-completes [] f n o e = finish-completes f.place f.disperse f.found n o e
run-completes (line ∷ ls) f n o e =
    let p = after-Ok n ls (step f line) o e in
    by_line p.0 p.1 (run-completes ls p.0 (n + 1) o p.2) (is_passed line) refl where
      by_line : (g : Front) → step f line ≡ Ok g → Completes g (filled_lines ls) o → (b : Bool) → is_passed line ≡ b → Completes f (filled_lines (line ∷ ls)) o
      by_line g s c true h =
          subst (λ (x : List (List ℕ)). Completes f x o) (sym (filled-passed line ls h)) (subst (λ (x : Front). Completes x (filled_lines ls) o) (sym (same_Ok f g (sym (step-passed f line h) ∙ s))) c)
      by_line g s c false h =
          let k = step-says f g line h s in
          subst (λ (x : List (List ℕ)). Completes f x o) (sym (filled-some line ls h)) (lead_back f.place k.0 f.disperse f.found g line (filled_lines ls) o k.1 k.2 c)

completes-run : (ls : List (List ℕ)) (f : Front) (n : ℕ) (o : Outline) → Completes f (filled_lines ls) o → run f n ls ≡ Ok o
completes-run [] f n o c = completes-finish f.place f.disperse f.found n o c
completes-run (line ∷ ls) f n o c = by_line (is_passed line) refl (λ g. completes-run ls g (n + 1) o) where
  by_line : (b : Bool) → is_passed line ≡ b → ((g : Front) → Completes g (filled_lines ls) o → run g (n + 1) ls ≡ Ok o) → run f n (line ∷ ls) ≡ Ok o
  by_line true h more =
      ap (after n ls) (step-passed f line h) ∙ more f (subst (λ (x : List (List ℕ)). Completes f x o) (filled-passed line ls h) c)
  by_line false h more =
      let k = leads_on f.place f.disperse f.found line (filled_lines ls) o (subst (λ (x : List (List ℕ)). Completes f x o) (filled-some line ls h) c) in
      ap (after n ls) k.step ∙ more k.front k.completes

-- after the disperse section there are others
means-others : (ss : List Section) (p o : Outline) → Means true (Some p) ss o → (p ≡ o) × AllByRecursion IsOther ss
means-others [] p o m = (cc, tt)
means-others (s ∷ ss) p o (inl m) = let more = means-others ss p o m.1 in (more.0, (m.0, more.1))
means-others (s ∷ ss) p o (inr m) = absurd (false≢true (sym m.0))

others-mean : (ss : List Section) (o : Outline) → AllByRecursion IsOther ss → Means true (Some o) ss o
others-mean [] o h = refl
others-mean (s ∷ ss) o h = inl (h.0, others-mean ss o h.1)

-- exactly one of the sections is the disperse section
record Splits (ss : List Section) (o : Outline) : Type 0 where
  before : List Section
  disperse : Section
  following : List Section
  all : ss ≡ before ++ disperse ∷ following
  others_before : AllByRecursion IsOther before
  describes : Describes disperse o
  others_after : AllByRecursion IsOther following

means-splits : (ss : List Section) (o : Outline) → Means false None ss o → Splits ss o
means-splits [] o m = cc
means-splits (s ∷ ss) o (inl m) =
    let more = means-splits ss o m.1 in
    record { before = s ∷ more.before; disperse = more.disperse; following = more.following; all = ap (λ (x : List Section). s ∷ x) more.all; others_before = (m.0, more.others_before); describes = more.describes; others_after = more.others_after }
means-splits (s ∷ ss) o (inr m) =
    let more = means-others ss m.1 o m.3 in
    record { before = []; disperse = s; following = ss; all = refl; others_before = tt; describes = subst (Describes s) more.0 m.2; others_after = more.1 }

splits-mean : (before : List Section) (s : Section) (ss : List Section) (o : Outline) → AllByRecursion IsOther before → Describes s o → AllByRecursion IsOther ss → Means false None (before ++ s ∷ ss) o
splits-mean [] s ss o b d a = inr (refl, o, d, others-mean ss o a)
splits-mean (t ∷ before) s ss o b d a = inl (b.0, splits-mean before s ss o b.1 d a)

-- what is read is in the grammar
pub outcome-grammar : (bytes : List ℕ) (o : Outline) → outcome bytes ≡ Ok o → IsVolumeFile bytes o
outcome-grammar bytes o e = by_size (nat_lt (2 ^ 20) (length bytes)) refl e where
  by_size : (b : Bool) → nat_lt (2 ^ 20) (length bytes) ≡ b → ◌≡◌ {A = Result Outline (ℕ × VolumeFault)} (if b then Err (0, TooLong) else run start 0 (lines bytes)) (Ok o) → IsVolumeFile bytes o
  by_size true h e = cc
  by_size false h e =
      let c : OutsideRest (filled_lines (lines bytes)) false None o = run-completes (lines bytes) start 0 o e in
      let s = means-splits c.others o c.means in
      record { size = ltb-false (2 ^ 20) (length bytes) h; before = s.before; disperse = s.disperse; after = s.following; sections = subst (AreSections (filled_lines (lines bytes))) s.all c.sections; others_before = s.others_before; describes = s.describes; others_after = s.others_after }

-- what is in the grammar is read
pub grammar-outcome : (bytes : List ℕ) (o : Outline) → IsVolumeFile bytes o → outcome bytes ≡ Ok o
grammar-outcome bytes o v =
    at_false (nat_lt (2 ^ 20) (length bytes)) (Err (0, TooLong)) (run start 0 (lines bytes)) (le-ltb (2 ^ 20) (length bytes) v.size)
    ∙ completes-run (lines bytes) start 0 o (record { others = v.before ++ v.disperse ∷ v.after; sections = v.sections; means = splits-mean v.before v.disperse v.after o v.others_before v.describes v.others_after })
