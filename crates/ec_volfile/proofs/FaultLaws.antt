-- The first fault of a file, in both directions.
use Rattle.std.proofs.Common.{◌≡◌, ◌^◌, ℕ, ◌+◌, Bool, true, false, ◌||◌, ◌&&◌, List, [], ◌∷◌, ◌++◌, length, Option, Some, None, Result, Ok, Err, refl, sym, ap, ◌∙◌, arith, ◌⊎◌, inl, inr, nat_lt}
use Rattle.std.specs.Prelude.{if◌then◌else◌, bytes_eq, is_some, is_none, unwrap_or}
use Rattle.std.proofs.lemmas.Bool.{ltb-true, ltb-false, le-ltb, lt-ltb}
use Rattle.ec_volfile.specs.declared.options.Key.{Key}
use Rattle.ec_volfile.specs.declared.options.Key.TheVariants.{Redundancy, ReadPolicy, EagerLock, StripeCache, HealWindow, CpuExtensions, CodeRows}
use Rattle.ec_volfile.specs.declared.options.Options.{Options}
use Rattle.ec_volfile.specs.declared.section.OpenSection.{OpenSection}
use Rattle.ec_volfile.specs.declared.section.Subvolumes.{Subvolumes}
use Rattle.ec_volfile.specs.declared.state.Place.{Place}
use Rattle.ec_volfile.specs.declared.state.Place.TheVariants as place
use Rattle.ec_volfile.specs.declared.fault.VolumeFault.{VolumeFault}
use Rattle.ec_volfile.specs.declared.fault.VolumeFault.TheVariants.{TooLong, Twice, BadValue, TwoDisperse, NoRedundancy, BadGeometry}
use Rattle.ec_volfile.specs.Lines.{lines}
use Rattle.ec_volfile.specs.Numbers.{number_of}
use Rattle.ec_volfile.specs.Options.{key_of, policy_of, eager_of, cache_of, window_of, kernel_of, systematic_of, once, set, set_by}
use Rattle.ec_volfile.specs.Outline.{Outline}
use Rattle.ec_volfile.specs.Sections.{Front, new_section, section_of_type, set_named, with_options, repeats, subvolumes_of, disperse_names, other_names, is_geometry, subvolumes_or, outline_of, volume_with, front_at_end, step, start, finish, with_line, run, outcome}
use Rattle.ec_volfile.specs.Grammar.{is_passed, Sets, Names, disperse_type}
use Rattle.ec_volfile.specs.Statements.{Statement, Begins, HasType, Holds, Ends, statement_of, with_names, lead, lead_if, advance}
use Rattle.ec_volfile.specs.Faults.{is_set, is_bad, on_key, shape_fault, first_fault, fault_by, line_fault, front_after, IsLineFault, IsEndFault, IsFirstFault}
use Rattle.ec_volfile.proofs.WordLemmas.{at_true, at_false}
use Rattle.ec_volfile.proofs.LineLaws.{step-passed, step-stated}

-- the fault of a result
abbrev fault : {A : Type 0} → Result A VolumeFault → Option VolumeFault
fault (Ok x) = None
fault (Err e) = Some e

fault-set_by : {A B : Type 0} (f : A → B) (r : Result A VolumeFault) → fault (set_by f r) ≡ fault r
fault-set_by f (Ok x) = refl
fault-set_by f (Err e) = refl

-- an option that is set
abbrev option_fault : Bool → Bool → Option VolumeFault
option_fault twice bad = if twice then Some Twice else (if bad then Some BadValue else None)

once-fault : {A : Type 0} (old value : Option A) → fault (once old value) ≡ option_fault (is_some old) (is_none value)
once-fault (Some y) value = refl
once-fault None None = refl
once-fault None (Some x) = refl

set-fault : (o : Options) (k : Key) (value : List ℕ) → fault (set o k value) ≡ option_fault (is_set o k) (is_bad k value)
unfolding set
set-fault o Redundancy value = fault-set_by (λ (x : ℕ). record o { redundancy = Some x }) (once o.redundancy (number_of value)) ∙ once-fault o.redundancy (number_of value)
set-fault o ReadPolicy value = fault-set_by (λ x. record o { policy = Some x }) (once o.policy (policy_of value)) ∙ once-fault o.policy (policy_of value)
set-fault o EagerLock value = fault-set_by (λ (x : Bool). record o { eager = Some x }) (once o.eager (eager_of value)) ∙ once-fault o.eager (eager_of value)
set-fault o StripeCache value = fault-set_by (λ (x : ℕ). record o { cache = Some x }) (once o.cache (cache_of value)) ∙ once-fault o.cache (cache_of value)
set-fault o HealWindow value = fault-set_by (λ (x : ℕ). record o { window = Some x }) (once o.window (window_of value)) ∙ once-fault o.window (window_of value)
set-fault o CpuExtensions value = fault-set_by (λ x. record o { kernel = Some x }) (once o.kernel (Some (kernel_of value))) ∙ once-fault o.kernel (Some (kernel_of value))
set-fault o CodeRows value = fault-set_by (λ (x : Bool). record o { systematic = Some x }) (once o.systematic (systematic_of value)) ∙ once-fault o.systematic (systematic_of value)

named-fault : (s : OpenSection) (o : Option Key) (value : List ℕ) → fault (set_named s o value) ≡ option_fault (s.disperse && on_key o (is_set s.options)) (s.disperse && on_key o (λ k. is_bad k value))
named-fault s None value = elim s.disperse as (λ (b : Bool). None ≡ option_fault (b && false) (b && false)) [ true ↦ refl | false ↦ refl ]
named-fault s (Some k) value =
    elim s.disperse as (λ (b : Bool). fault {A = OpenSection} (if b then with_options s (set s.options k value) else Ok s) ≡ option_fault (b && is_set s.options k) (b && is_bad k value))
    [ true ↦ fault-set_by (λ (o : Options). record s { options = o }) (set s.options k value) ∙ set-fault s.options k value | false ↦ refl ]

names-fault : (s : OpenSection) (names : List (List ℕ)) → fault (with_names s names s.subvolumes) ≡ (if is_some s.subvolumes || (s.disperse && repeats names) then Some Twice else None)
names-fault s names =
    elim s.subvolumes as (λ (o : Option Subvolumes). fault (with_names s names o) ≡ (if is_some o || (s.disperse && repeats names) then Some Twice else None)) [
      | Some y ↦ refl
      | None ↦ elim s.disperse as (λ (b : Bool). fault {A = OpenSection} (if b then disperse_names s names else other_names s) ≡ (if b && repeats names then Some Twice else None)) [
        | true ↦ elim (repeats names) as (λ (r : Bool). fault {A = OpenSection} (if r then Err Twice else Ok (record s { subvolumes = Some (subvolumes_of names) })) ≡ (if r then Some Twice else None)) [ true ↦ refl | false ↦ refl ]
        | false ↦ refl
      ]
    ]

type-fault : (d : Bool) (name type : List ℕ) → fault (section_of_type d name (Some type)) ≡ (if d && bytes_eq type disperse_type then Some TwoDisperse else None)
type-fault d name type =
    elim (bytes_eq type disperse_type) as (λ (b : Bool). fault {A = OpenSection} (if b then (if d then Err TwoDisperse else Ok (new_section name true)) else Ok (new_section name false)) ≡ (if d && b then Some TwoDisperse else None)) [
      | true ↦ elim d as (λ (d : Bool). fault {A = OpenSection} (if d then Err TwoDisperse else Ok (new_section name true)) ≡ (if d && true then Some TwoDisperse else None)) [ true ↦ refl | false ↦ refl ]
      | false ↦ elim d as (λ (d : Bool). None ≡ (if d && false then Some TwoDisperse else None)) [ true ↦ refl | false ↦ refl ]
    ]

volume-fault : (s : OpenSection) (bricks : Subvolumes) (o : Option ℕ) → fault (volume_with s bricks o) ≡ (if is_none o then Some NoRedundancy else shape_fault (Some (bricks.count, unwrap_or o 0)))
volume-fault s bricks None = refl
volume-fault s bricks (Some r) =
    elim (is_geometry bricks.count r) as (λ (b : Bool). fault {A = Outline} (if b then Ok (outline_of s bricks r) else Err (BadGeometry bricks.count r)) ≡ (if b then None else Some (BadGeometry bricks.count r))) [ true ↦ refl | false ↦ refl ]

abbrev at_front : Place → Bool → Option Outline → Front
at_front p d found = record { place = p; disperse = d; found = found }

end-fault : (s : OpenSection) (d : Bool) (found : Option Outline) → fault (front_at_end (at_front (place.Body s) d found) s) ≡ (if s.disperse && is_none s.options.redundancy then Some NoRedundancy else shape_fault (if s.disperse then Some ((subvolumes_or s.subvolumes).count, unwrap_or s.options.redundancy 0) else None))
end-fault s d found =
    elim s.disperse as (λ (b : Bool). fault {A = Front} (if b then set_by (λ v. at_front place.Outside d (Some v)) (volume_with s (subvolumes_or s.subvolumes) s.options.redundancy) else Ok (at_front place.Outside d found)) ≡ (if b && is_none s.options.redundancy then Some NoRedundancy else shape_fault (if b then Some ((subvolumes_or s.subvolumes).count, unwrap_or s.options.redundancy 0) else None)))
    [ true ↦ fault-set_by (λ (v : Outline). at_front place.Outside d (Some v)) (volume_with s (subvolumes_or s.subvolumes) s.options.redundancy) ∙ volume-fault s (subvolumes_or s.subvolumes) s.options.redundancy | false ↦ refl ]

lead-fault : (p : Place) (d : Bool) (found : Option Outline) (st : Statement) → fault (lead (at_front p d found) p st) ≡ first_fault (at_front p d found) st
lead-fault place.Outside d found (Begins name) = refl
lead-fault place.Outside d found (HasType type) = refl
lead-fault place.Outside d found (Holds item) = refl
lead-fault place.Outside d found Ends = refl
lead-fault (place.Head name) d found (Begins name') = refl
lead-fault (place.Head name) d found (HasType type) = fault-set_by (λ (s : OpenSection). at_front (place.Body s) (d || s.disperse) found) (section_of_type d name (Some type)) ∙ type-fault d name type
lead-fault (place.Head name) d found (Holds item) = refl
lead-fault (place.Head name) d found Ends = refl
lead-fault (place.Body s) d found (Begins name) = refl
lead-fault (place.Body s) d found (HasType type) = refl
lead-fault (place.Body s) d found (Holds (Sets key value)) = fault-set_by (λ (s : OpenSection). at_front (place.Body s) d found) (set_named s (key_of key) value) ∙ named-fault s (key_of key) value
lead-fault (place.Body s) d found (Holds (Names names)) = fault-set_by (λ (s : OpenSection). at_front (place.Body s) d found) (with_names s names s.subvolumes) ∙ names-fault s names
lead-fault (place.Body s) d found Ends = end-fault s d found

-- each step is by what the line says
pub step-advance : (f : Front) (line : List ℕ) → step f line ≡ advance f line
step-advance f line = by_line (is_passed line) refl where
  by_line : (b : Bool) → is_passed line ≡ b → step f line ≡ advance f line
  by_line true h = step-passed f line h ∙ sym (at_true (is_passed line) (Ok f) (lead_if f f.place (statement_of line)) h)
  by_line false h = step-stated f line h ∙ sym (at_false (is_passed line) (Ok f) (lead_if f f.place (statement_of line)) h)

-- the fault of a step is the first of the table whose cause is there
pub step-fault : (f : Front) (line : List ℕ) → fault (step f line) ≡ line_fault f line
step-fault f line = by_line (is_passed line) refl where
  by_line : (b : Bool) → is_passed line ≡ b → fault (step f line) ≡ line_fault f line
  by_line true h = ap fault (step-passed f line h) ∙ sym (at_true (is_passed line) None (fault_by f (statement_of line)) h)
  by_line false h =
      ap fault (step-stated f line h)
      ∙ (elim (statement_of line) as (λ (o : Option Statement). fault (lead_if f f.place o) ≡ fault_by f o) [ None ↦ refl | Some st ↦ lead-fault f.place f.disperse f.found st ]
      ∙ sym (at_false (is_passed line) None (fault_by f (statement_of line)) h))

fault-Err : {A : Type 0} (r : Result A VolumeFault) (e : VolumeFault) → fault r ≡ Some e → r ≡ Err e
fault-Err (Ok x) e h = cc
fault-Err (Err d) e h = cc

-- from a front on
record LineFaultFrom (f : Front) (n : ℕ) (ls : List (List ℕ)) (m : ℕ) (e : VolumeFault) : Type 0 where
  before : List (List ℕ)
  line : List ℕ
  rest : List (List ℕ)
  all : ls ≡ before ++ line ∷ rest
  number : m ≡ n + (length before + 1)
  front : Front
  leads : front_after f before ≡ Ok front
  refused : line_fault front line ≡ Some e

record EndFaultFrom (f : Front) (n : ℕ) (ls : List (List ℕ)) (m : ℕ) (e : VolumeFault) : Type 0 where
  number : m ≡ n + length ls
  front : Front
  leads : front_after f ls ≡ Ok front
  refused : finish front ≡ Err e

abbrev FaultFrom : Front → ℕ → List (List ℕ) → ℕ → VolumeFault → Type 0
FaultFrom f n ls m e = LineFaultFrom f n ls m e ⊎ EndFaultFrom f n ls m e

abbrev after : ℕ → List (List ℕ) → Result Front VolumeFault → Result Outline (ℕ × VolumeFault)
after n ls r = elim r as (λ _. Result Outline (ℕ × VolumeFault)) [ Ok g ↦ run g (n + 1) ls | Err e ↦ Err (n + 1, e) ]

abbrev reached_after : List (List ℕ) → Result Front VolumeFault → Result Front VolumeFault
reached_after ls r = elim r as (λ _. Result Front VolumeFault) [ Ok g ↦ front_after g ls | Err e ↦ Err e ]

abbrev error_parts : Result Outline (ℕ × VolumeFault) → ℕ × VolumeFault
error_parts (Ok x) = (0, TooLong)
error_parts (Err e) = e

pub err_pair : (n m : ℕ) (d e : VolumeFault) → ◌≡◌ {A = Result Outline (ℕ × VolumeFault)} (Err (n, d)) (Err (m, e)) → (n ≡ m) × (d ≡ e)
err_pair n m d e h = (ap (λ r. (error_parts r).0) h, ap (λ r. (error_parts r).1) h)

numbered-fault : (n m : ℕ) (e : VolumeFault) (r : Result Outline VolumeFault) → with_line n r ≡ Err (m, e) → (n ≡ m) × (r ≡ Err e)
numbered-fault n m e (Ok x) h = cc
numbered-fault n m e (Err d) h = let p = err_pair n m d e h in (p.0, ap Err p.1)

same_Ok : (f g : Front) → ◌≡◌ {A = Result Front VolumeFault} (Ok f) (Ok g) → f ≡ g
same_Ok f g e = cc

run-fault : (ls : List (List ℕ)) (f : Front) (n m : ℕ) (e : VolumeFault) → run f n ls ≡ Err (m, e) → FaultFrom f n ls m e
run-fault [] f n m e h =
    let p = numbered-fault n m e (finish f) h in
    inr (record { number = omega (arith, p.0); front = f; leads = refl; refused = p.1 })
run-fault (line ∷ ls) f n m e h = by_step (step f line) refl h (λ g. run-fault ls g (n + 1) m e) where
  longer : (g : Front) → step f line ≡ Ok g → FaultFrom g (n + 1) ls m e → FaultFrom f n (line ∷ ls) m e
  longer g s (inl l) = inl (record { before = line ∷ l.before; line = l.line; rest = l.rest; all = ap (λ (x : List (List ℕ)). line ∷ x) l.all; number = omega (arith, l.number); front = l.front; leads = ap (reached_after l.before) (sym (step-advance f line) ∙ s) ∙ l.leads; refused = l.refused })
  longer g s (inr l) = inr (record { number = omega (arith, l.number); front = l.front; leads = ap (reached_after ls) (sym (step-advance f line) ∙ s) ∙ l.leads; refused = l.refused })

  by_step : (r : Result Front VolumeFault) → step f line ≡ r → after n ls r ≡ Err (m, e) → ((g : Front) → run g (n + 1) ls ≡ Err (m, e) → FaultFrom g (n + 1) ls m e) → FaultFrom f n (line ∷ ls) m e
  by_step (Ok g) s h more = longer g s (more g h)
  by_step (Err d) s h more =
      let p = err_pair (n + 1) m d e h in
      inl (record { before = []; line = line; rest = ls; all = refl; number = omega (arith, p.0); front = f; leads = refl; refused = sym (step-fault f line) ∙ (ap fault s ∙ ap Some p.1) })

reached-first : (ls : List (List ℕ)) (r : Result Front VolumeFault) (front : Front) → reached_after ls r ≡ Ok front → (g : Front) × (r ≡ Ok g) × (front_after g ls ≡ Ok front)
reached-first ls (Ok g) front h = (g, refl, h)
reached-first ls (Err d) front h = cc

line-run : (before : List (List ℕ)) (f : Front) (n : ℕ) (line : List ℕ) (rest : List (List ℕ)) (front : Front) (e : VolumeFault) → front_after f before ≡ Ok front → line_fault front line ≡ Some e → run f n (before ++ line ∷ rest) ≡ Err (n + (length before + 1), e)
line-run [] f n line rest front e h r =
    ap (after n rest) (fault-Err (step f line) e (step-fault f line ∙ (ap (λ (g : Front). line_fault g line) (same_Ok f front h) ∙ r)))
line-run (b ∷ bs) f n line rest front e h r =
    let p = reached-first bs (advance f b) front h in
    let k : (n + 1) + (length bs + 1) ≡ n + (length (b ∷ bs) + 1) = omega arith in
    ap (after n (bs ++ line ∷ rest)) (step-advance f b ∙ p.1) ∙ (line-run bs p.0 (n + 1) line rest front e p.2 r ∙ ap (λ (k : ℕ). Err (k, e)) k)

end-run : (ls : List (List ℕ)) (f : Front) (n : ℕ) (front : Front) (e : VolumeFault) → front_after f ls ≡ Ok front → finish front ≡ Err e → run f n ls ≡ Err (n + length ls, e)
end-run [] f n front e h r =
    let k : n ≡ n + 0 = omega arith in
    ap (with_line n) (ap finish (same_Ok f front h) ∙ r) ∙ ap (λ (k : ℕ). Err (k, e)) k
end-run (b ∷ bs) f n front e h r =
    let p = reached-first bs (advance f b) front h in
    let k : (n + 1) + length bs ≡ n + length (b ∷ bs) = omega arith in
    ap (after n bs) (step-advance f b ∙ p.1) ∙ (end-run bs p.0 (n + 1) front e p.2 r ∙ ap (λ (k : ℕ). Err (k, e)) k)

-- the fault that is answered is the first
pub outcome-fault : (bytes : List ℕ) (n : ℕ) (e : VolumeFault) → outcome bytes ≡ Err (n, e) → IsFirstFault bytes n e
outcome-fault bytes n e h = by_size (nat_lt (2 ^ 20) (length bytes)) refl h where
  of_lines : FaultFrom start 0 (lines bytes) n e → IsLineFault bytes n e ⊎ IsEndFault bytes n e
  of_lines (inl l) = inl (record { before = l.before; line = l.line; rest = l.rest; all = l.all; number = omega (arith, l.number); front = l.front; leads = l.leads; refused = l.refused })
  of_lines (inr l) = inr (record { number = omega (arith, l.number); front = l.front; leads = l.leads; refused = l.refused })

  by_size : (b : Bool) → nat_lt (2 ^ 20) (length bytes) ≡ b → ◌≡◌ {A = Result Outline (ℕ × VolumeFault)} (if b then Err (0, TooLong) else run start 0 (lines bytes)) (Err (n, e)) → IsFirstFault bytes n e
  by_size true s h = let p = err_pair 0 n TooLong e h in inl (ltb-true (2 ^ 20) (length bytes) s, sym p.0, sym p.1)
  by_size false s h = inr (ltb-false (2 ^ 20) (length bytes) s, of_lines (run-fault (lines bytes) start 0 n e h))

-- the first fault is answered
pub fault-outcome : (bytes : List ℕ) (n : ℕ) (e : VolumeFault) → IsFirstFault bytes n e → outcome bytes ≡ Err (n, e)
fault-outcome bytes n e (inl h) =
    at_true (nat_lt (2 ^ 20) (length bytes)) (Err (0, TooLong)) (run start 0 (lines bytes)) (lt-ltb (2 ^ 20) (length bytes) h.0)
    ∙ (ap (λ (k : ℕ). Err (k, TooLong)) (sym h.1) ∙ ap (λ (d : VolumeFault). Err (n, d)) (sym h.2))
fault-outcome bytes n e (inr h) =
    at_false (nat_lt (2 ^ 20) (length bytes)) (Err (0, TooLong)) (run start 0 (lines bytes)) (le-ltb (2 ^ 20) (length bytes) h.0) ∙ of_lines h.1 where
      of_lines : IsLineFault bytes n e ⊎ IsEndFault bytes n e → run start 0 (lines bytes) ≡ Err (n, e)
      of_lines (inl l) =
          let k : 0 + (length l.before + 1) ≡ n = omega (arith, l.number) in
          ap (run start 0) l.all ∙ (line-run l.before start 0 l.line l.rest l.front e l.leads l.refused ∙ ap (λ (k : ℕ). Err (k, e)) k)
      of_lines (inr l) =
          let k : 0 + length (lines bytes) ≡ n = omega (arith, l.number) in
          end-run (lines bytes) start 0 l.front e l.leads l.refused ∙ ap (λ (k : ℕ). Err (k, e)) k
