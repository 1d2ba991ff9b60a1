-- What follows for what `read` answers.
use Rattle.std.proofs.Common.{◌≡◌, ◌≢◌, ◌≤◌, ℕ, min, Bool, true, false, ◌&&◌, not, cond, List, [], ◌∷◌, ◌++◌, length, Option, Some, None, Result, Ok, Err, IfOk, IfErr, refl, sym, subst, arith, nat_eq}
use Rattle.std.specs.Prelude.{if◌then◌else◌, option_map, filter, nat_le}
use Rattle.std.specs.List.{AllByRecursion, slice_split, onto_first}
use Rattle.std.proofs.lemmas.Bool.{eqb-false}
use Rattle.std.proofs.lemmas.Bool.Decides.{nat_tests}
use Rattle.std.proofs.Math.Dec.{eqb-suc-zero}
use Rattle.ec_volfile.specs.declared.fault.VolumeFault.{VolumeFault}
use Rattle.ec_volfile.specs.declared.fault.VolumeFault.TheVariants.{TooLong, BadLine, Twice, BadValue, TwoDisperse, NoRedundancy, BadGeometry, NoEnd, NoDisperse, NoMemory}
use Rattle.ec_volfile.specs.declared.volume.Volume.{Volume}
use Rattle.ec_volfile.specs.Lines.{is_blank, lines, words}
use Rattle.ec_volfile.specs.Numbers.{number_of}
use Rattle.ec_volfile.specs.Options.{cache_of, window_of, window_from}
use Rattle.ec_volfile.specs.Outline.{Outline, outline}
use Rattle.ec_volfile.specs.Reading.{FailsAt, Reads}
use Rattle.ec_volfile.specs.Sections.{outcome}
use Rattle.ec_volfile.specs.Grammar.{is_passed, filled_lines, Item, Sets, Names, Section, Closes, IsSection, AreSections, names_in, HasNames, IsChosen, IsVolumeFile}
use Rattle.ec_volfile.specs.Faults.{IsFirstFaultOrNoMemory}
use Rattle.ec_volfile.specs.Volumes.{IsVolume, IsWord, HasWords}
use Rattle.ec_volfile.proofs.GrammarLaws.{outcome-grammar}
use Rattle.ec_volfile.proofs.FaultLaws.{outcome-fault}

pub reads-same : (r : Result Volume (ℕ × VolumeFault)) {a b : Result Outline (ℕ × VolumeFault)} → a ≡ b → Reads r a → Reads r b
reads-same r e h = subst (Reads r) e h

pub reads-found : (r : Result Volume (ℕ × VolumeFault)) (bytes : List ℕ) → Reads r (outcome bytes) → IfOk r (λ v. IsVolumeFile bytes (outline v))
reads-found (Ok v) bytes h = outcome-grammar bytes (outline v) h
reads-found (Err e) bytes h = tt

fault-at : (bytes : List ℕ) (n : ℕ) (f : VolumeFault) → FailsAt n f (outcome bytes) → IsFirstFaultOrNoMemory bytes n f
fault-at bytes n NoMemory h = tt
fault-at bytes n TooLong h = outcome-fault bytes n TooLong h
fault-at bytes n BadLine h = outcome-fault bytes n BadLine h
fault-at bytes n Twice h = outcome-fault bytes n Twice h
fault-at bytes n BadValue h = outcome-fault bytes n BadValue h
fault-at bytes n TwoDisperse h = outcome-fault bytes n TwoDisperse h
fault-at bytes n NoRedundancy h = outcome-fault bytes n NoRedundancy h
fault-at bytes n (BadGeometry k r) h = outcome-fault bytes n (BadGeometry k r) h
fault-at bytes n NoEnd h = outcome-fault bytes n NoEnd h
fault-at bytes n NoDisperse h = outcome-fault bytes n NoDisperse h

pub reads-fault : (r : Result Volume (ℕ × VolumeFault)) (bytes : List ℕ) → Reads r (outcome bytes) → IfErr r (λ e. IsFirstFaultOrNoMemory bytes e.0 e.1)
reads-fault (Ok v) bytes h = tt
reads-fault (Err e) bytes h = fault-at bytes e.0 e.1 h

-- the bounds of the options
cache-at : (o : Option ℕ) (x : ℕ) → option_map (λ n. min n 10) o ≡ Some x → x ≤ 10
cache-at None x e = cc
cache-at (Some n) x e = let same : min n 10 ≡ x = cc in omega (arith, same)

cache-bound : (vs : List (List ℕ)) (x : ℕ) → IsChosen vs cache_of 4 x → x ≤ 10
unfolding cache_of
cache-bound [] x h = omega (arith, h)
cache-bound (v ∷ []) x h = cache-at (number_of v) x h
cache-bound (v ∷ w ∷ more) x h = absurd h

window-chosen : (n x : ℕ) (b : Bool) → b ≡ (nat_le 1 n && nat_le n 1024) → (if b then Some n else None) ≡ Some x → (1 ≤ x) × (x ≤ 1024)
window-chosen n x true e h =
    let same : n ≡ x = cc in
    (grind (arith, nat_tests), grind (arith, nat_tests))
window-chosen n x false e h = cc

window-at : (o : Option ℕ) (x : ℕ) → window_from o ≡ Some x → (1 ≤ x) × (x ≤ 1024)
window-at None x e = cc
window-at (Some n) x e = window-chosen n x (nat_le 1 n && nat_le n 1024) refl e

window-bound : (vs : List (List ℕ)) (x : ℕ) → IsChosen vs window_of 16 x → (1 ≤ x) × (x ≤ 1024)
unfolding window_of
window-bound [] x h = (omega (arith, h), omega (arith, h))
window-bound (v ∷ []) x h = window-at (number_of v) x h
window-bound (v ∷ w ∷ more) x h = absurd h

file-volume : (bytes : List ℕ) (o : Outline) → IsVolumeFile bytes o → IsVolume o
file-volume bytes o f =
    let d = f.describes in
    record { geometry = d.geometry; count = d.count; different = d.different; cache = cache-bound _ o.cache d.cache; window_least = (window-bound _ o.window d.window).0; window_most = (window-bound _ o.window d.window).1 }

pub reads-volume : (r : Result Volume (ℕ × VolumeFault)) (bytes : List ℕ) → Reads r (outcome bytes) → IfOk r (λ v. IsVolume (outline v))
reads-volume (Ok v) bytes h = file-volume bytes (outline v) (outcome-grammar bytes (outline v) h)
reads-volume (Err e) bytes h = tt

-- the lines have no newline, and their words no blank
abbrev pub NoNewline : List ℕ → Type 0
NoNewline line = AllByRecursion (λ b. b ≢ 10) line

onto-clean : (b : ℕ) (ls : List (List ℕ)) → b ≢ 10 → AllByRecursion NoNewline ls → AllByRecursion NoNewline (onto_first b ls)
onto-clean b [] n h = ((n, tt), tt)
onto-clean b (l ∷ ls) n h = ((n, h.0), h.1)

lines-clean : (bs : List ℕ) → AllByRecursion NoNewline (lines bs)
lines-clean [] = tt
lines-clean (b ∷ bs) = by_byte (nat_eq b 10) refl (lines-clean bs) where
  by_byte : (t : Bool) → nat_eq b 10 ≡ t → AllByRecursion NoNewline (lines bs) → AllByRecursion NoNewline (if t then [] ∷ lines bs else onto_first b (lines bs))
  by_byte true e more = (tt, more)
  by_byte false e more = onto-clean b (lines bs) (eqb-false b 10 e) more

filled-clean : (ls : List (List ℕ)) → AllByRecursion NoNewline ls → AllByRecursion NoNewline (filled_lines ls)
filled-clean [] h = tt
filled-clean (l ∷ ls) h =
    let more = filled-clean ls h.1 in
    elim (is_passed l) as (λ (t : Bool). AllByRecursion NoNewline (if not t then l ∷ filled_lines ls else filled_lines ls)) [ true ↦ more | false ↦ (h.0, more) ]

abbrev pub IsClean : List ℕ → Type 0
IsClean part = AllByRecursion (λ b. (is_blank b ≡ false) × (b ≢ 10)) part

onto-part : (b : ℕ) (ps : List (List ℕ)) → (is_blank b ≡ false) × (b ≢ 10) → AllByRecursion IsClean ps → AllByRecursion IsClean (onto_first b ps)
onto-part b [] n h = ((n, tt), tt)
onto-part b (p ∷ ps) n h = ((n, h.0), h.1)

parts-clean : (bs : List ℕ) → NoNewline bs → AllByRecursion IsClean (slice_split is_blank bs)
parts-clean [] h = (tt, tt)
parts-clean (b ∷ bs) h = by_byte (is_blank b) refl (parts-clean bs h.1) where
  by_byte : (t : Bool) → is_blank b ≡ t → AllByRecursion IsClean (slice_split is_blank bs) → AllByRecursion IsClean (cond t ([] ∷ slice_split is_blank bs) (onto_first b (slice_split is_blank bs)))
  by_byte true e more = (tt, more)
  by_byte false e more = onto-part b (slice_split is_blank bs) (e, h.0) more

kept-words : (ps : List (List ℕ)) → AllByRecursion IsClean ps → AllByRecursion IsWord (filter (λ word. not (nat_eq (length word) 0)) ps)
kept-words [] h = tt
kept-words ([] ∷ ps) h = kept-words ps h.1
kept-words ((b ∷ bs) ∷ ps) h =
    subst (λ (t : Bool). AllByRecursion IsWord (cond (not t) ((b ∷ bs) ∷ filter (λ word. not (nat_eq (length word) 0)) ps) (filter (λ word. not (nat_eq (length word) 0)) ps))) (sym (eqb-suc-zero (length bs)))
    (record { some = omega arith; bytes = h.0 }, kept-words ps h.1)

words-clean : (line : List ℕ) → NoNewline line → AllByRecursion IsWord (words line)
words-clean line h = kept-words (slice_split is_blank line) (parts-clean line h)

-- the names of a section are words
abbrev HasItemWords : List (List (List ℕ)) → Type 0
HasItemWords nss = AllByRecursion (AllByRecursion IsWord) nss

record SectionWords (s : Section) : Type 0 where
  name : IsWord s.name
  names : HasItemWords (names_in s.items)

second-word : (line first second : List ℕ) (more : List (List ℕ)) → NoNewline line → words line ≡ first ∷ second ∷ more → IsWord second
second-word line first second more h e = (subst (AllByRecursion IsWord) e (words-clean line h)).1.0

closes-words : (ls : List (List ℕ)) (items : List Item) (rest : List (List ℕ)) → Closes ls items rest → AllByRecursion NoNewline ls → HasItemWords (names_in items) × AllByRecursion NoNewline rest
closes-words [] items rest c h = absurd c
closes-words (l ∷ ls) [] rest c h = (tt, subst (AllByRecursion NoNewline) c.1 h.1)
closes-words (l ∷ ls) (Sets key value ∷ items) rest c h = closes-words ls items rest c.1 h.1
closes-words (l ∷ ls) (Names names ∷ items) rest c h =
    let more = closes-words ls items rest c.1 h.1 in
    (((subst (AllByRecursion IsWord) c.0.0 (words-clean l h.0)).1, more.0), more.1)

section-words : (ls : List (List ℕ)) (s : Section) (rest : List (List ℕ)) → IsSection ls s rest → AllByRecursion NoNewline ls → SectionWords s × AllByRecursion NoNewline rest
section-words [] s rest i h = absurd i
section-words (l ∷ []) s rest i h = absurd i.1
section-words (l ∷ k ∷ ls) s rest i h =
    let more = closes-words ls s.items rest i.1.1 h.1.1 in
    (record { name = second-word l _ s.name [] h.0 i.0; names = more.0 }, more.1)

sections-words : (ss : List Section) (ls : List (List ℕ)) → AreSections ls ss → AllByRecursion NoNewline ls → AllByRecursion SectionWords ss
sections-words [] ls a h = tt
sections-words (s ∷ ss) ls a h =
    let p = section-words ls s a.0 a.1 h in
    (p.0, sections-words ss a.0 a.2 p.1)

within-words : (before : List Section) (s : Section) (ss : List Section) → AllByRecursion SectionWords (before ++ s ∷ ss) → SectionWords s
within-words [] s ss h = h.0
within-words (t ∷ before) s ss h = within-words before s ss h.1

bricks-words : (nss : List (List (List ℕ))) (bricks : List (List ℕ)) → HasNames nss bricks → HasItemWords nss → AllByRecursion IsWord bricks
bricks-words [] bricks e h = subst (AllByRecursion IsWord) (sym e) tt
bricks-words (ns ∷ []) bricks e h = subst (AllByRecursion IsWord) (sym e) h.0
bricks-words (ns ∷ ms ∷ more) bricks e h = absurd e

file-words : (bytes : List ℕ) (o : Outline) → IsVolumeFile bytes o → HasWords o
file-words bytes o f =
    let w = within-words f.before f.disperse f.after (sections-words (f.before ++ f.disperse ∷ f.after) (filled_lines (lines bytes)) f.sections (filled-clean (lines bytes) (lines-clean bytes))) in
    record { name = subst IsWord (sym f.describes.name) w.name; bricks = bricks-words (names_in f.disperse.items) o.bricks f.describes.bricks w.names }

pub reads-words : (r : Result Volume (ℕ × VolumeFault)) (bytes : List ℕ) → Reads r (outcome bytes) → IfOk r (λ v. HasWords (outline v))
reads-words (Ok v) bytes h = file-words bytes (outline v) (outcome-grammar bytes (outline v) h)
reads-words (Err e) bytes h = tt
