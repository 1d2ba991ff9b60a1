-- Phases by their words.
use Rattle.std.proofs.Common.{◌≡◌, ℕ, Bool, true, false, List, [], ◌∷◌, Option, Some, None, refl, sym, ap, ◌∙◌}
use Rattle.std.specs.Prelude.{IfSome, bytes_eq, if◌then◌else◌}
use Rattle.std.proofs.lemmas.Slice.Eq.{bytes_eq-Decides}
use Rattle.ec_wire.specs.declared.phase.Phase.{Phase}
use Rattle.ec_wire.specs.declared.phase.Phase.TheVariants.{Heal, Lock, Query, Name, Names, Pre, Read, Make, Write, Trim, Entry, Post, Clear, Made, Unmake, Mark, Copy, Unmark, Lock2, Query2, Name2, Pre2, Entry2, Post2, Clear2, Scan, List as Listing, Dirs, Kinds, Walk, Asks, Probe, Shed}
use Rattle.ec_wire.specs.Phases.{phase_among, phase_word, phases}

-- each phase is found by its word
pub reads_back : (p : Phase) → phase_among phases (phase_word p) ≡ Some p
unfolding phase_among
reads_back Heal = refl
reads_back Lock = refl
reads_back Query = refl
reads_back Name = refl
reads_back Names = refl
reads_back Pre = refl
reads_back Read = refl
reads_back Make = refl
reads_back Write = refl
reads_back Trim = refl
reads_back Entry = refl
reads_back Post = refl
reads_back Clear = refl
reads_back Made = refl
reads_back Unmake = refl
reads_back Mark = refl
reads_back Copy = refl
reads_back Unmark = refl
reads_back Lock2 = refl
reads_back Query2 = refl
reads_back Name2 = refl
reads_back Pre2 = refl
reads_back Entry2 = refl
reads_back Post2 = refl
reads_back Clear2 = refl
reads_back Scan = refl
reads_back Listing = refl
reads_back Dirs = refl
reads_back Kinds = refl
reads_back Walk = refl
reads_back Asks = refl
reads_back Probe = refl
reads_back Shed = refl

-- what is found has the word
pub among-word : (ps : List Phase) (word : List ℕ) → IfSome (phase_among ps word) (λ p. phase_word p ≡ word)
unfolding phase_among
among-word [] word = tt
among-word (p ∷ ps) word = chosen (bytes_eq (phase_word p) word) p word (phase_among ps word) (bytes_eq-Decides (phase_word p) word).0 (among-word ps word)
  where
    chosen : (b : Bool) (p : Phase) (word : List ℕ) (o : Option Phase) → (b ≡ true → phase_word p ≡ word) → IfSome o (λ q. phase_word q ≡ word) → IfSome (if b then Some p else o) (λ q. phase_word q ≡ word)
    chosen true p word o h i = h refl
    chosen false p word o h i = i

-- the phase that has a word
pub found : (word : List ℕ) (p : Phase) → word ≡ phase_word p → phase_among phases word ≡ Some p
found word p e = ap (phase_among phases) e ∙ reads_back p

-- where none is found no phase has the word
pub not_found : (word : List ℕ) → phase_among phases word ≡ None → (p : Phase) → phase_word p ≡ word → ⊥
not_found word h p e =
    let f : None ≡ Some p = sym h ∙ found word p (sym e) in
    cc
