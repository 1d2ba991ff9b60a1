-- Phases by their words.
use Rattle.std.proofs.Common.{◌≡◌, ℕ, Bool, true, false, List, [], ◌∷◌, Option, Some, None, refl, sym, ap, ◌∙◌}
use Rattle.std.specs.Prelude.{IfSome, ◌≢◌, bytes_eq, if◌then◌else◌}
use Rattle.std.proofs.lemmas.Slice.Eq.{bytes_eq-Decides}
use Rattle.ec_wire.specs.declared.phase.Phase.{Phase}
use Rattle.ec_wire.specs.Phases.{phase_among, phase_word, phases}
use Rattle.ec_wire.proofs.Phases.{reads_back}
use Rattle.ec_script.specs.Lines.{phase_named}

among_none : (ps : List Phase) (word : List ℕ) → ((p : Phase) → phase_word p ≢ word) → phase_among ps word ≡ None
unfolding phase_among
among_none [] word none = refl
among_none (p ∷ ps) word none = passed (bytes_eq (phase_word p) word) (λ h. none p ((bytes_eq-Decides (phase_word p) word).0 h)) (among_none ps word none) where
  passed : (b : Bool) → (b ≡ true → ⊥) → phase_among ps word ≡ None → (if b then Some p else phase_among ps word) ≡ None
  passed true h e = absurd (h refl)
  passed false h e = e

-- a phase by its word
pub named_by : (r : Option Phase) (word : List ℕ) → IfSome r (λ p. phase_word p ≡ word) → (r ≡ None → (p : Phase) → phase_word p ≢ word) → r ≡ phase_named word
named_by None word has none = sym (among_none phases word (none refl))
named_by (Some p) word has none = sym (ap phase_named (sym has) ∙ reads_back p)
