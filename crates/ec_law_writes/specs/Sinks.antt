-- A clause on sinks, where a PreOp leaves no trace in the machine of versions.
use Rattle.std.specs.Prelude.{◌≡◌, ℕ, true, false, Some}
use Rattle.ec_law_base.specs.State.{Head, State}
use Rattle.ec_law_ballots.specs.Words.{did}

-- While a turn holds a brick that showed it a marked record, and has done no PostOp there, the record keeps its version and its
-- mark; it is so as long as no heal marks and unmarks records.
abbrev pub StillMarked : State → ℕ → Type 0
StillMarked s b = (a : ℕ) (h : Head) → s.holder b ≡ Some a → s.seen a b ≡ Some h → h.present ≡ true → h.marked ≡ true → did s a b ≡ false → s.present b ≡ true → (s.version b ≡ h.version) × (s.marked b ≡ true)
