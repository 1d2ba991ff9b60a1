-- Bytes that are added to others, of a range.
use Rattle.std.specs.Prelude.{◌≡◌, ℕ, ◌+◌, ◌-◌, ◌*◌, ◌<◌, ◌≤◌, min, List, length, slice_index}
use Rattle.ec_conduct.specs.Data.{stripe_byte}

-- Of `many` bytes that begin at a place of a file, told by f, those from `off` on and before `end` are added.
pub record IsPart (off end place many : ℕ) (f : ℕ → ℕ) (old new : List ℕ) : Type 0 where
  pub len : length new ≡ min end (place + many) - off
  pub longer : length old ≤ length new
  pub before : (i : ℕ) → i < length old → slice_index new i ≡ slice_index old i
  pub added : (i : ℕ) → length old ≤ i → i < length new → (place ≤ off + i) × (off + i < place + many) × (slice_index new i ≡ f (off + i - place))

-- the same of the bytes of a stripe
abbrev pub IsLonger : ℕ → ℕ → ℕ → List (List ℕ) → List ℕ → List ℕ → Type 0
IsLonger off end place stripe old new = IsPart off end place (512 * length stripe) (stripe_byte stripe) old new
