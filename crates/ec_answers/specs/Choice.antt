-- Which brick is asked next: the first one that is left, walking up from a brick and on from 0 past the last.
use Rattle.std.specs.Prelude.{◌≡◌, ℕ, ◌+◌, ◌%◌, ◌<◌, Bool, true, false, ◌&&◌, not, Option, Some, None}

-- the bricks that weren't tried
abbrev pub left_of : (ℕ → Bool) → (ℕ → Bool) → ℕ → Bool
left_of among tried b = among b && not (tried b)

-- the brick i steps up from another one
abbrev pub up_from : ℕ → ℕ → ℕ
up_from start i = (start + i) % 31

-- none where none is left; else one that is left, and none is left at the steps before it
abbrev pub IsFirstFrom : ℕ → (ℕ → Bool) → Option ℕ → Type 0
IsFirstFrom start left None = (b : ℕ) → b < 31 → left b ≡ false
IsFirstFrom start left (Some m) =
    (left m ≡ true) × ((i : ℕ) × (i < 31) × (m ≡ up_from start i) × ((j : ℕ) → j < i → left (up_from start j) ≡ false))
