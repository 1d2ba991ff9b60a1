-- Functions from numbers, changed at one place.
use Rattle.std.specs.Prelude.{ℕ, cond, ◌==◌}

abbrev pub put : {X : Type 0} → (ℕ → X) → ℕ → X → ℕ → X
put f i x j = cond (j == i) x (f j)
