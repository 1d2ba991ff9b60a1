-- Which brick knows by its own record that others are not whole.
use Rattle.std.specs.Prelude.{◌≡◌, ℕ, ◌+◌, ◌<◌, ◌≤◌, Bool, true, false, List, [], ◌∷◌}
use Rattle.ec_attr.specs.Bricks.{count_below}
use Rattle.ec_law_base.specs.State.{State, Head}
use Rattle.ec_law_ballots.specs.Words.{head}
use Rattle.ec_law_ballots.specs.Act.{Act, step, after}
use Rattle.ec_law_ballots.specs.Act.Act.{Unmake, Made, Replace}
use Rattle.ec_law_ballots.specs.Guard.{Runs}
use Rattle.ec_law_ballots.specs.Begin.{begin, is_plain, Standing}

-- No record is removed, and a Made is sent only after all N did the Make.
abbrev pub Keeps : ℕ → State → Act → Type 0
Keeps n s (Unmake b) = s.present b ≡ false
Keeps n s (Replace b) = s.present b ≡ false
Keeps n s (Made b) = (c : ℕ) → c < n → s.born c ≡ true
Keeps n s e = s ≡ s

abbrev pub KeepsAll : ℕ → List Act → State → Type 0
KeepsAll n [] s = s ≡ s
KeepsAll n (e ∷ es) s = Keeps n s e × KeepsAll n es (step s e)

-- Where K of the N bricks have unmarked records that agree in a version, and some brick has no such record, one of those
-- that agree has a dirty number other than 0: the gfid is in the index of its brick.
abbrev pub InIndex : ℕ → ℕ → (ℕ → Head) → Type 0
InIndex n k heads = (v : ℕ) → k ≤ count_below n (λ b. is_plain v (heads b)) → (b : ℕ) → b < n → is_plain v (heads b) ≡ false → (c : ℕ) × (c < n) × (is_plain v (heads c) ≡ true) × (0 < (heads c).dirty)

pub record IndexLaws : Type 0 where
  pub in_index : (n k : ℕ) → n < k + k → k ≤ n → (origin : ℕ) (heads : ℕ → Head) (fresh : Bool) (call : ℕ → ℕ) → Standing n k origin heads fresh → InIndex n k heads
      → (acts : List Act) → Runs n k acts (begin n origin heads fresh call) → KeepsAll n acts (begin n origin heads fresh call) → InIndex n k (head (after acts (begin n origin heads fresh call)))
