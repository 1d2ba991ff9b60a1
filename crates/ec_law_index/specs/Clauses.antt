-- What holds after each act of a run that removes no record.
use Rattle.std.specs.Prelude.{◌≡◌, ◌⊎◌, ℕ, ◌<◌, ◌≤◌, true, false, Some}
use Rattle.ec_attr.specs.Bricks.{count_below}
use Rattle.ec_law_base.specs.State.{State, Head, target}
use Rattle.ec_law_ballots.specs.Guard.{IsPlainAt}
use Rattle.ec_law_ballots.specs.Begin.{is_plain}

-- the record went from version v, by a PostOp on it or by a mark on a higher version
abbrev pub Gone : State → ℕ → ℕ → Type 0
Gone s b v = ((e : ℕ) × (s.post e b ≡ true) × ((s.ballot e).base ≡ v)) ⊎ ((x : ℕ) × (s.mark x b ≡ true) × (v < (s.ballot x).base))

-- it is there unmarked, or went
abbrev pub Left : State → ℕ → ℕ → Type 0
Left s b v = IsPlainAt s b v ⊎ Gone s b v

-- at least K bricks were unmarked at the flat version as the run began
abbrev pub FirstGroup : ℕ → ℕ → State → Type 0
FirstGroup n k s = k ≤ count_below n (λ c. is_plain s.origin (s.began c))

-- Why an unmarked record at version v may have the dirty number 0: all N did the PostOp to v, or the Make; or the run began
-- so.
pub data Clean (n k : ℕ) (s : State) (b v : ℕ) : Type 0 where
  Under : v < s.origin → Clean n k s b v
  Whole : (a : ℕ) → target (s.ballot a) ≡ v → s.old a ≡ false → ((c : ℕ) → c < n → s.post a c ≡ true) → Clean n k s b v
  Old : (a : ℕ) → s.old a ≡ true → target (s.ballot a) ≡ v → Clean n k s b v
  First : v ≡ s.origin → (is_plain s.origin (s.began b) ≡ true) ⊎ FirstGroup n k s → Clean n k s b v
  Fresh : v ≡ 0 → ((c : ℕ) → c < n → s.born c ≡ true) → Clean n k s b v

pub record Index (n k : ℕ) (s : State) : Type 0 where
  -- who did a PostOp, was there at the start, or did the Make
  pub left_post : (a b : ℕ) → s.post a b ≡ true → s.old a ≡ false → s.voided a ≡ false → Left s b (target (s.ballot a))
  pub left_start : (b : ℕ) → is_plain s.origin (s.began b) ≡ true → Left s b s.origin
  pub left_born : (b : ℕ) → s.born b ≡ true → Left s b 0
  -- a record that began unmarked at the flat version keeps a dirty number there
  pub dirty_start : (b : ℕ) → is_plain s.origin (s.began b) ≡ true → 0 < (s.began b).dirty → IsPlainAt s b s.origin → (0 < s.dirty b) ⊎ Gone s b s.origin
  pub clean_at : (b : ℕ) → s.present b ≡ true → s.marked b ≡ false → s.dirty b ≡ 0 → Clean n k s b (s.version b)
  pub seen_clean : (x b : ℕ) (h : Head) → s.seen x b ≡ Some h → h.present ≡ true → h.marked ≡ false → h.dirty ≡ 0 → Clean n k s b h.version
  -- where a record is made in this run none was there as it began
  pub fresh : (d b : ℕ) → (s.making ≡ false) ⊎ (s.maker d ≡ true) → (s.began b).present ≡ false
