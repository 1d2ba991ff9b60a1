-- With what a run begins: bricks that stand for a tree, as fresh ones do for the root alone.
use Rattle.std.specs.Prelude.{◌≡◌, ◌⊎◌, ℕ, ◌+◌, ◌<◌, ◌≤◌, ◌==◌, cond, true, false, Some, None, []}
use Rattle.ec_attr.specs.Head.{new_attr}
use Rattle.ec_attr.specs.declared.config.Config.{Config}
use Rattle.ec_attr.specs.declared.kind.Kind.TheVariants.{Dir}
use Rattle.ec_store.specs.Records.{Records}
use Rattle.ec_brick.specs.Opening.{IsTaken, rooted}
use Rattle.ec_brick.specs.State.{State}
use Rattle.ec_history.specs.Flat.{Flat, Tree, blank}
use Rattle.ec_history.specs.Holds.{IsBlankElsewhere, StandFor}

-- no store has a record
abbrev pub IsFresh : ℕ → (ℕ → Records) → Type 0
IsFresh n stores = (b g : ℕ) → b < n → stores b g ≡ None

-- the records of fresh bricks once they are opened: each has the root's as it is put at first
abbrev pub fresh_records : Config → ℕ → Records
fresh_records config b = rooted config (λ g. None)

-- what they stand for: an empty root directory
abbrev pub empty_root : Flat
empty_root = record blank { kind = Some Dir; attr = new_attr Dir }

abbrev pub root_tree : Tree
root_tree g = cond (g == 1) empty_root blank

-- a brick that was opened over its records: it is up, and nobody has a lock
pub record IsOpened (config : Config) (records : Records) (brick : State) : Type 0 where
  pub of_volume : brick.config ≡ config
  pub kept : brick.records ≡ records
  pub up : brick.up ≡ true
  pub unlocked : brick.asks ≡ []
  pub removed : (g : ℕ) → brick.removed g ≡ false

-- The next gfid is above every one that is taken on a brick, and the lowest such from 2 on.
pub record IsNextGfid (n : ℕ) (records : ℕ → Records) (next : ℕ) : Type 0 where
  pub above : (b g : ℕ) → b < n → IsTaken (records b) g → g < next
  pub least : (next ≡ 2) ⊎ ((b : ℕ) × (g : ℕ) × (b < n) × IsTaken (records b) g × (next ≡ g + 1))
  pub not_root : 2 ≤ next

-- The bricks of a run as it begins, with the tree that they stand for.
pub record IsStart (config : Config) (records : ℕ → Records) (bricks : ℕ → State) (tree : Tree) (next : ℕ) : Type 0 where
  pub opened : (b : ℕ) → b < config.geometry.n → IsOpened config (records b) (bricks b)
  pub stand : StandFor config records tree
  pub elsewhere : IsBlankElsewhere config records tree
  pub next_gfid : IsNextGfid config.geometry.n records next
