-- The bricks of every world stand for its flat files, at each moment of its log, and so for the tree with which a further log may begin.
use Rattle.std.specs.Prelude.{◌≡◌, ℕ, ◌<◌, false, List}
use Rattle.ec_attr.specs.Marks.{is_marked}
use Rattle.ec_attr.specs.declared.config.Config.{Config}
use Rattle.ec_brick.specs.State.{State as Brick}
use Rattle.ec_brick.specs.Step.{started, stopped}
use Rattle.ec_calls.specs.declared.any.AnyCall.{AnyCall}
use Rattle.ec_conduct.specs.Given.{Given, quorum}
use Rattle.ec_conduct.specs.Own.{Own}
use Rattle.ec_history.specs.Flat.{Tree}
use Rattle.ec_history.specs.Holds.{Stands}
use Rattle.ec_history.specs.Run.{fresh, run}
use Rattle.ec_history.specs.Starts.{IsNextGfid, IsStart, fresh_records, root_tree}
use Rattle.ec_store.specs.Records.{Records}
use Rattle.ec_txn.specs.declared.ctx.Ctx.{Ctx}
use Rattle.ec_wire.specs.declared.entry.Entry.{Entry}
use Rattle.ec_law_heads.specs.Heads.{AreOfVolume}
use Rattle.ec_law_heads.specs.Laws.{copies_after, flat_after}
use Rattle.ec_law_heads.specs.Restart.{remembered_tree}
use Rattle.ec_law_heads.specs.Worlds.{Holds}
use Rattle.ec_law_parts.specs.Laws.{InEveryWorldsLog}
use Rattle.ec_law_stands.specs.Others.{HoldOthers}
use Rattle.ec_law_stripes.specs.Begins.{ZerosPastSizes}

-- ## With what a log begins

-- Beside bricks that stand for a tree: each record is of the volume, as a brick sees to that opens its store, past the sizes stand zeros,
-- and no version of the tree has the mark of a heal.
pub record BeginsWell (config : Config) (records : ℕ → Records) (tree : Tree) : Type 0 where
  pub of_volume : (g : ℕ) → AreOfVolume config (λ b. records b g) (tree g)
  pub zeros : ZerosPastSizes (quorum config.geometry) tree
  pub unmarked : (g : ℕ) → is_marked (tree g).version ≡ false

-- ## What a log leaves

-- the bricks stand for the flat file that the log makes
abbrev pub StandAfter : Config → (ℕ → Records) → (ℕ → Brick) → Tree → ℕ → ℕ → List Entry → Type 0
StandAfter config records bricks tree next g es = BeginsWell config records tree → Stands config (copies_after es bricks g) (flat_after config es bricks tree next g)

-- the records, and the bricks once they were stopped and started
abbrev pub records_after : List Entry → (ℕ → Brick) → ℕ → Records
records_after es bricks b g = copies_after es bricks g b

abbrev pub started_again : List Entry → (ℕ → Brick) → ℕ → Brick
started_again es bricks b = started (stopped ((run es (fresh bricks)).brick b))

-- the tree that is remembered of it: blank, where no brick has a record any more
abbrev pub tree_after : Config → List Entry → (ℕ → Brick) → Tree → ℕ → Tree
tree_after config es bricks tree next = remembered_tree config (records_after es bricks) (λ g. flat_after config es bricks tree next g)

-- A further log may begin: with the bricks once they were stopped and started, the tree that is remembered, and the next gfid by the
-- records.
pub record MayBegin (config : Config) (records : ℕ → Records) (bricks : ℕ → Brick) (tree : Tree) (next : ℕ) : Type 0 where
  pub start : IsStart config records bricks tree next
  pub well : BeginsWell config records tree

abbrev pub MayBeginAgain : Config → (ℕ → Records) → (ℕ → Brick) → Tree → ℕ → ℕ → List Entry → Type 0
MayBeginAgain config records bricks tree next g es = BeginsWell config records tree → (later : ℕ) → IsNextGfid config.geometry.n (records_after es bricks) later → MayBegin config (records_after es bricks) (started_again es bricks) (tree_after config es bricks tree next) later

-- a version without a mark stays one
abbrev pub StaysUnmarked : Config → (ℕ → Records) → (ℕ → Brick) → Tree → ℕ → ℕ → List Entry → Type 0
StaysUnmarked config records bricks tree next g es = is_marked (tree g).version ≡ false → is_marked (flat_after config es bricks tree next g).version ≡ false

pub record WorldStandLaws (stands : Ctx → Given → AnyCall → List Own → Type 0) (by_table : Ctx → Given → List Own → Type 0) : Type 0 where
  -- fresh bricks begin well
  pub fresh_bricks : (config : Config) → BeginsWell config (fresh_records config) root_tree
  -- the bricks hold what the kind of a gfid has none of
  pub others : InEveryWorldsLog stands by_table (Holds HoldOthers)
  pub unmarked : InEveryWorldsLog stands by_table StaysUnmarked
  -- so the bricks stand for the flat files,
  pub stand : InEveryWorldsLog stands by_table StandAfter
  -- and a further log may begin
  pub again : InEveryWorldsLog stands by_table MayBeginAgain
