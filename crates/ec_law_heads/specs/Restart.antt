-- With what a further log may begin, over the bricks that a log leaves.
use Rattle.std.specs.Prelude.{ℕ, ◌<◌, ◌==◌, cond, is_some}
use Rattle.ec_attr.specs.Bricks.{count_below}
use Rattle.ec_attr.specs.declared.config.Config.{Config}
use Rattle.ec_brick.specs.Opening.{AcceptsAll, rooted}
use Rattle.ec_store.specs.Records.{Records}
use Rattle.ec_history.specs.Flat.{Flat, Tree, blank}
use Rattle.ec_history.specs.Holds.{Copies, IsBlankElsewhere, Stands}
use Rattle.ec_law_heads.specs.Heads.{AreOfVolume}

-- What is remembered of a flat file: nothing, where no brick has a record of it any more. Its version and size are lost with the last
-- record that was removed.
abbrev pub remembered : Config → Copies → Flat → Flat
remembered config copies flat = cond (count_below config.geometry.n (λ b. is_some (copies b)) == 0) blank flat

-- and of a tree
abbrev pub remembered_tree : Config → (ℕ → Records) → Tree → Tree
remembered_tree config records tree g = remembered config (λ b. records b g) (tree g)

pub record RestartLaws : Type 0 where
  -- bricks that stand for a flat file stand for what is remembered of it
  pub stand : (config : Config) (copies : Copies) (flat : Flat) → Stands config copies flat → Stands config copies (remembered config copies flat)
  -- which is blank for each gfid that no brick has
  pub elsewhere : (config : Config) (records : ℕ → Records) (tree : Tree) → IsBlankElsewhere config records (remembered_tree config records tree)
  -- the records of stores that bricks opened are of the volume, with the root's
  pub opened : (config : Config) (stores : ℕ → Records) (g : ℕ) (flat : Flat) → ((b : ℕ) → b < config.geometry.n → AcceptsAll config (stores b)) → AreOfVolume config (λ b. rooted config (stores b) g) flat
