-- What the machine of a file's stripes has, whose bytes are read by their low eight bits.
use Rattle.std.specs.Prelude.{ℕ, List}
use Rattle.ec_attr.specs.declared.config.Config.{Config}
use Rattle.ec_attr.specs.declared.geometry.Geometry.{Geometry}
use Rattle.ec_brick.specs.State.{State as Brick}
use Rattle.ec_conduct.specs.Given.{quorum}
use Rattle.ec_history.specs.Flat.{Tree}
use Rattle.ec_history.specs.Run.{Net, fresh}
use Rattle.ec_history.specs.Starts.{IsStart, root_tree}
use Rattle.ec_history.specs.Story.{opening, story}
use Rattle.ec_store.specs.Records.{Records}
use Rattle.ec_wire.specs.declared.entry.Entry.{Entry}
use Rattle.ec_law_data.specs.Laws.{HeldInEveryOwedLog, PiecesFollow}
use Rattle.ec_law_data.specs.Link.{Fits, HasPieces}
use Rattle.ec_law_stripes.specs.Begins.{StandsForFile, ZerosPastSizes, stripes_begun}
use Rattle.ec_law_stripes.specs.Bytes.{of_bytes, of_volume}

pub record ByteLaws (k : ℕ) (rows : ℕ → ℕ → ℕ) : Type 0 where
  -- the reading fits what bricks do
  pub fits : Fits (of_bytes k rows)
  -- so the pieces of the machine are those of the records
  pub follow : PiecesFollow (of_bytes k rows)
  -- and each brick's unmarked record at the flat version has the code of the one stripe at each closed stripe
  pub held : HeldInEveryOwedLog (of_bytes k rows)

-- The machine of gfid g stands for the file of the tree, and has the pieces of the bricks.
pub record FileBegins (config : Config) (records : ℕ → Records) (bricks : ℕ → Brick) (tree : Tree) (g : ℕ) : Type 0 where
  pub stands : StandsForFile config records tree g
  pub pieces : HasPieces (of_volume config.geometry) config.geometry.n g (fresh bricks) (stripes_begun config records tree g stands)

pub record BeginLaws : Type 0 where
  -- Where past the sizes stand zeros, bricks that stand for a tree stand for each file of it, stripe by stripe.
  pub begins : (config : Config) (records : ℕ → Records) (bricks : ℕ → Brick) (tree : Tree) (next g : ℕ)
      → IsStart config records bricks tree next
      → ZerosPastSizes (quorum config.geometry) tree
      → FileBegins config records bricks tree g
  -- There they stand in the tree of fresh bricks,
  pub fresh_tree : (k : ℕ) → ZerosPastSizes k root_tree
  -- and after every log in the tree that it leaves, if they stood in the one that it began with: so a further log may begin.
  pub again : (geometry : Geometry) (tree : Tree) (next : ℕ) (es : List Entry) (m : Net) → ZerosPastSizes (quorum geometry) tree → ZerosPastSizes (quorum geometry) (story geometry es m (opening tree next)).tree
