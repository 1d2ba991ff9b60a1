-- That a turn's group has the size of the flat file as the turn commits, after every log.
use Rattle.std.specs.Prelude.{◌≡◌, ℕ, List}
use Rattle.ec_attr.specs.declared.config.Config.{Config}
use Rattle.ec_brick.specs.State.{State as Brick}
use Rattle.ec_conduct.specs.Given.{quorum}
use Rattle.ec_history.specs.Flat.{Tree}
use Rattle.ec_history.specs.IsRun.{IsRun}
use Rattle.ec_history.specs.Run.{fresh, run}
use Rattle.ec_history.specs.Starts.{IsStart}
use Rattle.ec_history.specs.Story.{opening}
use Rattle.ec_store.specs.Records.{Records}
use Rattle.ec_wire.specs.declared.entry.Entry.{Entry}
use Rattle.ec_law_pieces.specs.File.{Flat}
use Rattle.ec_law_pieces.specs.Laws.{Stands}
use Rattle.ec_law_net.specs.Start.{first_heads, is_new}
use Rattle.ec_law_net.specs.Turns.{view}
use Rattle.ec_law_turns.specs.Laws.{Always}
use Rattle.ec_law_turns.specs.Orderly.{ArePlain, IsOrderly}
use Rattle.ec_law_data.specs.Deeds.{all_deeds}
use Rattle.ec_law_data.specs.Forms.{Shape, shape_in}
use Rattle.ec_law_data.specs.Laws.{begun, begun_file}
use Rattle.ec_law_data.specs.Owing.{AllOwe}
use Rattle.ec_law_data.specs.Reading.{Plans, Reading}
use Rattle.ec_law_data.specs.Versions.{PostsInOneTurn}
use Rattle.ec_law_flats.specs.Stripes.{AllSized}
use Rattle.ec_law_sizes.specs.Sizes.{PlanSizes}

-- Of a gfid read in any way, from bricks that stand for a flat value with the tree's version and size: for plans by which the log owes
-- nothing, and which have of each turn whose PostOps were sent the size that its call makes of that of the turn's group.
pub record SizeLaws {P V C U : Type 0} (R : Reading P V C U Shape) : Type 0 where
  pub sized : (plans : Plans P V U Shape) (config : Config) (records : ℕ → Records) (bricks : ℕ → Brick) (tree : Tree) (next g : ℕ) (es : List Entry)
      → IsStart config records bricks tree next
      → IsRun config.geometry.n es (fresh bricks)
      → ArePlain es
      → IsOrderly config.geometry es (fresh bricks) (opening tree next)
      → Always (PostsInOneTurn g) g es (fresh bricks) (begun config records tree next g)
      → (flat : Flat P U Shape) (piece : ℕ → P → C) (st : Stands R.form config.geometry.n (quorum config.geometry) flat (first_heads config.geometry.n records g) (is_new config.geometry.n records g) (λ b. shape_in (records b g)) piece)
      → flat.version ≡ (tree g).version
      → flat.shape.size ≡ (tree g).size
      → AllOwe R.form config.geometry.n (quorum config.geometry) (all_deeds R plans config.geometry.n (quorum config.geometry) g es (fresh bricks) (begun config records tree next g) (begun_file R config records g flat (λ b. shape_in (records b g)) piece st.value)) (begun_file R config records g flat (λ b. shape_in (records b g)) piece st.value)
      → PlanSizes plans g (run es (fresh bricks)) (view g es (fresh bricks) (begun config records tree next g))
      → AllSized plans.took config.geometry g es (fresh bricks) (begun config records tree next g) (opening tree next)
