-- What a run says of the consistency of its log and the bricks.
use Rattle.std.specs.Prelude.{◌≡◌, ℕ, ◌<◌, List, None, Some, slice_get}
use Rattle.ec_attr.specs.declared.geometry.Geometry.{Geometry}
use Rattle.ec_cluster.specs.Open.{opened}
use Rattle.ec_history.specs.Flat.{Tree}
use Rattle.ec_history.specs.Starts.{IsStart, root_tree}
use Rattle.ec_law_stands.specs.Laws.{MayBegin}
use Rattle.ec_play.specs.Meaning.{Meaning}
use Rattle.ec_store.specs.Records.{Records}
use Rattle.ec_volfile.specs.declared.volume.Volume.{Volume}
use Rattle.ec_wire.specs.declared.entry.Entry.{Entry}
use Rattle.ec_world.specs.Consistency.{IsConsistent}
use Rattle.ec_world.specs.Whole.{config_of}

-- the log is that of something to play on which was begun with this geometry and this next gfid
abbrev pub IsLogSince : {W : Type 0} → Meaning W → Geometry → ℕ → List Entry → Type 0
IsLogSince {W} M geometry first log = (w : W) × (M.log w ≡ log) × M.since w geometry first

-- Stores without a record stand, as they were opened, for the tree that has the root alone, an empty directory; and their log begins well.
abbrev pub StandFresh : Volume → List Records → List Records → Type 0
StandFresh volume before started =
    ((b g : ℕ) (m : Records) → b < volume.geometry.n → slice_get before b ≡ Some m → m g ≡ None)
    → MayBegin (config_of volume) (λ b. (opened (config_of volume) started b).records) (opened (config_of volume) started) root_tree 2

-- where the stores, as they were opened, stand for a tree, all is consistent at each moment of the log
abbrev pub IsConsistentSince : Volume → List Records → List Entry → Type 0
IsConsistentSince volume started log =
    (tree : Tree) (next : ℕ) → IsStart (config_of volume) (λ b. (opened (config_of volume) started b).records) (opened (config_of volume) started) tree next
    → IsConsistent (config_of volume) (λ b. (opened (config_of volume) started b).records) (opened (config_of volume) started) tree next log
