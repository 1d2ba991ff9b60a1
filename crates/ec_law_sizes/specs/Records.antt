-- What the records of a gfid at the flat version have of the flat file's size and attribute, after every log and at each moment of
-- the log of every world.
use Rattle.std.specs.Prelude.{ℕ, List}
use Rattle.ec_attr.specs.declared.config.Config.{Config}
use Rattle.ec_brick.specs.State.{State as Brick}
use Rattle.ec_calls.specs.declared.any.AnyCall.{AnyCall}
use Rattle.ec_conduct.specs.Given.{Given}
use Rattle.ec_conduct.specs.Own.{Own}
use Rattle.ec_history.specs.Flat.{Tree}
use Rattle.ec_store.specs.Records.{Records}
use Rattle.ec_txn.specs.declared.ctx.Ctx.{Ctx}
use Rattle.ec_wire.specs.declared.entry.Entry.{Entry}
use Rattle.ec_law_heads.specs.Laws.{AfterEveryLog, AlwaysOneKind}
use Rattle.ec_law_heads.specs.Worlds.{Holds}
use Rattle.ec_law_parts.specs.Laws.{AlwaysInOneTurn, InEveryWorldsLog}
use Rattle.ec_law_sizes.specs.Sizes.{AreSized}

-- at each moment the Makes of a call on the gfid are of one kind, and its PostOps of one turn
pub record OneKindAndTurn (config : Config) (records : ℕ → Records) (bricks : ℕ → Brick) (tree : Tree) (next g : ℕ) (es : List Entry) : Type 0 where
  pub one_kind : AlwaysOneKind config records bricks tree next g es
  pub one_turn : AlwaysInOneTurn config records bricks tree next g es

pub record RecordSizeLaws : Type 0 where
  pub sized : AfterEveryLog OneKindAndTurn AreSized

pub record WorldSizeLaws (stands : Ctx → Given → AnyCall → List Own → Type 0) (by_table : Ctx → Given → List Own → Type 0) : Type 0 where
  pub sized : InEveryWorldsLog stands by_table (Holds AreSized)
