-- What the bricks of every world hold of a directory.
use Rattle.std.specs.Prelude.{◌≡◌, ℕ, Some, List}
use Rattle.ec_attr.specs.declared.config.Config.{Config}
use Rattle.ec_attr.specs.declared.kind.Kind.TheVariants.{Dir}
use Rattle.ec_brick.specs.State.{State as Brick}
use Rattle.ec_calls.specs.declared.any.AnyCall.{AnyCall}
use Rattle.ec_conduct.specs.Given.{Given}
use Rattle.ec_conduct.specs.Own.{Own}
use Rattle.ec_history.specs.Flat.{Tree}
use Rattle.ec_history.specs.Run.{fresh, run}
use Rattle.ec_store.specs.Records.{Records}
use Rattle.ec_txn.specs.declared.ctx.Ctx.{Ctx}
use Rattle.ec_wire.specs.declared.entry.Entry.{Entry}
use Rattle.ec_law_flats.specs.Laws.{HoldNames}
use Rattle.ec_law_heads.specs.Laws.{flat_after}
use Rattle.ec_law_parts.specs.Laws.{InEveryWorldsLog}

-- Where the flat file that the log makes is a directory: each brick's unmarked record at the flat file's version leads each of the
-- names that are closed to the flat file's child.
abbrev pub HoldsNames : Config → (ℕ → Records) → (ℕ → Brick) → Tree → ℕ → ℕ → List Entry → Type 0
HoldsNames config records bricks tree next g es = (flat_after config es bricks tree next g).kind ≡ Some Dir → HoldNames config.geometry.n g (run es (fresh bricks)) (flat_after config es bricks tree next g)

pub record WorldNameLaws (stands : Ctx → Given → AnyCall → List Own → Type 0) (by_table : Ctx → Given → List Own → Type 0) : Type 0 where
  -- at each moment of the log of every world that begins with bricks that stand for a tree
  pub held : InEveryWorldsLog stands by_table HoldsNames
