-- What holds of heads at each moment of the log of every world that begins with bricks that stand for a tree.
use Rattle.std.specs.Prelude.{ℕ, List}
use Rattle.ec_attr.specs.declared.config.Config.{Config}
use Rattle.ec_brick.specs.State.{State as Brick}
use Rattle.ec_calls.specs.declared.any.AnyCall.{AnyCall}
use Rattle.ec_conduct.specs.Given.{Given}
use Rattle.ec_conduct.specs.Own.{Own}
use Rattle.ec_history.specs.Flat.{Flat, Tree}
use Rattle.ec_history.specs.Holds.{Copies}
use Rattle.ec_store.specs.Records.{Records}
use Rattle.ec_txn.specs.declared.ctx.Ctx.{Ctx}
use Rattle.ec_wire.specs.declared.entry.Entry.{Entry}
use Rattle.ec_law_parts.specs.Laws.{InEveryWorldsLog}
use Rattle.ec_law_heads.specs.Heads.{AreBounded, AreOfKind, AreOfVolume, ArePromised, HeadsStand, IsBlankUnmade, NoOthersAgree, StandWithRest}
use Rattle.ec_law_heads.specs.Laws.{AlwaysOneKind, BeganOfVolume, copies_after, flat_after}

-- the records of the gfid are so for the flat file
abbrev pub Holds : (Config → Copies → Flat → Type 0) → Config → (ℕ → Records) → (ℕ → Brick) → Tree → ℕ → ℕ → List Entry → Type 0
Holds clause config records bricks tree next g es = clause config (copies_after es bricks g) (flat_after config es bricks tree next g)

-- they are so where those of the beginning were of the volume
abbrev pub HoldsInVolume : (Config → Copies → Flat → Type 0) → Config → (ℕ → Records) → (ℕ → Brick) → Tree → ℕ → ℕ → List Entry → Type 0
HoldsInVolume clause config records bricks tree next g es = BeganOfVolume config records bricks tree next g es → Holds clause config records bricks tree next g es

pub record WorldHeadLaws (stands : Ctx → Given → AnyCall → List Own → Type 0) (by_table : Ctx → Given → List Own → Type 0) : Type 0 where
  -- the Makes of a call on a gfid are of one kind
  pub one_kind : InEveryWorldsLog stands by_table AlwaysOneKind
  pub bounded : InEveryWorldsLog stands by_table (Holds AreBounded)
  pub kinds : InEveryWorldsLog stands by_table (Holds AreOfKind)
  pub alone : InEveryWorldsLog stands by_table (Holds NoOthersAgree)
  pub promised : InEveryWorldsLog stands by_table (Holds ArePromised)
  pub unmade : InEveryWorldsLog stands by_table (Holds IsBlankUnmade)
  pub of_volume : InEveryWorldsLog stands by_table (HoldsInVolume AreOfVolume)
  pub heads : InEveryWorldsLog stands by_table (HoldsInVolume HeadsStand)
  -- so the bricks stand for the flat file where they hold the rest
  pub stand : InEveryWorldsLog stands by_table (HoldsInVolume StandWithRest)
