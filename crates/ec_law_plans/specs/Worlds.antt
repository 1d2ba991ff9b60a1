-- What the bricks of every world hold of a directory.
use Rattle.std.specs.Prelude.{ℕ, List}
use Rattle.ec_attr.specs.declared.config.Config.{Config}
use Rattle.ec_brick.specs.State.{State as Brick}
use Rattle.ec_calls.specs.declared.any.AnyCall.{AnyCall}
use Rattle.ec_clients.specs.Come.{nothing_left}
use Rattle.ec_conduct.specs.Given.{Given}
use Rattle.ec_conduct.specs.Own.{Own}
use Rattle.ec_history.specs.Accounts.{books, no_books}
use Rattle.ec_history.specs.Flat.{Tree}
use Rattle.ec_history.specs.Run.{fresh}
use Rattle.ec_history.specs.Story.{opening}
use Rattle.ec_store.specs.Records.{Records}
use Rattle.ec_txn.specs.declared.ctx.Ctx.{Ctx}
use Rattle.ec_wire.specs.declared.entry.Entry.{Entry}
use Rattle.ec_law_parts.specs.Laws.{InEveryWorldsLog}
use Rattle.ec_law_plans.specs.Given.{EachRequest, MakesDirectory, ShapeLaw, WriteLaws}
use Rattle.ec_law_plans.specs.Named.{AreNamed, SetOwnNames}

-- each NameSet that a call of the log has sent is of its own name and child
abbrev pub CallsSetOwnNames : Config → (ℕ → Records) → (ℕ → Brick) → Tree → ℕ → ℕ → List Entry → Type 0
CallsSetOwnNames config records bricks tree next g es = SetOwnNames (books config.geometry nothing_left es (fresh bricks) (opening tree next) no_books)

-- Where the gfid is made as a directory, if it is made: there are plans by which the log owes nothing, and the bricks hold one child at
-- each closed name.
abbrev pub NamesAreHeld : Config → (ℕ → Records) → (ℕ → Brick) → Tree → ℕ → ℕ → List Entry → Type 0
NamesAreHeld config records bricks tree next g es = EachRequest (MakesDirectory g) es → AreNamed config records bricks tree next g nothing_left es

pub record NameLaws (stands : Ctx → Given → AnyCall → List Own → Type 0) (by_table : Ctx → Given → List Own → Type 0) : Type 0 where
  pub own_names : InEveryWorldsLog stands by_table CallsSetOwnNames
  pub named : WriteLaws → ShapeLaw → InEveryWorldsLog stands by_table NamesAreHeld
