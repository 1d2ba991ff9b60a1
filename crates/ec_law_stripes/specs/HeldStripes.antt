-- What the bricks hold of the stripes of a flat file, after every log and at each moment of the log of every world.
use Rattle.std.specs.Prelude.{◌≡◌, ℕ, true, false, ◌||◌, Some, List, []}
use Rattle.ec_attr.specs.declared.config.Config.{Config}
use Rattle.ec_attr.specs.declared.kind.Kind.TheVariants.{File}
use Rattle.ec_brick.specs.State.{State as Brick}
use Rattle.ec_calls.specs.declared.any.AnyCall.{AnyCall}
use Rattle.ec_conduct.specs.Given.{Given, quorum}
use Rattle.ec_conduct.specs.Own.{Own}
use Rattle.ec_history.specs.Accounts.{no_books}
use Rattle.ec_history.specs.Flat.{Tree}
use Rattle.ec_history.specs.IsRun.{IsRun}
use Rattle.ec_history.specs.Run.{Net, fresh, run}
use Rattle.ec_history.specs.Starts.{IsStart}
use Rattle.ec_history.specs.Story.{op_of, opening}
use Rattle.ec_store.specs.Records.{Records}
use Rattle.ec_txn.specs.declared.ctx.Ctx.{Ctx}
use Rattle.ec_wire.specs.declared.entry.Entry.{Entry}
use Rattle.ec_wire.specs.declared.message.Body.TheVariants.{ToBrick}
use Rattle.ec_wire.specs.declared.message.Message.{Message}
use Rattle.ec_wire.specs.declared.request.Request.{Request}
use Rattle.ec_law_turns.specs.Laws.{Always}
use Rattle.ec_law_turns.specs.Orderly.{ArePlain, IsOrderly}
use Rattle.ec_law_data.specs.Deeds.{is_post_on}
use Rattle.ec_law_data.specs.Forms.{is_data}
use Rattle.ec_law_data.specs.Laws.{begun}
use Rattle.ec_law_files.specs.Laws.{AllMade}
use Rattle.ec_law_files.specs.Stripes.{Making}
use Rattle.ec_law_flats.specs.Plans.{is_unbuilt}
use Rattle.ec_law_flats.specs.Stripes.{DataInOneTurn}
use Rattle.ec_law_flats.specs.StripeLaws.{HoldStripes}
use Rattle.ec_law_heads.specs.Laws.{flat_after}
use Rattle.ec_law_parts.specs.Laws.{InEveryWorldsLog}
use Rattle.ec_law_parts.specs.LeavesOff.{DataBeforePosts}
use Rattle.ec_law_plans.specs.Given.{EachRequest}
use Rattle.ec_law_stripes.specs.Begins.{ZerosPastSizes}
use Rattle.ec_law_stripes.specs.Given.{MakesFile, WritesSome}

-- none of the calls is one that isn't built yet
abbrev pub AreBuiltCalls : Net → Type 0
AreBuiltCalls m = (c : ℕ) → is_unbuilt (op_of m c) ≡ false

-- a call that sent data or a PostOp on the gfid has bytes to write, if it is a write
abbrev pub AllWriteSome : ℕ → Net → Type 0
AllWriteSome g m = (i : ℕ) (x : Message) (q : Request) → m.said i ≡ Some x → x.body ≡ ToBrick q → (is_data g q || is_post_on g q) ≡ true → WritesSome (op_of m x.call)

-- In every log of which `StripedInEveryLog` speaks, whose calls are built, have bytes to write, and send the data and the PostOps of
-- a gfid in one turn: the bricks hold each closed stripe of the flat file that the log makes.
abbrev pub HeldInEveryLog : Type 0
HeldInEveryLog =
    (config : Config) (records : ℕ → Records) (bricks : ℕ → Brick) (tree : Tree) (next g : ℕ) (es : List Entry)
    → IsStart config records bricks tree next
    → ZerosPastSizes (quorum config.geometry) tree
    → IsRun config.geometry.n es (fresh bricks)
    → ArePlain es
    → (orderly : IsOrderly config.geometry es (fresh bricks) (opening tree next))
    → ((client : ℕ) → (orderly.left client).cache ≡ [])
    → Always DataBeforePosts g es (fresh bricks) (begun config records tree next g)
    → (makings : ℕ → Making)
    → AllMade makings config.geometry orderly.left es (fresh bricks) (opening tree next) no_books
    → EachRequest (MakesFile g) es
    → AreBuiltCalls (run es (fresh bricks))
    → AllWriteSome g (run es (fresh bricks))
    → Always (DataInOneTurn g) g es (fresh bricks) (begun config records tree next g)
    → HoldStripes config.geometry g (run es (fresh bricks)) (flat_after config es bricks tree next g)

-- ## Worlds

-- Where past the sizes stood zeros, and the flat file that the log makes is a file: the bricks hold each of its closed stripes.
abbrev pub StripesAreHeld : Config → (ℕ → Records) → (ℕ → Brick) → Tree → ℕ → ℕ → List Entry → Type 0
StripesAreHeld config records bricks tree next g es = ZerosPastSizes (quorum config.geometry) tree → (flat_after config es bricks tree next g).kind ≡ Some File → HoldStripes config.geometry g (run es (fresh bricks)) (flat_after config es bricks tree next g)

-- the data requests and the PostOps of a call on the gfid are of one turn
abbrev pub AlwaysDataInOneTurn : Config → (ℕ → Records) → (ℕ → Brick) → Tree → ℕ → ℕ → List Entry → Type 0
AlwaysDataInOneTurn config records bricks tree next g es = Always (DataInOneTurn g) g es (fresh bricks) (begun config records tree next g)

pub record WorldHeldLaws (stands : Ctx → Given → AnyCall → List Own → Type 0) (by_table : Ctx → Given → List Own → Type 0) : Type 0 where
  pub one_turn : InEveryWorldsLog stands by_table AlwaysDataInOneTurn
  pub held : InEveryWorldsLog stands by_table StripesAreHeld
