-- What the bricks hold of a directory after every log, with no plans given: each call's own name is planned.
use Rattle.std.specs.Prelude.{◌≡◌, ℕ, List, Some}
use Rattle.ec_attr.specs.declared.config.Config.{Config}
use Rattle.ec_brick.specs.State.{State as Brick}
use Rattle.ec_conduct.specs.Given.{Given, quorum}
use Rattle.ec_history.specs.Accounts.{Books, Leaving, books, no_books}
use Rattle.ec_history.specs.Flat.{Tree}
use Rattle.ec_history.specs.IsRun.{IsRun}
use Rattle.ec_history.specs.Run.{fresh, run}
use Rattle.ec_history.specs.Starts.{IsStart}
use Rattle.ec_history.specs.Story.{opening}
use Rattle.ec_store.specs.Records.{Records}
use Rattle.ec_wire.specs.declared.entry.Entry.{Entry}
use Rattle.ec_law_net.specs.Turns.{view}
use Rattle.ec_law_turns.specs.Laws.{Always}
use Rattle.ec_law_turns.specs.Orderly.{ArePlain, IsOrderly}
use Rattle.ec_law_data.specs.Deeds.{file}
use Rattle.ec_law_data.specs.Forms.{of_directory}
use Rattle.ec_law_data.specs.Laws.{begun, directory_begun}
use Rattle.ec_law_data.specs.Link.{HoldClosed}
use Rattle.ec_law_plans.specs.Extend.{OweNothing}
use Rattle.ec_law_plans.specs.Given.{EachRequest, MakesDirectory, ShapeLaw, WriteLaws}
use Rattle.ec_law_plans.specs.Naming.{HavePlans, NameFile, NamePlans}
use Rattle.ec_law_parts.specs.LeavesOff.{DataBeforePosts}
use Rattle.ec_law_parts.specs.Names.{EachSends, SetsItsName}

-- the machine of a directory's names after these entries
abbrev pub names_after : NamePlans → Config → (ℕ → Records) → (ℕ → Brick) → Tree → ℕ → ℕ → List Entry → NameFile
names_after plans config records bricks tree next g es = file of_directory plans config.geometry.n (quorum config.geometry) g es (fresh bricks) (begun config records tree next g) (directory_begun config records tree g)

-- There are plans by which the log owes nothing: each turn that has planned has planned its call's own name. So at each closed name
-- the bricks hold one child.
pub record AreNamed (config : Config) (records : ℕ → Records) (bricks : ℕ → Brick) (tree : Tree) (next g : ℕ) (left : ℕ → Leaving) (es : List Entry) : Type 0 where
  pub plans : NamePlans
  pub owes : OweNothing of_directory config.geometry.n (quorum config.geometry) g (fresh bricks) (begun config records tree next g) (directory_begun config records tree g) plans es
  pub have : HavePlans g (run es (fresh bricks)) (view g es (fresh bricks) (begun config records tree next g)) (books config.geometry left es (fresh bricks) (opening tree next) no_books) (names_after plans config records bricks tree next g es)
  pub held : HoldClosed of_directory config.geometry.n g (run es (fresh bricks)) (names_after plans config records bricks tree next g es)

-- each NameSet of a call is of its own name and child
abbrev pub SetOwnNames : Books → Type 0
SetOwnNames b = (a : ℕ) (given : Given) → b.given a ≡ Some given → EachSends (SetsItsName given) (b.own a)

-- So it is after each log that begins with bricks that stand for a tree, in which the calls are plain and keep the conduct in order,
-- each request of a call that changes data was sent before each of its PostOps, each call sets its own names alone, and the gfid is
-- made as a directory, if it is made.
abbrev pub NamedInEveryLog : Type 0
NamedInEveryLog =
    WriteLaws → ShapeLaw
    → (config : Config) (records : ℕ → Records) (bricks : ℕ → Brick) (tree : Tree) (next g : ℕ) (es : List Entry)
    → IsStart config records bricks tree next
    → IsRun config.geometry.n es (fresh bricks)
    → ArePlain es
    → (orderly : IsOrderly config.geometry es (fresh bricks) (opening tree next))
    → Always DataBeforePosts g es (fresh bricks) (begun config records tree next g)
    → SetOwnNames (books config.geometry orderly.left es (fresh bricks) (opening tree next) no_books)
    → EachRequest (MakesDirectory g) es
    → AreNamed config records bricks tree next g orderly.left es
