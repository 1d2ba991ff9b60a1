-- What the machine of a file's stripes has after every log, with no plans given: each call's own making is planned.
use Rattle.std.specs.Prelude.{◌≡◌, ℕ, ◌+◌, ◌-◌, ◌^◌, ◌<◌, ◌≤◌, true, Some, List, []}
use Rattle.ec_attr.specs.declared.head.Head.{Head}
use Rattle.ec_attr.specs.declared.config.Config.{Config}
use Rattle.ec_brick.specs.State.{State as Brick}
use Rattle.ec_conduct.specs.Given.{Given, quorum}
use Rattle.ec_history.specs.Accounts.{Books, Leaving, books, no_books}
use Rattle.ec_history.specs.Flat.{Tree}
use Rattle.ec_history.specs.IsRun.{IsRun}
use Rattle.ec_history.specs.Run.{Net, call_of, fresh, run}
use Rattle.ec_history.specs.Starts.{IsStart}
use Rattle.ec_history.specs.Story.{op_of, opening}
use Rattle.ec_store.specs.Records.{Records}
use Rattle.ec_wire.specs.declared.entry.Entry.{Entry}
use Rattle.ec_law_net.specs.Turns.{view}
use Rattle.ec_law_turns.specs.Laws.{Always}
use Rattle.ec_law_turns.specs.Orderly.{ArePlain, IsOrderly}
use Rattle.ec_law_data.specs.Deeds.{file}
use Rattle.ec_law_data.specs.Laws.{begun}
use Rattle.ec_law_data.specs.Link.{HoldClosed}
use Rattle.ec_law_files.specs.Filing.{FilePlans, HaveFilePlans, StripeFile, plan_of}
use Rattle.ec_law_files.specs.Laws.{AllMade}
use Rattle.ec_law_files.specs.Stripes.{Making}
use Rattle.ec_law_parts.specs.LeavesOff.{DataBeforePosts}
use Rattle.ec_law_plans.specs.Extend.{OweNothing}
use Rattle.ec_law_plans.specs.Given.{EachRequest}
use Rattle.ec_law_stripes.specs.Begins.{StandsForFile, ZerosPastSizes, stripes_begun}
use Rattle.ec_law_stripes.specs.Bytes.{of_volume}
use Rattle.ec_law_stripes.specs.Given.{MakesFile}
use Rattle.ec_law_stripes.specs.Laws.{FileBegins}

-- the machine of a file's stripes after these entries
abbrev pub stripes_after : FilePlans → (config : Config) (records : ℕ → Records) (bricks : ℕ → Brick) (tree : Tree) (next g : ℕ) → StandsForFile config records tree g → List Entry → StripeFile
stripes_after plans config records bricks tree next g st es = file (of_volume config.geometry) plans config.geometry.n (quorum config.geometry) g es (fresh bricks) (begun config records tree next g) (stripes_begun config records tree g st)

-- Turn a is one of the log and has planned what its call makes, that of the ask that began the turn, by the head of its group.
pub record PlannedAs (makings : ℕ → Making) (plans : FilePlans) (m : Net) (b : Books) (a : ℕ) : Type 0 where
  pub begun : 2 ^ 61 ≤ a
  pub below : a < 2 ^ 61 + m.next
  pub given : Given
  pub made : b.given (call_of (m.said (a - 2 ^ 61))) ≡ Some given
  pub head : Head
  pub plan : plans.plan a ≡ plan_of makings (call_of (m.said (a - 2 ^ 61))) given head
  pub size : (plans.took a).size ≡ head.size

-- so it is of each turn that has planned
abbrev pub HavePlanned : (ℕ → Making) → FilePlans → Net → Books → StripeFile → Type 0
HavePlanned makings plans m b f = (a : ℕ) → f.planned a ≡ true → PlannedAs makings plans m b a

-- what a call begins with is what it asked for
abbrev pub HaveOps : Net → Books → Type 0
HaveOps m b = (a : ℕ) (given : Given) → b.given a ≡ Some given → given.op ≡ op_of m a

-- There are plans by which the log owes nothing: each turn that has planned has planned what its call makes of the file. So at each
-- closed stripe the bricks hold the codes of one stripe.
pub record AreStriped (config : Config) (records : ℕ → Records) (bricks : ℕ → Brick) (tree : Tree) (next g : ℕ) (left : ℕ → Leaving) (makings : ℕ → Making) (es : List Entry) : Type 0 where
  pub begins : FileBegins config records bricks tree g
  pub plans : FilePlans
  pub owes : OweNothing (of_volume config.geometry) config.geometry.n (quorum config.geometry) g (fresh bricks) (begun config records tree next g) (stripes_begun config records tree g begins.stands) plans es
  pub have : HaveFilePlans makings g (run es (fresh bricks)) (view g es (fresh bricks) (begun config records tree next g)) (books config.geometry left es (fresh bricks) (opening tree next) no_books) (stripes_after plans config records bricks tree next g begins.stands es)
  pub planned : HavePlanned makings plans (run es (fresh bricks)) (books config.geometry left es (fresh bricks) (opening tree next) no_books) (stripes_after plans config records bricks tree next g begins.stands es)
  pub ops : HaveOps (run es (fresh bricks)) (books config.geometry left es (fresh bricks) (opening tree next) no_books)
  pub held : HoldClosed (of_volume config.geometry) config.geometry.n g (run es (fresh bricks)) (stripes_after plans config records bricks tree next g begins.stands es)

-- So it is after each log that begins with bricks that stand for a tree in which past the sizes stand zeros, in which the calls are
-- plain, keep the conduct in order and leave no stripes to their clients, each request of a call that changes data was sent before
-- each of its PostOps, each call makes one thing of its file, and the gfid is made as a file, if it is made.
abbrev pub StripedInEveryLog : Type 0
StripedInEveryLog =
    (config : Config) (records : ℕ → Records) (bricks : ℕ → Brick) (tree : Tree) (next g : ℕ) (es : List Entry)
    → IsStart config records bricks tree next
    → ZerosPastSizes (quorum config.geometry) tree
    → IsRun config.geometry.n es (fresh bricks)
    → ArePlain es
    → (orderly : IsOrderly config.geometry es (fresh bricks) (opening tree next))
    → ((client : ℕ) → (orderly.left client).cache ≡ [])
    → Always DataBeforePosts g es (fresh bricks) (begun config records tree next g)
    → (makings : ℕ → Making)
    → AllMade makings config.geometry orderly.left es (fresh bricks) (opening tree next) no_books
    → EachRequest (MakesFile g) es
    → AreStriped config records bricks tree next g orderly.left makings es
