-- What holds of every log in which each call keeps the conduct in order.
use Rattle.std.specs.Prelude.{ℕ, List, [], ◌∷◌}
use Rattle.ec_attr.specs.declared.config.Config.{Config}
use Rattle.ec_brick.specs.State.{State as Brick}
use Rattle.ec_history.specs.Flat.{Tree}
use Rattle.ec_history.specs.IsRun.{IsRun}
use Rattle.ec_history.specs.Run.{Net, after, fresh}
use Rattle.ec_history.specs.Starts.{IsStart}
use Rattle.ec_history.specs.Story.{opening}
use Rattle.ec_store.specs.Records.{Records}
use Rattle.ec_wire.specs.declared.entry.Entry.{Entry}
use Rattle.ec_conduct.specs.Given.{quorum}
use Rattle.ec_law_base.specs.State.{State}
use Rattle.ec_law_quorum.specs.Laws.{AboveOthers, NoTwoAlike}
use Rattle.ec_law_net.specs.Grants.{AsksOnce}
use Rattle.ec_law_net.specs.Start.{first_view}
use Rattle.ec_law_net.specs.Turns.{View, seen_after, view}
use Rattle.ec_law_turns.specs.Makers.{DoneUnderDirectory, MadeByMaker, NewWhereMade}
use Rattle.ec_law_turns.specs.Orderly.{ArePlain, IsOrderly}

-- at the beginning and after each entry
abbrev pub Always : (Net → View → Type 0) → ℕ → List Entry → Net → View → Type 0
Always law g [] m v = law m v
Always law g (e ∷ es) m v = law m v × Always law g es (after m e) (seen_after g m v e)

-- A law of each moment of every log that begins with bricks that stand for a tree, in which the calls are plain and keep the
-- conduct in order.
abbrev pub InEveryLog : (ℕ → Net → View → Type 0) → Type 0
InEveryLog law =
    (config : Config) (records : ℕ → Records) (bricks : ℕ → Brick) (tree : Tree) (next g : ℕ) (call : ℕ → ℕ) (es : List Entry)
    → IsStart config records bricks tree next
    → IsRun config.geometry.n es (fresh bricks)
    → ArePlain es
    → IsOrderly config.geometry es (fresh bricks) (opening tree next)
    → Always (law g) g es (fresh bricks) (first_view config.geometry.n (tree g).version records g call next)

pub record TurnLaws : Type 0 where
  -- a turn asks a brick for the content once
  pub asks_once : InEveryLog AsksOnce

pub record MakerLaws : Type 0 where
  -- each Make and Made of a gfid is of the call that took it, under a lock of its own on the directory
  pub made_by_maker : InEveryLog MadeByMaker
  -- and is done only where this call has the directory
  pub under_directory : InEveryLog DoneUnderDirectory
  -- such a gfid is a new one
  pub new : InEveryLog NewWhereMade

-- A law of versions after every such log, seen from any gfid, the children too that calls of the log make.
abbrev pub AfterEveryOrderlyLog : (ℕ → ℕ → State → Type 0) → Type 0
AfterEveryOrderlyLog law =
    (config : Config) (records : ℕ → Records) (bricks : ℕ → Brick) (tree : Tree) (next g : ℕ) (call : ℕ → ℕ) (es : List Entry)
    → IsStart config records bricks tree next
    → IsRun config.geometry.n es (fresh bricks)
    → ArePlain es
    → IsOrderly config.geometry es (fresh bricks) (opening tree next)
    → law config.geometry.n (quorum config.geometry) (view g es (fresh bricks) (first_view config.geometry.n (tree g).version records g call next)).core

pub record OrderlyLaws : Type 0 where
  -- no two turns of which a brick did the PostOp have the same version
  pub no_two_alike : AfterEveryOrderlyLog NoTwoAlike
  -- a commit's version is above that of every brick outside
  pub above_others : AfterEveryOrderlyLog AboveOthers
