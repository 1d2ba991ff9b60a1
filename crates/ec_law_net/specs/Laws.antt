-- What holds of versions after every log: no message and no lock is left in it but in its premises.
use Rattle.std.specs.Prelude.{◌≡◌, ℕ, ◌+◌, ◌<◌, List}
use Rattle.ec_conduct.specs.Given.{quorum}
use Rattle.ec_attr.specs.declared.config.Config.{Config}
use Rattle.ec_brick.specs.State.{State as Brick}
use Rattle.ec_store.specs.Records.{Records}
use Rattle.ec_law_base.specs.State.{State}
use Rattle.ec_law_ballots.specs.Act.{after}
use Rattle.ec_law_ballots.specs.Guard.{Runs}
use Rattle.ec_law_quorum.specs.Laws.{AboveOthers, NoTwoAlike}
use Rattle.ec_history.specs.IsRun.{IsRun}
use Rattle.ec_history.specs.Run.{Net, fresh, run}
use Rattle.ec_history.specs.Flat.{Tree}
use Rattle.ec_history.specs.Starts.{IsStart}
use Rattle.ec_wire.specs.declared.entry.Entry.{Entry}
use Rattle.ec_law_net.specs.Turns.{View, all_acts, view}
use Rattle.ec_law_net.specs.Grants.{AllKnown, LocksStand}
use Rattle.ec_law_net.specs.Link.{AllReady, Linked}
use Rattle.ec_law_net.specs.Start.{BeginsLinked, first_view}

-- The acts of a run may come, one after another, and the machine has the bricks' heads and grants again.
abbrev pub ActsMayCome : Type 0
ActsMayCome = (n k g : ℕ) (es : List Entry) (m : Net) (v : View) → IsRun n es m → Linked n g m v → AllReady n k g es m v → Runs n k (all_acts g es m v) v.core × Linked n g (run es m) (view g es m v)

-- The acts are all that steps the machine.
abbrev pub ActsLeadOn : Type 0
ActsLeadOn = (g : ℕ) (es : List Entry) (m : Net) (v : View) → (view g es m v).core ≡ after (all_acts g es m v) v.core

-- Of bricks that stand the machine can begin.
abbrev pub StartsLinked : Type 0
StartsLinked = (config : Config) (records : ℕ → Records) (bricks : ℕ → Brick) (tree : Tree) (next g : ℕ) (call : ℕ → ℕ) → 0 < quorum config.geometry → IsStart config records bricks tree next → BeginsLinked config records bricks tree next g call

-- Grants of the content are in order in every run in which a turn asks a brick once.
abbrev pub GrantsFollow : Type 0
GrantsFollow = (n k g : ℕ) (es : List Entry) (m : Net) (v : View) → IsRun n es m → Linked n g m v → LocksStand n g m v → AllKnown n k g es m v → AllReady n k g es m v

-- A law of versions after every log that begins with bricks that stand for a tree, for any geometry of which two quorums
-- share a brick, in which the calls knew what they must.
abbrev pub AfterEveryLog : (ℕ → ℕ → State → Type 0) → Type 0
AfterEveryLog law =
    (config : Config) (records : ℕ → Records) (bricks : ℕ → Brick) (tree : Tree) (next g : ℕ) (call : ℕ → ℕ) (es : List Entry)
    → config.geometry.n < quorum config.geometry + quorum config.geometry
    → IsStart config records bricks tree next
    → IsRun config.geometry.n es (fresh bricks)
    → AllKnown config.geometry.n (quorum config.geometry) g es (fresh bricks) (first_view config.geometry.n (tree g).version records g call next)
    → law config.geometry.n (quorum config.geometry) (view g es (fresh bricks) (first_view config.geometry.n (tree g).version records g call next)).core

pub record LogLaws : Type 0 where
  pub acts_may_come : ActsMayCome
  pub acts_lead_on : ActsLeadOn
  pub starts_linked : StartsLinked
  pub grants_follow : GrantsFollow
  -- no two turns of which a brick did the PostOp have the same version
  pub no_two_alike : AfterEveryLog NoTwoAlike
  -- a commit's version is above that of every brick outside
  pub above_others : AfterEveryLog AboveOthers
