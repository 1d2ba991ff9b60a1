-- What built calls leave off, and what follows of the log of a world.
use Rattle.std.specs.Prelude.{◌≡◌, ℕ, List, ◌++◌}
use Rattle.ec_attr.specs.declared.config.Config.{Config}
use Rattle.ec_brick.specs.State.{State as Brick}
use Rattle.ec_calls.specs.declared.any.AnyCall.{AnyCall}
use Rattle.ec_clients.specs.declared.clients.Clients.{Clients}
use Rattle.ec_cluster.specs.Views.{log_of}
use Rattle.ec_cluster.specs.declared.cluster.Cluster.{Cluster}
use Rattle.ec_conduct.specs.Done.{is_lock}
use Rattle.ec_conduct.specs.Given.{Given, quorum}
use Rattle.ec_conduct.specs.Own.{Own}
use Rattle.ec_history.specs.Flat.{Tree}
use Rattle.ec_history.specs.Run.{fresh}
use Rattle.ec_history.specs.Starts.{IsStart}
use Rattle.ec_history.specs.Story.{opening, story}
use Rattle.ec_store.specs.Records.{Records}
use Rattle.ec_txn.specs.declared.ctx.Ctx.{Ctx}
use Rattle.ec_wire.specs.declared.entry.Entry.{Entry}
use Rattle.ec_law_calls.specs.World.{IsLogged}
use Rattle.ec_law_data.specs.Deeds.{file}
use Rattle.ec_law_data.specs.Laws.{AgreeAtFlatFile, begun, versions_begun}
use Rattle.ec_law_data.specs.Versions.{PostsInOneTurn, no_plans, of_versions}
use Rattle.ec_law_turns.specs.Laws.{Always}
use Rattle.ec_law_parts.specs.LeavesOff.{DataBeforePosts, LeavesOff, puts_data}

-- Of the own entries that a call stands for.
pub record CallPartLaws (stands : Ctx → Given → AnyCall → List Own → Type 0) : Type 0 where
  -- from its first PostOp on it asks for no content: it has one window on each gfid to which it sends PostOps
  pub no_asks : (x : Ctx) (given : Given) (call : AnyCall) (es : List Own) → stands x given call es → LeavesOff is_lock es
  -- nor does it change data any more, on whatever brick or gfid
  pub no_data : (x : Ctx) (given : Given) (call : AnyCall) (es : List Own) → stands x given call es → LeavesOff puts_data es

-- What holds of each front of the log of every world that is as what has come of its log says, over bricks that stand for a tree.
abbrev pub InEveryWorldsLog : (Ctx → Given → AnyCall → List Own → Type 0) → (Ctx → Given → List Own → Type 0) → (Config → (ℕ → Records) → (ℕ → Brick) → Tree → ℕ → ℕ → List Entry → Type 0) → Type 0
InEveryWorldsLog stands by_table law =
    (config : Config) (records : ℕ → Records) (bricks : ℕ → Brick) (tree : Tree) (next g : ℕ) (s : Cluster) (c : Clients AnyCall)
    → IsStart config records bricks tree next
    → IsLogged stands by_table config bricks tree next s c
    → (es rest : List Entry) → log_of s ≡ es ++ rest
    → law config records bricks tree next g es

-- at each moment the PostOps of a call on the gfid are of one turn
abbrev pub AlwaysInOneTurn : Config → (ℕ → Records) → (ℕ → Brick) → Tree → ℕ → ℕ → List Entry → Type 0
AlwaysInOneTurn config records bricks tree next g es = Always (PostsInOneTurn g) g es (fresh bricks) (begun config records tree next g)

-- the version of the last commit of the machine is that of the flat file
abbrev pub HasFlatVersion : Config → (ℕ → Records) → (ℕ → Brick) → Tree → ℕ → ℕ → List Entry → Type 0
HasFlatVersion config records bricks tree next g es = (file of_versions no_plans config.geometry.n (quorum config.geometry) g es (fresh bricks) (begun config records tree next g) (versions_begun config records tree g)).flat.version ≡ ((story config.geometry es (fresh bricks) (opening tree next)).tree g).version

-- K unmarked records that agree have the version of the flat file
abbrev pub AgreesAtFlatFile : Config → (ℕ → Records) → (ℕ → Brick) → Tree → ℕ → ℕ → List Entry → Type 0
AgreesAtFlatFile config records bricks tree next g es = AgreeAtFlatFile config.geometry g es (fresh bricks) (opening tree next)

pub record WorldFlatLaws (stands : Ctx → Given → AnyCall → List Own → Type 0) (by_table : Ctx → Given → List Own → Type 0) : Type 0 where
  pub one_turn : InEveryWorldsLog stands by_table AlwaysInOneTurn
  pub same_version : InEveryWorldsLog stands by_table HasFlatVersion
  pub agree : InEveryWorldsLog stands by_table AgreesAtFlatFile

-- at each moment each request of a call that changes data was sent before each of its PostOps
abbrev pub AlwaysDataFirst : Config → (ℕ → Records) → (ℕ → Brick) → Tree → ℕ → ℕ → List Entry → Type 0
AlwaysDataFirst config records bricks tree next g es = Always DataBeforePosts g es (fresh bricks) (begun config records tree next g)

pub record WorldDataLaws (stands : Ctx → Given → AnyCall → List Own → Type 0) (by_table : Ctx → Given → List Own → Type 0) : Type 0 where
  pub data_first : InEveryWorldsLog stands by_table AlwaysDataFirst
