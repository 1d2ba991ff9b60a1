-- The log of a world is one of those of which the laws of versions speak.
use Rattle.std.specs.Prelude.{◌≡◌, ℕ, ◌+◌, cond, List, [], ◌∷◌, ◌++◌}
use Rattle.ec_attr.specs.declared.config.Config.{Config}
use Rattle.ec_attr.specs.declared.geometry.Geometry.{Geometry}
use Rattle.ec_brick.specs.State.{State as Brick}
use Rattle.ec_calls.specs.declared.any.AnyCall.{AnyCall}
use Rattle.ec_clients.specs.Beginning.{beginning}
use Rattle.ec_clients.specs.Come.{Come, come}
use Rattle.ec_clients.specs.Owned.{Sees}
use Rattle.ec_clients.specs.declared.clients.Clients.{Clients}
use Rattle.ec_cluster.specs.Views.{log_of}
use Rattle.ec_cluster.specs.declared.cluster.Cluster.{Cluster}
use Rattle.ec_conduct.specs.Given.{Given, quorum}
use Rattle.ec_conduct.specs.Own.{Own}
use Rattle.ec_history.specs.Flat.{Tree}
use Rattle.ec_history.specs.IsRun.{IsRun}
use Rattle.ec_history.specs.Run.{fresh}
use Rattle.ec_history.specs.Starts.{IsStart}
use Rattle.ec_history.specs.Story.{makes_a_child, opening}
use Rattle.ec_store.specs.Records.{Records}
use Rattle.ec_txn.specs.declared.ctx.Ctx.{Ctx}
use Rattle.ec_wire.specs.declared.entry.Entry.{Entry}
use Rattle.ec_wire.specs.declared.entry.Entry.TheVariants.{Called}
use Rattle.ec_law_base.specs.State.{State}
use Rattle.ec_law_net.specs.Start.{first_view}
use Rattle.ec_law_net.specs.Turns.{view}
use Rattle.ec_law_quorum.specs.Laws.{AboveOthers, NoTwoAlike}
use Rattle.ec_law_turns.specs.Orderly.{ArePlain, IsOrderly}

-- how many gfids the calls of a log take for children
abbrev pub taken_by : Entry → ℕ
taken_by (Called a client op) = cond (makes_a_child op) 1 0
taken_by e = 0

abbrev pub taken : List Entry → ℕ
taken [] = 0
taken (e ∷ es) = taken_by e + taken es

-- A cluster and its clients are as what has come of the log says, in which the first gfid that a child takes is `next`; and the
-- log is a run from these bricks on. `first` is a gfid to begin with by which they are so, and no other than `next`.
pub record IsLogged (stands : Ctx → Given → AnyCall → List Own → Type 0) (by_table : Ctx → Given → List Own → Type 0) (config : Config) (bricks : ℕ → Brick) (tree : Tree) (next : ℕ) (s : Cluster) (c : Clients AnyCall) : Type 0 where
  pub geometry : c.options.geometry ≡ config.geometry
  pub first : ℕ
  pub sees : Sees stands by_table s c (come c.options.geometry (log_of s) (beginning bricks tree first))
  pub next_gfid : next + taken (log_of s) ≡ c.next_gfid
  pub is_run : IsRun config.geometry.n (log_of s) (fresh bricks)

-- These entries are a run in which no call heals or sweeps, and each keeps the conduct in order and leaves no grants.
pub record IsInOrder (config : Config) (bricks : ℕ → Brick) (tree : Tree) (next : ℕ) (es : List Entry) : Type 0 where
  pub is_run : IsRun config.geometry.n es (fresh bricks)
  pub plain : ArePlain es
  pub orderly : IsOrderly config.geometry es (fresh bricks) (opening tree next)

-- A law of versions at each moment of the log of every such world, seen from any gfid, the children too that its calls make.
abbrev pub InEveryWorld : (Ctx → Given → AnyCall → List Own → Type 0) → (Ctx → Given → List Own → Type 0) → (ℕ → ℕ → State → Type 0) → Type 0
InEveryWorld stands by_table law =
    (config : Config) (records : ℕ → Records) (bricks : ℕ → Brick) (tree : Tree) (next g : ℕ) (call : ℕ → ℕ) (s : Cluster) (c : Clients AnyCall)
    → IsStart config records bricks tree next
    → IsLogged stands by_table config bricks tree next s c
    → (es rest : List Entry) → log_of s ≡ es ++ rest
    → law config.geometry.n (quorum config.geometry) (view g es (fresh bricks) (first_view config.geometry.n (tree g).version records g call next)).core

pub record WorldLaws (stands : Ctx → Given → AnyCall → List Own → Type 0) (by_table : Ctx → Given → List Own → Type 0) : Type 0 where
  -- the log up to any moment, whatever the bricks began with
  pub in_order : (config : Config) (bricks : ℕ → Brick) (tree : Tree) (next : ℕ) (s : Cluster) (c : Clients AnyCall) → IsLogged stands by_table config bricks tree next s c
      → (es rest : List Entry) → log_of s ≡ es ++ rest → IsInOrder config bricks tree next es
  -- by which gfid a log begins is told by the next one and by how many its calls take
  pub first_gfid : (geometry : Geometry) (bricks : ℕ → Brick) (tree : Tree) (next : ℕ) (s : Cluster) (c : Clients AnyCall) → Sees stands by_table s c (come geometry (log_of s) (beginning bricks tree next)) → next + taken (log_of s) ≡ c.next_gfid
  -- So what is said of the next gfid goes on with each event: where its entries lead from what is as before to what is as after.
  pub goes_on : (bricks : ℕ → Brick) (tree : Tree) (first next : ℕ) (s t : Cluster) (c d : Clients AnyCall) (entries : List Entry)
      → Sees stands by_table s c (come c.options.geometry (log_of s) (beginning bricks tree first))
      → ((p : Come) → Sees stands by_table s c p → Sees stands by_table t d (come c.options.geometry entries p))
      → log_of t ≡ log_of s ++ entries
      → next + taken (log_of s) ≡ c.next_gfid → next + taken (log_of t) ≡ d.next_gfid
  -- no two turns of which a brick did the PostOp have the same version
  pub no_two_alike : InEveryWorld stands by_table NoTwoAlike
  -- a commit's version is above that of every brick outside
  pub above_others : InEveryWorld stands by_table AboveOthers
