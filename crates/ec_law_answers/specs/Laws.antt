-- What is so of every answer in the log of a world.
use Rattle.std.specs.Prelude.{◌≡◌, ℕ, List, ◌++◌}
use Rattle.ec_attr.specs.declared.config.Config.{Config}
use Rattle.ec_brick.specs.State.{State as Brick}
use Rattle.ec_calls.specs.declared.any.AnyCall.{AnyCall}
use Rattle.ec_clients.specs.declared.clients.Clients.{Clients}
use Rattle.ec_cluster.specs.Views.{log_of}
use Rattle.ec_cluster.specs.declared.cluster.Cluster.{Cluster}
use Rattle.ec_conduct.specs.Given.{Given, quorum}
use Rattle.ec_conduct.specs.Own.{Own}
use Rattle.ec_history.specs.Flat.{Tree}
use Rattle.ec_history.specs.Run.{fresh}
use Rattle.ec_history.specs.Starts.{IsStart}
use Rattle.ec_store.specs.Records.{Records}
use Rattle.ec_txn.specs.declared.ctx.Ctx.{Ctx}
use Rattle.ec_wire.specs.declared.answer.Answer.{Answer}
use Rattle.ec_wire.specs.declared.entry.Entry.{Entry}
use Rattle.ec_wire.specs.declared.op.Op.{Op}
use Rattle.ec_law_answers.specs.Answered.{CommitsBetween, IsAnswered, SaysChanged, until}
use Rattle.ec_law_calls.specs.World.{IsLogged}
use Rattle.ec_law_net.specs.Start.{first_view}
use Rattle.ec_law_net.specs.Turns.{view}

-- At each moment of the log of every such world, a call that was answered that it changed gfid g committed there, not before it
-- was made and not after its answer.
abbrev pub AnsweredAfterCommit : (Ctx → Given → AnyCall → List Own → Type 0) → (Ctx → Given → List Own → Type 0) → Type 0
AnsweredAfterCommit stands by_table =
    (config : Config) (records : ℕ → Records) (bricks : ℕ → Brick) (tree : Tree) (next g : ℕ) (call_of : ℕ → ℕ) (s : Cluster) (c : Clients AnyCall)
    → IsStart config records bricks tree next
    → IsLogged stands by_table config bricks tree next s c
    → (es rest : List Entry) → log_of s ≡ es ++ rest
    → (call : ℕ) (op : Op) (answer : Answer) (h : IsAnswered es call op answer) → SaysChanged op answer g
    → CommitsBetween config.geometry.n (quorum config.geometry)
    (view g h.earlier (fresh bricks) (first_view config.geometry.n (tree g).version records g call_of next))
    (view g (until h) (fresh bricks) (first_view config.geometry.n (tree g).version records g call_of next))
    (view g es (fresh bricks) (first_view config.geometry.n (tree g).version records g call_of next))
    call

pub record AnswerLaws (stands : Ctx → Given → AnyCall → List Own → Type 0) (by_table : Ctx → Given → List Own → Type 0) : Type 0 where
  pub answered_after_commit : AnsweredAfterCommit stands by_table
