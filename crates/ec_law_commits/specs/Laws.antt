-- What is so of the commits of every call that is answered, in the log of a world.
use Rattle.std.specs.Prelude.{◌≡◌, ℕ, ◌≤◌, true, List, ◌++◌}
use Rattle.ec_attr.specs.declared.config.Config.{Config}
use Rattle.ec_attr.specs.declared.geometry.Geometry.{Geometry}
use Rattle.ec_brick.specs.State.{State as Brick}
use Rattle.ec_calls.specs.declared.any.AnyCall.{AnyCall}
use Rattle.ec_clients.specs.declared.clients.Clients.{Clients}
use Rattle.ec_cluster.specs.Views.{log_of}
use Rattle.ec_cluster.specs.declared.cluster.Cluster.{Cluster}
use Rattle.ec_conduct.specs.Given.{Given}
use Rattle.ec_conduct.specs.Own.{Own}
use Rattle.ec_history.specs.Flat.{Tree}
use Rattle.ec_history.specs.Run.{Net}
use Rattle.ec_history.specs.Starts.{IsStart}
use Rattle.ec_history.specs.Story.{Story, commits}
use Rattle.ec_store.specs.Records.{Records}
use Rattle.ec_txn.specs.declared.ctx.Ctx.{Ctx}
use Rattle.ec_wire.specs.declared.answer.Answer.{Answer}
use Rattle.ec_wire.specs.declared.entry.Entry.{Entry}
use Rattle.ec_wire.specs.declared.op.Op.{Op}
use Rattle.ec_law_answers.specs.Answered.{IsAnswered, SaysChanged}
use Rattle.ec_law_calls.specs.World.{IsLogged}
use Rattle.ec_law_commits.specs.Commits.{CommitsOnce, IsCommit, times}

-- At each moment of the log of every such world, a call that was answered that it changed gfid g has committed there by one
-- entry alone, which came after its call and before its answer.
abbrev pub AnsweredByOneCommit : (Ctx → Given → AnyCall → List Own → Type 0) → (Ctx → Given → List Own → Type 0) → Type 0
AnsweredByOneCommit stands by_table =
    (config : Config) (records : ℕ → Records) (bricks : ℕ → Brick) (tree : Tree) (next g : ℕ) (s : Cluster) (c : Clients AnyCall)
    → IsStart config records bricks tree next
    → IsLogged stands by_table config bricks tree next s c
    → (es rest : List Entry) → log_of s ≡ es ++ rest
    → (call : ℕ) (op : Op) (answer : Answer) (h : IsAnswered es call op answer) → SaysChanged op answer g
    → CommitsOnce config.geometry bricks tree next es h.earlier h.between call h.client op g

-- In any log, from any moment of it on: no call commits twice on a gfid.
abbrev pub NeverTwice : Type 0
NeverTwice = (geometry : Geometry) (call g : ℕ) (es : List Entry) (m : Net) (t : Story) → times geometry call g es m t ≤ 1

-- In any log: an entry by which some call commits is the commit of one call on one gfid.
abbrev pub EachOfACall : Type 0
EachOfACall = (geometry : Geometry) (m : Net) (t : Story) (e : Entry) → commits geometry m t e ≡ true → IsCommit geometry m t e

pub record CommitLaws (stands : Ctx → Given → AnyCall → List Own → Type 0) (by_table : Ctx → Given → List Own → Type 0) : Type 0 where
  pub answered_by_one_commit : AnsweredByOneCommit stands by_table
  pub never_twice : NeverTwice
  pub each_of_a_call : EachOfACall
