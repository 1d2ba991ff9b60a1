-- What is so of every answer of a built call.
use Rattle.std.specs.Prelude.{◌≡◌, ◌⊎◌, ℕ, Some, List, ◌∷◌, ◌++◌}
use Rattle.ec_attr.specs.declared.config.Config.{Config}
use Rattle.ec_brick.specs.State.{State as Brick}
use Rattle.ec_calls.specs.declared.any.AnyCall.{AnyCall}
use Rattle.ec_clients.specs.Come.{nothing_left}
use Rattle.ec_clients.specs.declared.clients.Clients.{Clients}
use Rattle.ec_cluster.specs.Views.{log_of}
use Rattle.ec_cluster.specs.declared.cluster.Cluster.{Cluster}
use Rattle.ec_conduct.specs.Given.{Given}
use Rattle.ec_conduct.specs.Opened.{account}
use Rattle.ec_conduct.specs.Own.{Own}
use Rattle.ec_history.specs.Accounts.{books, no_books}
use Rattle.ec_history.specs.Flat.{Tree}
use Rattle.ec_history.specs.Run.{fresh}
use Rattle.ec_history.specs.Story.{opening}
use Rattle.ec_txn.specs.declared.ctx.Ctx.{Ctx}
use Rattle.ec_wire.specs.declared.answer.Answer.{Answer}
use Rattle.ec_wire.specs.declared.entry.Entry.{Entry}
use Rattle.ec_wire.specs.declared.entry.Entry.TheVariants.{Answered}
use Rattle.ec_law_calls.specs.World.{IsLogged}
use Rattle.ec_law_causes.specs.Causes.{HasCause, IsSuccess}

-- Of the own entries that a call stands for, where it is answered in them.
pub record CallCauseLaws (stands : Ctx → Given → AnyCall → List Own → Type 0) : Type 0 where
  -- its account has the cause of its answer
  pub cause : (x : Ctx) (given : Given) (call : AnyCall) (es : List Own) (answer : Answer) → stands x given call es → (account given es).answer ≡ Some answer → HasCause (account given es) answer
  -- and of no other answer, but that which success it says may be free
  pub only : (x : Ctx) (given : Given) (call : AnyCall) (es : List Own) (answer other : Answer) → stands x given call es → (account given es).answer ≡ Some answer → HasCause (account given es) other
      → (other ≡ answer) ⊎ (IsSuccess other × IsSuccess answer)

-- The call that was answered in this log has, by what it began with and its own entries there, the cause of its answer, and of no
-- other answer, but that which success it says may be free.
pub record HasCauseInLog (config : Config) (bricks : ℕ → Brick) (tree : Tree) (next : ℕ) (log : List Entry) (call : ℕ) (answer : Answer) : Type 0 where
  pub given : Given
  pub begun : (books config.geometry nothing_left log (fresh bricks) (opening tree next) no_books).given call ≡ Some given
  pub answered : (account given ((books config.geometry nothing_left log (fresh bricks) (opening tree next) no_books).own call)).answer ≡ Some answer
  pub cause : HasCause (account given ((books config.geometry nothing_left log (fresh bricks) (opening tree next) no_books).own call)) answer
  pub only : (other : Answer) → HasCause (account given ((books config.geometry nothing_left log (fresh bricks) (opening tree next) no_books).own call)) other → (other ≡ answer) ⊎ (IsSuccess other × IsSuccess answer)

-- Of the log of every world that is as what has come of its log says, over whatever bricks.
pub record WorldCauseLaws (stands : Ctx → Given → AnyCall → List Own → Type 0) (by_table : Ctx → Given → List Own → Type 0) : Type 0 where
  -- at each entry that answers a call
  pub cause : (config : Config) (bricks : ℕ → Brick) (tree : Tree) (next : ℕ) (s : Cluster) (c : Clients AnyCall) → IsLogged stands by_table config bricks tree next s c
      → (es rest : List Entry) (call : ℕ) (answer : Answer) → log_of s ≡ es ++ Answered call answer ∷ rest → HasCauseInLog config bricks tree next (log_of s) call answer
