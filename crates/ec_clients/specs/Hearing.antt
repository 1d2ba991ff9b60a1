-- Replies that clients hear.
use Rattle.std.specs.Prelude.{◌≡◌, ◌≢◌, ℕ, ◌+◌, ◌<◌, All, Option, Some, None, List, ◌∷◌, ◌++◌}
use Rattle.ec_cluster.specs.Views.{flight, next_of}
use Rattle.ec_cluster.specs.declared.cluster.Cluster.{Cluster}
use Rattle.ec_conduct.specs.Given.{Given}
use Rattle.ec_conduct.specs.Opened.{account}
use Rattle.ec_conduct.specs.Own.{Own}
use Rattle.ec_conduct.specs.Table.{Send}
use Rattle.ec_txn.specs.Steps.{number_of}
use Rattle.ec_txn.specs.declared.ctx.Ctx.{Ctx}
use Rattle.ec_wire.specs.declared.answer.Answer.{Answer}
use Rattle.ec_wire.specs.declared.entry.Entry.TheVariants.{Called, GivenUp, Heard}
use Rattle.ec_wire.specs.declared.message.Body.{Body}
use Rattle.ec_wire.specs.declared.message.Body.TheVariants.{ToBrick, ToClient}
use Rattle.ec_wire.specs.declared.message.Message.{Message}
use Rattle.ec_wire.specs.declared.op.Op.{Op}
use Rattle.ec_wire.specs.declared.reply.Reply.{Reply}
use Rattle.ec_clients.specs.Going.{answer_entries, sent_entries}
use Rattle.ec_clients.specs.Steps.{Goes, Seen}
use Rattle.ec_clients.specs.Views.{running_at}
use Rattle.ec_clients.specs.declared.clients.Clients.{Clients}
use Rattle.ec_clients.specs.declared.clients.Running.{Running}

abbrev pub reply_message : ℕ → ℕ → ℕ → ℕ → ℕ → Reply → Message
reply_message i a j b re reply = record { no = i; call = a; client = j; brick = b; body = ToClient re reply }

-- a reply in flight from brick b to client j, in its call a, to request re
pub record IsReplyAt (s : Cluster) (i a j b re : ℕ) : Type 0 where
  pub reply : Reply
  pub flies : flight s i ≡ Some (reply_message i a j b re reply)

-- client j runs call a, which waits for the reply of brick b to request re
pub record IsAwaited {C : Type 0} (stands : Ctx → Given → C → List Own → Type 0) (c : Clients C) (a j b re : ℕ) : Type 0 where
  pub running : Running C
  pub runs : running_at c j ≡ Some running
  pub number : running.number ≡ a
  pub awaits : (x : Ctx) (given : Given) (es : List Own) → stands x given running.call es → Some re ≡ number_of ((account given es).waits b)

-- it doesn't: client j runs another call or none, or its call waits for another request
abbrev pub IsIdle : {C : Type 0} → (Ctx → Given → C → List Own → Type 0) → Clients C → ℕ → ℕ → ℕ → ℕ → Type 0
IsIdle {C} stands c a j b re = (r : Running C) → running_at c j ≡ Some r → r.number ≡ a → (x : Ctx) (given : Given) (es : List Own) → stands x given r.call es → number_of ((account given es).waits b) ≢ Some re

-- client j runs a call that waits for brick b's reply to request i
pub record IsWaiting {C : Type 0} (stands : Ctx → Given → C → List Own → Type 0) (c : Clients C) (j b i : ℕ) : Type 0 where
  pub running : Running C
  pub runs : running_at c j ≡ Some running
  pub awaits : (x : Ctx) (given : Given) (es : List Own) → stands x given running.call es → Some i ≡ number_of ((account given es).waits b)

-- Call a of client j heard reply i, sent these requests, each to one of the volume's bricks, and was answered or waits.
pub record Hears {C : Type 0} (stands : Ctx → Given → C → List Own → Type 0) (by_table : Ctx → Given → List Own → Type 0) (s t : Cluster) (c d : Clients C) (i a j : ℕ) : Type 0 where
  pub sends : List Send
  pub to : All (λ (x : Send). x.0 < c.options.geometry.n) sends
  pub answer : Option Answer
  pub goes : Goes c.options.geometry (Seen stands by_table s c None) (Seen stands by_table t d None) s t (Heard i ∷ (sent_entries a j (next_of s) sends ++ answer_entries a answer))

-- the reply that a message is
abbrev pub reply_in : Body → Option Reply
reply_in (ToBrick q) = None
reply_in (ToClient re reply) = Some reply

-- The call that client j runs gave up brick b, sent these requests, and was answered or waits.
pub record Leaves {C : Type 0} (stands : Ctx → Given → C → List Own → Type 0) (by_table : Ctx → Given → List Own → Type 0) (s t : Cluster) (c d : Clients C) (i j b : ℕ) : Type 0 where
  pub running : Running C
  pub runs : running_at c j ≡ Some running
  pub call : ℕ
  pub number : running.number ≡ call
  pub sends : List Send
  pub to : All (λ (x : Send). x.0 < c.options.geometry.n) sends
  pub answer : Option Answer
  pub goes : Goes c.options.geometry (Seen stands by_table s c None) (Seen stands by_table t d None) s t (GivenUp j b i ∷ (sent_entries call j (next_of s) sends ++ answer_entries call answer))

-- Client j began a call, sent these requests, and was answered or waits.
pub record Begins {C : Type 0} (stands : Ctx → Given → C → List Own → Type 0) (by_table : Ctx → Given → List Own → Type 0) (s t : Cluster) (c d : Clients C) (j : ℕ) (op : Op) : Type 0 where
  pub sends : List Send
  pub to : All (λ (x : Send). x.0 < c.options.geometry.n) sends
  pub answer : Option Answer
  pub goes : Goes c.options.geometry (Seen stands by_table s c None) (Seen stands by_table t d None) s t (Called (c.calls + 1) j op ∷ (sent_entries (c.calls + 1) j (next_of s) sends ++ answer_entries (c.calls + 1) answer))
