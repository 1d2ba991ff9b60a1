-- A call that is out of its slot while it takes a step.
use Rattle.std.specs.Prelude.{◌≡◌, ℕ, ◌+◌, false, Option, Some, None, List, [], ◌∷◌, ◌++◌}
use Rattle.ec_cluster.specs.Sound.{IsSound}
use Rattle.ec_cluster.specs.Views.{next_of, size_of}
use Rattle.ec_cluster.specs.declared.cluster.Cluster.{Cluster}
use Rattle.ec_conduct.specs.Given.{Given}
use Rattle.ec_conduct.specs.Own.{Own}
use Rattle.ec_conduct.specs.Table.{Send, entries_of}
use Rattle.ec_history.specs.Run.{Asker}
use Rattle.ec_txn.specs.declared.ctx.Ctx.{Ctx}
use Rattle.ec_wire.specs.declared.answer.Answer.{Answer}
use Rattle.ec_wire.specs.declared.entry.Entry.{Entry}
use Rattle.ec_wire.specs.declared.entry.Entry.TheVariants.{Answered, Sent}
use Rattle.ec_clients.specs.Calls.{begun_with, ctx_of, request_message}
use Rattle.ec_clients.specs.Come.{Come}
use Rattle.ec_clients.specs.Steps.{Goes, Seen}
use Rattle.ec_clients.specs.declared.clients.Clients.{Clients}

-- the entries of these requests of call a of client j, under the numbers from i on
abbrev pub sent_entries : ℕ → ℕ → ℕ → List Send → List Entry
sent_entries a j i [] = []
sent_entries a j i (s ∷ ss) = Sent (request_message i a j s.0 s.1) ∷ sent_entries a j (i + 1) ss

-- the entry of its answer, if it has one
abbrev pub answer_entries : ℕ → Option Answer → List Entry
answer_entries a None = []
answer_entries a (Some answer) = Answered a answer ∷ []

-- Call a of client j, which lives, stands for its own entries with what it has still to send and to answer.
pub record Going {C : Type 0} (stands : Ctx → Given → C → List Own → Type 0) (by_table : Ctx → Given → List Own → Type 0) (s : Cluster) (c : Clients C) (a j : ℕ) (call : C) (rest : List Send) (answer : Option Answer) (p : Come) : Type 0 where
  pub seen : Seen stands by_table s c (Some a) p
  pub asker : Asker
  pub made : p.net.asker a ≡ Some asker
  pub of_client : asker.client ≡ j
  pub unanswered : p.net.answered a ≡ false
  pub lives : p.net.dead j ≡ false
  pub child : ℕ
  pub begun : p.books.given a ≡ Some (begun_with c.options asker.op child)
  pub meets : stands (ctx_of c.options a j child) (begun_with c.options asker.op child) call (p.books.own a ++ entries_of (next_of s) rest answer)

-- the first of its requests are sent, and these are left
pub record SendsRest {C : Type 0} (stands : Ctx → Given → C → List Own → Type 0) (by_table : Ctx → Given → List Own → Type 0) (s t : Cluster) (c d : Clients C) (a j : ℕ) (sends rest : List Send) : Type 0 where
  pub entries : List Entry
  pub exact : entries ++ sent_entries a j (next_of t) rest ≡ sent_entries a j (next_of s) sends
  pub same : d ≡ record c { released = d.released }
  pub sound : IsSound t
  pub size : size_of t ≡ size_of s
  pub goes : (call : C) (answer : Option Answer) → Goes c.options.geometry (Going stands by_table s c a j call sends answer) (Going stands by_table t d a j call rest answer) s t entries

-- all of them are sent
abbrev pub SendsAll : {C : Type 0} → (Ctx → Given → C → List Own → Type 0) → (Ctx → Given → List Own → Type 0) → Cluster → Cluster → Clients C → Clients C → ℕ → ℕ → List Send → Type 0
SendsAll stands by_table s t c d a j sends = SendsRest stands by_table s t c d a j sends []
