-- Whose requests are: each is of a call that was made, and of that call's client. What own entries say of asks.
use Rattle.std.specs.Prelude.{◌≡◌, ℕ, ◌<◌, Bool, true, List, Option, Some, None}
use Rattle.std.specs.List.{Contains}
use Rattle.ec_attr.specs.declared.gfid.Gfid.{Gfid}
use Rattle.ec_attr.specs.declared.kind.Domain.{Domain}
use Rattle.ec_attr.specs.declared.kind.LockKind.{LockKind}
use Rattle.ec_cluster.specs.Views.{size_of}
use Rattle.ec_cluster.specs.declared.cluster.Cluster.{Cluster}
use Rattle.ec_conduct.specs.Given.{Given}
use Rattle.ec_conduct.specs.Own.{Own, Sends}
use Rattle.ec_history.specs.Run.{Asker}
use Rattle.ec_txn.specs.declared.ctx.Ctx.{Ctx}
use Rattle.ec_wire.specs.declared.message.Body.TheVariants.{ToBrick}
use Rattle.ec_wire.specs.declared.message.Message.{Message}
use Rattle.ec_wire.specs.declared.request.Request.{Request}
use Rattle.ec_wire.specs.declared.request.Request.TheVariants.{Ask, Release}
use Rattle.ec_clients.specs.Come.{Come}
use Rattle.ec_clients.specs.Steps.{Seen}
use Rattle.ec_clients.specs.declared.clients.Clients.{Clients}

-- call a was made, by client j
pub record IsOwned (askers : ℕ → Option Asker) (a j : ℕ) : Type 0 where
  pub asker : Asker
  pub made : askers a ≡ Some asker
  pub of_client : asker.client ≡ j

abbrev pub AreOwned : (ℕ → Option Message) → (ℕ → Option Asker) → Type 0
AreOwned said askers = (i : ℕ) (m : Message) (q : Request) → said i ≡ Some m → m.body ≡ ToBrick q → IsOwned askers m.call m.client

-- messages go to one of n bricks or come from it
abbrev pub AreBelow : ℕ → (ℕ → Option Message) → Type 0
AreBelow n said = (i : ℕ) (m : Message) → said i ≡ Some m → m.brick < n

-- An ask is among the own entries of its call, and an ask that own entries release is let go.
pub record AreBooked (said : ℕ → Option Message) (let_go : ℕ → Bool) (own : ℕ → List Own) : Type 0 where
  pub asks : (i : ℕ) (m : Message) (g : Gfid) (domain : Domain) (kind : LockKind) → said i ≡ Some m → m.body ≡ ToBrick (Ask g domain kind) → Contains (own m.call) (Sends m.brick i (Ask g domain kind))
  pub releases : (a b i n : ℕ) (g : Gfid) → Contains (own a) (Sends b i (Release g n)) → let_go n ≡ true

-- Messages and clients are as what has come of a log says, between two steps.
pub record Sees {C : Type 0} (stands : Ctx → Given → C → List Own → Type 0) (by_table : Ctx → Given → List Own → Type 0) (s : Cluster) (c : Clients C) (p : Come) : Type 0 where
  pub seen : Seen stands by_table s c None p
  pub owned : AreOwned p.net.said p.net.asker
  pub below : AreBelow (size_of s) p.net.said
  pub booked : AreBooked p.net.said p.net.let_go p.books.own
