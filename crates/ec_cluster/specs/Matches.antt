-- When a cluster with the records of its stores is as a net says.
use Rattle.std.specs.Prelude.{◌≡◌, ℕ, ◌<◌, is_some, Option, Some, List, [], length, slice_get}
use Rattle.ec_brick.specs.Index.{IndexIs}
use Rattle.ec_brick.specs.Known.{AreKnown, IsKnownState}
use Rattle.ec_brick.specs.State.{State, indexed, state}
use Rattle.ec_brick.specs.declared.brick.Brick.{Brick}
use Rattle.ec_history.specs.Run.{Net, Owed}
use Rattle.ec_store.specs.Records.{Records}
use Rattle.ec_wire.specs.declared.entry.Entry.{Entry}
use Rattle.ec_wire.specs.declared.message.Message.{Message}
use Rattle.ec_cluster.specs.Said.{said_in}
use Rattle.ec_cluster.specs.Views.{bricks_of, flight, log_of, next_of}
use Rattle.ec_cluster.specs.declared.cluster.Cluster.{Cluster}

-- a brick over these records is as the state says, as far as that is known, and its index is that of the records
pub record IsBrick (s : State) (k : Brick) (r : Records) : Type 0 where
  pub known : IsKnownState s (state k r)
  pub index : IndexIs (indexed k) r

-- `records` are those of the stores, by brick
pub record MatchesOf (all : List Brick) (flying : ℕ → Option Message) (number : ℕ) (log : List Entry) (records : List Records) (owed : List Owed) (m : Net) : Type 0 where
  pub next : m.next ≡ number
  pub said : m.said ≡ said_in log
  pub flies : (i : ℕ) → m.flying i ≡ is_some (flying i)
  pub bricks : (b : ℕ) (k : Brick) (r : Records) → slice_get all b ≡ Some k → slice_get records b ≡ Some r → IsBrick (m.brick b) k r
  pub stores : length records ≡ length all
  pub owes : m.owed ≡ owed

-- between two events, where no reply is owed
abbrev pub Matches : Cluster → List Records → Net → Type 0
Matches c records m = MatchesOf (bricks_of c) (flight c) (next_of c) (log_of c) records [] m

-- the records of n stores are those of the net, as far as these are known
abbrev pub StandsAs : ℕ → List Records → Net → Type 0
StandsAs n records m = (b : ℕ) (r : Records) → b < n → slice_get records b ≡ Some r → AreKnown (m.brick b).records r
