-- Where a volume rests, as its clients and bricks have it.
use Rattle.std.specs.Prelude.{◌≡◌, ◌⊎◌, ℕ, ◌<◌, Bool, true, false, Option, Some, None, List}
use Rattle.ec_clients.specs.Hearing.{IsWaiting}
use Rattle.ec_clients.specs.Views.{is_dead_at, running_at}
use Rattle.ec_clients.specs.declared.clients.Clients.{Clients}
use Rattle.ec_cluster.specs.Views.{asks_at, flight, size_of}
use Rattle.ec_cluster.specs.declared.cluster.Cluster.{Cluster}
use Rattle.ec_conduct.specs.Given.{Given}
use Rattle.ec_conduct.specs.Own.{Own}
use Rattle.ec_locks.specs.Table.{queued}
use Rattle.ec_txn.specs.declared.ctx.Ctx.{Ctx}
use Rattle.ec_world.specs.Refusals.{IsAwaitedBy}
use Rattle.ec_world.specs.declared.settling.Stuck.{Stuck}

-- client j's call doesn't wait for brick b, or its ask stands in the brick's queue
abbrev pub IsFree : {C : Type 0} → (Ctx → Given → C → List Own → Type 0) → Cluster → Clients C → ℕ → ℕ → Type 0
IsFree stands s c j b = (a : Option ℕ) × IsAwaitedBy stands (running_at c j) b a × ((n : ℕ) → a ≡ Some n → queued (asks_at s b) n ≡ true)

-- client j is dead, or so free of each of the first n bricks
abbrev pub IsFreeBelow : {C : Type 0} → (Ctx → Given → C → List Own → Type 0) → Cluster → Clients C → ℕ → ℕ → Type 0
IsFreeBelow stands s c n j = (b : ℕ) → b < n → IsFree stands s c j b

abbrev pub IsFreeOf : {C : Type 0} → (Ctx → Given → C → List Own → Type 0) → Cluster → Clients C → ℕ → Type 0
IsFreeOf stands s c j = (is_dead_at c j ≡ true) ⊎ IsFreeBelow stands s c (size_of s) j

-- client j's call waits for brick b's reply to request n, which the brick doesn't keep in its queue
pub record IsStuckBy {C : Type 0} (stands : Ctx → Given → C → List Own → Type 0) (s : Cluster) (c : Clients C) (j b n : ℕ) : Type 0 where
  pub waiting : IsWaiting stands c j b n
  pub out_of_queue : queued (asks_at s b) n ≡ false

-- brick b is the lowest that the client's call waits for in vain
pub record IsStuckAt {C : Type 0} (stands : Ctx → Given → C → List Own → Type 0) (s : Cluster) (c : Clients C) (j b n : ℕ) : Type 0 where
  pub here : IsStuckBy stands s c j b n
  pub lower : IsFreeBelow stands s c b j

-- and the client is the lowest such that lives
pub record IsFirst {C : Type 0} (stands : Ctx → Given → C → List Own → Type 0) (s : Cluster) (c : Clients C) (x : Stuck) : Type 0 where
  pub lives : is_dead_at c x.client ≡ false
  pub stuck : IsStuckAt stands s c x.client x.brick x.no
  pub lower : (j : ℕ) → j < x.client → IsFreeOf stands s c j

-- nothing is in flight, and no client that lives waits in vain
pub record Rests {C : Type 0} (stands : Ctx → Given → C → List Own → Type 0) (s : Cluster) (c : Clients C) : Type 0 where
  pub none_fly : (i : ℕ) → flight s i ≡ None
  pub none_stuck : (j : ℕ) → j < 17 → IsFreeOf stands s c j
