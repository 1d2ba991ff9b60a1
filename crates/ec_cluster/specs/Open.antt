-- What opening the stores of a volume leaves.
use Rattle.std.specs.Prelude.{◌≡◌, ◌⊎◌, ℕ, ◌+◌, ◌≤◌, ◌<◌, ◌^◌, Bool, true, false, Option, Some, None, List, [], slice_get, slice_index}
use Rattle.ec_attr.specs.declared.config.Config.{Config}
use Rattle.ec_brick.specs.Index.{IndexIs}
use Rattle.ec_brick.specs.Opening.{AcceptsAll, IsStartFault, IsTaken, IsUnused, rooted}
use Rattle.ec_brick.specs.StartFault.{is_failure}
use Rattle.ec_brick.specs.State.{State, indexed, state}
use Rattle.ec_brick.specs.declared.brick.Brick.{Brick}
use Rattle.ec_brick.specs.declared.start_fault.StartFault.{StartFault}
use Rattle.ec_store.specs.Causes.{Rose}
use Rattle.ec_store.specs.Records.{Records}
use Rattle.ec_cluster.specs.Views.{flight, log_of, next_of, places_of}
use Rattle.ec_cluster.specs.declared.cluster.Cluster.{Cluster}

-- a brick that is up, without locks, over these records
abbrev pub opened_state : Config → Records → State
opened_state config r = record { config = config; records = r; up = true; asks = []; removed = λ g. false }

abbrev pub or_none : Option Records → Records
or_none None = λ g. None
or_none (Some r) = r

-- each brick is so over the records of its store
abbrev pub opened : Config → List Records → ℕ → State
opened config records b = opened_state config (or_none (slice_get records b))

abbrev pub IsOpened : Config → Brick → Type 0
IsOpened config k = (m : Records) → state k m ≡ opened_state config m

-- the gfids that are taken in any of the first n stores are below the next one, which is from 2 to 2^96 + 1
pub record IsNextGfid (Told : Type 0) (n : ℕ) (records : List Records) (next : ℕ) : Type 0 where
  pub least : 2 ≤ next
  pub most : next ≤ 2 ^ 96 + 1
  pub above : Told → (b : ℕ) (r : Records) (g : ℕ) → b < n → slice_get records b ≡ Some r → IsTaken r g → g < next

-- the next gfid is 2, or the one after a gfid that is taken in one of the first n stores
abbrev pub IsAfterTaken : ℕ → List Records → ℕ → Type 0
IsAfterTaken n records next = (next ≡ 2) ⊎ ((b : ℕ) × (r : Records) × (g : ℕ) × (b < n) × (slice_get records b ≡ Some r) × IsTaken r g × (next ≡ g + 1))

-- each of the first n stores is unused
abbrev pub AreUnused : Config → ℕ → List Records → Type 0
AreUnused config n records = (b : ℕ) (r : Records) → b < n → slice_get records b ≡ Some r → IsUnused config r

-- each head in the first n stores is accepted
abbrev pub AreAccepted : Config → ℕ → List Records → Type 0
AreAccepted config n records = (b : ℕ) (r : Records) → b < n → slice_get records b ≡ Some r → AcceptsAll config r

-- a flag says whether the first n stores are unused
pub record TellsUnused (config : Config) (n : ℕ) (records : List Records) (flag : Bool) : Type 0 where
  pub all : flag ≡ true → AreUnused config n records
  pub some : flag ≡ false → ¬ (AreUnused config n records)

-- the count of faults rose of a store that failed
abbrev pub HasRisen : List ℕ → List ℕ → ℕ × StartFault → Type 0
HasRisen before now e = is_failure e.1 ≡ true → Rose (slice_index before e.0) (slice_index now e.0)

-- a head that is refused is one of that store, and the lowest
abbrev pub IsFaultOf : Config → List Records → ℕ × StartFault → Type 0
IsFaultOf config records e = (r : Records) → slice_get records e.0 ≡ Some r → IsStartFault config r e.1

-- no count of faults is lower than before
abbrev pub AreLater : List ℕ → List ℕ → Type 0
AreLater before now = (b : ℕ) → slice_index before b ≤ slice_index now b

-- the first bricks are opened
pub record AreOpened (Told : Type 0) (config : Config) (bricks : List Brick) (records : List Records) : Type 0 where
  pub states : (b : ℕ) (k : Brick) → slice_get bricks b ≡ Some k → IsOpened config k
  pub index : Told → (b : ℕ) (k : Brick) (r : Records) → slice_get bricks b ≡ Some k → slice_get records b ≡ Some r → IndexIs (indexed k) r

-- the first n stores have a root, the others are as before
pub record AreRooted (config : Config) (n : ℕ) (before now : List Records) : Type 0 where
  pub first : (b : ℕ) (r q : Records) → b < n → slice_get before b ≡ Some r → slice_get now b ≡ Some q → q ≡ rooted config r
  pub others : (b : ℕ) (r q : Records) → n ≤ b → slice_get before b ≡ Some r → slice_get now b ≡ Some q → q ≡ r

-- the stores are as before, or each has a root
abbrev pub AreKept : Config → ℕ → List Records → List Records → Type 0
AreKept config n before now = (now ≡ before) ⊎ AreRooted config n before now

-- nothing is in flight, and nothing was logged
pub record IsEmpty (c : Cluster) : Type 0 where
  pub next : next_of c ≡ 1
  pub flies : (i : ℕ) → flight c i ≡ None
  pub log : log_of c ≡ []
  pub places : places_of c ≡ []
