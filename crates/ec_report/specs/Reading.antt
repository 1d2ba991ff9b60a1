-- What a walk that only reads leaves, and what it gathers.
use Rattle.std.specs.Prelude.{◌≡◌, ◌⊎◌, ℕ, ◌<◌, ◌≤◌, Bool, true, Option, Some, List, slice_get, slice_index}
use Rattle.ec_attr.specs.declared.kind.Child.{Child}
use Rattle.ec_store.specs.Causes.{Rose}
use Rattle.ec_store.specs.Records.{Records}
use Rattle.ec_report.specs.declared.fault.CheckFault.{CheckFault}
use Rattle.ec_report.specs.declared.fault.CheckFault.TheVariants.{Store, NoMemory}

-- no count of faults is lower than before
abbrev pub AreLater : List ℕ → List ℕ → Type 0
AreLater before now = (b : ℕ) → slice_index before b ≤ slice_index now b

-- a store that failed has counted it
abbrev pub HasRisen : List ℕ → List ℕ → CheckFault → Type 0
HasRisen before now (Store b) = Rose (slice_index before b) (slice_index now b)
HasRisen before now NoMemory = Unit {0}

-- the stores keep what they kept, and whether they tell it
pub record OnlyRead (told_before told_now : Bool) (before now : List Records) (faults_before faults_now : List ℕ) : Type 0 where
  pub tells : told_now ≡ told_before
  pub same : told_before ≡ true → now ≡ before
  pub later : AreLater faults_before faults_now

-- a name leads to the gfid
abbrev pub LeadsTo : (List ℕ → Option Child) → ℕ → Type 0
LeadsTo names g = (n : List ℕ) × (c : Child) × (names n ≡ Some c) × (c.gfid.0 ≡ g)

-- a set has grown by the gfids of which P holds
pub record GrowsBy (P : ℕ → Type 0) (before now : ℕ → Bool) : Type 0 where
  pub kept : (g : ℕ) → before g ≡ true → now g ≡ true
  pub added : (g : ℕ) → P g → now g ≡ true
  pub only : (g : ℕ) → now g ≡ true → (before g ≡ true) ⊎ P g

-- a set is exactly the gfids of which P holds
pub record IsSetOf (P : ℕ → Type 0) (set : ℕ → Bool) : Type 0 where
  pub all : (g : ℕ) → P g → set g ≡ true
  pub only : (g : ℕ) → set g ≡ true → P g

-- it holds of the records of one of the first n bricks
abbrev pub OfFirst : ℕ → (Records → ℕ → Type 0) → List Records → ℕ → Type 0
OfFirst n P records g = (b : ℕ) × (m : Records) × (b < n) × (slice_get records b ≡ Some m) × P m g
