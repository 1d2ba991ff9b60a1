-- What the heads of the records of a gfid say of its flat file. These are the clauses of bricks that stand for it, but those of
-- what the records hold and of the size and attribute.
use Rattle.std.specs.Prelude.{◌≡◌, ◌≢◌, ℕ, ◌<◌, false, Some, None}
use Rattle.ec_attr.specs.Bricks.{count_below}
use Rattle.ec_attr.specs.Marks.{is_marked, stripped}
use Rattle.ec_attr.specs.declared.config.Config.{Config}
use Rattle.ec_conduct.specs.Given.{quorum}
use Rattle.ec_store.specs.Records.{Record}
use Rattle.ec_history.specs.Flat.{Flat, blank}
use Rattle.ec_history.specs.Holds.{Copies, HoldClosed, IsAtVersion, IsBounded, Stands, is_at_version, is_low}

-- the numbers of each head are in their ranges
abbrev pub AreBounded : Config → Copies → Flat → Type 0
AreBounded config copies flat = (b : ℕ) (r : Record) → b < config.geometry.n → copies b ≡ Some r → IsBounded r.head

-- each head is of the volume
abbrev pub AreOfVolume : Config → Copies → Flat → Type 0
AreOfVolume config copies flat = (b : ℕ) (r : Record) → b < config.geometry.n → copies b ≡ Some r → r.head.config ≡ config

-- and has the kind of the flat file
abbrev pub AreOfKind : Config → Copies → Flat → Type 0
AreOfKind config copies flat = (b : ℕ) (r : Record) → b < config.geometry.n → copies b ≡ Some r → Some r.head.kind ≡ flat.kind

-- no K unmarked records agree in another version than the flat one
abbrev pub NoOthersAgree : Config → Copies → Flat → Type 0
NoOthersAgree config copies flat = (v : ℕ) → is_marked v ≡ false → v ≢ flat.version → count_below config.geometry.n (λ b. is_at_version v (copies b)) < quorum config.geometry

-- each version above the flat one leaves fewer than K records low
abbrev pub ArePromised : Config → Copies → Flat → Type 0
ArePromised config copies flat = (b : ℕ) (r : Record) → b < config.geometry.n → copies b ≡ Some r → flat.version < stripped r.head.version.content → count_below config.geometry.n (λ c. is_low flat.version (stripped r.head.version.content) (copies c)) < quorum config.geometry

-- A gfid whose flat file has no kind, since no record of it was ever made, is blank, and no brick has it.
abbrev pub IsBlankUnmade : Config → Copies → Flat → Type 0
IsBlankUnmade config copies flat = flat.kind ≡ None → (flat ≡ blank) × ((b : ℕ) → b < config.geometry.n → copies b ≡ None)

-- all of these that bricks have that stand
pub record HeadsStand (config : Config) (copies : Copies) (flat : Flat) : Type 0 where
  pub bounded : AreBounded config copies flat
  pub of_volume : AreOfVolume config copies flat
  pub kinds : AreOfKind config copies flat
  pub alone : NoOthersAgree config copies flat
  pub promised : ArePromised config copies flat

-- the rest: at the flat version each head has the flat size and attribute, and the records hold what is closed
pub record HoldsRest (config : Config) (copies : Copies) (flat : Flat) : Type 0 where
  pub size : (b : ℕ) (r : Record) → b < config.geometry.n → copies b ≡ Some r → r.head.version.content ≡ flat.version → r.head.size ≡ flat.size
  pub attr : (b : ℕ) (r : Record) → b < config.geometry.n → copies b ≡ Some r → r.head.version.content ≡ flat.version → r.head.attr ≡ flat.attr
  pub content : HoldClosed config.geometry copies (IsAtVersion flat.version) flat

-- with which the bricks stand for the flat file
abbrev pub StandWithRest : Config → Copies → Flat → Type 0
StandWithRest config copies flat = HoldsRest config copies flat → Stands config copies flat

abbrev pub StandTogether : Type 0
StandTogether = (config : Config) (copies : Copies) (flat : Flat) → HeadsStand config copies flat → StandWithRest config copies flat
