-- What bricks hold of what the kind of a gfid has none of: of the names of one that is no directory, and of the stripes of one that is no
-- file. No call sets the one or writes the other, so they stay as the log began with them.
use Rattle.std.specs.Prelude.{◌≡◌, ◌≢◌, ℕ, ◌<◌, false, Some, List}
use Rattle.ec_attr.specs.Marks.{is_marked}
use Rattle.ec_attr.specs.declared.config.Config.{Config}
use Rattle.ec_attr.specs.declared.kind.Kind.TheVariants.{Dir, File}
use Rattle.ec_history.specs.Flat.{Flat}
use Rattle.ec_history.specs.Flat.Opener.{Nobody}
use Rattle.ec_history.specs.Holds.{Copies, HoldsStripe}
use Rattle.ec_store.specs.Records.{Record}
use Rattle.ec_law_flats.specs.StripeLaws.{IsUnmarkedAt}

-- each unmarked record at the flat file's version leads each closed name to the flat file's child
abbrev pub LeadNames : Config → Copies → Flat → Type 0
LeadNames config copies flat = (b : ℕ) (r : Record) (name : List ℕ) → b < config.geometry.n → copies b ≡ Some r → is_marked r.head.version.content ≡ false → r.head.version.content ≡ flat.version → flat.is_name_open name ≡ false → r.names name ≡ flat.child name

-- of each closed stripe each such record holds the code
abbrev pub CodeStripes : Config → Copies → Flat → Type 0
CodeStripes config copies flat = (s : ℕ) → flat.opener s ≡ Nobody → HoldsStripe config.geometry copies (IsUnmarkedAt flat.version) flat s

pub record HoldOthers (config : Config) (copies : Copies) (flat : Flat) : Type 0 where
  pub names : flat.kind ≢ Some Dir → LeadNames config copies flat
  pub stripes : flat.kind ≢ Some File → CodeStripes config copies flat
