-- What the records of the bricks hold of a flat file.
use Rattle.std.specs.Prelude.{◌≡◌, ℕ, ◌+◌, ◌-◌, ◌*◌, ◌^◌, ◌<◌, ◌≢◌, Bool, false, ◌==◌, ◌&&◌, nat_lt, Option, Some, None, List, slice_index}
use Rattle.ec_conduct.specs.Given.{quorum}
use Rattle.ec_attr.specs.Bricks.{count_below}
use Rattle.ec_attr.specs.Marks.{is_marked, stripped}
use Rattle.ec_attr.specs.declared.config.Config.{Config}
use Rattle.ec_attr.specs.declared.geometry.Geometry.{Geometry}
use Rattle.ec_attr.specs.declared.head.Head.{Head}
use Rattle.ec_field.specs.Chunk.{IsChunk}
use Rattle.ec_field.specs.Code.{IsCode, IsStripe}
use Rattle.ec_conduct.specs.Data.{stripe_byte}
use Rattle.ec_stripe.specs.Span.{stripe_bytes}
use Rattle.ec_store.specs.Records.{Record, Records}
use Rattle.ec_history.specs.Flat.{Flat, Tree, blank}
use Rattle.ec_history.specs.Flat.Opener.{Nobody}

-- the records of one gfid, by brick
abbrev pub Copies : Type 0
Copies = ℕ → Option Record

-- piece s of a record is this chunk, and no byte of it is unset
pub record IsPiece (r : Record) (s : ℕ) (chunk : List ℕ) : Type 0 where
  pub is_chunk : IsChunk chunk
  pub bytes : (i : ℕ) → i < 512 → r.piece s i ≡ Some (slice_index chunk i)

-- brick b's record has the code of a stripe as its piece s
pub record HoldsCode (g : Geometry) (b : ℕ) (r : Record) (s : ℕ) (stripe : List (List ℕ)) : Type 0 where
  pub chunk : List ℕ
  pub piece : IsPiece r s chunk
  pub code : IsCode (quorum g) g.algorithm b stripe chunk

-- stripe s has each known byte of the flat file
abbrev pub HasKnownBytes : ℕ → Flat → ℕ → List (List ℕ) → Type 0
HasKnownBytes k flat s stripe = (i v : ℕ) → i < stripe_bytes k → flat.byte (stripe_bytes k * s + i) ≡ Some v → stripe_byte stripe i ≡ v

-- One and the same stripe, which has each known byte of the flat file, and whose code each of these bricks holds: every
-- K of them decode it.
pub record HoldsStripe (g : Geometry) (copies : Copies) (holders : ℕ → Record → Type 0) (flat : Flat) (s : ℕ) : Type 0 where
  pub stripe : List (List ℕ)
  pub is_stripe : IsStripe (quorum g) stripe
  pub bytes : HasKnownBytes (quorum g) flat s stripe
  pub codes : (b : ℕ) (r : Record) → b < g.n → copies b ≡ Some r → holders b r → HoldsCode g b r s stripe

-- These bricks hold the flat value at each closed place: the code of each closed stripe, and what each closed name
-- leads to.
pub record HoldClosed (g : Geometry) (copies : Copies) (holders : ℕ → Record → Type 0) (flat : Flat) : Type 0 where
  pub stripes : (s : ℕ) → flat.opener s ≡ Nobody → HoldsStripe g copies holders flat s
  pub names : (b : ℕ) (r : Record) (n : List ℕ) → b < g.n → copies b ≡ Some r → holders b r → flat.is_name_open n ≡ false → r.names n ≡ flat.child n

-- an unmarked record at a version
abbrev pub is_at_version : ℕ → Option Record → Bool
is_at_version v None = false
is_at_version v (Some r) = r.head.version.content == v

-- a record that a later attempt on this version may still not have been seen by: it is at the version, marked or not,
-- with a dirty number that leaves it below y
abbrev pub is_low : ℕ → ℕ → Option Record → Bool
is_low v y None = false
is_low v y (Some r) = (stripped r.head.version.content == v) && nat_lt (v + r.head.dirty.content) y

abbrev pub IsAtVersion : ℕ → ℕ → Record → Type 0
IsAtVersion v b r = r.head.version.content ≡ v

-- the head says of the file what the flat file says
pub record IsHeadOf (config : Config) (flat : Flat) (h : Head) : Type 0 where
  pub kind : Some h.kind ≡ flat.kind
  pub of_volume : h.config ≡ config
  pub size : h.size ≡ flat.size
  pub attr : h.attr ≡ flat.attr

-- the numbers of a head are in their ranges
pub record IsBounded (h : Head) : Type 0 where
  pub version : stripped h.version.content < 2 ^ 61
  pub bits : h.version.content < 2 ^ 63
  pub dirty : h.dirty.content < 2 ^ 61
  pub version_meta : h.version.meta ≡ 0
  pub dirty_meta : h.dirty.meta ≡ 0

-- The bricks stand for a flat file: those at its version hold it; no K others agree; what an attempt cut short has left
-- above its version is promised by so many bricks that no later attempt misses it.
pub record Stands (config : Config) (copies : Copies) (flat : Flat) : Type 0 where
  pub heads : (b : ℕ) (r : Record) → b < config.geometry.n → copies b ≡ Some r → r.head.version.content ≡ flat.version → IsHeadOf config flat r.head
  pub content : HoldClosed config.geometry copies (IsAtVersion flat.version) flat
  pub alone : (v : ℕ) → is_marked v ≡ false → v ≢ flat.version → count_below config.geometry.n (λ b. is_at_version v (copies b)) < quorum config.geometry
  pub promised : (b : ℕ) (r : Record) → b < config.geometry.n → copies b ≡ Some r → flat.version < stripped r.head.version.content → count_below config.geometry.n (λ c. is_low flat.version (stripped r.head.version.content) (copies c)) < quorum config.geometry
  pub bounded : (b : ℕ) (r : Record) → b < config.geometry.n → copies b ≡ Some r → IsBounded r.head
  pub kinds : (b : ℕ) (r : Record) → b < config.geometry.n → copies b ≡ Some r → Some r.head.kind ≡ flat.kind

-- The bricks stand for a tree: of each gfid.
abbrev pub StandFor : Config → (ℕ → Records) → Tree → Type 0
StandFor config records tree = (g : ℕ) → Stands config (λ b. records b g) (tree g)

-- As a log begins, nothing was ever promised of a gfid that no brick has.
abbrev pub IsBlankElsewhere : Config → (ℕ → Records) → Tree → Type 0
IsBlankElsewhere config records tree = (g : ℕ) → ((b : ℕ) → b < config.geometry.n → records b g ≡ None) → tree g ≡ blank
