-- What a call begins with.
use Rattle.std.specs.Prelude.{◌≡◌, ℕ, ◌-◌, ◌<◌, ◌≤◌, Bool, true, false, ◌==◌, ◌||◌, Option, Some, None, List}
use Rattle.ec_attr.specs.Bricks.{count_below, is_in}
use Rattle.ec_attr.specs.Marks.{is_marked}
use Rattle.ec_attr.specs.declared.geometry.Geometry.{Geometry}
use Rattle.ec_wire.specs.declared.op.Op.{Op}
use Rattle.ec_wire.specs.declared.op.Op.TheVariants.{Read, Stat, Truncate, Write}
use Rattle.ec_conduct.specs.declared.kept.Kept.{Kept}

-- a stripe that a client keeps: stripe number `stripe` of the gfid as it was at the version, in chunks
pub record CachedStripe : Type 0 where
  pub gfid : ℕ
  pub stripe : ℕ
  pub version : ℕ
  pub chunks : List (List ℕ)

-- `child` is the gfid that a create or mkdir takes; `kept` and `cache` are what the client's earlier calls left to it
pub record Given : Type 0 where
  pub geometry : Geometry
  pub op : Op
  pub child : ℕ
  pub kept : Option Kept
  pub cache : List CachedStripe

-- how many bricks there are, and how many of them suffice
abbrev pub bricks_of : Given → ℕ
bricks_of given = given.geometry.n

abbrev pub quorum : Geometry → ℕ
quorum geometry = geometry.n - geometry.r

abbrev pub quorum_of : Given → ℕ
quorum_of given = quorum given.geometry

-- the call is a write, truncate, read or stat of this file
abbrev pub is_on_file : Op → ℕ → Bool
is_on_file (Write h off bytes) g = h.0 == g
is_on_file (Truncate h size) g = h.0 == g
is_on_file (Read h off len via) g = h.0 == g
is_on_file (Stat h) g = h.0 == g
is_on_file op g = false

-- Kept grants that a call can begin with: of its file, at a quorum of bricks and at sinks that are none of these.
pub record FitsKept (given : Given) (kept : Kept) : Type 0 where
  pub of_file : is_on_file given.op kept.gfid.0 ≡ true
  pub unmarked : is_marked kept.head.version.content ≡ false
  pub enough : quorum_of given ≤ count_below (bricks_of given) (is_in kept.bricks)
  pub below : (x : ℕ) → (is_in kept.bricks x || is_in kept.sinks x) ≡ true → x < bricks_of given
  pub apart : (x : ℕ) → is_in kept.bricks x ≡ true → is_in kept.sinks x ≡ false

abbrev pub IsFit : Given → Option Kept → Type 0
IsFit given None = Unit {0}
IsFit given (Some kept) = FitsKept given kept
