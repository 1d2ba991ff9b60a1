-- The plain answers of calls: what the flat files of a call's moment say, as a client alone would hear it.
use Rattle.std.specs.Prelude.{◌≡◌, ◌≢◌, ◌⊎◌, ℕ, ◌+◌, ◌-◌, ◌%◌, ◌^◌, ◌<◌, zero, suc, Bool, true, false, ◌&&◌, min, max, Option, Some, None, List, [], ◌∷◌, length, slice_index}
use Rattle.std.specs.Map.{lookup}
use Rattle.std.specs.Cmp.Lexicographic.{slice_cmp}
use Rattle.std.specs.BTreeMap.{is_at}
use Rattle.std.specs.Ordering.{nat_cmp}
use Rattle.ec_conduct.specs.Given.{quorum}
use Rattle.ec_attr.specs.declared.geometry.Geometry.{Geometry}
use Rattle.ec_attr.specs.declared.kind.Child.{Child as Leaf}
use Rattle.ec_attr.specs.declared.kind.Kind.{Kind}
use Rattle.ec_attr.specs.declared.kind.Kind.TheVariants.{File, Dir}
use Rattle.ec_field.specs.Code.{IsStripe}
use Rattle.ec_stripe.specs.Span.{stripe_bytes}
use Rattle.ec_store.specs.Pages.{is_rising}
use Rattle.ec_store.specs.Records.{Record}
use Rattle.ec_wire.specs.declared.answer.Answer.{Answer}
use Rattle.ec_wire.specs.declared.answer.Answer.TheVariants.{Size, Bytes, Child, Gone, Names, Healed, Nothing, NoSuch, IsDir, NotDir, NoName, Exists, Split, TooLong, TooBig, Limit, Spent, Attr, NotEmpty, Scrubbed, Settled, Left, Swept}
use Rattle.ec_wire.specs.declared.op.Op.{Op}
use Rattle.ec_wire.specs.declared.op.Op.TheVariants.{Write, Truncate, Read, Stat, Create, Mkdir, Unlink, Lookup, Readdir, Heal, SetAttr, GetAttr, Rename, Rmdir, Scrub, Sweep}
use Rattle.ec_conduct.specs.Data.{stripe_byte}
use Rattle.ec_history.specs.Flat.{Flat, Tree, stripe_of}
use Rattle.ec_history.specs.Flat.Opener.{Nobody}
use Rattle.ec_history.specs.Holds.{Copies, HoldsCode, IsAtVersion}

-- The flat files with the records of all bricks, by gfid, and the gfid that the call took for a child.
pub record Scene : Type 0 where
  pub geometry : Geometry
  pub tree : Tree
  pub copies : ℕ → Copies
  pub took : ℕ

-- what a brick of the good group has at a name
pub record IsAtABrick (s : Scene) (g : ℕ) (n : List ℕ) (c : Option Leaf) : Type 0 where
  pub brick : ℕ
  pub kept : Record
  pub below : brick < s.geometry.n
  pub has : s.copies g brick ≡ Some kept
  pub of_group : IsAtVersion (s.tree g).version brick kept
  pub leads : kept.names n ≡ c

-- A closed name leads where the flat directory says; an open one to anything that a brick of the
-- good group has there.
pub data Leads (s : Scene) (g : ℕ) (n : List ℕ) (c : Option Leaf) : Type 0 where
  Closed : (closed : (s.tree g).is_name_open n ≡ false) (value : (s.tree g).child n ≡ c) → Leads s g n c
  Open : (open_name : (s.tree g).is_name_open n ≡ true) (value : IsAtABrick s g n c) → Leads s g n c

abbrev pub IsOpenName : Scene → ℕ → List ℕ → Type 0
IsOpenName s g n = (s.tree g).is_name_open n ≡ true

abbrev pub HasKind : Scene → ℕ → Kind → Type 0
HasKind s g kind = (s.tree g).kind ≡ Some kind

abbrev pub NoBrickHas : Scene → ℕ → Type 0
NoBrickHas s g = (b : ℕ) → b < s.geometry.n → s.copies g b ≡ None

-- the stripe whose code each brick of the good group holds
pub record IsGroupsStripe (g : Geometry) (copies : Copies) (flat : Flat) (s : ℕ) (stripe : List (List ℕ)) : Type 0 where
  pub is_stripe : IsStripe (quorum g) stripe
  pub codes : (b : ℕ) (r : Record) → b < g.n → copies b ≡ Some r → IsAtVersion flat.version b r → HoldsCode g b r s stripe

-- The bytes from `off` on that lie below the size. In a closed stripe they are the known ones of the flat file, and those
-- that the good group codes, free ones too; nothing is said of those in an open stripe.
pub record ReadsFlat (g : Geometry) (copies : Copies) (flat : Flat) (off count : ℕ) (bytes : List ℕ) : Type 0 where
  pub many : length bytes ≡ min count (flat.size - off)
  pub each : (i v : ℕ) → i < length bytes → flat.opener (stripe_of (quorum g) (off + i)) ≡ Nobody → flat.byte (off + i) ≡ Some v → slice_index bytes i ≡ v
  pub coded : (i : ℕ) (stripe : List (List ℕ)) → i < length bytes → flat.opener (stripe_of (quorum g) (off + i)) ≡ Nobody
      → IsGroupsStripe g copies flat (stripe_of (quorum g) (off + i)) stripe → slice_index bytes i ≡ stripe_byte stripe ((off + i) % stripe_bytes (quorum g))

-- a name that leads nowhere isn't listed
abbrev pub listed : Option Leaf → Option (Option Leaf)
listed None = None
listed (Some c) = Some (Some c)

-- In the order of names, every closed name with what it leads to. An open one is listed as open, or as if it had a value
-- that a brick of the good group has there.
pub record ListsFlat (s : Scene) (g : ℕ) (list : List (List ℕ × Option Leaf)) : Type 0 where
  pub rises : is_rising None list ≡ true
  pub closed : (n : List ℕ) → (s.tree g).is_name_open n ≡ false → lookup (is_at (slice_cmp nat_cmp n)) list ≡ listed ((s.tree g).child n)
  pub open_name : (n : List ℕ) (c : Option Leaf) → (s.tree g).is_name_open n ≡ true → lookup (is_at (slice_cmp nat_cmp n)) list ≡ listed c → IsAtABrick s g n c

-- a new child's kind and gfid
abbrev pub IsTaken : Scene → Kind → Leaf → Type 0
IsTaken s kind c = (c.kind ≡ kind) × (c.gfid.0 ≡ s.took)

-- whether a directory has a name that leads somewhere
abbrev pub HasNoChild : Flat → Type 0
HasNoChild flat = (n : List ℕ) → flat.is_name_open n ≡ false → flat.child n ≡ None

-- the name leads to a child of a kind
abbrev pub LeadsToA : Scene → ℕ → List ℕ → Kind → Type 0
LeadsToA s g n kind = (c : Leaf) × Leads s g n (Some c) × (c.kind ≡ kind)

-- a directory that the name leads to, and that has no closed name with a child
abbrev pub LeadsToEmpty : Scene → ℕ → List ℕ → Type 0
LeadsToEmpty s g n = (c : Leaf) × Leads s g n (Some c) × (c.kind ≡ Dir) × HasNoChild (s.tree c.gfid.0)

-- the greatest length of a read or write, the greatest size, and the greatest gfid
abbrev pub most_bytes : ℕ
most_bytes = 2 ^ 20

abbrev pub most_size : ℕ
most_size = 2 ^ 40

abbrev pub most_gfid : ℕ
most_gfid = 2 ^ 96

-- an end of a write, as it is told: at most 2^64 - 1
abbrev pub told_end : ℕ → ℕ → ℕ
told_end off count = min (off + count) (2 ^ 64 - 1)

-- The refusals that calls on a gfid share.
abbrev pub RefusesFile : Scene → ℕ → Answer → Type 0
RefusesFile s g NoSuch = NoBrickHas s g
RefusesFile s g IsDir = HasKind s g Dir
RefusesFile s g answer = ⊥

abbrev pub RefusesDir : Scene → ℕ → Answer → Type 0
RefusesDir s g NoSuch = NoBrickHas s g
RefusesDir s g NotDir = HasKind s g File
RefusesDir s g answer = ⊥

abbrev pub RefusesAny : Scene → ℕ → Answer → Type 0
RefusesAny s g NoSuch = NoBrickHas s g
RefusesAny s g answer = ⊥

-- no version is left for a change; calls that only read never say so
abbrev pub IsLimit : Scene → ℕ → ℕ → Type 0
IsLimit s g v = v ≡ (s.tree g).version

abbrev pub written_size : Flat → ℕ → ℕ → ℕ
written_size flat off zero = flat.size
written_size flat off (suc n) = max flat.size (off + suc n)

-- a new name with a child of this kind
abbrev pub IsMade : Scene → Kind → ℕ → List ℕ → Answer → Type 0
IsMade s kind g n (Child c) = Leads s g n None × IsTaken s kind c
IsMade s kind g n (Exists c) = Leads s g n (Some c)
IsMade s kind g n (Split a b) = IsOpenName s g n
IsMade s kind g n Spent = most_gfid < s.took
IsMade s kind g n (Limit v) = IsLimit s g v
IsMade s kind g n answer = RefusesDir s g answer

abbrev pub IsWritten : Scene → ℕ → ℕ → List ℕ → Answer → Type 0
IsWritten s g off bytes (Size n) = n ≡ written_size (s.tree g) off (length bytes)
IsWritten s g off bytes (TooLong n) = (n ≡ length bytes) × (most_bytes < n)
IsWritten s g off bytes (TooBig n) = (n ≡ told_end off (length bytes)) × (most_size < off + length bytes)
IsWritten s g off bytes (Limit v) = IsLimit s g v
IsWritten s g off bytes answer = RefusesFile s g answer

abbrev pub IsTruncated : Scene → ℕ → ℕ → Answer → Type 0
IsTruncated s g size (Size n) = n ≡ size
IsTruncated s g size (TooBig n) = (n ≡ size) × (most_size < n)
IsTruncated s g size (Limit v) = IsLimit s g v
IsTruncated s g size answer = RefusesFile s g answer

abbrev pub IsRead : Scene → ℕ → ℕ → ℕ → Answer → Type 0
IsRead s g off count (Bytes bytes) = ReadsFlat s.geometry (s.copies g) (s.tree g) off count bytes
IsRead s g off count (TooLong n) = (n ≡ count) × (most_bytes < n)
IsRead s g off count answer = RefusesFile s g answer

abbrev pub IsStat : Scene → ℕ → Answer → Type 0
IsStat s g (Size n) = n ≡ (s.tree g).size
IsStat s g answer = RefusesFile s g answer

abbrev pub IsUnlinked : Scene → ℕ → List ℕ → Answer → Type 0
IsUnlinked s g n Gone = LeadsToA s g n File ⊎ IsOpenName s g n
IsUnlinked s g n IsDir = LeadsToA s g n Dir
IsUnlinked s g n NoName = Leads s g n None
IsUnlinked s g n (Limit v) = IsLimit s g v
IsUnlinked s g n answer = RefusesDir s g answer

abbrev pub IsLookedUp : Scene → ℕ → List ℕ → Answer → Type 0
IsLookedUp s g n (Child c) = Leads s g n (Some c)
IsLookedUp s g n NoName = Leads s g n None
IsLookedUp s g n (Split a b) = IsOpenName s g n
IsLookedUp s g n answer = RefusesDir s g answer

abbrev pub IsListed : Scene → ℕ → Answer → Type 0
IsListed s g (Names list) = ListsFlat s g list
IsListed s g answer = RefusesDir s g answer

abbrev pub IsHealed : Scene → ℕ → Answer → Type 0
IsHealed s g (Healed sinks all) = Unit {0}
IsHealed s g Nothing = Unit {0}
IsHealed s g answer = RefusesAny s g answer

-- The old name leads to the child and the new one nowhere; a directory stays in its directory.
abbrev pub IsRenamed : Scene → ℕ → List ℕ → ℕ → List ℕ → Answer → Type 0
IsRenamed s from n to m (Child c) = Leads s from n (Some c) × Leads s to m None
IsRenamed s from n to m NoName = Leads s from n None
IsRenamed s from n to m IsDir = LeadsToA s from n Dir × (from ≢ to)
IsRenamed s from n to m (Exists c) = Leads s to m (Some c)
IsRenamed s from n to m (Split a b) = IsOpenName s from n ⊎ IsOpenName s to m
IsRenamed s from n to m (Limit v) = IsLimit s from v ⊎ IsLimit s to v
IsRenamed s from n to m answer = RefusesDir s from answer ⊎ RefusesDir s to answer

abbrev pub IsRemoved : Scene → ℕ → List ℕ → Answer → Type 0
IsRemoved s g n Gone = LeadsToEmpty s g n
IsRemoved s g n NoName = Leads s g n None
IsRemoved s g n (Split a b) = IsOpenName s g n
IsRemoved s g n NotDir = LeadsToA s g n File ⊎ HasKind s g File
IsRemoved s g n (NotEmpty m) = (c : Leaf) × Leads s g n (Some c) × ((d : Leaf) × Leads s c.gfid.0 m (Some d))
IsRemoved s g n NoSuch = NoBrickHas s g ⊎ ((c : Leaf) × Leads s g n (Some c) × NoBrickHas s c.gfid.0)
IsRemoved s g n (Limit v) = IsLimit s g v
IsRemoved s g n answer = RefusesDir s g answer

abbrev pub IsScrubbed : Scene → ℕ → Answer → Type 0
IsScrubbed s g (Scrubbed seen bad) = Unit {0}
IsScrubbed s g (Settled seen bad) = Unit {0}
IsScrubbed s g (Limit v) = IsLimit s g v
IsScrubbed s g answer = RefusesFile s g answer

abbrev pub IsAttr : Scene → ℕ → Answer → Type 0
IsAttr s g (Attr a) = a ≡ (s.tree g).attr
IsAttr s g answer = RefusesAny s g answer

-- What a call may be answered where no quorum is missing.
abbrev pub IsPlain : Scene → Op → Answer → Type 0
IsPlain s (Write g off bytes) answer = IsWritten s g.0 off bytes answer
IsPlain s (Truncate g size) answer = IsTruncated s g.0 size answer
IsPlain s (Read g off count via) answer = IsRead s g.0 off count answer
IsPlain s (Stat g) answer = IsStat s g.0 answer
IsPlain s (Create parent name) answer = IsMade s File parent.0 name answer
IsPlain s (Mkdir parent name) answer = IsMade s Dir parent.0 name answer
IsPlain s (Unlink parent name) answer = IsUnlinked s parent.0 name answer
IsPlain s (Lookup parent name) answer = IsLookedUp s parent.0 name answer
IsPlain s (Readdir g) answer = IsListed s g.0 answer
IsPlain s (Heal g) answer = IsHealed s g.0 answer
IsPlain s (SetAttr g a) (Attr b) = b ≡ a
IsPlain s (SetAttr g a) (Limit v) = IsLimit s g.0 v
IsPlain s (SetAttr g a) answer = RefusesAny s g.0 answer
IsPlain s (GetAttr g) answer = IsAttr s g.0 answer
IsPlain s (Rename from_dir from_name to_dir to_name) answer = IsRenamed s from_dir.0 from_name to_dir.0 to_name answer
IsPlain s (Rmdir parent name) answer = IsRemoved s parent.0 name answer
IsPlain s (Scrub g settle) answer = IsScrubbed s g.0 answer
IsPlain s (Sweep full) (Swept healed given) = Unit {0}
IsPlain s (Sweep full) (Left g) = Unit {0}
IsPlain s (Sweep full) answer = ⊥
