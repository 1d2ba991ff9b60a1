-- What the opening of a store finds by its records: heads that it refuses, which records are dirty, and the greatest
-- gfid that is taken.
use Rattle.std.specs.Prelude.{◌≡◌, ◌≢◌, ◌⊎◌, ℕ, ◌^◌, ◌<◌, ◌≤◌, Bool, true, false, ◌&&◌, ◌==◌, cond, nat_lt, nat_le, Option, Some, None, List}
use Rattle.std.specs.Option.{is_some}
use Rattle.ec_attr.specs.Head.{new_attr}
use Rattle.ec_attr.specs.Marks.{stripped}
use Rattle.ec_attr.specs.declared.config.Config.{Config}
use Rattle.ec_attr.specs.declared.gfid.Gfid.{Gfid}
use Rattle.ec_attr.specs.declared.head.Head.{Head}
use Rattle.ec_attr.specs.declared.kind.Child.{Child}
use Rattle.ec_attr.specs.declared.kind.Kind.TheVariants.{Dir}
use Rattle.ec_store.specs.Records.{Record, Records, head_at, with_head}
use Rattle.ec_brick.specs.declared.start_fault.StartFault.{StartFault}
use Rattle.ec_brick.specs.declared.start_fault.StartFault.TheVariants.{Failed, Config as OtherConfig, Head as BadHead, NoMemory}

-- Whether a gfid can have the numbers of a head. A version that is below 2^61 without its mark has no bit from 61 on
-- but the mark.
abbrev pub is_sound : ℕ → Head → Bool
is_sound g h = nat_lt (stripped h.version.content) (2 ^ 61) && nat_lt h.dirty.content (2 ^ 61) && (h.version.meta == 0) && (h.dirty.meta == 0) && nat_le 1 g && nat_le g (2 ^ 96)

abbrev pub Accepts : Config → ℕ → Head → Type 0
Accepts config g h = (h.config ≡ config) × (is_sound g h ≡ true)

-- the fault tells what is wrong with the head of a gfid: its config before its numbers
abbrev pub Refuses : Config → ℕ → Head → StartFault → Type 0
Refuses config g h Failed = Unit {0}
Refuses config g h (OtherConfig c) = (h.config ≡ c) × (c ≢ config)
Refuses config g h (BadHead b) = (h.config ≡ config) × (is_sound g h ≡ false) × (b.0 ≡ g)
Refuses config g h NoMemory = Unit {0}

abbrev pub AcceptsAll : Config → Records → Type 0
AcceptsAll config m = (g : ℕ) (h : Head) → head_at m g ≡ Some h → Accepts config g h

-- the fault is of the lowest gfid whose head isn't accepted
abbrev pub IsOfLowest : Config → Records → StartFault → Type 0
IsOfLowest config m fault = (g : ℕ) × (h : Head) × (head_at m g ≡ Some h) × Refuses config g h fault × ((b : ℕ) (h : Head) → b < g → head_at m b ≡ Some h → Accepts config b h)

-- which fault it is, where it is one of a head
abbrev pub IsStartFault : Config → Records → StartFault → Type 0
IsStartFault config m Failed = Unit {0}
IsStartFault config m (OtherConfig c) = IsOfLowest config m (OtherConfig c)
IsStartFault config m (BadHead b) = IsOfLowest config m (BadHead b)
IsStartFault config m NoMemory = Unit {0}

-- a config that is answered is not the brick's, also where the store tells nothing
abbrev pub IsForeign : Config → StartFault → Type 0
IsForeign config Failed = Unit {0}
IsForeign config (OtherConfig c) = c ≢ config
IsForeign config (BadHead b) = Unit {0}
IsForeign config NoMemory = Unit {0}

-- the head of the root's record as it is put at first
abbrev pub first_root : Config → Head
first_root config = record { kind = Dir; config = config; version = record { content = 0; meta = 0 }; size = 0; dirty = record { content = 0; meta = 0 }; attr = new_attr Dir }

-- the records with the root's, which is put where there is none
abbrev pub rooted : Config → Records → Records
rooted config m = cond (is_some (m 1)) m (with_head m 1 (first_root config))

-- there is no record, or only the root's as it is put at first, with no name in it
abbrev pub IsUnused : Config → Records → Type 0
IsUnused config m = (g : ℕ) (r : Record) → m g ≡ Some r → (g ≡ 1) × (r.head ≡ first_root config) × ((n : List ℕ) → r.names n ≡ None)

-- a name in a directory leads to the gfid
abbrev pub IsNamed : Records → ℕ → Type 0
IsNamed m g = (d : ℕ) × (r : Record) × (n : List ℕ) × (c : Child) × (m d ≡ Some r) × (r.head.kind ≡ Dir) × (r.names n ≡ Some c) × (c.gfid.0 ≡ g)

-- The gfid is taken: it has a record, or a name leads to it. A name that leads above 2^96 takes none.
abbrev pub IsTaken : Records → ℕ → Type 0
IsTaken m g = (m g ≢ None) ⊎ ((g ≤ 2 ^ 96) × IsNamed m g)

-- what opening answers: none where the store is unused, else the greatest gfid that is taken
abbrev pub Opens : Config → Records → Option Gfid → Type 0
Opens config m None = IsUnused config m
Opens config m (Some last) = ¬ (IsUnused config m) × IsTaken m last.0 × ((g : ℕ) → IsTaken m g → g ≤ last.0)
