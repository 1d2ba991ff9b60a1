-- What a walk over the records of a store in rising order has seen.
use Rattle.std.specs.Prelude.{◌≡◌, ◌⊎◌, ℕ, zero, suc, ◌+◌, ◌-◌, ◌*◌, ◌^◌, ◌<◌, ◌≤◌, true, false, cond, max, nat_lt, nat_le, Option, Some, None, List, [], ◌∷◌, length, slice_index}
use Rattle.ec_attr.specs.declared.config.Config.{Config}
use Rattle.ec_attr.specs.declared.gfid.Gfid.{Gfid}
use Rattle.ec_attr.specs.declared.kind.Child.{Child}
use Rattle.ec_index.specs.Members.{members}
use Rattle.ec_store.specs.Records.{Record, Records, is_past}
use Rattle.ec_store.specs.Pages.{Page, end_of}
use Rattle.ec_brick.specs.Opening.{AcceptsAll, IsTaken, IsUnused}
use Rattle.ec_brick.specs.declared.seen.Seen.{Seen}
use Rattle.ec_brick.specs.Index.{dirty_of}

-- these records are seen, and all are accepted
pub record Sees (config : Config) (m : Records) (s : Seen) : Type 0 where
  pub accepts : AcceptsAll config m
  pub index : (g : ℕ) → members s.index g ≡ dirty_of m g
  pub most : (g : ℕ) → IsTaken m g → g ≤ s.greatest
  pub taken : (s.greatest ≡ 0) ⊎ IsTaken m s.greatest
  pub unused : s.used ≡ false → IsUnused config m
  pub used : s.used ≡ true → ¬ (IsUnused config m)

-- the greatest gfid is one that a brick accepts
pub record InRange (s : Seen) : Type 0 where
  pub below : s.greatest ≤ 2 ^ 96
  pub above : s.used ≡ true → 0 < s.greatest

-- the records of the gfids below the next one, all where there is none
abbrev pub before : Option Gfid → Records → Records
before None m g = m g
before (Some next) m g = cond (nat_lt g next.0) (m g) None

abbrev pub renamed : Record → (List ℕ → Option Child) → Record
renamed r names = record r { names = names }

-- the names that are not past `after`
abbrev pub passed : Option (List ℕ) → (List ℕ → Option Child) → List ℕ → Option Child
passed after names n = cond (is_past after n) None (names n)

-- the names up to this one, all where there is none
abbrev pub reached : Option (List ℕ) → (List ℕ → Option Child) → List ℕ → Option Child
reached None names n = names n
reached (Some last) names n = passed (Some last) names n

-- where the next page begins: past the last name of a full one
abbrev pub next_page : Option (List ℕ) → Page → Option (List ℕ)
next_page after page = cond (nat_lt (length page) 64) None (end_of after page)

-- the greater of a gfid and that of a name's child, which doesn't count above 2^96
abbrev pub raised : ℕ → List ℕ × Child → ℕ
raised greatest e = cond (nat_le e.1.gfid.0 (2 ^ 96)) (max greatest e.1.gfid.0) greatest

-- How many names of up to k bytes there are at most: each byte has one of 256 values, or there is none.
unfoldable pub places : ℕ → ℕ
places zero = 1
places (suc k) = 257 * places k

-- the place of a name in the order of all these
unfoldable pub place : ℕ → List ℕ → ℕ
place zero name = 0
place (suc k) [] = 0
place (suc k) (b ∷ bs) = (b + 1) * places k + place k bs

-- how many names there may be at most past this one
abbrev pub names_left : Option (List ℕ) → ℕ
names_left None = 0
names_left (Some last) = places 255 - place 255 last

-- up to 255 bytes
pub record IsText (name : List ℕ) : Type 0 where
  pub few : length name ≤ 255
  pub bytes : (i : ℕ) → slice_index name i < 2 ^ 8

-- how many gfids there are at most from this one on
abbrev pub gfids_left : Option Gfid → ℕ
gfids_left None = 0
gfids_left (Some next) = 2 ^ 128 - next.0
