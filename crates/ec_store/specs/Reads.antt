-- What the reading calls of a store answer.
use Rattle.std.specs.Prelude.{◌≡◌, ◌≢◌, ℕ, ◌<◌, Option, Some, None, List, slice_index}
use Rattle.ec_attr.specs.declared.kind.Child.{Child}
use Rattle.ec_attr.specs.declared.gfid.Gfid.{Gfid}
use Rattle.ec_store.specs.Records.{Record, Records}
use Rattle.ec_store.specs.Pages.{Page, IsPage}

-- the chunk has the bytes of the piece that are known
abbrev pub ChunkIs : Records → ℕ → ℕ → List ℕ → Type 0
ChunkIs m g s chunk = (r : Record) → m g ≡ Some r → (i v : ℕ) → i < 512 → r.piece s i ≡ Some v → slice_index chunk i ≡ v

abbrev pub NameIs : Records → ℕ → List ℕ → Option Child → Type 0
NameIs m g n c = (r : Record) → m g ≡ Some r → c ≡ r.names n

abbrev pub PageIs : Records → ℕ → Option (List ℕ) → Page → Type 0
PageIs m g after page = (r : Record) → m g ≡ Some r → IsPage after r.names page

abbrev pub IsAbove : Option Gfid → ℕ → Type 0
IsAbove None g = Unit {0}
IsAbove (Some a) g = a.0 < g

-- the least above `after` that has a record, or none where there is none
abbrev pub NextIs : Records → Option Gfid → Option Gfid → Type 0
NextIs m after None = (g : ℕ) → IsAbove after g → m g ≡ None
NextIs m after (Some n) = IsAbove after n.0 × (m n.0 ≢ None) × ((g : ℕ) → IsAbove after g → g < n.0 → m g ≡ None)
