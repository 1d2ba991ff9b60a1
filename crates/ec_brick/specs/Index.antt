-- The index of a brick: the gfids whose record has a dirty number, of content or metadata, other than 0.
use Rattle.std.specs.Prelude.{◌≡◌, ℕ, Bool, false, not, ◌==◌, ◌&&◌, Option, Some, None}
use Rattle.ec_attr.specs.declared.head.Head.{Head}
use Rattle.ec_store.specs.Records.{Record, Records}

abbrev pub is_dirty : Head → Bool
is_dirty h = not ((h.dirty.content == 0) && (h.dirty.meta == 0))

abbrev pub is_dirty_record : Option Record → Bool
is_dirty_record None = false
is_dirty_record (Some r) = is_dirty r.head

abbrev pub dirty_of : Records → ℕ → Bool
dirty_of m g = is_dirty_record (m g)

-- the index holds exactly the dirty gfids
abbrev pub IndexIs : (ℕ → Bool) → Records → Type 0
IndexIs index m = (g : ℕ) → index g ≡ dirty_of m g
