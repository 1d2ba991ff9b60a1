-- The table's other columns: what a request does to the records, and what a store leaves that fails in it.
use Rattle.std.specs.Prelude.{ℕ, ◌+◌, ◌*◌, Bool, true, cond, ◌&&◌, nat_lt, nat_le, Option, None, unwrap_or, List, length}
use Rattle.std.specs.List.{flat_map}
use Rattle.ec_attr.specs.Head.{new_attr, with_dirty, with_version}
use Rattle.ec_attr.specs.Marks.{stripped}
use Rattle.ec_attr.specs.declared.attr.Attr.{Attr}
use Rattle.ec_attr.specs.declared.config.Config.{Config}
use Rattle.ec_attr.specs.declared.head.Head.{Head}
use Rattle.ec_attr.specs.declared.kind.Kind.{Kind}
use Rattle.ec_index.specs.Members.{with_member}
use Rattle.ec_store.specs.Records.{Record, Records, changed, reach, sized, with_head, with_name, with_names, without, wrote}
use Rattle.ec_wire.specs.declared.request.Request.{Request}
use Rattle.ec_wire.specs.declared.request.Request.TheVariants.{Ask, Release, Query, PreOp, ReadChunks, WriteChunks, SetLength, PostOp, Clear, NameGet, NamesAfter, NameSet, NamesPut, Make, Made, Unmake, Mark, Unmark, GfidsAfter}

-- with another head, where there is a record
abbrev pub with_head_by : Records → ℕ → (Head → Head) → Records
with_head_by m g f = changed m g (λ r. record r { head = f r.head })

-- at a new version and size, with dirty 1
abbrev pub committed : ℕ → ℕ → Option Attr → Head → Head
committed version size attr h = record (with_dirty 1 (with_version version h)) { size = size; attr = unwrap_or attr h.attr }

abbrev pub unmarked : ℕ → Head → Head
unmarked dirty h = with_dirty dirty (with_version (stripped h.version.content) h)

-- of a new record: version and size 0, dirty 1
abbrev pub new_head : Config → Kind → Head
new_head config k = record { kind = k; config = config; version = record { content = 0; meta = 0 }; size = 0; dirty = record { content = 1; meta = 0 }; attr = new_attr k }

-- the bytes of chunks
abbrev pub bytes_of : List (List ℕ) → List ℕ
bytes_of chunks = flat_map (λ c. c) chunks

-- the records after a request that isn't refused
abbrev pub work_of : Config → Request → Records → Records
work_of config (Ask g domain kind) m = m
work_of config (Release g n) m = m
work_of config (Query g n) m = m
work_of config (PreOp g n at dirty) m = with_head_by m g.0 (with_dirty dirty)
work_of config (ReadChunks g n first count) m = m
work_of config (WriteChunks g n first chunks) m = wrote m g.0 (512 * first) (bytes_of chunks)
work_of config (SetLength g n keep count) m = sized m g.0 keep count
work_of config (PostOp g n at version size attr) m = with_head_by m g.0 (committed version size attr)
work_of config (Clear g n at) m = with_head_by m g.0 (with_dirty 0)
work_of config (NameGet g n name) m = m
work_of config (NamesAfter g n after) m = m
work_of config (NameSet g n name child) m = with_name m g.0 name child
work_of config (NamesPut g n after upto list) m = with_names m g.0 after upto list
work_of config (Make g n child) m = with_head m child.gfid.0 (new_head config child.kind)
work_of config (Made g n child) m = with_head_by m child.0 (with_dirty 0)
work_of config (Unmake g n child) m = without m child.0
work_of config (Mark g n heal head) m = with_head m g.0 head
work_of config (Unmark g n at dirty) m = with_head_by m g.0 (unmarked dirty)
work_of config (GfidsAfter after dirty) m = m

-- the gfids that were removed, after a request that isn't refused
abbrev pub removed_of : Request → (ℕ → Bool) → ℕ → Bool
removed_of (Unmake g n child) removed = with_member removed child.0 true
removed_of q removed = removed

-- the pieces with so many bytes from byte `at` on unset
abbrev pub unset : (ℕ → ℕ → Option ℕ) → ℕ → ℕ → ℕ → ℕ → Option ℕ
unset piece at count s i = cond (nat_lt i 512 && nat_le at (512 * s + i) && nat_lt (512 * s + i) (at + count)) None (piece s i)

-- a write of which any front part may stand: its bytes are unset, and the fragment may end with any of them
abbrev pub with_unset : Record → ℕ → ℕ → Record
with_unset r at count = record r { piece = unset r.piece at count; longest = reach r.longest at count }

abbrev pub unset_at : Records → ℕ → ℕ → ℕ → Records
unset_at m g at count = changed m g (λ r. with_unset r at count)

-- the records where the store fails in the work
abbrev pub broken_of : Request → Records → Records
broken_of (WriteChunks g n first chunks) m = unset_at m g.0 (512 * first) (length (bytes_of chunks))
broken_of q m = m
