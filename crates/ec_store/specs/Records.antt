-- What a brick keeps of each gfid, and what the calls of a store make of it.
use Rattle.std.specs.Prelude.{ℕ, ◌+◌, ◌-◌, ◌*◌, Bool, true, cond, max, ◌==◌, ◌&&◌, nat_lt, nat_le, Option, Some, None, List, length, slice_index}
use Rattle.std.specs.Option.{option_map}
use Rattle.std.specs.Cmp.Lexicographic.{slice_cmp}
use Rattle.std.specs.BTreeMap.{is_at}
use Rattle.std.specs.Ordering.{nat_cmp, is_lt, is_le, eq_by_cmp}
use Rattle.std.specs.Map.{update_all, lookup}
use Rattle.ec_attr.specs.declared.head.Head.{Head}
use Rattle.ec_attr.specs.declared.kind.Kind.{Kind}
use Rattle.ec_attr.specs.declared.kind.Child.{Child}
use Rattle.ec_store.specs.Put.{put}

-- The record of a gfid. Of a file it has the fragment, of a directory the names; the other is empty. A piece of the
-- fragment is its chunk of that number, `piece s i` the byte at place i of 512: zeros past the fragment's end, None
-- where a write that failed or was cut short leaves it open what stands. The fragment ends at a byte from `shortest`
-- to `longest`, which differ only after such a write.
pub record Record : Type 0 where
  pub head : Head
  pub piece : ℕ → ℕ → Option ℕ
  pub shortest : ℕ
  pub longest : ℕ
  pub names : List ℕ → Option Child

abbrev pub Records : Type 0
Records = ℕ → Option Record

abbrev pub head_at : Records → ℕ → Option Head
head_at m g = option_map (λ r. r.head) (m g)

abbrev pub kind_at : Records → ℕ → Option Kind
kind_at m g = option_map (λ r. r.head.kind) (m g)

-- a new record: its fragment has no byte, its directory no name
abbrev pub empty : Head → Record
empty h = record { head = h; piece = λ s i. Some 0; shortest = 0; longest = 0; names = λ n. None }

abbrev pub headed : Option Record → Head → Record
headed None h = empty h
headed (Some r) h = record r { head = h }

abbrev pub with_head : Records → ℕ → Head → Records
with_head m g h = put m g (Some (headed (m g) h))

abbrev pub without : Records → ℕ → Records
without m g = put m g None

-- a change of the record, where there is one
abbrev pub changed : Records → ℕ → (Record → Record) → Records
changed m g f = put m g (option_map f (m g))

-- the pieces with bytes from byte `at` on
abbrev pub over : (ℕ → ℕ → Option ℕ) → ℕ → List ℕ → ℕ → ℕ → Option ℕ
over piece at bytes s i = cond (nat_lt i 512 && nat_le at (512 * s + i) && nat_lt (512 * s + i) (at + length bytes)) (Some (slice_index bytes (512 * s + i - at))) (piece s i)

-- where a fragment ends after bytes were written from byte `at` on; no bytes move no end
abbrev pub reach : ℕ → ℕ → ℕ → ℕ
reach end at count = cond (count == 0) end (max end (at + count))

abbrev pub with_bytes : Record → ℕ → List ℕ → Record
with_bytes r at bytes = record r { piece = over r.piece at bytes; shortest = reach r.shortest at (length bytes); longest = reach r.longest at (length bytes) }

abbrev pub wrote : Records → ℕ → ℕ → List ℕ → Records
wrote m g at bytes = changed m g (λ r. with_bytes r at bytes)

-- chunks from `keep` on are zeros, and those past the length too
abbrev pub kept : (ℕ → ℕ → Option ℕ) → ℕ → ℕ → ℕ → ℕ → Option ℕ
kept piece keep count s i = cond (nat_lt s keep && nat_lt s count) (piece s i) (Some 0)

abbrev pub with_length : Record → ℕ → ℕ → Record
with_length r keep count = record r { piece = kept r.piece keep count; shortest = 512 * count; longest = 512 * count }

abbrev pub sized : Records → ℕ → ℕ → ℕ → Records
sized m g keep count = changed m g (λ r. with_length r keep count)

abbrev pub same_name : List ℕ → List ℕ → Bool
same_name k n = is_at (slice_cmp nat_cmp n) k

abbrev pub named : (List ℕ → Option Child) → List ℕ → Option Child → List ℕ → Option Child
named names n c k = cond (same_name k n) c (names k)

abbrev pub with_name : Records → ℕ → List ℕ → Option Child → Records
with_name m g n c = changed m g (λ r. record r { names = named r.names n c })

-- past `after`, and not past `upto`, by the bytes
abbrev pub is_past : Option (List ℕ) → List ℕ → Bool
is_past None n = true
is_past (Some a) n = is_lt (slice_cmp nat_cmp a n)

abbrev pub is_within : Option (List ℕ) → List ℕ → Bool
is_within None n = true
is_within (Some b) n = is_le (slice_cmp nat_cmp n b)

abbrev pub is_inside : Option (List ℕ) → Option (List ℕ) → List ℕ → Bool
is_inside after upto n = is_past after n && is_within upto n

-- the child that a list gives a name
abbrev pub listed : List (List ℕ × Child) → List ℕ → Option Child
listed es n = lookup (is_at (slice_cmp nat_cmp n)) es

abbrev pub dropped : (List ℕ → Option Child) → Option (List ℕ) → Option (List ℕ) → List ℕ → Option Child
dropped names after upto n = cond (is_inside after upto n) None (names n)

-- with the names of the list, each in turn
abbrev pub filled : (List ℕ → Option Child) → List (List ℕ × Child) → List ℕ → Option Child
filled names list = update_all (eq_by_cmp (slice_cmp nat_cmp)) names list

abbrev pub replaced : (List ℕ → Option Child) → Option (List ℕ) → Option (List ℕ) → List (List ℕ × Child) → List ℕ → Option Child
replaced names after upto list = filled (dropped names after upto) list

abbrev pub with_names : Records → ℕ → Option (List ℕ) → Option (List ℕ) → List (List ℕ × Child) → Records
with_names m g after upto list = changed m g (λ r. record r { names = replaced r.names after upto list })
