-- What a store in memory keeps.
use Rattle.std.specs.Prelude.{ℕ, Option, Some, None, List, slice_index}
use Rattle.std.specs.Option.{option_map}
use Rattle.std.specs.Cmp.Lexicographic.{slice_cmp}
use Rattle.std.specs.Ordering.{nat_cmp}
use Rattle.std.specs.BTreeMap.{BTreeMap, get}
use Rattle.ec_attr.specs.declared.kind.Child.{Child}
use Rattle.ec_store.specs.Records.{Record, Records}
use Rattle.ec_store.specs.declared.memory.Memory.{Memory}

-- a chunk that isn't there is zeros
abbrev pub byte_of : Option (List ℕ) → ℕ → ℕ
byte_of None i = 0
byte_of (Some chunk) i = slice_index chunk i

abbrev pub pieces_of : BTreeMap ℕ (List ℕ) → ℕ → ℕ → Option ℕ
pieces_of chunks s i = Some (byte_of (get nat_cmp chunks s) i)

abbrev pub names_of : BTreeMap (List ℕ) Child → List ℕ → Option Child
names_of m n = get (slice_cmp nat_cmp) m n

abbrev pub record_of : Memory → Record
record_of x = record { head = x.head; piece = pieces_of x.chunks; shortest = x.ends_at; longest = x.ends_at; names = names_of x.names }

abbrev pub records_of : BTreeMap ℕ Memory → Records
records_of m g = option_map record_of (get nat_cmp m g)
