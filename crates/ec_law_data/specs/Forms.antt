-- The two readings: a file by its stripes, and a directory by its names.
use Rattle.ec_history.specs.Flat.{Flat as FlatFile}
use Rattle.ec_history.specs.Flat.Opener.{Nobody, Several}
use Rattle.std.specs.Prelude.{◌≡◌, ◌<◌, ℕ, zero, suc, ◌+◌, ◌-◌, ◌*◌, Bool, true, false, not, ◌==◌, ◌&&◌, nat_le, nat_lt, Option, Some, None, List, [], ◌∷◌, ◌++◌, length, slice_index, replicate, cond}
use Rattle.ec_attr.specs.Head.{new_attr}
use Rattle.ec_attr.specs.declared.attr.Attr.{Attr}
use Rattle.ec_attr.specs.declared.kind.Child.{Child}
use Rattle.ec_attr.specs.declared.kind.Kind.TheVariants.{Dir, File as FileKind}
use Rattle.ec_field.specs.Chunk.{zero_chunk}
use Rattle.ec_conduct.specs.Data.{stripe_byte}
use Rattle.ec_stripe.specs.Span.{stripe_bytes}
use Rattle.ec_store.specs.Records.{same_name, Record}
use Rattle.ec_brick.specs.Work.{bytes_of}
use Rattle.ec_history.specs.Story.{is_among}
use Rattle.ec_wire.specs.declared.request.Request.{Request}
use Rattle.ec_wire.specs.declared.request.Request.TheVariants.{ReadChunks, WriteChunks, SetLength, NameGet, NameSet, NamesPut}
use Rattle.ec_law_pieces.specs.File.{Form, Flat}
use Rattle.ec_law_data.specs.Reading.{Reading}

-- size and attribute, as a head tells them
pub record Shape : Type 0 where
  pub size : ℕ
  pub attr : Attr

-- ## A file

-- the first n bytes, each known or unset
unfoldable pub first_bytes : ℕ → (ℕ → Option ℕ) → List (Option ℕ)
first_bytes zero f = []
first_bytes (suc n) f = first_bytes n f ++ f n ∷ []

-- a piece of a fragment: 512 bytes, each known or unset
abbrev pub Piece : Type 0
Piece = List (Option ℕ)

abbrev pub piece_of : (ℕ → Option ℕ) → Piece
piece_of f = first_bytes 512 f

-- by stripe, brick and place, the byte of the stripe's code there
abbrev pub Coder : Type 0
Coder = List (List ℕ) → ℕ → ℕ → ℕ

-- k chunks of zeros
abbrev pub zero_stripe : ℕ → List (List ℕ)
zero_stripe k = replicate k zero_chunk

-- zeros are the code of zeros
abbrev pub CodesZeros : ℕ → Coder → Type 0
CodesZeros k coder = (b i : ℕ) → i < 512 → coder (zero_stripe k) b i ≡ 0

abbrev pub file_form : ℕ → Coder → Form ℕ (List (List ℕ)) Piece ℕ Shape
file_form k coder = record {
  code = λ stripe b. piece_of (λ i. Some (coder stripe b i));
  unit = stripe_byte;
  past = λ shape s. nat_le shape.size (stripe_bytes k * s);
  zero = zero_stripe k;
}

abbrev pub is_data : ℕ → Request → Bool
is_data g (WriteChunks x n first chunks) = x.0 == g
is_data g (SetLength x n keep count) = x.0 == g
is_data g q = false

-- the stripes that a write has chunks of, and those that a cut leaves no bytes of
abbrev pub stripes_written : Request → ℕ → Bool
stripes_written (WriteChunks x n first chunks) s = is_among first (length chunks) s
stripes_written (SetLength x n keep count) s = not (nat_lt s keep && nat_lt s count)
stripes_written q s = false

abbrev pub byte_put : Request → ℕ → ℕ → Option ℕ
byte_put (WriteChunks x n first chunks) s i = Some (slice_index (bytes_of chunks) (512 * s + i - 512 * first))
byte_put q s i = Some 0

abbrev pub is_chunk_read : ℕ → Request → Bool
is_chunk_read g (ReadChunks x n first count) = x.0 == g
is_chunk_read g q = false

abbrev pub stripes_read : Request → ℕ → Bool
stripes_read (ReadChunks x n first count) s = is_among first count s
stripes_read q s = false

abbrev pub of_file : ℕ → Coder → Reading ℕ (List (List ℕ)) Piece ℕ Shape
of_file k coder = record {
  form = file_form k coder;
  held = λ r s. piece_of (r.piece s);
  is_write = is_data;
  writes = λ g. stripes_written;
  puts = λ q s. piece_of (byte_put q s);
  is_read = is_chunk_read;
  reads = λ g. stripes_read;
  new = record { size = 0; attr = new_attr FileKind };
}

-- ## A directory

abbrev pub directory_form : Form (List ℕ) (Option Child) (Option Child) (Option Child) Shape
directory_form = record { code = λ child b. child; unit = λ child i. child; past = λ shape n. false; zero = None }

abbrev pub is_naming : ℕ → Request → Bool
is_naming g (NameSet x n name child) = x.0 == g
is_naming g (NamesPut x n start upto list) = x.0 == g
is_naming g q = false

-- a heal's page may put any name
abbrev pub names_written : Request → List ℕ → Bool
names_written (NameSet x n name child) k = same_name k name
names_written (NamesPut x n start upto list) k = true
names_written q k = false

abbrev pub child_put : Request → List ℕ → Option Child
child_put (NameSet x n name child) k = child
child_put q k = None

abbrev pub is_name_read : ℕ → Request → Bool
is_name_read g (NameGet x n name) = x.0 == g
is_name_read g q = false

abbrev pub names_read : Request → List ℕ → Bool
names_read (NameGet x n name) k = same_name k name
names_read q k = false

abbrev pub of_directory : Reading (List ℕ) (Option Child) (Option Child) (Option Child) Shape
of_directory = record {
  form = directory_form;
  held = λ r n. r.names n;
  is_write = is_naming;
  writes = λ g. names_written;
  puts = child_put;
  is_read = is_name_read;
  reads = λ g. names_read;
  new = record { size = 0; attr = new_attr Dir };
}

-- what the bricks' records have as a log begins
abbrev pub child_in : Option Record → List ℕ → Option Child
child_in None n = None
child_in (Some r) n = r.names n

abbrev pub shape_in : Option Record → Shape
shape_in None = record { size = 0; attr = new_attr Dir }
shape_in (Some r) = record { size = r.head.size; attr = r.head.attr }

-- A directory of the tree as the machine has it: an open name counts as opened by calls that are none of the log's.
abbrev pub directory_flat : FlatFile → Flat (List ℕ) (Option Child) Shape
directory_flat flat = record {
  version = flat.version;
  shape = record { size = flat.size; attr = flat.attr };
  unit = λ n i. Some (flat.child n);
  opener = λ n. cond (flat.is_name_open n) Several Nobody;
}
