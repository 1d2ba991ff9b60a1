-- The flat file: what a volume promises of a file or a directory, as the commits of a run make it.
use Rattle.std.specs.Prelude.{ℕ, ◌/◌, Bool, true, false, cond, ◌==◌, is_some, Option, Some, None, List}
use Rattle.std.specs.Option.{unwrap_or}
use Rattle.std.specs.Map.{lookup}
use Rattle.std.specs.Cmp.Lexicographic.{slice_cmp}
use Rattle.std.specs.BTreeMap.{is_at}
use Rattle.std.specs.Ordering.{nat_cmp}
use Rattle.ec_attr.specs.Head.{new_attr}
use Rattle.ec_attr.specs.declared.attr.Attr.{Attr}
use Rattle.ec_attr.specs.declared.kind.Child.{Child}
use Rattle.ec_attr.specs.declared.kind.Kind.{Kind}
use Rattle.ec_attr.specs.declared.kind.Kind.TheVariants.{File}
use Rattle.ec_stripe.specs.Span.{stripe_bytes}

-- the calls that have opened a stripe since a commit last covered it
pub data Opener : Type 0 where
  Nobody : Opener
  One : (call : ℕ) → Opener
  Several : Opener

abbrev pub opened_by : ℕ → Opener → Opener
opened_by a Nobody = One a
opened_by a (One b) = cond (b == a) (One b) Several
opened_by a Several = Several

abbrev pub is_open : Opener → Bool
is_open Nobody = false
is_open (One a) = true
is_open Several = true

-- whether no other call than this has the stripe open
abbrev pub is_open_to_it_alone : ℕ → Opener → Bool
is_open_to_it_alone a Nobody = true
is_open_to_it_alone a (One b) = b == a
is_open_to_it_alone a Several = false

-- As a log begins, an open stripe counts as opened by calls that are none of the log's.
abbrev pub opened_before : Opener → Opener
opened_before Nobody = Nobody
opened_before (One a) = Several
opened_before Several = Several

-- A file or directory as one client alone would see it. A byte, by its place, is known, or free: then nothing is promised
-- of it. A name leads to a child or to none; of an open name, and of the bytes of an open stripe, nothing is promised
-- either. `kind` is None until its record is first made.
pub record Flat : Type 0 where
  pub kind : Option Kind
  pub version : ℕ
  pub size : ℕ
  pub attr : Attr
  pub byte : ℕ → Option ℕ
  pub opener : ℕ → Opener
  pub child : List ℕ → Option Child
  pub is_name_open : List ℕ → Bool

abbrev pub from_before : Flat → Flat
from_before flat = record flat { opener = λ s. opened_before (flat.opener s) }

-- by gfid
abbrev pub Tree : Type 0
Tree = ℕ → Flat

-- before its record is first made all is zero, and nothing is open
abbrev pub blank : Flat
blank = record { kind = None; version = 0; size = 0; attr = new_attr File; byte = λ p. Some 0; opener = λ s. Nobody; child = λ n. None; is_name_open = λ n. false }

abbrev pub made_from : Option Kind → Kind → Flat → Flat
made_from None kind flat = record flat { kind = Some kind; attr = new_attr kind }
made_from (Some _) kind flat = flat

-- the first Make gives it its kind, and the attribute of a new record
abbrev pub made : Kind → Flat → Flat
made kind flat = made_from flat.kind kind flat

-- the stripe of k chunks that has the byte at a place
abbrev pub stripe_of : ℕ → ℕ → ℕ
stripe_of k p = p / stripe_bytes k

-- What a commit makes of it: the stripes that it covers, the bytes that it sets in them, the size and, where they
-- change, the attribute and the names with what they lead to.
pub record Change : Type 0 where
  pub covers : ℕ → Bool
  pub sets : ℕ → Option ℕ
  pub size : ℕ
  pub attr : Option Attr
  pub names : List (List ℕ × Option Child)

-- A byte of a covered stripe: set, or carried over, which keeps it where no other call had the stripe open.
abbrev pub carried : Option ℕ → Bool → Option ℕ → Option ℕ
carried (Some v) alone old = Some v
carried None true old = old
carried None false old = None

abbrev pub named : List (List ℕ × Option Child) → List ℕ → Option (Option Child)
named names n = lookup (is_at (slice_cmp nat_cmp n)) names

-- The commit of call a at a version: it closes what it covers and the names that it sets.
abbrev pub committed : ℕ → ℕ → ℕ → Change → Flat → Flat
committed k a version change flat = record flat {
  version = version;
  size = change.size;
  attr = unwrap_or change.attr flat.attr;
  byte = λ p. cond (change.covers (stripe_of k p)) (carried (change.sets p) (is_open_to_it_alone a (flat.opener (stripe_of k p))) (flat.byte p)) (flat.byte p);
  opener = λ s. cond (change.covers s) Nobody (flat.opener s);
  child = λ n. unwrap_or (named change.names n) (flat.child n);
  is_name_open = λ n. cond (is_some (named change.names n)) false (flat.is_name_open n);
}

-- Call a opens the stripes that pass the test.
abbrev pub opened : ℕ → (ℕ → Bool) → Flat → Flat
opened a test flat = record flat { opener = λ s. cond (test s) (opened_by a (flat.opener s)) (flat.opener s) }

abbrev pub name_opened : List ℕ → Flat → Flat
name_opened n flat = record flat { is_name_open = λ m. cond (is_at (slice_cmp nat_cmp n) m) true (flat.is_name_open m) }
