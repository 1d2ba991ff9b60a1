-- Worked examples of standing: records that stand for no flat file of version 1, each by one clause.
use Rattle.std.specs.Prelude.{◌≡◌, ℕ, zero, suc, Bool, cond, ◌==◌, true, false, Some, None}
use Rattle.ec_attr.specs.declared.config.Config.{Config}
use Rattle.ec_attr.specs.declared.kind.Kind.{Kind}
use Rattle.ec_attr.specs.declared.kind.Kind.TheVariants.{File, Dir}
use Rattle.ec_store.specs.Put.{put}
use Rattle.ec_store.specs.Records.{Record, Records, empty}
use Rattle.ec_brick.specs.Opening.{first_root}
use Rattle.ec_conduct.specs.Examples.{three}
use Rattle.ec_history.specs.Flat.{Flat, blank, made}
use Rattle.ec_history.specs.Flat.Opener.{Nobody, One}
use Rattle.ec_history.specs.Holds.{Copies, IsHeadOf, Stands}
use Rattle.ec_history.specs.NameExamples.{file_three}
use Rattle.ec_history.specs.Reference.{Healing, IsReference, IsWholeReference}
use Rattle.ec_history.specs.Run.{wiped}
use Rattle.ec_history.specs.Short.{flat_of, head_of}
use Rattle.ec_history.specs.Starts.{fresh_records, root_tree}

abbrev pub config : Config
config = record { geometry = three }

abbrev pub copies_of : Record → Record → Record → Copies
copies_of x y z b = cond (b == 0) (Some x) (cond (b == 1) (Some y) (Some z))

abbrev pub record_of : Kind → ℕ → ℕ → Record
record_of kind version size = empty (head_of kind version size)

abbrev pub with_name : Record → Record
with_name r = record r { names = λ n. Some file_three }

abbrev pub at_one : Flat
at_one = flat_of File 1 0 0

pub record NotStanding : Type 0 where
  -- a version above, which bricks at the flat one don't promise
  pub unpromised : Stands config (copies_of (record_of File 1 0) (record_of File 1 0) (record_of File 2 0)) at_one → ⊥
  -- a quorum agrees in another version
  pub other_group : Stands config (copies_of (record_of File 1 0) (record_of File 0 0) (record_of File 0 0)) at_one → ⊥
  -- another size at the flat version, another kind at any, a name that the flat directory hasn't
  pub other_size : Stands config (copies_of (record_of File 1 7) (record_of File 1 0) (record_of File 1 0)) at_one → ⊥
  pub other_kind : Stands config (copies_of (record_of Dir 0 0) (record_of File 1 0) (record_of File 1 0)) at_one → ⊥
  pub other_name : Stands config (copies_of (with_name (record_of Dir 1 0)) (record_of Dir 1 0) (record_of Dir 1 0)) (flat_of Dir 1 0 0) → ⊥

-- A sink of an empty file of version 1, on each of whose stripes a data request was executed since the heal's moment:
-- none of its bytes is known.
abbrev pub disturbed : Record
disturbed = record (record_of File 1 0) { piece = λ s i. None }

abbrev pub heal_of : ℕ → Healing
heal_of dirty = record { flat = at_one; copies = copies_of (record_of File 1 0) (record_of File 1 0) disturbed; dirty = dirty; stirred = λ s. true; stirred_name = λ n. true; read = λ c s. None; rewritten = λ s. true }

pub record Healed : Type 0 where
  pub reference : IsReference config (heal_of 0) 2 disturbed
  -- with another dirty number than the group's, or by a heal that is answered Healed, it isn't one
  pub other_dirty : IsReference config (heal_of 1) 2 disturbed → ⊥
  pub whole : IsWholeReference config (heal_of 0) 2 disturbed → ⊥

abbrev pub is_later : ℕ → Bool
is_later zero = false
is_later (suc s) = true

-- A file of one byte whose stripe is open, and a sink that holds none of it: a client wrote the stripe there after the heal
-- had read it, and before the heal's last window.
abbrev pub of_open : Bool → Healing
of_open rewritten = record {
  flat = record (flat_of File 1 1 0) { opener = λ s. cond (is_later s) Nobody (One 1) };
  copies = copies_of (record_of File 1 1) (record_of File 1 1) (record_of File 1 1);
  dirty = 0;
  stirred = is_later;
  stirred_name = λ n. true;
  read = λ c s. None;
  rewritten = λ s. rewritten;
}

abbrev pub behind : Record
behind = record (record_of File 1 1) { piece = λ s i. None }

-- The heal began before the first Make of a directory.
abbrev pub before_make : Healing
before_make = record (heal_of 0) { flat = blank; copies = λ b. None }

pub record HealedOpen : Type 0 where
  pub overtaken : IsReference config (of_open true) 2 behind
  -- had nobody written it since, the sink would have what the heal has read
  pub not_overtaken : IsReference config (of_open false) 2 behind → ⊥
  -- the head of a new record, and no other attribute
  pub made_since : IsHeadOf config (made Dir before_make.flat) (head_of Dir 0 0)

-- Fresh bricks begin with the root's record and stand for an empty root; a wipe takes the lowest records first.
abbrev pub two_records : Records
two_records = put (put (λ g. None) 2 (Some (record_of File 1 0))) 3 (Some (record_of File 2 0))

pub record Beginnings : Type 0 where
  pub root : fresh_records config 0 1 ≡ Some (empty (first_root config))
  pub nothing_else : fresh_records config 0 2 ≡ None
  pub root_kind : (root_tree 1).kind ≡ Some Dir
  pub no_file : root_tree 2 ≡ blank
  pub lowest_wiped : wiped 1 false two_records 2 ≡ None
  pub other_left : wiped 1 false two_records 3 ≡ Some (record_of File 2 0)
  pub all_wiped : wiped 2 true two_records 3 ≡ None
