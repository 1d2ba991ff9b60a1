-- Worked logs: a file made in a directory at one brick, as acts of the file's machine.
use Rattle.std.specs.Prelude.{◌≡◌, false, true, None, List, [], ◌∷◌, ◌++◌}
use Rattle.ec_attr.specs.declared.gfid.Gfid.{Gfid}
use Rattle.ec_attr.specs.declared.kind.Child.{Child}
use Rattle.ec_attr.specs.declared.kind.Domain.TheVariants.{Inode}
use Rattle.ec_attr.specs.declared.kind.Kind.TheVariants.{Dir, File}
use Rattle.ec_attr.specs.declared.kind.LockKind.TheVariants.{Exclusive}
use Rattle.ec_wire.specs.declared.entry.Entry.{Entry}
use Rattle.ec_wire.specs.declared.entry.Entry.TheVariants.{Called}
use Rattle.ec_wire.specs.declared.op.Op.TheVariants.{Create}
use Rattle.ec_wire.specs.declared.request.Request.TheVariants.{Ask, Clear, Make, Made, PostOp, PreOp, Query, Release}
use Rattle.ec_history.specs.Run.{Net, fresh}
use Rattle.ec_history.specs.Short.{brick_at, bricks_of, does, two}
use Rattle.ec_law_ballots.specs.Act.Act.{Maker_grant, Maker_free, Make as Makes, Made as Mades}
use Rattle.ec_law_ballots.specs.Begin.{begin}
use Rattle.ec_law_net.specs.Turns.{View, all_acts}

-- gfid 2 is a directory at each of three bricks, and 3 is the next gfid
abbrev pub net : Net
net = fresh (bricks_of (brick_at Dir 3 0 []) (brick_at Dir 3 0 []) (brick_at Dir 3 0 []))

abbrev pub child : Gfid
child = record { 0 = 3 }

abbrev pub file : Child
file = record { kind = File; gfid = child }

-- as it is seen from gfid 3, of which there is no record
abbrev pub first : View
first = record { core = begin 3 0 (λ b. record { present = false; version = 0; dirty = 0; marked = false }) true (λ a. 0); turn = λ a. None; of = λ i. 0; maker = None; next_gfid = 3 }

-- call 1 locks the directory at brick 0, and makes the record of its child there
abbrev pub makes : List Entry
makes = Called 1 1 (Create two (102 ∷ [])) ∷ does 1 1 1 0 (Ask two Inode Exclusive) ++ does 2 1 1 0 (Query two 1) ++ does 3 1 1 0 (PreOp two 1 3 1) ++ does 4 1 1 0 (Make two 1 file)

-- it commits, says that the record is whole, and lets the directory go
abbrev pub ends : List Entry
ends = does 5 1 1 0 (PostOp two 1 3 4 0 None) ++ does 6 1 1 0 (Clear two 1 4) ++ does 7 1 1 0 (Made two 1 child) ++ does 8 1 1 0 (Release two 1)

-- a lock that comes after a record was made
abbrev pub late : List Entry
late = does 5 1 1 1 (Ask two Inode Exclusive)

pub record ChildAsActs : Type 0 where
  -- the maker counts where it has the directory before any record of the child
  pub whole : all_acts 3 (makes ++ ends) net first ≡ Maker_grant 0 ∷ Makes 0 ∷ Mades 0 ∷ Maker_free 0 ∷ []
  pub too_late : all_acts 3 (makes ++ late) net first ≡ Maker_grant 0 ∷ Makes 0 ∷ []
  -- seen from another gfid nothing of it is an act
  pub apart : all_acts 4 (makes ++ ends) net first ≡ []
