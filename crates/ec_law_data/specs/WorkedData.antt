-- A worked log: a file is given a name in a directory at two of three bricks, as deeds of the directory.
use Rattle.std.specs.Prelude.{◌≡◌, ℕ, Bool, false, true, Some, None, List, [], ◌∷◌, ◌++◌, Option}
use Rattle.ec_attr.specs.Head.{new_attr}
use Rattle.ec_attr.specs.declared.kind.Child.{Child}
use Rattle.ec_attr.specs.declared.kind.Domain.TheVariants.{Inode}
use Rattle.ec_attr.specs.declared.kind.Kind.TheVariants.{Dir, File as FileKind}
use Rattle.ec_attr.specs.declared.kind.LockKind.TheVariants.{Exclusive}
use Rattle.ec_store.specs.Records.{same_name}
use Rattle.ec_wire.specs.declared.entry.Entry.{Entry}
use Rattle.ec_wire.specs.declared.entry.Entry.TheVariants.{Called}
use Rattle.ec_wire.specs.declared.op.Op.TheVariants.{Create}
use Rattle.ec_wire.specs.declared.request.Request.TheVariants.{Ask, NameSet, PostOp, PreOp, Query}
use Rattle.ec_history.specs.Flat.Opener.{Nobody, One}
use Rattle.ec_history.specs.Run.{Net, fresh}
use Rattle.ec_history.specs.Short.{brick_at, bricks_of, does, flat_of, two}
use Rattle.ec_law_ballots.specs.Act.Act.{Grant, Moment, Pre}
use Rattle.ec_law_ballots.specs.Begin.{begin}
use Rattle.ec_law_pieces.specs.Deed.{Plan}
use Rattle.ec_law_pieces.specs.Deed.Deed.{Do, Look, Take, Intend, Write, Commit}
use Rattle.ec_law_pieces.specs.File.{File}
use Rattle.ec_law_pieces.specs.Laws.{start}
use Rattle.ec_law_net.specs.Turns.{View, turn_from}
use Rattle.ec_law_data.specs.Deeds.{all_deeds, file}
use Rattle.ec_law_data.specs.Forms.{Shape, directory_flat, of_directory}
use Rattle.ec_law_data.specs.Reading.{Plans}

-- gfid 2 is a directory at each of three bricks
abbrev pub net : Net
net = fresh (bricks_of (brick_at Dir 3 0 []) (brick_at Dir 3 0 []) (brick_at Dir 3 0 []))

abbrev pub first : View
first = record { core = begin 3 3 (λ b. record { present = true; version = 3; dirty = 0; marked = false }) false (λ a. a); turn = λ a. None; of = λ i. 0; maker = None; next_gfid = 3 }

abbrev pub bare : Shape
bare = record { size = 0; attr = new_attr Dir }

abbrev pub directory : File (List ℕ) (Option Child) (Option Child) (Option Child) Shape
directory = start of_directory.form 3 (directory_flat (flat_of Dir 3 0 0)) (λ b. record { present = true; version = 3; dirty = 0; marked = false }) false (λ a. a) (λ b. bare) (λ b n. None) (λ n. None)

abbrev pub made : Child
made = record { kind = FileKind; gfid = record { 0 = 3 } }

abbrev pub name : List ℕ
name = 102 ∷ []

abbrev pub entry : Plan (List ℕ) (Option Child) (Option Child) Shape
entry = record { covers = λ n. same_name n name; sets = λ n i. Some (Some made); value = λ n. Some made; becomes = bare }

abbrev pub plans : Plans (List ℕ) (Option Child) (Option Child) Shape
plans = record { took = λ a. bare; plan = λ a. entry }

-- call 1 locks the directory at two bricks and sends its PreOps
abbrev pub ballot : List Entry
ballot = Called 1 1 (Create two name) ∷ does 1 1 1 0 (Ask two Inode Exclusive) ++ does 2 1 1 1 (Ask two Inode Exclusive) ++ does 3 1 1 0 (Query two 1) ++ does 4 1 1 1 (Query two 2) ++ does 5 1 1 0 (PreOp two 1 3 1) ++ does 6 1 1 1 (PreOp two 2 3 1)

-- it gives the name its child, and commits
abbrev pub names : List Entry
names = does 7 1 1 0 (NameSet two 1 name (Some made)) ++ does 8 1 1 1 (NameSet two 2 name (Some made))

abbrev pub ends : List Entry
ends = does 9 1 1 0 (PostOp two 1 3 4 0 None) ++ does 10 1 1 1 (PostOp two 2 3 4 0 None)

abbrev pub one : ℕ
one = turn_from 1

abbrev pub places : List ℕ → Bool
places n = same_name n name

abbrev pub then : List Entry → File (List ℕ) (Option Child) (Option Child) (Option Child) Shape
then log = file of_directory plans 3 2 2 log net first directory

pub record NameAsDeeds : Type 0 where
  pub whole : all_deeds of_directory plans 3 2 2 (ballot ++ names ++ ends) net first directory
      ≡ Do (Grant one 0) ∷ Do (Grant one 1) ∷ Do (Moment one) ∷ Look one 0 ∷ Look one 1 ∷ Take one (record { base = 3; number = 1 }) bare ∷ Do (Pre one 0) ∷ Do (Pre one 1) ∷ Intend one entry ∷ Write one 0 places ∷ Write one 1 places ∷ Commit one 0 ∷ Commit one 1 ∷ []
  -- as long as it isn't committed the name is open to the turn, and leads to none
  pub open_to : (then (ballot ++ names)).flat.opener name ≡ One one
  pub before : (then (ballot ++ names)).flat.unit name 0 ≡ Some None
  -- and then it is closed, at the new version, where two bricks have the child
  pub shut : (then (ballot ++ names ++ ends)).flat.opener name ≡ Nobody
  pub version : (then (ballot ++ names ++ ends)).flat.version ≡ 4
  pub known : (then (ballot ++ names ++ ends)).flat.unit name 0 ≡ Some (Some made)
  pub held : (then (ballot ++ names ++ ends)).piece 1 name ≡ Some made
  pub left : (then (ballot ++ names ++ ends)).piece 2 name ≡ None
