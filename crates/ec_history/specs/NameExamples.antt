-- Worked examples of names and attributes: short logs over three bricks with a directory, and what they make of it.
use Rattle.std.proofs.Common.{lit≤}
use Rattle.std.specs.Prelude.{◌≡◌, ℕ, Bool, true, false, Option, Some, None, List, [], ◌∷◌, ◌++◌}
use Rattle.ec_attr.specs.Head.{new_attr}
use Rattle.ec_attr.specs.declared.attr.Attr.{Attr}
use Rattle.ec_attr.specs.declared.gfid.Gfid.{Gfid}
use Rattle.ec_attr.specs.declared.kind.Child.{Child}
use Rattle.ec_attr.specs.declared.kind.Domain.TheVariants.{Inode}
use Rattle.ec_attr.specs.declared.kind.Kind.TheVariants.{File, Dir}
use Rattle.ec_locks.specs.declared.ask.Ask.{Ask}
use Rattle.ec_store.specs.Put.{put}
use Rattle.ec_store.specs.Records.{empty}
use Rattle.ec_wire.specs.declared.entry.Entry.{Entry}
use Rattle.ec_wire.specs.declared.entry.Entry.TheVariants.{Called}
use Rattle.ec_wire.specs.declared.op.Op.TheVariants.{Create, Unlink, Rename, SetAttr}
use Rattle.ec_wire.specs.declared.request.Request.TheVariants.{NameSet, Make, PostOp}
use Rattle.ec_brick.specs.State.{State}
use Rattle.ec_history.specs.Flat.{Flat, Tree, blank}
use Rattle.ec_history.specs.Run.{fresh}
use Rattle.ec_history.specs.Short.{after_log, brick_at, bricks_of, does, flat_of, head_of, lock, two}
use Rattle.ec_history.specs.Story.{opening, story}
use Rattle.ec_conduct.specs.Examples.{three}

-- client 1 has the directory locked
abbrev pub mine : List Ask
mine = lock 91 1 Inode ∷ []

abbrev pub dirs : ℕ → State
dirs = bricks_of (brick_at Dir 0 0 mine) (brick_at Dir 0 0 mine) (brick_at Dir 0 0 mine)

abbrev pub a : List ℕ
a = 97 ∷ []

abbrev pub b : List ℕ
b = 98 ∷ []

-- the gfid that the first create takes
abbrev pub file_three : Child
file_three = record { kind = File; gfid = record { 0 = 3 } }

-- what is seen of a name: the directory's version, what the name leads to, and whether it is open
abbrev pub NameSeen : Type 0
NameSeen = ℕ × Option Child × Bool

abbrev pub name_seen : Flat → List ℕ → NameSeen
name_seen flat n = (flat.version, flat.child n, flat.is_name_open n)

abbrev pub there : List Entry → List ℕ → NameSeen
there log n = name_seen (after_log dirs (flat_of Dir 0 0 0) log) n

abbrev pub making : List Entry
making = Called 1 1 (Create two a) ∷ does 1 1 1 0 (Make two 91 file_three) ++ does 2 1 1 0 (NameSet two 91 a (Some file_three))

abbrev pub created : List Entry
created = making ++ does 3 1 1 0 (PostOp two 91 0 1 0 None) ++ does 4 1 1 1 (PostOp two 91 0 1 0 None)

abbrev pub renaming : List Entry
renaming = created ++ Called 2 1 (Rename two a two b)
    ∷ does 5 2 1 0 (NameSet two 91 b (Some file_three))
    ++ does 6 2 1 0 (NameSet two 91 a None)

abbrev pub renamed : List Entry
renamed = renaming ++ does 7 2 1 0 (PostOp two 91 1 2 0 None) ++ does 8 2 1 1 (PostOp two 91 1 2 0 None)

abbrev pub unlinked : List Entry
unlinked = renamed ++ Called 3 1 (Unlink two b)
    ∷ does 9 3 1 0 (NameSet two 91 b None)
    ++ does 10 3 1 0 (PostOp two 91 2 3 0 None)
    ++ does 11 3 1 1 (PostOp two 91 2 3 0 None)

pub record Names : Type 0 where
  pub opens : there making a ≡ (0, None, true)
  pub no_other : there making b ≡ (0, None, false)
  pub leads : there created a ≡ (1, Some file_three, false)
  pub new_open : there renaming b ≡ (1, None, true)
  pub leads_on : there renamed b ≡ (2, Some file_three, false)
  pub old_gone : there renamed a ≡ (2, None, false)
  pub gone : there unlinked b ≡ (3, None, false)

-- The first Make gives a file its kind and attribute, and a create takes the next gfid.
abbrev pub made_file : Flat
made_file = (story three making (fresh dirs) (opening (λ g. blank) 3)).tree 3

pub record MadeFile : Type 0 where
  pub kind : made_file.kind ≡ Some File
  pub attr : made_file.attr ≡ new_attr File
  pub version : made_file.version ≡ 0
  pub next : (story three making (fresh dirs) (opening (λ g. blank) 3)).next_gfid ≡ 4

-- A change of the attribute, which every other commit keeps.
abbrev pub private : Attr
private = record { mode = 384; owner = 7; group = 8; in_range = lit≤ tt }

abbrev pub changed : List Entry
changed = Called 1 1 (SetAttr two private) ∷ does 1 1 1 0 (PostOp two 91 0 1 0 (Some private)) ++ does 2 1 1 1 (PostOp two 91 0 1 0 (Some private))

abbrev pub changed_and_created : List Entry
changed_and_created = changed ++ Called 2 1 (Create two a) ∷ does 3 2 1 0 (PostOp two 91 1 2 0 None) ++ does 4 2 1 1 (PostOp two 91 1 2 0 None)

pub record Attributes : Type 0 where
  pub set : (after_log dirs (flat_of Dir 0 0 0) changed).attr ≡ private
  pub kept : (after_log dirs (flat_of Dir 0 0 0) changed_and_created).attr ≡ private

-- A rename from one directory to another: its commit in the new one sets the new name, that in the old one removes the old.
abbrev pub other : Gfid
other = record { 0 = 4 }

abbrev pub both_locked : List Ask
both_locked = lock 91 1 Inode ∷ record (lock 93 1 Inode) { gfid = other } ∷ []

abbrev pub with_both : State
with_both = record (brick_at Dir 0 0 both_locked) { records = put (put (λ g. None) 2 (Some (empty (head_of Dir 0 0)))) 4 (Some (empty (head_of Dir 0 0))) }

abbrev pub two_directories : Tree
two_directories = put (put (λ g. blank) 2 (record (flat_of Dir 0 0 0) { child = λ n. Some file_three })) 4 (flat_of Dir 0 0 0)

abbrev pub moving : List Entry
moving = Called 1 1 (Rename two a other b)
    ∷ does 1 1 1 0 (NameSet other 93 b (Some file_three))
    ++ does 2 1 1 0 (PostOp other 93 0 1 0 None)
    ++ does 3 1 1 1 (PostOp other 93 0 1 0 None)

abbrev pub moved : List Entry
moved = moving ++ does 4 1 1 0 (NameSet two 91 a None) ++ does 5 1 1 0 (PostOp two 91 0 1 0 None) ++ does 6 1 1 1 (PostOp two 91 0 1 0 None)

abbrev pub seen_in : List Entry → ℕ → List ℕ → NameSeen
seen_in log g n = name_seen ((story three log (fresh (bricks_of with_both with_both with_both)) (opening two_directories 5)).tree g) n

pub record Moves : Type 0 where
  pub new_name : seen_in moving 4 b ≡ (1, Some file_three, false)
  pub not_yet_gone : seen_in moving 2 a ≡ (0, Some file_three, false)
  pub gone : seen_in moved 2 a ≡ (1, None, false)
  pub stays : seen_in moved 4 b ≡ (1, Some file_three, false)
