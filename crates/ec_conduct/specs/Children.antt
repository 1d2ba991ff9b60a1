-- When a call may change the records of children.
use Rattle.std.specs.Prelude.{◌≡◌, ◌≢◌, ◌⊎◌, ℕ, ◌<◌, ◌≤◌, Bool, true, false, ◌==◌, ◌&&◌, Option, Some}
use Rattle.std.specs.List.{list_any}
use Rattle.ec_attr.specs.Bricks.{count_below}
use Rattle.ec_attr.specs.GoodGroup.{agrees_with}
use Rattle.ec_attr.specs.declared.head.Head.{Head}
use Rattle.ec_store.specs.Pages.{Page}
use Rattle.ec_wire.specs.declared.op.Op.{Op}
use Rattle.ec_wire.specs.declared.op.Op.TheVariants.{Sweep}
use Rattle.ec_wire.specs.declared.reply.Reply.{Reply}
use Rattle.ec_wire.specs.declared.reply.Reply.TheVariants.{Child as ChildIs, Names, NoInode}
use Rattle.ec_conduct.specs.Account.{Account, at}
use Rattle.ec_conduct.specs.Data.{MayChange, makes_child, removes_child}
use Rattle.ec_conduct.specs.Done.{did, is_clear, is_exclusive, is_made, is_make, is_name, is_post, is_query, reply_to, tried}
use Rattle.ec_conduct.specs.Given.{bricks_of, quorum_of}
use Rattle.ec_conduct.specs.Standing.{Every, Quorum, heads_at, holds, is_held, is_member}

-- A Make is a change of the directory, and makes the gfid that the call took as it began.
pub record MayMake (c : Account) (b g grant child : ℕ) : Type 0 where
  pub change : MayChange c b g grant
  pub op : makes_child c.given.op g ≡ true
  pub child_is : child ≡ c.given.child

-- A Made goes once, where every brick did the Make and all phases up to the Clear.
pub record MayMade (c : Account) (b g grant child : ℕ) : Type 0 where
  pub grant_held : holds (at c g b).inode grant ≡ true
  pub once : tried is_made (at c g b).window ≡ false
  pub child_is : child ≡ c.given.child
  pub all : Every c (λ x. (did is_make (at c g x).window ≡ true) × (did is_clear (at c g x).window ≡ true))

-- a quorum of the group did the PostOp
abbrev pub IsPosted : Account → ℕ → Type 0
IsPosted c g = Quorum c (λ x. (is_member c g x ≡ true) × (did is_post (at c g x).window ≡ true))

abbrev pub leads_to : ℕ → Option Reply → Bool
leads_to child (Some (ChildIs (Some found))) = found.gfid.0 == child
leads_to child reply = false

-- some brick answered that the name which was asked for leads to this child
abbrev pub IsFound : Account → ℕ → ℕ → Type 0
IsFound c g child = (x : ℕ) × (x < bricks_of c.given) × (list_any (λ e. is_name e.request && leads_to child e.reply) (at c g x).window ≡ true)

-- An Unmake of an unlink or rmdir removes a child that the name led to, after the commit that removed the name.
pub record MayUnmake (c : Account) (b g grant child : ℕ) : Type 0 where
  pub op : removes_child c.given.op g ≡ true
  pub grant_held : holds (at c g b).inode grant ≡ true
  pub posted : IsPosted c g
  pub found : IsFound c g child

abbrev pub is_listed : ℕ → Page → Bool
is_listed child page = list_any (λ e. e.1.gfid.0 == child) page

abbrev pub shows : ℕ → Option Reply → Bool
shows child (Some (Names page)) = is_listed child page
shows child reply = false

abbrev pub is_absent : Option Reply → Bool
is_absent (Some NoInode) = true
is_absent reply = false

-- All bricks have the same unmarked head, or as many as suffice have none.
abbrev pub IsAlike : Account → ℕ → Type 0
IsAlike c g = ((head : Head) × Every c (λ x. agrees_with head (heads_at c g x) ≡ true))
    ⊎ (quorum_of c.given ≤ count_below (bricks_of c.given) (λ x. is_absent (reply_to is_query (at c g x).window)))

-- A full sweep gives back a record under the root's lock, where it has the record locked at every brick for
-- itself alone, and no page that it read of a directory which it still has locked names the gfid.
pub record MayShed (c : Account) (b g grant child : ℕ) : Type 0 where
  pub root : g ≡ 1
  pub other : child ≢ 1
  pub grant_held : holds (at c g b).inode grant ≡ true
  pub locked : Every c (λ x. (is_held (at c child x).inode ≡ true) × (did is_exclusive (at c child x).window ≡ true))
  pub alike : IsAlike c child
  pub orphan : (dir : ℕ) → Every c (λ x. is_held (at c dir x).inode ≡ true → list_any (λ e. shows child e.reply) (at c dir x).window ≡ false)

abbrev pub MayRemove : Op → Account → ℕ → ℕ → ℕ → ℕ → Type 0
MayRemove (Sweep true) c b g grant child = MayShed c b g grant child
MayRemove (Sweep false) c b g grant child = ⊥
MayRemove op c b g grant child = MayUnmake c b g grant child
