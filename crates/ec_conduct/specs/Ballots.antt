-- When a call may send PreOp, PostOp and Clear.
use Rattle.std.specs.Prelude.{◌≡◌, ◌⊎◌, ℕ, ◌+◌, ◌^◌, ◌<◌, true, false, not, max, Option, Some, None, length}
use Rattle.ec_attr.specs.Marks.{is_marked, marked}
use Rattle.ec_attr.specs.declared.attr.Attr.{Attr}
use Rattle.ec_attr.specs.declared.gfid.Gfid.{Gfid}
use Rattle.ec_attr.specs.declared.head.Head.{Head}
use Rattle.ec_wire.specs.declared.op.Op.{Op}
use Rattle.ec_wire.specs.declared.op.Op.TheVariants.{Write, Truncate, SetAttr}
use Rattle.ec_wire.specs.declared.request.Request.TheVariants.{PreOp}
use Rattle.ec_conduct.specs.Account.{Account, at}
use Rattle.ec_conduct.specs.Changes.{IsAllOf}
use Rattle.ec_conduct.specs.Done.{did, is_post_to, is_pre, last_done, tried}
use Rattle.ec_conduct.specs.Standing.{Every, NoneWaits, Quorum, changes_at, did_changes, group_of, holds, is_member, is_sink_of}

-- the version of the group at a brick of it, and marked at a sink
abbrev pub IsVersionAt : Account → ℕ → ℕ → Head → ℕ → Type 0
IsVersionAt c b g q version = ((is_member c g b ≡ true) × (version ≡ q.version.content)) ⊎ ((is_sink_of c g b ≡ true) × (version ≡ marked q.version.content))

-- A PreOp goes once to a brick of the group or a sink, after all Queries are answered. All have one dirty number, which
-- is above every one of the group.
pub record MayPreOp (c : Account) (b g grant version dirty : ℕ) : Type 0 where
  pub grant_held : holds (at c g b).inode grant ≡ true
  pub idle : NoneWaits c g (λ r. not (is_pre r))
  pub once : tried is_pre (at c g b).window ≡ false
  pub head : Head
  pub group : group_of c g ≡ Some head
  pub version_is : IsVersionAt c b g head version
  pub above : head.dirty.content < dirty
  pub limit : head.version.content + dirty < 2 ^ 61
  pub one : ((c.on g).dirty ≡ None) ⊎ ((c.on g).dirty ≡ Some dirty)

-- a brick did the PreOp and, with every request done, the changes that the call's commit is made of
pub record DidWhole (c : Account) (g : ℕ) (head : Head) (x : ℕ) : Type 0 where
  pub done : did_changes (at c g x) ≡ true
  pub all : IsAllOf c g head c.given.op (changes_at (at c g x))

-- the size that the call's commit gives a file of this size
abbrev pub size_after : Op → ℕ → ℕ
size_after (Write g off bytes) size = max size (off + length bytes)
size_after (Truncate g to) size = to
size_after op size = size

abbrev pub attr_after : Op → Option Attr
attr_after (SetAttr g attr) = Some attr
attr_after op = None

-- A PostOp goes only to bricks that did the whole, where a quorum of the group did. It names the version of the brick's
-- PreOp and sets that version plus the dirty number.
pub record MayPostOp (c : Account) (b : ℕ) (g : Gfid) (grant old new size : ℕ) (attr : Option Attr) : Type 0 where
  pub grant_held : holds (at c g.0 b).inode grant ≡ true
  pub head : Head
  pub group : group_of c g.0 ≡ Some head
  pub whole : DidWhole c g.0 head b
  pub quorum : Quorum c (λ x. (is_member c g.0 x ≡ true) × DidWhole c g.0 head x)
  pub dirty : ℕ
  pub pre : last_done is_pre (at c g.0 b).window ≡ Some (PreOp g grant old dirty)
  pub version : new ≡ old + dirty
  pub size_is : size ≡ size_after c.given.op head.size
  pub attr_is : attr ≡ attr_after c.given.op

-- A Clear goes out only where all bricks did the PostOp to this version, unmarked.
pub record MayClear (c : Account) (b g grant version : ℕ) : Type 0 where
  pub grant_held : holds (at c g b).inode grant ≡ true
  pub unmarked : is_marked version ≡ false
  pub posted : Every c (λ x. did (is_post_to version) (at c g x).window ≡ true)
