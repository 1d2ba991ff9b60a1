-- What stands by the account: grants, the good group of the last Queries, and what bricks of it did.
use Rattle.std.specs.Prelude.{◌≡◌, ℕ, ◌<◌, ◌≤◌, Bool, true, false, not, ◌==◌, ◌&&◌, ◌||◌, Option, Some, None, List}
use Rattle.ec_attr.specs.Bricks.{count_below}
use Rattle.ec_attr.specs.declared.head.Head.{Head}
use Rattle.ec_wire.specs.declared.reply.Reply.{Reply}
use Rattle.ec_wire.specs.declared.reply.Reply.TheVariants.{Head as HeadIs}
use Rattle.ec_wire.specs.declared.request.Request.{Request}
use Rattle.ec_conduct.specs.Account.{Account, Lock, Place, at, gfid_of}
use Rattle.ec_conduct.specs.Done.{changes, did, failed_none, from, history, is_any, is_change, is_mark, is_pre, is_query, is_unmark, reply_to, since, tried}
use Rattle.ec_conduct.specs.Given.{bricks_of, quorum_of}
use Rattle.ec_conduct.specs.Group.{Heads, group_head, has, is_good, is_sink}

-- the ask with this number was granted and isn't released
abbrev pub holds : Option Lock → ℕ → Bool
holds lock grant = has (λ l. l.granted && (l.number == grant)) lock

-- some ask was granted and isn't released
abbrev pub is_held : Option Lock → Bool
is_held lock = has (λ l. l.granted) lock

abbrev pub head_of : Option Reply → Option Head
head_of (Some (HeadIs h)) = Some h
head_of reply = None

-- the heads that the bricks answered to this window's Queries
abbrev pub heads_at : Account → ℕ → Heads
heads_at c g x = head_of (reply_to is_query (at c g x).window)

-- the head of the good group, with its greatest dirty number
abbrev pub group_of : Account → ℕ → Option Head
group_of c g = group_head (bricks_of c.given) (quorum_of c.given) (heads_at c g)

abbrev pub is_grouped : Account → ℕ → ℕ → Bool
is_grouped c g x = is_good (bricks_of c.given) (quorum_of c.given) (heads_at c g) x

-- A brick of the good group. For a ballot a sink that did the Unmark of a heal counts as one.
abbrev pub is_member : Account → ℕ → ℕ → Bool
is_member c g x = is_grouped c g x || did is_unmark (at c g x).window

abbrev pub is_sink_of : Account → ℕ → ℕ → Bool
is_sink_of c g x = is_sink (bricks_of c.given) (quorum_of c.given) (heads_at c g) x && not (did is_unmark (at c g x).window)

-- so many bricks as suffice, all of which are as P says
pub record Quorum (c : Account) (P : ℕ → Type 0) : Type 0 where
  pub which : ℕ → Bool
  pub enough : quorum_of c.given ≤ count_below (bricks_of c.given) which
  pub each : (x : ℕ) → x < bricks_of c.given → which x ≡ true → P x

-- each brick is as P says
abbrev pub Every : Account → (ℕ → Type 0) → Type 0
Every c P = (x : ℕ) → x < bricks_of c.given → P x

abbrev pub waits_on : Account → ℕ → (Request → Bool) → ℕ → Bool
waits_on c g p x = has (λ w. has (λ h. h == g) (gfid_of w.request) && p w.request) (c.waits x)

-- no such request on the gfid is waited for
abbrev pub NoneWaits : Account → ℕ → (Request → Bool) → Type 0
NoneWaits c g p = Every c (λ x. waits_on c g p x ≡ false)

-- a brick did the PreOp and every change since
abbrev pub did_changes : Place → Bool
did_changes p = did is_pre p.window && failed_none is_change (since is_pre p.window)

-- the changes that it was sent since, the last first
abbrev pub changes_at : Place → List Request
changes_at p = changes (since is_pre p.window)

-- A heal sent this brick its Mark and still has its Heal lock; `is_lost`: it didn't do the Mark or a later request.
abbrev pub is_rebuilt : Place → Bool
is_rebuilt p = has (λ l. true) p.heal && tried is_mark (history p)

abbrev pub is_lost : Place → Bool
is_lost p = is_rebuilt p && not (failed_none is_any (from is_mark (history p)))

-- it did the Mark and every later request
abbrev pub keeps_mark : Place → Bool
keeps_mark p = did is_mark (history p) && failed_none is_any (from is_mark (history p))
