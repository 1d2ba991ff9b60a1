-- What the bricks were asked in each phase of a call, what they replied, and the number that the phase counts.
use Rattle.std.specs.Prelude.{◌≡◌, ◌⊎◌, ℕ, ◌+◌, ◌<◌, ◌≤◌, Bool, true, false, cond, ◌&&◌, is_some, Option, None, List, [], ◌∷◌}
use Rattle.ec_attr.specs.Bricks.{count_below}
use Rattle.ec_attr.specs.declared.head.Head.{Head}
use Rattle.ec_conduct.specs.Account.{Account, Exchange, at, is_granted}
use Rattle.ec_conduct.specs.Done.{failed_none, is_any, is_done, is_names, reply_to, tried}
use Rattle.ec_conduct.specs.Given.{Given, bricks_of, quorum_of}
use Rattle.ec_conduct.specs.Group.{Heads, group_head, is_good}
use Rattle.ec_conduct.specs.Phases.{is_of, is_read_from, is_via, most_alike, via_of}
use Rattle.ec_conduct.specs.Standing.{head_of}
use Rattle.ec_entry.specs.Named.{Value, says, value_in}
use Rattle.ec_entry.specs.Paging.{page_in}
use Rattle.ec_txn.specs.ReadPhase.{has_chunks}
use Rattle.ec_txn.specs.Rounds.{subject}
use Rattle.ec_wire.specs.declared.answer.Answer.{Answer}
use Rattle.ec_wire.specs.declared.answer.Answer.TheVariants.{NoQuorum}
use Rattle.ec_wire.specs.declared.op.Op.{Op}
use Rattle.ec_wire.specs.declared.op.Op.TheVariants.{Read as ReadOp}
use Rattle.ec_wire.specs.declared.phase.Phase.{Phase}
use Rattle.ec_wire.specs.declared.phase.Phase.TheVariants.{Lock, Name, Names, Query, Read}
use Rattle.ec_wire.specs.declared.reply.Reply.{Reply}
use Rattle.ec_wire.specs.declared.request.Request.{Request}
use Rattle.ec_write.specs.Stripes.{has_chunk}

-- By brick, what it was asked on the gfid of a call since the locks, the last first: each request with the reply to it, or with
-- none where it was given up.
abbrev pub Windows : Type 0
Windows = ℕ → List Exchange

abbrev pub windows_of : Account → Windows
windows_of c x = (at c (subject c.given.op) x).window

-- whether a brick was asked in a phase, and what it replied; None where it was given up, and where it wasn't asked
abbrev pub is_asked : Phase → Windows → ℕ → Bool
is_asked phase w x = tried (is_of phase) (w x)

abbrev pub reply_in : Phase → Windows → ℕ → Option Reply
reply_in phase w x = reply_to (is_of phase) (w x)

-- the heads that were answered to the Queries, and the bricks and the head of the good group among them
abbrev pub heads_in : Windows → Heads
heads_in w x = head_of (reply_in Query w x)

abbrev pub is_grouped : Given → Windows → ℕ → Bool
is_grouped given w x = is_good (bricks_of given) (quorum_of given) (heads_in w) x

abbrev pub head_in : Given → Windows → Option Head
head_in given w = group_head (bricks_of given) (quorum_of given) (heads_in w)

-- Which replies count: Granted in `lock`, a child or none in `name`, a page in `names`, and in the phases that change something
-- those that refuse nothing.
abbrev pub counts : Phase → Option Reply → Bool
counts Lock reply = is_granted reply
counts Name reply = is_some (value_in reply)
counts Names reply = is_some (page_in reply)
counts phase reply = is_done reply

-- The number that a phase counts: the bricks that granted the lock; the largest set of bricks that answered the Queries alike, be
-- it with unmarked heads that agree or with NoInode; in every other phase the bricks of the good group whose replies count. So
-- sinks, refusals and what was given up count for nothing.
abbrev pub number : Given → Windows → Phase → ℕ
number given w Lock = count_below (bricks_of given) (λ x. counts Lock (reply_in Lock w x))
number given w Query = most_alike (bricks_of given) (reply_in Query w)
number given w phase = count_below (bricks_of given) (λ x. is_grouped given w x && counts phase (reply_in phase w x))

-- the bricks that a phase is to ask: all for the lock, those that granted it for their heads, and then the good group
abbrev pub belongs : Given → Windows → Phase → ℕ → Bool
belongs given w Lock x = true
belongs given w Query x = is_granted (reply_in Lock w x)
belongs given w phase x = is_grouped given w x

-- A phase ended short of a quorum: each of its bricks was asked, and has replied or was given up, or had failed before in some
-- request; and the number that the phase counts is below K. It is in the answer.
pub record FallsShort (given : Given) (w : Windows) (phase : Phase) (answer : Answer) : Type 0 where
  pub asked : (x : ℕ) → x < bricks_of given → belongs given w phase x ≡ true → (is_asked phase w x ≡ true) ⊎ (failed_none is_any (w x) ≡ false)
  pub few : number given w phase < quorum_of given
  pub answer_is : answer ≡ NoQuorum phase (number given w phase)

-- In `read` those count that gave chunks: a brick that is read for a write or truncate at least one.
abbrev pub gives : Op → Option Reply → Bool
gives (ReadOp g off len via) reply = has_chunks reply
gives op reply = has_chunk reply

-- how many bricks of the good group gave the chunks from a stripe on
abbrev pub number_read : Given → Windows → ℕ → ℕ
number_read given w first = count_below (bricks_of given) (λ x. is_grouped given w x && gives given.op (reply_to (is_read_from first) (w x)))

-- the bricks that may be read: of the good group those that are named, where some are
abbrev pub may_read : Given → Windows → ℕ → Bool
may_read given w x = is_grouped given w x && is_via (via_of given.op) x

-- how many of them replied chunks at all
abbrev pub number_replied : Given → Windows → ℕ → ℕ
number_replied given w first = count_below (bricks_of given) (λ x. is_grouped given w x && has_chunks (reply_to (is_read_from first) (w x)))

-- Fewer than K bricks gave the chunks from a stripe on. No brick that may be read is left: each was asked
-- for them, or failed in some request. (Unless K bricks replied Chunks, some of them with none, which no brick does.)
pub record LacksChunks (given : Given) (w : Windows) (first : ℕ) (answer : Answer) : Type 0 where
  pub asked : number_replied given w first < quorum_of given → (x : ℕ) → x < bricks_of given → may_read given w x ≡ true → (tried (is_read_from first) (w x) ≡ true) ⊎ (failed_none is_any (w x) ≡ false)
  pub few : number_read given w first < quorum_of given
  pub answer_is : answer ≡ NoQuorum Read (number_read given w first)

-- what each brick of the good group replied of the name: a child, or that there is none
abbrev pub named_in : Given → Windows → ℕ → Option Value
named_in given w x = cond (is_grouped given w x) (value_in (reply_in Name w x)) None

-- how many of them replied this
abbrev pub number_named : Given → Windows → Value → ℕ
number_named given w value = count_below (bricks_of given) (λ x. says value (named_in given w x))

-- how many such requests are over
abbrev pub times : (Request → Bool) → List Exchange → ℕ
times p [] = 0
times p (e ∷ es) = cond (p e.request) (times p es + 1) (times p es)

-- Fewer than K bricks gave a page in the last round of `names`. A brick that fails in one round isn't asked in the next, so that
-- what each brick of the group replied last is what counts. Each was asked in as many rounds as any other, or failed in some
-- request.
pub record LacksPages (given : Given) (w : Windows) (answer : Answer) : Type 0 where
  pub short : FallsShort given w Names answer
  pub rounds : (x y : ℕ) → x < bricks_of given → y < bricks_of given → is_grouped given w x ≡ true → is_grouped given w y ≡ true → (times is_names (w y) ≤ times is_names (w x)) ⊎ (failed_none is_any (w x) ≡ false)
