-- What a call keeps of its account on one gfid, brick by brick.
use Rattle.std.specs.Prelude.{◌≡◌, ℕ, zero, suc, ◌<◌, Bool, true, false, not, cond, ◌==◌, ◌&&◌, ◌||◌, is_some, Option, Some, None, List, [], ◌∷◌, ◌+◌, slice_index_or, vec_len}
use Rattle.ec_answers.specs.declared.answers.Given.{Given}
use Rattle.ec_answers.specs.declared.answers.Given.TheVariants.{Head as HeadGiven, NoInode as NoInodeGiven, Other}
use Rattle.ec_attr.specs.declared.kind.Domain.TheVariants.{Inode, Heal}
use Rattle.ec_conduct.specs.Account.{Account, Exchange, Lock, Place as PlaceOf, Wait, at, is_granted}
use Rattle.ec_conduct.specs.Done.{failed_none, is_any, is_done, is_query, reply_to}
use Rattle.ec_conduct.specs.Table.{Send}
use Rattle.ec_store.specs.Put.{put}
use Rattle.ec_wire.specs.declared.reply.Reply.{Reply}
use Rattle.ec_wire.specs.declared.reply.Reply.TheVariants.{Head, NoInode}
use Rattle.ec_wire.specs.declared.request.Request.{Request}
use Rattle.ec_wire.specs.declared.request.Request.TheVariants.{Ask, ReadChunks, Release}
use Rattle.ec_txn.specs.declared.known.Held.{Held}
use Rattle.ec_txn.specs.declared.known.Known.{Known}
use Rattle.ec_txn.specs.declared.known.Pending.{Pending}
use Rattle.ec_txn.specs.declared.known.Place.{Place}
use Rattle.ec_txn.specs.Replies.{TellsAll, reply_at}

-- the first chunk that a request asks for
abbrev pub read_of : Request → Option ℕ
read_of (ReadChunks g grant first count) = Some first
read_of r = None

-- the same of the last request that is over
abbrev pub last_read : List Exchange → Option ℕ
last_read [] = None
last_read (e ∷ es) = read_of e.request

abbrev pub pending : Option Wait → Option Pending
pending None = None
pending (Some w) = Some (record { number = w.number; is_query = is_query w.request; read = read_of w.request })

abbrev pub held : Option Lock → Option Held
held None = None
held (Some lock) = Some (record { number = lock.number; granted = lock.granted })

-- what a reply to a Query gives
abbrev pub given : Reply → Given
given (Head h) = HeadGiven h
given NoInode = NoInodeGiven
given reply = Other

abbrev pub given_by : Option Reply → Option Given
given_by None = None
given_by (Some reply) = Some (given reply)

-- what is kept of a brick that is waited for, or isn't, and of what is over there
abbrev pub digest : Option Wait → PlaceOf → Place
digest w p = record { waits = pending w; lock = held p.inode; given = given_by (reply_to is_query p.window); failed = not (failed_none is_any p.window); read = last_read p.window }

abbrev pub no_place : Place
no_place = record { waits = None; lock = None; given = None; failed = false; read = None }

abbrev pub place_at : List Place → ℕ → Place
place_at ps b = slice_index_or ps b no_place

-- what is known is what the account on gfid g has of n bricks
pub record Shows (g n : ℕ) (known : Known) (c : Account) : Type 0 where
  pub len : vec_len known.places ≡ n
  pub each : (x : ℕ) → place_at known.places.items x ≡ digest (c.waits x) (at c g x)
  pub room : vec_len known.replies.items ≡ n
  pub told : TellsAll g (reply_at known.replies.items.items) c

abbrev pub without : Option Held → ℕ → Option Held
without None grant = None
without (Some lock) grant = cond (lock.number == grant) None (Some lock)

-- a request is sent under a number
abbrev pub sent_place : Place → ℕ → Request → Place
sent_place p i (Ask g Inode kind) = record p { waits = Some (record { number = i; is_query = false; read = None }); lock = Some (record { number = i; granted = false }) }
sent_place p i (Release g grant) = record p { lock = without p.lock grant }
sent_place p i r = record p { waits = Some (record { number = i; is_query = is_query r; read = read_of r }) }

abbrev pub granted : Option Held → ℕ → Reply → Option Held
granted None i reply = None
granted (Some lock) i reply = Some (record lock { granted = lock.granted || ((lock.number == i) && is_granted (Some reply)) })

-- a reply is heard, where one is waited for
abbrev pub heard_by : Place → Option Pending → Reply → Place
heard_by p None reply = p
heard_by p (Some w) reply = record { waits = None; lock = granted p.lock w.number reply; given = cond w.is_query (Some (given reply)) p.given; failed = p.failed || not (is_done (Some reply)); read = w.read }

abbrev pub heard : Place → Reply → Place
heard p reply = heard_by p p.waits reply

abbrev pub left_by : Place → Option Pending → Place
left_by p None = p
left_by p (Some w) = record { waits = None; lock = p.lock; given = cond w.is_query None p.given; failed = true; read = w.read }

-- a reply is given up, where one is waited for
abbrev pub given_up : Place → Place
given_up p = left_by p p.waits

-- whether a reply of one of the first n bricks is waited for
abbrev pub any_waits : List Place → ℕ → Bool
any_waits ps zero = false
any_waits ps (suc n) = any_waits ps n || is_some (place_at ps n).waits

-- requests are sent to bricks, the first under number i
abbrev pub all_sent : (ℕ → Place) → ℕ → List Send → ℕ → Place
all_sent f i [] = f
all_sent f i (s ∷ ss) = all_sent (put f s.0 (sent_place (f s.0) i s.1)) (i + 1) ss

-- the lock was granted
abbrev pub is_locked : Option Held → Bool
is_locked None = false
is_locked (Some lock) = lock.granted
