-- The account of a call: what it has sent and heard, by gfid and brick.
use Rattle.std.specs.Prelude.{ℕ, ◌+◌, Bool, true, false, cond, ◌==◌, ◌&&◌, ◌||◌, nat_lt, Option, Some, None, List, [], ◌∷◌, ◌++◌}
use Rattle.ec_attr.specs.declared.kind.Domain.{Domain}
use Rattle.ec_attr.specs.declared.kind.Domain.TheVariants.{Inode, Heal}
use Rattle.ec_store.specs.Put.{put}
use Rattle.ec_wire.specs.declared.answer.Answer.{Answer}
use Rattle.ec_wire.specs.declared.reply.Reply.{Reply}
use Rattle.ec_wire.specs.declared.reply.Reply.TheVariants.{Granted}
use Rattle.ec_wire.specs.declared.request.Request.{Request}
use Rattle.ec_wire.specs.declared.request.Request.TheVariants.{Ask, Release, Query, PreOp, ReadChunks, WriteChunks, SetLength, PostOp, Clear, NameGet, NamesAfter, NameSet, NamesPut, Make, Made, Unmake, Mark, Unmark, GfidsAfter}
use Rattle.ec_conduct.specs.Given.{Given}
use Rattle.ec_conduct.specs.Own.{Own, Sends, Hears, GivesUp, Answers}

-- a request that is waited for, by its number
pub record Wait : Type 0 where
  pub number : ℕ
  pub request : Request

-- a request that is over: with its reply, or None where it was given up
pub record Exchange : Type 0 where
  pub number : ℕ
  pub request : Request
  pub reply : Option Reply

-- an ask that isn't released, by its number
pub record Lock : Type 0 where
  pub number : ℕ
  pub granted : Bool

-- What a call has of one gfid at one brick: the asks that it hasn't released, and what is over, the last first. A window
-- lasts from one set of locks on the gfid's content to the next.
pub record Place : Type 0 where
  pub inode : Option Lock
  pub heal : Option Lock
  pub window : List Exchange
  pub earlier : List Exchange

-- Of one gfid: the step in which the Queries of this window went out, the one dirty number of its PreOps, and the places
-- by brick.
pub record Dealings : Type 0 where
  pub queried : Option ℕ
  pub dirty : Option ℕ
  pub place : ℕ → Place

-- A step ends with each reply and each giving up. `gfids` are those that were locked, rising; `pages` are the requests
-- for gfids, which name none, by brick.
pub record Account : Type 0 where
  pub given : Given
  pub steps : ℕ
  pub waits : ℕ → Option Wait
  pub on : ℕ → Dealings
  pub gfids : List ℕ
  pub pages : ℕ → List Exchange
  pub answer : Option Answer

-- the gfid that a request names
abbrev pub gfid_of : Request → Option ℕ
gfid_of (Ask g domain kind) = Some g.0
gfid_of (Release g grant) = Some g.0
gfid_of (Query g grant) = Some g.0
gfid_of (PreOp g grant version dirty) = Some g.0
gfid_of (ReadChunks g grant first count) = Some g.0
gfid_of (WriteChunks g grant first chunks) = Some g.0
gfid_of (SetLength g grant keep length) = Some g.0
gfid_of (PostOp g grant old new size attr) = Some g.0
gfid_of (Clear g grant version) = Some g.0
gfid_of (NameGet g grant name) = Some g.0
gfid_of (NamesAfter g grant after) = Some g.0
gfid_of (NameSet g grant name child) = Some g.0
gfid_of (NamesPut g grant after upto list) = Some g.0
gfid_of (Make g grant child) = Some g.0
gfid_of (Made g grant child) = Some g.0
gfid_of (Unmake g grant child) = Some g.0
gfid_of (Mark g grant heal head) = Some g.0
gfid_of (Unmark g grant version dirty) = Some g.0
gfid_of (GfidsAfter after dirty) = None

abbrev pub is_granted : Option Reply → Bool
is_granted None = false
is_granted (Some Granted) = true
is_granted (Some reply) = false

abbrev pub at : Account → ℕ → ℕ → Place
at c g b = (c.on g).place b

abbrev pub with_place : Dealings → ℕ → Place → Dealings
with_place d b p = record d { place = put d.place b p }

-- locks are asked for anew: what is over belongs to an earlier window
abbrev pub renewed : Dealings → Dealings
renewed d = record {
  queried = None;
  dirty = None;
  place = λ b. record (d.place b) { window = []; earlier = (d.place b).window ++ (d.place b).earlier };
}

-- the first ask for content after the Queries begins a new window
abbrev pub begun : Dealings → Option ℕ → Dealings
begun d None = d
begun d (Some step) = renewed d

abbrev pub asked : Dealings → ℕ → ℕ → Domain → Dealings
asked d b i Inode = with_place (begun d d.queried) b (record ((begun d d.queried).place b) { inode = Some (record { number = i; granted = false }) })
asked d b i Heal = with_place d b (record (d.place b) { heal = Some (record { number = i; granted = false }) })

abbrev pub without : Option Lock → ℕ → Option Lock
without None grant = None
without (Some lock) grant = cond (lock.number == grant) None (Some lock)

abbrev pub released : Place → ℕ → Place
released p grant = record p { inode = without p.inode grant; heal = without p.heal grant }

-- a gfid put into a rising list
abbrev pub inserted : ℕ → List ℕ → List ℕ
inserted g [] = g ∷ []
inserted g (h ∷ hs) = cond (nat_lt g h) (g ∷ h ∷ hs) (cond (g == h) (h ∷ hs) (h ∷ inserted g hs))

abbrev pub with_dealings : Account → ℕ → Dealings → Account
with_dealings c g d = record c { on = put c.on g d }

abbrev pub waiting : Account → ℕ → ℕ → Request → Account
waiting c b i r = record c { waits = put c.waits b (Some (record { number = i; request = r })) }

-- a request is sent to a brick under a number; a Release has no reply
abbrev pub sent : Account → ℕ → ℕ → Request → Account
sent c b i (Ask g domain kind) = record (with_dealings (waiting c b i (Ask g domain kind)) g.0 (asked (c.on g.0) b i domain)) { gfids = inserted g.0 c.gfids }
sent c b i (Release g grant) = with_dealings c g.0 (with_place (c.on g.0) b (released (at c g.0 b) grant))
sent c b i (Query g grant) = with_dealings (waiting c b i (Query g grant)) g.0 (record (c.on g.0) { queried = Some c.steps })
sent c b i (PreOp g grant version dirty) = with_dealings (waiting c b i (PreOp g grant version dirty)) g.0 (record (c.on g.0) { dirty = Some dirty })
sent c b i r = waiting c b i r

abbrev pub granted : Option Lock → Exchange → Option Lock
granted None e = None
granted (Some lock) e = Some (record lock { granted = lock.granted || ((lock.number == e.number) && is_granted e.reply) })

-- a request is over
abbrev pub noted : Place → Exchange → Place
noted p e = record p { inode = granted p.inode e; heal = granted p.heal e; window = e ∷ p.window }

abbrev pub filed : Account → ℕ → Exchange → Option ℕ → Account
filed c b e None = record c { pages = put c.pages b (e ∷ c.pages b) }
filed c b e (Some g) = with_dealings c g (with_place (c.on g) b (noted (at c g b) e))

abbrev pub over : Account → ℕ → Exchange → Account
over c b e = filed (record c { waits = put c.waits b None; steps = c.steps + 1 }) b e (gfid_of e.request)

abbrev pub told : Account → ℕ → Wait → Reply → Account
told c b w reply = over c b (record { number = w.number; request = w.request; reply = Some reply })

abbrev pub gave_up : Account → ℕ → Wait → Account
gave_up c b w = over c b (record { number = w.number; request = w.request; reply = None })

-- a reply to a request that isn't waited for counts for nothing, and so does giving it up
abbrev pub heard_by : Account → ℕ → Option Wait → ℕ → Reply → Account
heard_by c b None i reply = c
heard_by c b (Some w) i reply = cond (w.number == i) (told c b w reply) c

abbrev pub left_by : Account → ℕ → Option Wait → ℕ → Account
left_by c b None i = c
left_by c b (Some w) i = cond (w.number == i) (gave_up c b w) c

-- one own entry more
abbrev pub after : Account → Own → Account
after c (Sends b i r) = sent c b i r
after c (Hears b i reply) = heard_by c b (c.waits b) i reply
after c (GivesUp b i) = left_by c b (c.waits b) i
after c (Answers answer) = record c { answer = Some answer }

abbrev pub account_from : Account → List Own → Account
account_from c [] = c
account_from c (e ∷ es) = account_from (after c e) es
