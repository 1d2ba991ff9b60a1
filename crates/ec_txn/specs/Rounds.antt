-- Rounds of a call on one gfid: what it sends bricks at a time, and what comes of it.
use Rattle.std.specs.Prelude.{◌≡◌, ◌⊎◌, ℕ, ◌+◌, ◌<◌, Bool, true, false, cond, not, ◌==◌, ◌||◌, Option, Some, None, List, [], ◌∷◌, ◌++◌, is_some}
use Rattle.ec_attr.specs.declared.kind.Domain.TheVariants.{Inode, Heal}
use Rattle.ec_brick.specs.Fit.{IsFit}
use Rattle.ec_conduct.specs.Account.{Account, Exchange, Lock, Place, Wait, at, gfid_of, noted, sent}
use Rattle.ec_conduct.specs.Conduct.{MaySend, is_release}
use Rattle.ec_conduct.specs.Done.{is_lock, is_pre, is_query}
use Rattle.ec_conduct.specs.Given.{Given, bricks_of}
use Rattle.ec_conduct.specs.Table.{Send, Step, to_bricks}
use Rattle.ec_wire.specs.declared.answer.Answer.{Answer}
use Rattle.ec_wire.specs.declared.op.Op.{Op}
use Rattle.ec_wire.specs.declared.op.Op.TheVariants.{Write, Truncate, Read, Stat, Create, Mkdir, Unlink, Lookup, Readdir, Heal as HealOp, SetAttr, GetAttr, Rename, Rmdir, Scrub, Sweep}
use Rattle.ec_wire.specs.declared.reply.Reply.{Reply}
use Rattle.ec_wire.specs.declared.request.Request.{Request}
use Rattle.ec_wire.specs.declared.request.Request.TheVariants.{Ask, PreOp, Release}
use Rattle.ec_txn.specs.declared.stage.Next.{Next}
use Rattle.ec_txn.specs.declared.stage.Next.TheVariants.{Go, Say}

-- the gfid that a call is on; a rename and a sweep are on several
abbrev pub subject : Op → ℕ
subject (Write g off bytes) = g.0
subject (Truncate g size) = g.0
subject (Read g off len via) = g.0
subject (Stat g) = g.0
subject (Create g name) = g.0
subject (Mkdir g name) = g.0
subject (Unlink g name) = g.0
subject (Lookup g name) = g.0
subject (Readdir g) = g.0
subject (HealOp g) = g.0
subject (SetAttr g attr) = g.0
subject (GetAttr g) = g.0
subject (Rename old name new to) = old.0
subject (Rmdir g name) = g.0
subject (Scrub g settle) = g.0
subject (Sweep full) = 0

-- what a round asks of each brick
abbrev pub Asks : Type 0
Asks = ℕ → Option Request

abbrev pub one : Option Request → List Request
one None = []
one (Some r) = r ∷ []

abbrev pub round : ℕ → Asks → List Send
round n f = to_bricks n (λ x. one (f x))

-- what is asked, where that is to be asked
abbrev pub where_so : Bool → Asks → Asks
where_so so f x = cond so (f x) None

-- what was asked, and what is asked of the others
abbrev pub joined : Asks → Asks → Asks
joined f h x = cond (is_some (f x)) (f x) (h x)

-- an ask that is over and wasn't granted is released
abbrev pub refused : ℕ → Option Lock → List Request
refused g None = []
refused g (Some lock) = cond lock.granted [] (Release (record { 0 = g }) lock.number ∷ [])

-- and a lock that was
abbrev pub given_back : ℕ → Option Lock → List Request
given_back g None = []
given_back g (Some lock) = cond lock.granted (Release (record { 0 = g }) lock.number ∷ []) []

abbrev pub unlock : Account → ℕ → List Send
unlock c g = to_bricks (bricks_of c.given) (λ x. refused g (at c g x).inode)

abbrev pub give_back : Account → ℕ → List Send
give_back c g = to_bricks (bricks_of c.given) (λ x. given_back g (at c g x).inode)

-- no reply is waited for
abbrev pub IsIdle : Account → Type 0
IsIdle c = (x : ℕ) → c.waits x ≡ None

abbrev pub IsWaiting : Account → Type 0
IsWaiting c = (x : ℕ) × (is_some (c.waits x) ≡ true)

-- the place as a request goes out
abbrev pub asked_place : Place → ℕ → Request → Place
asked_place p i (Ask g Inode kind) = record p { inode = Some (record { number = i; granted = false }) }
asked_place p i r = p

-- a brick that was sent what a round asks of it
abbrev pub IsSentTo : Option Request → Place → Option Wait → Place → Type 0
IsSentTo None p w q = (w ≡ None) × (q ≡ p)
IsSentTo (Some r) p w q = (i : ℕ) × (w ≡ Some (record { number = i; request = r })) × (q ≡ asked_place p i r)

-- and one that may have replied since, or was given up
abbrev pub IsIn : Option Request → Place → Option Wait → Place → Type 0
IsIn None p w q = (w ≡ None) × (q ≡ p)
IsIn (Some r) p w q = IsSentTo (Some r) p w q
    ⊎ ((i : ℕ) × (reply : Option Reply) × (w ≡ None) × (q ≡ noted (asked_place p i r) (record { number = i; request = r; reply = reply })))

-- a request that is waited for, and asks for no heal's lock
abbrev pub is_plain : Request → Bool
is_plain (Release g grant) = false
is_plain (Ask g Heal kind) = false
is_plain r = true

-- the gfid that was locked is listed, or none was
abbrev pub IsListed : ℕ → Account → Type 0
IsListed g c = (c.gfids ≡ g ∷ []) ⊎ ((c.gfids ≡ []) × ((x : ℕ) → (at c g x).inode ≡ None))

-- what a round on gfid g may ask
pub record IsOn (g n : ℕ) (queried : Option ℕ) (f : Asks) : Type 0 where
  pub below : (x : ℕ) (r : Request) → f x ≡ Some r → x < n
  pub of : (x : ℕ) (r : Request) → f x ≡ Some r → gfid_of r ≡ Some g
  pub plain : (x : ℕ) (r : Request) → f x ≡ Some r → is_plain r ≡ true
  pub first : (x : ℕ) (r : Request) → f x ≡ Some r → is_lock r ≡ true → (queried ≡ None) × ((y : ℕ) (s : Request) → f y ≡ Some s → is_query s ≡ false)
  pub fit : (x : ℕ) (r : Request) → f x ≡ Some r → IsFit r

abbrev pub dirty_of : Request → Option ℕ
dirty_of (PreOp g grant version dirty) = Some dirty
dirty_of r = None

-- a call that isn't answered, and waits for nobody
pub record IsReady (g : ℕ) (c : Account) : Type 0 where
  pub unanswered : c.answer ≡ None
  pub idle : IsIdle c
  pub heal : (x : ℕ) → (at c g x).heal ≡ None
  pub gfids : IsListed g c

-- The account d came of c by the first sends of a round: those to the bricks that h tells.
pub record IsSent (g : ℕ) (c : Account) (h : Asks) (d : Account) : Type 0 where
  pub given : d.given ≡ c.given
  pub unanswered : d.answer ≡ c.answer
  pub heal : (x : ℕ) → (at d g x).heal ≡ (at c g x).heal
  pub gfids : IsListed g d
  pub queried : ((d.on g).queried ≡ (c.on g).queried) ⊎ ((d.on g).queried ≡ Some d.steps)
  pub unqueried : ((x : ℕ) (r : Request) → h x ≡ Some r → is_query r ≡ false) → (d.on g).queried ≡ (c.on g).queried
  pub clean : ((x : ℕ) (r : Request) → h x ≡ Some r → is_pre r ≡ false) → (d.on g).dirty ≡ (c.on g).dirty
  pub dirty : ((d.on g).dirty ≡ (c.on g).dirty) ⊎ ((x : ℕ) × (r : Request) × (h x ≡ Some r) × (dirty_of r ≡ (d.on g).dirty))
  pub each : (x : ℕ) → IsSentTo (h x) (at c g x) (d.waits x) (at d g x)

-- The account d came of c by all sends of a round, and by replies and givings up since.
pub record IsRound (g : ℕ) (c : Account) (f : Asks) (d : Account) : Type 0 where
  pub given : d.given ≡ c.given
  pub unanswered : d.answer ≡ c.answer
  pub heal : (x : ℕ) → (at d g x).heal ≡ None
  pub gfids : IsListed g d
  pub unqueried : ((x : ℕ) (r : Request) → f x ≡ Some r → is_query r ≡ false) → (d.on g).queried ≡ (c.on g).queried
  pub clean : ((x : ℕ) (r : Request) → f x ≡ Some r → is_pre r ≡ false) → (d.on g).dirty ≡ (c.on g).dirty
  pub each : (x : ℕ) → IsIn (f x) (at c g x) (d.waits x) (at d g x)

-- data is asked for: no lock, no head, and no PreOp is done
abbrev pub is_quiet : Request → Bool
is_quiet r = not (is_lock r || is_query r || is_pre r)

-- What a stage asks again by h, having asked f at account c: data, each of a brick that it has not asked yet, and what
-- may be sent there, whatever the bricks have replied since.
pub record IsMore (g : ℕ) (c : Account) (f h : Asks) : Type 0 where
  pub new : (x : ℕ) (r : Request) → h x ≡ Some r → f x ≡ None
  pub quiet : (x : ℕ) (r : Request) → h x ≡ Some r → is_quiet r ≡ true
  pub may : (part : Asks) (d : Account) → IsRound g c (joined f part) d → ((x : ℕ) (r : Request) → part x ≡ Some r → h x ≡ Some r) → (b : ℕ) (r : Request) → h b ≡ Some r → part b ≡ None → MaySend d b r

-- The account d came of c by releases of asks that weren't granted.
pub record IsUnlocked (g : ℕ) (c d : Account) : Type 0 where
  pub given : d.given ≡ c.given
  pub unanswered : d.answer ≡ c.answer
  pub steps : d.steps ≡ c.steps
  pub gfids : IsListed g d
  pub waits : (x : ℕ) → d.waits x ≡ c.waits x
  pub queried : (d.on g).queried ≡ (c.on g).queried
  pub dirty : (d.on g).dirty ≡ (c.on g).dirty
  pub heal : (x : ℕ) → (at d g x).heal ≡ None
  pub window : (x : ℕ) → (at d g x).window ≡ (at c g x).window
  pub inode : (x : ℕ) (lock : Lock) → (at d g x).inode ≡ Some lock → (lock.granted ≡ true) × ((at c g x).inode ≡ Some lock)
  pub kept : (x : ℕ) (lock : Lock) → (at c g x).inode ≡ Some lock → lock.granted ≡ true → (at d g x).inode ≡ Some lock

-- a send of a call on gfid g, which may be sent where it is sent
pub record IsGood (g : ℕ) (c : Account) (b : ℕ) (r : Request) : Type 0 where
  pub may : MaySend c b r
  pub below : b < bricks_of c.given
  pub fit : IsFit r
  pub of : gfid_of r ≡ Some g
  pub plain : (is_plain r ≡ true) ⊎ (is_release r ≡ true)
  pub first : is_lock r ≡ true → (c.on g).queried ≡ None

abbrev pub AllGood : ℕ → Account → ℕ → List Send → Type 0
AllGood g c i [] = Unit {0}
AllGood g c i (s ∷ ss) = IsGood g c s.0 s.1 × AllGood g (sent c s.0 i s.1) (i + 1) ss

-- The account d came of c by releases: what is over is the same.
pub record IsReleased (g : ℕ) (c d : Account) : Type 0 where
  pub given : d.given ≡ c.given
  pub window : (x : ℕ) → (at d g x).window ≡ (at c g x).window

-- What follows is taken in one step: first the asks that weren't granted are released. Then a next stage sends what it
-- asks, bricks rising; and a call that ends releases its locks and answers.
abbrev pub IsTaken : {P : Type 0} → ℕ → Account → (P → Asks) → Next P → Step P → Type 0
IsTaken {P} g c asks (Go q) step = step ≡ record { stage = Some q; sends = unlock c g ++ round (bricks_of c.given) (asks q); answer = None; kept = None }
IsTaken {P} g c asks (Say answer) step = step ≡ record { stage = None; sends = unlock c g ++ give_back c g; answer = Some answer; kept = None }

-- the first step of a call has nothing to release
abbrev pub IsFirst : {P : Type 0} → ℕ → (P → Asks) → Next P → Step P → Type 0
IsFirst {P} n asks (Go q) step = step ≡ record { stage = Some q; sends = round n (asks q); answer = None; kept = None }
IsFirst {P} n asks (Say answer) step = step ≡ record { stage = None; sends = []; answer = Some answer; kept = None }
