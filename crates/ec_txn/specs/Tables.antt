-- The table of a call on one gfid, what makes it keep the conduct, and what a call that goes by it stands for.
use Rattle.std.specs.Prelude.{◌≡◌, ◌≢◌, ◌⊎◌, ℕ, ◌<◌, Bool, true, false, is_some, Option, Some, None, List, [], vec_len}
use Rattle.ec_conduct.specs.Account.{Account, at}
use Rattle.ec_conduct.specs.Conduct.{IsEarned, Keeps, MaySend}
use Rattle.ec_conduct.specs.Given.{Given, bricks_of}
use Rattle.ec_conduct.specs.Locks.{is_heal}
use Rattle.ec_conduct.specs.Opened.{account, opened}
use Rattle.ec_conduct.specs.Own.{Own}
use Rattle.ec_conduct.specs.Table.{IsByTable, Send, Step}
use Rattle.ec_wire.specs.declared.answer.Answer.{Answer}
use Rattle.ec_wire.specs.declared.request.Request.{Request}
use Rattle.ec_txn.specs.declared.ctx.Ctx.{Ctx}
use Rattle.ec_txn.specs.declared.known.Known.{Known}
use Rattle.ec_txn.specs.declared.stage.Next.{Next}
use Rattle.ec_txn.specs.declared.stage.Next.TheVariants.{Go, Say}
use Rattle.ec_txn.specs.Digest.{Shows, all_sent, no_place, place_at}
use Rattle.ec_txn.specs.Rounds.{Asks, IsFirst, IsIdle, IsMore, IsOn, IsReady, IsReleased, IsRound, IsSent, IsTaken, IsUnlocked, IsWaiting, joined, round, subject, where_so}
use Rattle.ec_txn.specs.Released.{HoldsNothing}
use Rattle.ec_txn.specs.Replies.{reply_at}

-- A call's stages: which comes first, what each asks of a brick by the account at which it begins, whether it asks again
-- by the account of each turn, and what comes when all that were asked have replied or were given up.
pub record Table (P : Type 0) : Type 1 where
  pub starts : Given → Next P → Type 0
  pub asks : P → Account → Asks
  pub again : P → Bool
  pub follows : P → Account → Next P → Type 0

abbrev pub Begins : {P : Type 0} → Table P → Given → Step P → Type 0
Begins {P} t given step = (next : Next P) × t.starts given next × IsFirst (bricks_of given) (λ q. t.asks q (opened given)) next step

-- what a stage that asks again asks by now
abbrev pub asked_again : {P : Type 0} → Table P → P → Account → List Send
asked_again t p c = round (bricks_of c.given) (where_so (t.again p) (t.asks p c))

-- A stage lasts while a reply is waited for, or something is asked again; nothing else is done then.
abbrev pub Goes : {P : Type 0} → Table P → P → Account → Step P → Type 0
Goes {P} t p c step =
    ((IsWaiting c ⊎ (asked_again t p c ≢ [])) × (step ≡ record { stage = Some p; sends = asked_again t p c; answer = None; kept = None }))
    ⊎ (IsIdle c × (asked_again t p c ≡ []) × (next : Next P) × t.follows p c next × IsTaken (subject c.given.op) c (λ q. t.asks q c) next step)

-- what a call of this context begins with, with nothing kept; a heal, which has locks of its own, is none of these calls
pub record IsOf (x : Ctx) (given : Given) : Type 0 where
  pub geometry : given.geometry ≡ x.geometry
  pub child : given.child ≡ x.child.0
  pub kept : given.kept ≡ None
  pub unhealed : is_heal given.op ≡ false

-- an account of a call begun with these, where nobody is waited for
pub record IsIn (x : Ctx) (given : Given) (c : Account) : Type 0 where
  pub given_is : c.given ≡ given
  pub of : IsOf x given
  pub ready : IsReady (subject given.op) c

-- What makes a table keep the conduct. `during p c f` is what holds of an account c at which stage p sends what f asks.
pub record IsSound {P : Type 0} (x : Ctx) (t : Table P) (during : P → Account → Asks → Type 0) : Type 0 where
  pub begins : (given : Given) (q : P) → IsOf x given → t.starts given (Go q) → during q (opened given) (t.asks q (opened given))
  pub earned_first : (given : Given) (answer : Answer) → IsOf x given → t.starts given (Say answer) → IsEarned (opened given) given.op answer
  pub goes : (given : Given) (p q : P) (c : Account) (f : Asks) (d e : Account) → IsIn x given c → during p c f → IsRound (subject given.op) c f d → IsIdle d
      → t.follows p d (Go q) → IsIn x given e → IsUnlocked (subject given.op) d e → during q e (t.asks q d)
  pub earned : (given : Given) (p : P) (answer : Answer) (c : Account) (f : Asks) (d e : Account) → IsIn x given c → during p c f → IsRound (subject given.op) c f d → IsIdle d
      → t.follows p d (Say answer) → IsReleased (subject given.op) d e → IsEarned e given.op answer
  pub again : (given : Given) (p : P) (c : Account) (f : Asks) (d : Account) → t.again p ≡ true → IsIn x given c → during p c f → IsRound (subject given.op) c f d
      → during p c (joined f (t.asks p d)) × IsMore (subject given.op) c f (t.asks p d)
  pub on : (given : Given) (p : P) (c : Account) (f : Asks) → IsIn x given c → during p c f → IsOn (subject given.op) (bricks_of given) (c.on (subject given.op)).queried f
  pub may : (given : Given) (p : P) (c : Account) (f h : Asks) (d : Account) → IsIn x given c → during p c f → IsSent (subject given.op) c h d
      → ((y : ℕ) (r : Request) → h y ≡ Some r → f y ≡ Some r) → (b : ℕ) (r : Request) → f b ≡ Some r → h b ≡ None → MaySend d b r

-- an account in a stage
abbrev pub InStage : Ctx → Given → (Account → Asks → Type 0) → Account → Type 0
InStage x given during d = (c : Account) × (f : Asks) × IsIn x given c × during c f × IsRound (subject given.op) c f d

-- What is kept of a call, begun with these, is so after these own entries.
pub record Stands {P : Type 0} (x : Ctx) (given : Given) (fits : Type 0) (t : Table P) (during : P → Account → Asks → Type 0) (ctx : Ctx) (gfid : ℕ) (known : Known) (stage : Option P) (answer : Option Answer) (es : List Own) : Type 0 where
  pub ctx_is : ctx ≡ x
  pub gfid_is : subject given.op ≡ gfid
  pub of : IsOf x given
  pub fit : fits
  pub given_is : (account given es).given ≡ given
  pub shows : Shows (subject given.op) (bricks_of given) known (account given es)
  pub keeps : Keeps given es
  pub by_table : IsByTable (Begins t) (Goes t) given es stage
  pub answered : (account given es).answer ≡ answer
  pub goes_on : (p : P) → stage ≡ Some p → InStage x given (during p) (account given es)
  pub ended : stage ≡ None → IsIdle (account given es)
  pub released : is_some (account given es).answer ≡ true → HoldsNothing (account given es)

-- what is known at an account of a call
pub record Sees (x : Ctx) (fits : Given → Type 0) (known : Known) (c : Account) : Type 0 where
  pub of : IsOf x c.given
  pub fit : fits c.given
  pub shows : Shows (subject c.given.op) (bricks_of c.given) known c

-- One step by the table, from stage p at account c: what is kept after it, and what is sent and answered.
pub record TakesStep {P : Type 0} (t : Table P) (p : P) (c : Account) (i : ℕ) (old new : Known) (stage : Option P) (answer : Option Answer) (sends : List Send) : Type 0 where
  pub step : Step P
  pub goes : Goes t p c step
  pub stage_is : stage ≡ step.stage
  pub answer_is : answer ≡ step.answer
  pub sends_are : sends ≡ step.sends
  pub places : place_at new.places.items ≡ all_sent (place_at old.places.items) i sends
  pub replies : new.replies ≡ old.replies

-- The first step of a call begun with these.
pub record TakesFirst {P : Type 0} (t : Table P) (given : Given) (i : ℕ) (new : Known) (stage : Option P) (answer : Option Answer) (sends : List Send) : Type 0 where
  pub step : Step P
  pub begins : Begins t given step
  pub stage_is : stage ≡ step.stage
  pub answer_is : answer ≡ step.answer
  pub sends_are : sends ≡ step.sends
  pub len : vec_len new.places ≡ bricks_of given
  pub places : place_at new.places.items ≡ all_sent (λ y. no_place) i sends
  pub room : vec_len new.replies.items ≡ bricks_of given
  pub untold : (y : ℕ) → reply_at new.replies.items.items y ≡ None
