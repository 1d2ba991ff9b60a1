-- How a call on one gfid begins: it locks brick after brick, and asks those that granted for their heads.
use Rattle.std.specs.Prelude.{◌≡◌, ℕ, ◌+◌, ◌<◌, ◌≤◌, Bool, true, cond, ◌==◌, nat_le, nat_lt, map, Option, Some, None, List, [], ◌∷◌}
use Rattle.ec_answers.specs.Grouping.{IsGrouped, given_by as answer_of}
use Rattle.ec_answers.specs.declared.answers.Answers.{Answers}
use Rattle.ec_answers.specs.declared.grouped.Grouped.{Grouped}
use Rattle.ec_attr.specs.Bricks.{count_below}
use Rattle.ec_attr.specs.declared.kind.Domain.TheVariants.{Inode}
use Rattle.ec_attr.specs.declared.kind.LockKind.{LockKind}
use Rattle.ec_conduct.specs.Account.{Account, Exchange, Lock, at}
use Rattle.ec_conduct.specs.Done.{failed_none, is_any, is_query, reply_to}
use Rattle.ec_conduct.specs.Given.{bricks_of, quorum_of}
use Rattle.ec_conduct.specs.Standing.{is_held}
use Rattle.ec_wire.specs.declared.answer.Answer.TheVariants.{NoQuorum}
use Rattle.ec_wire.specs.declared.phase.Phase.{Phase}
use Rattle.ec_wire.specs.declared.phase.Phase.TheVariants.{Lock as LockPhase, Query as QueryPhase}
use Rattle.ec_wire.specs.declared.request.Request.{Request}
use Rattle.ec_wire.specs.declared.request.Request.TheVariants.{Ask, Query as QueryOf}
use Rattle.ec_txn.specs.declared.opening.Opening.{Opening}
use Rattle.ec_txn.specs.declared.opening.Opening.TheVariants.{Lock as Locking, Query}
use Rattle.ec_txn.specs.declared.stage.Next.{Next}
use Rattle.ec_txn.specs.declared.stage.Next.TheVariants.{Go, Say}
use Rattle.ec_txn.specs.Digest.{given_by}
use Rattle.ec_txn.specs.Rounds.{Asks, subject}

abbrev pub opening_phase : Opening → Phase
opening_phase (Locking brick) = LockPhase
opening_phase Query = QueryPhase

-- the Query under a lock that was granted
abbrev pub query_of : ℕ → Option Lock → Option Request
query_of g None = None
query_of g (Some lock) = cond lock.granted (Some (QueryOf (record { 0 = g }) lock.number)) None

-- the one brick is asked for the lock; then all that granted it for their heads
abbrev pub opening_asks : LockKind → Opening → Account → Asks
opening_asks kind (Locking brick) c x = cond (x == brick) (Some (Ask (record { 0 = subject c.given.op }) Inode kind)) None
opening_asks kind Query c x = cond (nat_lt x (bricks_of c.given)) (query_of (subject c.given.op) (at c (subject c.given.op) x).inode) None

abbrev pub count_locks : Account → ℕ → ℕ
count_locks c g = count_below (bricks_of c.given) (λ x. is_held (at c g x).inode)

-- what the replies to the Queries come to
abbrev pub ComesTo : Account → ℕ → Grouped → Type 0
ComesTo c g grouped = (a : Answers) × ((x : ℕ) → answer_of a x ≡ given_by (reply_to is_query (at c g x).window)) × IsGrouped (quorum_of c.given) a grouped

-- What follows: the next brick; then the Queries, where a quorum granted the lock; then what the call makes of the heads.
abbrev pub OpeningFollows : {P : Type 0} → (Opening → P) → (Account → Grouped → Next P → Type 0) → Opening → Account → Next P → Type 0
OpeningFollows {P} into judges (Locking brick) c next = next ≡ cond (nat_lt (brick + 1) (bricks_of c.given)) (Go (into (Locking (brick + 1))))
    (cond (nat_le (quorum_of c.given) (count_locks c (subject c.given.op))) (Go (into Query)) (Say (NoQuorum LockPhase (count_locks c (subject c.given.op)))))
OpeningFollows {P} into judges Query c next = (grouped : Grouped) × ComesTo c (subject c.given.op) grouped × judges c grouped next

-- these requests are over and were done, the last first
abbrev pub Did : List Request → List Exchange → Type 0
Did rs es = (map (λ e. e.request) es ≡ rs) × (failed_none is_any es ≡ true)

-- Of the account as the opening sends: nobody was asked for a head, and a brick that holds a lock did the Ask and no more.
pub record IsOpening (g : ℕ) (kind : LockKind) (c : Account) : Type 0 where
  pub unqueried : (c.on g).queried ≡ None
  pub clean : (c.on g).dirty ≡ None
  pub quiet : (x : ℕ) → reply_to is_query (at c g x).window ≡ None
  pub locked : (x : ℕ) (lock : Lock) → (at c g x).inode ≡ Some lock → Did (Ask (record { 0 = g }) Inode kind ∷ []) (at c g x).window

-- one brick is asked for its lock, and those from it on have nothing yet
pub record IsLocking (g n : ℕ) (kind : LockKind) (brick : ℕ) (c : Account) (f : Asks) : Type 0 where
  pub opens : IsOpening g kind c
  pub below : brick < n
  pub rest : (x : ℕ) → brick ≤ x → ((at c g x).inode ≡ None) × ((at c g x).window ≡ [])
  pub asks : (x : ℕ) (r : Request) → f x ≡ Some r → (x ≡ brick) × (r ≡ Ask (record { 0 = g }) Inode kind)

pub record IsQuerying (g n : ℕ) (kind : LockKind) (c : Account) (f : Asks) : Type 0 where
  pub opens : IsOpening g kind c
  pub asks : (x : ℕ) (r : Request) → f x ≡ Some r → (x < n) × (lock : Lock) × ((at c g x).inode ≡ Some lock) × (lock.granted ≡ true) × (r ≡ QueryOf (record { 0 = g }) lock.number)

abbrev pub InOpening : LockKind → Opening → Account → Asks → Type 0
InOpening kind (Locking brick) c f = IsLocking (subject c.given.op) (bricks_of c.given) kind brick c f
InOpening kind Query c f = IsQuerying (subject c.given.op) (bricks_of c.given) kind c f
