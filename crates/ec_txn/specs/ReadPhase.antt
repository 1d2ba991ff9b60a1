-- The phase `read`: K bricks of a set are asked for chunks, and one more for each that failed.
use Rattle.std.specs.Prelude.{◌≡◌, ℕ, ◌+◌, ◌-◌, ◌%◌, ◌<◌, ◌≤◌, ◌^◌, Bool, true, false, not, cond, ◌==◌, ◌&&◌, ◌||◌, nat_lt, is_some, Option, Some, None}
use Rattle.ec_attr.specs.Bricks.{count_below, is_in}
use Rattle.ec_answers.specs.Choice.{up_from}
use Rattle.ec_conduct.specs.Account.{Account, Lock, at}
use Rattle.ec_conduct.specs.Given.{Given, bricks_of, quorum_of}
use Rattle.ec_wire.specs.declared.reply.Reply.{Reply}
use Rattle.ec_wire.specs.declared.reply.Reply.TheVariants.{Chunks}
use Rattle.ec_wire.specs.declared.request.Request.{Request}
use Rattle.ec_wire.specs.declared.request.Request.TheVariants.{ReadChunks}
use Rattle.ec_txn.specs.declared.known.Place.{Place}
use Rattle.ec_txn.specs.declared.reading.Reading.{Reading}
use Rattle.ec_txn.specs.Digest.{digest}
use Rattle.ec_txn.specs.Fetching.{under}
use Rattle.ec_txn.specs.Replies.{replied}
use Rattle.ec_txn.specs.declared.ctx.Ctx.{Ctx}
use Rattle.ec_txn.specs.Rounds.{Asks, IsMore, IsRound, joined, subject}
use Rattle.ec_txn.specs.Tables.{IsIn}

abbrev pub is_first : Option ℕ → ℕ → Bool
is_first None first = false
is_first (Some f) first = f == first

abbrev pub has_chunks : Option Reply → Bool
has_chunks (Some (Chunks chunks)) = true
has_chunks reply = false

-- a brick gave the chunks of this round
abbrev pub gave : ℕ → Place → Option Reply → Bool
gave first p reply = is_first p.read first && has_chunks reply

-- it is waited for, or was asked in this round
abbrev pub is_tried : ℕ → Place → Bool
is_tried first p = is_some p.waits || is_first p.read first

-- the bricks of the set that are left: not tried in this round, and failed in none
abbrev pub is_left : Reading → (ℕ → Place) → ℕ → Bool
is_left r ps x = is_in r.among x && not (is_tried r.first (ps x)) && not (ps x).failed

abbrev pub is_done : Reading → (ℕ → Place) → (ℕ → Option Reply) → ℕ → Bool
is_done r ps rs x = is_in r.among x && gave r.first (ps x) (rs x)

-- those that gave their chunks or may still do
abbrev pub is_counted : Reading → (ℕ → Place) → (ℕ → Option Reply) → ℕ → Bool
is_counted r ps rs x = is_in r.among x && (is_some (ps x).waits || gave r.first (ps x) (rs x))

-- how many bricks are missing to k
abbrev pub count_wanted : ℕ → Reading → (ℕ → Place) → (ℕ → Option Reply) → ℕ
count_wanted k r ps rs = k - count_below 31 (is_counted r ps rs)

-- the brick i steps up from another one, and on from 0 past the last

-- how many bricks of a set come before one, walking up from `start`
abbrev pub count_before : ℕ → (ℕ → Bool) → ℕ → ℕ
count_before start test x = count_below ((x + 31 - start) % 31) (λ i. test (up_from start i))

-- of the bricks that are left the first ones, walking up from `start`, are asked: as many as are missing
abbrev pub is_chosen : ℕ → Reading → (ℕ → Place) → (ℕ → Option Reply) → ℕ → Bool
is_chosen k r ps rs x = is_left r ps x && nat_lt (count_before r.start (is_left r ps) x) (count_wanted k r ps rs)

-- what is known of each brick, by the account
abbrev pub places_of : Account → ℕ → ℕ → Place
places_of c g x = digest (c.waits x) (at c g x)

abbrev pub chunks_of : ℕ → Reading → ℕ → Request
chunks_of g r grant = ReadChunks (record { 0 = g }) grant r.first r.count

abbrev pub asked_if : Bool → Option Lock → (ℕ → Request) → Option Request
asked_if so lock q = cond so (under lock q) None

-- what is asked at an account, in this round or again in it
abbrev pub reading_asks : Reading → Account → Asks
reading_asks r c x = asked_if (is_chosen (quorum_of c.given) r (places_of c (subject c.given.op)) (replied c (subject c.given.op)) x && nat_lt x (bricks_of c.given))
    (at c (subject c.given.op) x).inode (chunks_of (subject c.given.op) r)

-- each brick that was asked granted its lock, and was asked for the same chunks
pub record IsReading (g n : ℕ) (r : Reading) (c : Account) (f : Asks) : Type 0 where
  pub fit : r.first + r.count ≤ 2 ^ 30
  pub asks : (x : ℕ) (q : Request) → f x ≡ Some q → (x < n) × (lock : Lock) × ((at c g x).inode ≡ Some lock) × (lock.granted ≡ true) × (q ≡ chunks_of g r lock.number)

-- What is asked again keeps the conduct, and it is as if it had been asked from the first: no brick is asked twice.
abbrev pub ReadingLaw : Type 0
ReadingLaw = (x : Ctx) (given : Given) (r : Reading) (c : Account) (f : Asks) (d : Account) → IsIn x given c → IsReading (subject given.op) (bricks_of given) r c f → IsRound (subject given.op) c f d
    → IsReading (subject given.op) (bricks_of given) r c (joined f (reading_asks r d)) × IsMore (subject given.op) c f (reading_asks r d)
