-- The table of a write.
use Rattle.std.specs.Prelude.{◌≡◌, ◌⊎◌, ℕ, ◌+◌, ◌-◌, ◌%◌, ◌^◌, ◌<◌, ◌≤◌, Bool, true, false, cond, ◌==◌, nat_le, nat_lt, max, Option, Some, None, List, [], length}
use Rattle.ec_answers.specs.declared.grouped.Group.{Group}
use Rattle.ec_answers.specs.declared.grouped.Grouped.{Grouped}
use Rattle.ec_answers.specs.declared.grouped.Grouped.TheVariants.{Group as Found, Gone, Fewer}
use Rattle.ec_attr.specs.declared.geometry.Geometry.{Geometry}
use Rattle.ec_attr.specs.declared.kind.Kind.{Kind}
use Rattle.ec_attr.specs.declared.kind.Kind.TheVariants.{File, Dir}
use Rattle.ec_attr.specs.declared.kind.LockKind.TheVariants.{Exclusive}
use Rattle.ec_attr.specs.declared.policy.Policy.{Policy}
use Rattle.ec_attr.specs.declared.policy.Policy.TheVariants.{RoundRobin, GfidHash}
use Rattle.ec_conduct.specs.Account.{Account}
use Rattle.ec_conduct.specs.Given.{quorum, quorum_of}
use Rattle.ec_txn.specs.declared.ballot.Ballot.TheVariants.{Pre, Post}
use Rattle.ec_txn.specs.declared.ctx.Ctx.{Ctx}
use Rattle.ec_txn.specs.declared.known.Place.{Place}
use Rattle.ec_txn.specs.declared.opening.Opening.TheVariants.{Lock}
use Rattle.ec_txn.specs.declared.reading.Reading.{Reading}
use Rattle.ec_txn.specs.declared.stage.Next.{Next}
use Rattle.ec_txn.specs.declared.stage.Next.TheVariants.{Go, Say}
use Rattle.ec_txn.specs.Ballot.{BallotFollows, IfQuorum, ballot_asks, ballot_phase, is_within, to_members}
use Rattle.ec_txn.specs.Opening.{OpeningFollows, opening_asks, opening_phase}
use Rattle.ec_txn.specs.ReadPhase.{places_of, reading_asks}
use Rattle.ec_txn.specs.Replies.{replied}
use Rattle.ec_txn.specs.Rounds.{Asks, subject, where_so}
use Rattle.ec_txn.specs.Tables.{Table}
use Rattle.ec_wire.specs.declared.answer.Answer.{Answer}
use Rattle.ec_wire.specs.declared.answer.Answer.TheVariants.{IsDir, Limit, NoQuorum, NoSuch, Size, TooBig, TooLong}
use Rattle.ec_wire.specs.declared.op.Op.{Op}
use Rattle.ec_wire.specs.declared.op.Op.TheVariants.{Write}
use Rattle.ec_wire.specs.declared.phase.Phase.{Phase}
use Rattle.ec_wire.specs.declared.phase.Phase.TheVariants.{Query as QueryPhase, Read as ReadPhase, Write as WritePhase}
use Rattle.ec_wire.specs.declared.reply.Reply.{Reply}
use Rattle.ec_wire.specs.declared.request.Request.{Request}
use Rattle.ec_wire.specs.declared.request.Request.TheVariants.{WriteChunks}
use Rattle.ec_write.specs.declared.stage.WriteStage.{WriteStage}
use Rattle.ec_write.specs.declared.stage.WriteStage.TheVariants.{Opens, Votes, Reads, Writes}
use Rattle.ec_write.specs.Range.{data_of, first_read, first_stripe, off_of, second_read, told_end}
use Rattle.ec_write.specs.Stripes.{AreCoded, IsDecoded, count_gave, list_at}

abbrev pub IsWrite : Op → Type 0
IsWrite (Write g off bytes) = Unit {0}
IsWrite op = ⊥

abbrev pub write_phase : WriteStage → Phase
write_phase (Opens stage) = opening_phase stage
write_phase (Votes stage) = ballot_phase stage
write_phase (Reads group reading front) = ReadPhase
write_phase (Writes group lists) = WritePhase

-- At most 2^20 bytes are written, and none past byte 2^40 of a file.
abbrev pub write_starts : Op → Next WriteStage
write_starts op =
    cond (nat_lt (2 ^ 20) (length (data_of op))) (Say (TooLong (length (data_of op))))
    (cond (nat_lt (2 ^ 40) (off_of op + length (data_of op))) (Say (TooBig (told_end (off_of op) (length (data_of op))))) (Go (Opens (Lock 0))))

-- What follows the Queries. A write of no bytes ends here and changes nothing.
abbrev pub judged : Kind → Op → Group → Next WriteStage
judged Dir op group = Say IsDir
judged File op group =
    cond (nat_lt 0 (length (data_of op))) (cond (is_within group.head) (Go (Votes (Pre group))) (Say (Limit group.head.version.content))) (Say (Size group.head.size))

abbrev pub WriteJudges : Account → Grouped → Next WriteStage → Type 0
WriteJudges c (Found group) next = next ≡ judged group.head.kind c.given.op group
WriteJudges c (Gone bricks) next = next ≡ Say NoSuch
WriteJudges c (Fewer most) next = next ≡ Say (NoQuorum QueryPhase most)

-- the brick from which on K bricks are chosen
abbrev pub start_by : Policy → ℕ → ℕ → ℕ → ℕ
start_by RoundRobin call g n = (call - 1) % n
start_by GfidHash call g n = g % n

abbrev pub start_of : Ctx → ℕ → ℕ
start_of x g = start_by x.policy x.call g x.geometry.n

-- one stripe is read from K bricks of the group that did all so far
abbrev pub reading_of : Ctx → ℕ → Group → ℕ → Reading
reading_of x g group stripe = record { among = group.bricks; start = start_of x g; first = stripe; count = 1 }

-- the new stripes are coded and written
abbrev pub Codes : Geometry → Op → Group → List (List ℕ) → List (List ℕ) → Next WriteStage → Type 0
Codes geometry op group front back next = (lists : List (List (List ℕ))) × AreCoded geometry (off_of op) (data_of op) group.head.size front back lists × (next ≡ Go (Writes group lists))

-- A stripe is read next, or there is none to be read and the new ones are coded: `front` and `back` are the first and the
-- last as they were.
abbrev pub GoesOn : Ctx → Geometry → Op → Group → List (List ℕ) → List (List ℕ) → Option ℕ → Next WriteStage → Type 0
GoesOn x geometry op group front back None next = Codes geometry op group front back next
GoesOn x geometry op group front back (Some stripe) next = next ≡ Go (Reads group (reading_of x (subject op) group stripe) front)

abbrev pub first_of : Geometry → Op → Group → Option ℕ
first_of geometry op group = first_read (quorum geometry) (off_of op) (length (data_of op)) group.head.size

abbrev pub second_of : Geometry → Op → Group → Option ℕ
second_of geometry op group = second_read (quorum geometry) (off_of op) (length (data_of op)) group.head.size

-- after the PreOps
abbrev pub Prepares : Ctx → Group → Account → Next WriteStage → Type 0
Prepares x group c next = GoesOn x c.given.geometry c.given.op group [] [] (first_of c.given.geometry c.given.op group) next

-- after a stripe was decoded, the first one or the last
abbrev pub AfterRead : Bool → Ctx → Geometry → Op → Group → List (List ℕ) → List (List ℕ) → Next WriteStage → Type 0
AfterRead true x geometry op group front stripe next = GoesOn x geometry op group stripe [] (second_of geometry op group) next
AfterRead false x geometry op group front stripe next = GoesOn x geometry op group front stripe None next

-- Where fewer than K bricks gave their chunk the call ends; else those of K are decoded.
abbrev pub ReadEnds : Ctx → Geometry → Op → Group → Reading → List (List ℕ) → (ℕ → Place) → (ℕ → Option Reply) → Next WriteStage → Type 0
ReadEnds x geometry op group reading front ps rs next =
    ((count_gave reading ps rs < quorum geometry) × (next ≡ Say (NoQuorum ReadPhase (count_gave reading ps rs))))
    ⊎ ((quorum geometry ≤ count_gave reading ps rs) × (stripe : List (List ℕ)) × IsDecoded geometry reading ps rs stripe
    × AfterRead (reading.first == first_stripe (quorum geometry) (off_of op)) x geometry op group front stripe next)

abbrev pub ReadFollows : Ctx → Group → Reading → List (List ℕ) → Account → Next WriteStage → Type 0
ReadFollows x group reading front c next = ReadEnds x c.given.geometry c.given.op group reading front (places_of c (subject c.given.op)) (replied c (subject c.given.op)) next

-- the size after the write, which no write within the limits takes past 2^40
abbrev pub new_size : Op → ℕ → ℕ
new_size op size = max size (told_end (off_of op) (length (data_of op)))

abbrev pub says_size : Account → Group → Answer
says_size c group = Size (new_size c.given.op group.head.size)

abbrev pub WriteFollows : Ctx → WriteStage → Account → Next WriteStage → Type 0
WriteFollows x (Opens stage) c next = OpeningFollows Opens WriteJudges stage c next
WriteFollows x (Votes stage) c next = BallotFollows Votes (Prepares x) says_size stage c next
WriteFollows x (Reads group reading front) c next = ReadFollows x group reading front c next
WriteFollows x (Writes group lists) c next = IfQuorum c group WritePhase (λ next. next ≡ Go (Votes (Post group))) next

-- the chunks of each brick that did all so far, in one request
abbrev pub write_request : ℕ → ℕ → List (List ℕ) → ℕ → ℕ → Request
write_request g first chunks grant version = WriteChunks (record { 0 = g }) grant first chunks

abbrev pub write_asks : Group → List (List (List ℕ)) → Account → Asks
write_asks group lists c x = to_members group (write_request (subject c.given.op) (first_stripe (quorum_of c.given) (off_of c.given.op)) (list_at lists x)) c x

-- a stage that reads begins with a brick below 31
abbrev pub read_asks : Reading → Account → Asks
read_asks reading c = where_so (nat_lt reading.start 31) (reading_asks reading c)

-- the range ends at byte 2^40 at most
abbrev pub is_short : Op → Bool
is_short op = nat_le (off_of op + length (data_of op)) (2 ^ 40)

abbrev pub asks_of : WriteStage → Account → Asks
asks_of (Opens stage) c = opening_asks Exclusive stage c
asks_of (Votes stage) c = where_so (is_short c.given.op) (ballot_asks stage c)
asks_of (Reads group reading front) c = read_asks reading c
asks_of (Writes group lists) c = write_asks group lists c

abbrev pub reads_again : WriteStage → Bool
reads_again (Reads group reading front) = true
reads_again stage = false

-- An exclusive lock at each brick, the Queries, the PreOps, the first and then the last stripe where they are read, the new
-- chunks, the PostOps, the Clears, the answer.
abbrev pub write_table : Ctx → Table WriteStage
write_table x = record {
  starts = λ given next. IsWrite given.op × (next ≡ write_starts given.op);
  asks = asks_of;
  again = reads_again;
  follows = WriteFollows x;
}
