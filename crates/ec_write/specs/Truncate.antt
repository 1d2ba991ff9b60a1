-- The table of a truncate.
use Rattle.std.specs.Prelude.{◌≡◌, ◌⊎◌, ℕ, ◌^◌, ◌<◌, ◌≤◌, Bool, true, false, cond, ◌==◌, nat_lt, min, Option, List, []}
use Rattle.ec_answers.specs.declared.grouped.Group.{Group}
use Rattle.ec_answers.specs.declared.grouped.Grouped.{Grouped}
use Rattle.ec_answers.specs.declared.grouped.Grouped.TheVariants.{Group as Found, Gone, Fewer}
use Rattle.ec_attr.specs.declared.geometry.Geometry.{Geometry}
use Rattle.ec_attr.specs.declared.kind.Kind.{Kind}
use Rattle.ec_attr.specs.declared.kind.Kind.TheVariants.{File, Dir}
use Rattle.ec_attr.specs.declared.kind.LockKind.TheVariants.{Exclusive}
use Rattle.ec_conduct.specs.Account.{Account}
use Rattle.ec_conduct.specs.Changes.{stripes_of}
use Rattle.ec_conduct.specs.Given.{quorum, quorum_of}
use Rattle.ec_txn.specs.declared.ballot.Ballot.TheVariants.{Pre, Post}
use Rattle.ec_txn.specs.declared.ctx.Ctx.{Ctx}
use Rattle.ec_txn.specs.declared.known.Place.{Place}
use Rattle.ec_txn.specs.declared.opening.Opening.TheVariants.{Lock}
use Rattle.ec_txn.specs.declared.reading.Reading.{Reading}
use Rattle.ec_txn.specs.declared.stage.Next.{Next}
use Rattle.ec_txn.specs.declared.stage.Next.TheVariants.{Go, Say}
use Rattle.ec_txn.specs.Ballot.{BallotFollows, IfQuorum, ballot_asks, ballot_phase, is_within, to_members}
use Rattle.ec_txn.specs.Opening.{OpeningFollows, opening_asks, opening_phase}
use Rattle.ec_txn.specs.ReadPhase.{places_of}
use Rattle.ec_txn.specs.Replies.{replied}
use Rattle.ec_txn.specs.Rounds.{Asks, subject}
use Rattle.ec_txn.specs.Tables.{Table}
use Rattle.ec_wire.specs.declared.answer.Answer.{Answer}
use Rattle.ec_wire.specs.declared.answer.Answer.TheVariants.{IsDir, Limit, NoQuorum, NoSuch, Size, TooBig}
use Rattle.ec_wire.specs.declared.op.Op.{Op}
use Rattle.ec_wire.specs.declared.op.Op.TheVariants.{Truncate}
use Rattle.ec_wire.specs.declared.phase.Phase.{Phase}
use Rattle.ec_wire.specs.declared.phase.Phase.TheVariants.{Query as QueryPhase, Read as ReadPhase, Trim as TrimPhase, Write as WritePhase}
use Rattle.ec_wire.specs.declared.reply.Reply.{Reply}
use Rattle.ec_wire.specs.declared.request.Request.{Request}
use Rattle.ec_wire.specs.declared.request.Request.TheVariants.{SetLength}
use Rattle.ec_write.specs.declared.stage.TruncateStage.{TruncateStage}
use Rattle.ec_write.specs.declared.stage.TruncateStage.TheVariants.{Cuts, Opens, Reads, Votes, Writes}
use Rattle.ec_write.specs.Range.{first_stripe, head_of}
use Rattle.ec_write.specs.Stripes.{AreCoded, IsDecoded, count_gave, list_at}
use Rattle.ec_write.specs.Write.{read_asks, reading_of, write_request}

abbrev pub IsTruncate : Op → Type 0
IsTruncate (Truncate g to) = Unit {0}
IsTruncate op = ⊥

-- the new size
abbrev pub to_of : Op → ℕ
to_of (Truncate g to) = to
to_of op = 0

-- The lesser of the old and the new size: the bytes below it stay, and all from it on become zeros.
abbrev pub low_of : Op → Group → ℕ
low_of op group = min group.head.size (to_of op)

abbrev pub truncate_phase : TruncateStage → Phase
truncate_phase (Opens stage) = opening_phase stage
truncate_phase (Votes stage) = ballot_phase stage
truncate_phase (Reads group reading) = ReadPhase
truncate_phase (Writes group lists) = WritePhase
truncate_phase (Cuts group) = TrimPhase

-- No file is longer than 2^40 bytes.
abbrev pub truncate_starts : Op → Next TruncateStage
truncate_starts op = cond (nat_lt (2 ^ 40) (to_of op)) (Say (TooBig (to_of op))) (Go (Opens (Lock 0)))

-- what follows the Queries
abbrev pub truncate_judged : Kind → Group → Next TruncateStage
truncate_judged Dir group = Say IsDir
truncate_judged File group = cond (is_within group.head) (Go (Votes (Pre group))) (Say (Limit group.head.version.content))

abbrev pub TruncateJudges : Account → Grouped → Next TruncateStage → Type 0
TruncateJudges c (Found group) next = next ≡ truncate_judged group.head.kind group
TruncateJudges c (Gone bricks) next = next ≡ Say NoSuch
TruncateJudges c (Fewer most) next = next ≡ Say (NoQuorum QueryPhase most)

-- After the PreOps: where the lesser size lies within a stripe, that one is read; on a border there is only the cut.
abbrev pub trims_from : Ctx → Geometry → Op → Group → Next TruncateStage
trims_from x geometry op group = cond (head_of (quorum geometry) (low_of op group) == 0) (Go (Cuts group)) (Go (Reads group (reading_of x (subject op) group (first_stripe (quorum geometry) (low_of op group)))))

abbrev pub Trims : Ctx → Group → Account → Next TruncateStage → Type 0
Trims x group c next = next ≡ trims_from x c.given.geometry c.given.op group

-- The stripe is written as in a file that ends at the lesser size: its bytes below that stay, and zeros follow.
abbrev pub Tails : Geometry → Op → Group → List (List ℕ) → Next TruncateStage → Type 0
Tails geometry op group stripe next = (lists : List (List (List ℕ))) × AreCoded geometry (low_of op group) [] (low_of op group) stripe [] lists × (next ≡ Go (Writes group lists))

-- Where fewer than K bricks gave their chunk the call ends; else those of K are decoded.
abbrev pub TailEnds : Geometry → Op → Group → Reading → (ℕ → Place) → (ℕ → Option Reply) → Next TruncateStage → Type 0
TailEnds geometry op group reading ps rs next =
    ((count_gave reading ps rs < quorum geometry) × (next ≡ Say (NoQuorum ReadPhase (count_gave reading ps rs))))
    ⊎ ((quorum geometry ≤ count_gave reading ps rs) × (stripe : List (List ℕ)) × IsDecoded geometry reading ps rs stripe × Tails geometry op group stripe next)

abbrev pub TailFollows : Group → Reading → Account → Next TruncateStage → Type 0
TailFollows group reading c next = TailEnds c.given.geometry c.given.op group reading (places_of c (subject c.given.op)) (replied c (subject c.given.op)) next

abbrev pub says_to : Account → Group → Answer
says_to c group = Size (to_of c.given.op)

abbrev pub TruncateFollows : Ctx → TruncateStage → Account → Next TruncateStage → Type 0
TruncateFollows x (Opens stage) c next = OpeningFollows Opens TruncateJudges stage c next
TruncateFollows x (Votes stage) c next = BallotFollows Votes (Trims x) says_to stage c next
TruncateFollows x (Reads group reading) c next = TailFollows group reading c next
TruncateFollows x (Writes group lists) c next = IfQuorum c group WritePhase (λ next. next ≡ Go (Cuts group)) next
TruncateFollows x (Cuts group) c next = IfQuorum c group TrimPhase (λ next. next ≡ Go (Votes (Post group))) next

-- the chunks of each brick that did all so far
abbrev pub tail_asks : Group → List (List (List ℕ)) → Account → Asks
tail_asks group lists c x = to_members group (write_request (subject c.given.op) (first_stripe (quorum_of c.given) (low_of c.given.op group)) (list_at lists x)) c x

-- Of each such brick the chunks past the lesser size become zeros, and the fragment as long as the new size wants.
abbrev pub cut_request : ℕ → ℕ → ℕ → ℕ → ℕ → Request
cut_request g keep count grant version = SetLength (record { 0 = g }) grant keep count

abbrev pub cut_asks : Group → Account → Asks
cut_asks group c x = to_members group (cut_request (subject c.given.op) (stripes_of (quorum_of c.given) (low_of c.given.op group)) (stripes_of (quorum_of c.given) (to_of c.given.op))) c x

abbrev pub truncate_asks : TruncateStage → Account → Asks
truncate_asks (Opens stage) c = opening_asks Exclusive stage c
truncate_asks (Votes stage) c = ballot_asks stage c
truncate_asks (Reads group reading) c = read_asks reading c
truncate_asks (Writes group lists) c = tail_asks group lists c
truncate_asks (Cuts group) c = cut_asks group c

abbrev pub truncate_reads : TruncateStage → Bool
truncate_reads (Reads group reading) = true
truncate_reads stage = false

-- An exclusive lock at each brick, the Queries, the PreOps, the stripe of the lesser size where that lies within one, read
-- and then written, the cut, the PostOps, the Clears, the answer.
abbrev pub truncate_table : Ctx → Table TruncateStage
truncate_table x = record {
  starts = λ given next. IsTruncate given.op × (next ≡ truncate_starts given.op);
  asks = truncate_asks;
  again = truncate_reads;
  follows = TruncateFollows x;
}
