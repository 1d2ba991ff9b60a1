-- The table of a read.
use Rattle.std.specs.Prelude.{◌≡◌, ◌⊎◌, ℕ, ◌^◌, ◌<◌, ◌≤◌, Bool, true, false, cond, ◌==◌, ◌&&◌, nat_lt, Option, Some, None, List, []}
use Rattle.ec_answers.specs.declared.grouped.Group.{Group}
use Rattle.ec_answers.specs.declared.grouped.Grouped.{Grouped}
use Rattle.ec_answers.specs.declared.grouped.Grouped.TheVariants.{Group as Found, Gone, Fewer}
use Rattle.ec_attr.specs.Bricks.{count_below, is_in}
use Rattle.ec_attr.specs.declared.kind.Kind.{Kind}
use Rattle.ec_attr.specs.declared.kind.Kind.TheVariants.{File, Dir}
use Rattle.ec_attr.specs.declared.kind.LockKind.TheVariants.{Shared}
use Rattle.ec_conduct.specs.Account.{Account}
use Rattle.ec_conduct.specs.Given.{Given, bricks_of, quorum_of}
use Rattle.ec_txn.specs.declared.ctx.Ctx.{Ctx}
use Rattle.ec_txn.specs.declared.known.Place.{Place}
use Rattle.ec_txn.specs.declared.opening.Opening.TheVariants.{Lock}
use Rattle.ec_txn.specs.declared.reading.Reading.{Reading}
use Rattle.ec_txn.specs.declared.stage.Next.{Next}
use Rattle.ec_txn.specs.declared.stage.Next.TheVariants.{Go, Say}
use Rattle.ec_txn.specs.Opening.{InOpening, OpeningFollows, opening_asks, opening_phase}
use Rattle.ec_txn.specs.ReadPhase.{IsReading, is_done, places_of, reading_asks}
use Rattle.ec_txn.specs.Replies.{replied}
use Rattle.ec_txn.specs.Rounds.{Asks, subject}
use Rattle.ec_txn.specs.Tables.{Table}
use Rattle.ec_wire.specs.declared.answer.Answer.TheVariants.{Bytes, IsDir, NoQuorum, NoSuch, TooLong}
use Rattle.ec_wire.specs.declared.op.Op.{Op}
use Rattle.ec_wire.specs.declared.op.Op.TheVariants.{Read}
use Rattle.ec_wire.specs.declared.phase.Phase.{Phase}
use Rattle.ec_wire.specs.declared.phase.Phase.TheVariants.{Query as QueryPhase, Read as ReadPhase}
use Rattle.ec_wire.specs.declared.reply.Reply.{Reply}
use Rattle.ec_read.specs.declared.read.ReadStage.{ReadStage}
use Rattle.ec_read.specs.declared.read.ReadStage.TheVariants.{Opens, Reads}
use Rattle.ec_read.specs.Decoded.{Gives}
use Rattle.ec_read.specs.Range.{end_of, reading_by}

abbrev pub read_phase : ReadStage → Phase
read_phase (Opens opening) = opening_phase opening
read_phase (Reads among size) = ReadPhase

abbrev pub IsRead : Op → Type 0
IsRead (Read g off len via) = Unit {0}
IsRead op = ⊥

-- from which byte on, how many, and the bricks that may be read, where they are named
abbrev pub off_in : Op → ℕ
off_in (Read g off len via) = off
off_in op = 0

abbrev pub len_in : Op → ℕ
len_in (Read g off len via) = len
len_in op = 0

abbrev pub via_in : Op → Option ℕ
via_in (Read g off len via) = via
via_in op = None

abbrev pub is_named : Option ℕ → ℕ → Bool
is_named None b = true
is_named (Some via) b = is_in via b

-- a read of too many bytes asks nobody
abbrev pub first_of : ℕ → Next ReadStage
first_of len = cond (nat_lt (2 ^ 20) len) (Say (TooLong len)) (Go (Opens (Lock 0)))

-- of the bricks `among`, of a file of this size
abbrev pub reading_of : Ctx → Given → ℕ → ℕ → Reading
reading_of x given among size = reading_by x (subject given.op) (quorum_of given) (off_in given.op) (len_in given.op) among size

-- the bricks that may be read are those of the group, less those that aren't named where some are
abbrev pub AreAmong : ℕ → ℕ → Option ℕ → Type 0
AreAmong among group via = (b : ℕ) → b < 31 → is_in among b ≡ (is_in group b && is_named via b)

-- nobody is waited for where no brick may be read
abbrev pub read_of : ℕ → ℕ → Next ReadStage
read_of among size = cond (count_below 31 (is_in among) == 0) (Say (NoQuorum ReadPhase 0)) (Go (Reads among size))

-- of a file: no bytes, where the range has none below the size; else the group is read
abbrev pub OfFile : Op → Group → Next ReadStage → Type 0
OfFile op group next =
    ((end_of (off_in op) (len_in op) group.head.size ≤ off_in op) × (next ≡ Say (Bytes [])))
    ⊎ ((off_in op < end_of (off_in op) (len_in op) group.head.size) × (among : ℕ) × AreAmong among group.bricks (via_in op) × (next ≡ read_of among group.head.size))

abbrev pub OfKind : Kind → Op → Group → Next ReadStage → Type 0
OfKind File op group next = OfFile op group next
OfKind Dir op group next = next ≡ Say IsDir

-- what follows the Queries, by what the replies come to
abbrev pub Judges : Op → Grouped → Next ReadStage → Type 0
Judges op (Found group) next = OfKind group.head.kind op group next
Judges op (Gone bricks) next = next ≡ Say NoSuch
Judges op (Fewer most) next = next ≡ Say (NoQuorum QueryPhase most)

abbrev pub ReadJudges : Account → Grouped → Next ReadStage → Type 0
ReadJudges c grouped next = Judges c.given.op grouped next

-- what comes of the chunks: the bytes that those of k bricks give, where so many gave theirs
abbrev pub EndsBy : ℕ → ℕ → Reading → (ℕ → Place) → (ℕ → Option Reply) → ℕ → ℕ → Next ReadStage → Type 0
EndsBy k algorithm r places replies off end next =
    ((count_below 31 (is_done r places replies) < k) × (next ≡ Say (NoQuorum ReadPhase (count_below 31 (is_done r places replies)))))
    ⊎ ((bytes : List ℕ) × Gives k algorithm r places replies off end bytes × (next ≡ Say (Bytes bytes)))

abbrev pub read_asks : Ctx → ReadStage → Account → Asks
read_asks x (Opens opening) c = opening_asks Shared opening c
read_asks x (Reads among size) c = reading_asks (reading_of x c.given among size) c

-- a brick that failed in the phase `read` is replaced by another
abbrev pub read_again : ReadStage → Bool
read_again (Opens opening) = false
read_again (Reads among size) = true

abbrev pub ReadFollows : Ctx → ReadStage → Account → Next ReadStage → Type 0
ReadFollows x (Opens opening) c next = OpeningFollows Opens ReadJudges opening c next
ReadFollows x (Reads among size) c next = EndsBy (quorum_of c.given) c.given.geometry.algorithm (reading_of x c.given among size) (places_of c (subject c.given.op)) (replied c (subject c.given.op)) (off_in c.given.op) (end_of (off_in c.given.op) (len_in c.given.op) size) next

-- a shared lock at each brick, the Queries, the chunks of the range's stripes at a quorum of the good group, the bytes
abbrev pub read_table : Ctx → Table ReadStage
read_table x = record {
  starts = λ given next. IsRead given.op × (next ≡ first_of (len_in given.op));
  asks = read_asks x;
  again = read_again;
  follows = ReadFollows x;
}

abbrev pub InRead : Ctx → ReadStage → Account → Asks → Type 0
InRead x (Opens opening) c f = InOpening Shared opening c f
InRead x (Reads among size) c f = IsReading (subject c.given.op) (bricks_of c.given) (reading_of x c.given among size) c f

abbrev pub DuringRead : Ctx → ReadStage → Account → Asks → Type 0
DuringRead x stage c f = IsRead c.given.op × InRead x stage c f
