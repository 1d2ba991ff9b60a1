-- The table of a stat.
use Rattle.std.specs.Prelude.{◌≡◌, false}
use Rattle.ec_answers.specs.declared.grouped.Grouped.{Grouped}
use Rattle.ec_answers.specs.declared.grouped.Grouped.TheVariants.{Group as Found, Gone, Fewer}
use Rattle.ec_attr.specs.declared.head.Head.{Head}
use Rattle.ec_attr.specs.declared.kind.Kind.{Kind}
use Rattle.ec_attr.specs.declared.kind.Kind.TheVariants.{File, Dir}
use Rattle.ec_attr.specs.declared.kind.LockKind.TheVariants.{Shared}
use Rattle.ec_conduct.specs.Account.{Account}
use Rattle.ec_txn.specs.declared.opening.Opening.{Opening}
use Rattle.ec_txn.specs.declared.opening.Opening.TheVariants.{Lock, Query}
use Rattle.ec_txn.specs.declared.stage.Next.{Next}
use Rattle.ec_txn.specs.declared.stage.Next.TheVariants.{Go, Say}
use Rattle.ec_txn.specs.Opening.{InOpening, OpeningFollows, opening_asks}
use Rattle.ec_txn.specs.Rounds.{Asks}
use Rattle.ec_txn.specs.Tables.{Table}
use Rattle.ec_wire.specs.declared.answer.Answer.{Answer}
use Rattle.ec_wire.specs.declared.answer.Answer.TheVariants.{IsDir, NoQuorum, NoSuch, Size}
use Rattle.ec_wire.specs.declared.op.Op.{Op}
use Rattle.ec_wire.specs.declared.op.Op.TheVariants.{Stat}
use Rattle.ec_wire.specs.declared.phase.Phase.TheVariants.{Query as QueryPhase}

abbrev pub size_of : Kind → Head → Answer
size_of File head = Size head.size
size_of Dir head = IsDir

-- what a stat is answered, by what the replies to its Queries come to
abbrev pub stat_answer : Grouped → Answer
stat_answer (Found group) = size_of group.head.kind group.head
stat_answer (Gone bricks) = NoSuch
stat_answer (Fewer most) = NoQuorum QueryPhase most

abbrev pub StatJudges : Account → Grouped → Next Opening → Type 0
StatJudges c grouped next = next ≡ Say (stat_answer grouped)

abbrev pub IsStat : Op → Type 0
IsStat (Stat g) = Unit {0}
IsStat op = ⊥

-- a shared lock at each brick, the Queries, the answer
abbrev pub stat_table : Table Opening
stat_table = record {
  starts = λ given next. IsStat given.op × (next ≡ Go (Lock 0));
  asks = opening_asks Shared;
  again = λ stage. false;
  follows = OpeningFollows (λ stage. stage) StatJudges;
}

abbrev pub DuringStat : Opening → Account → Asks → Type 0
DuringStat stage c f = IsStat c.given.op × InOpening Shared stage c f
