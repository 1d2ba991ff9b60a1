-- The table of a getattr.
use Rattle.std.specs.Prelude.{◌≡◌, false}
use Rattle.ec_answers.specs.declared.grouped.Grouped.{Grouped}
use Rattle.ec_answers.specs.declared.grouped.Grouped.TheVariants.{Group as Found, Gone, Fewer}
use Rattle.ec_attr.specs.declared.kind.LockKind.TheVariants.{Shared}
use Rattle.ec_conduct.specs.Account.{Account}
use Rattle.ec_txn.specs.declared.opening.Opening.{Opening}
use Rattle.ec_txn.specs.declared.opening.Opening.TheVariants.{Lock}
use Rattle.ec_txn.specs.declared.stage.Next.{Next}
use Rattle.ec_txn.specs.declared.stage.Next.TheVariants.{Go, Say}
use Rattle.ec_txn.specs.Opening.{InOpening, OpeningFollows, opening_asks}
use Rattle.ec_txn.specs.Rounds.{Asks}
use Rattle.ec_txn.specs.Tables.{Table}
use Rattle.ec_wire.specs.declared.answer.Answer.{Answer}
use Rattle.ec_wire.specs.declared.answer.Answer.TheVariants.{Attr, NoQuorum, NoSuch}
use Rattle.ec_wire.specs.declared.op.Op.{Op}
use Rattle.ec_wire.specs.declared.op.Op.TheVariants.{GetAttr}
use Rattle.ec_wire.specs.declared.phase.Phase.TheVariants.{Query as QueryPhase}

-- what a getattr is answered, by what the replies to its Queries come to
abbrev pub getattr_answer : Grouped → Answer
getattr_answer (Found group) = Attr group.head.attr
getattr_answer (Gone bricks) = NoSuch
getattr_answer (Fewer most) = NoQuorum QueryPhase most

abbrev pub GetAttrJudges : Account → Grouped → Next Opening → Type 0
GetAttrJudges c grouped next = next ≡ Say (getattr_answer grouped)

abbrev pub IsGetAttr : Op → Type 0
IsGetAttr (GetAttr g) = Unit {0}
IsGetAttr op = ⊥

-- a shared lock at each brick, the Queries, the answer
abbrev pub getattr_table : Table Opening
getattr_table = record {
  starts = λ given next. IsGetAttr given.op × (next ≡ Go (Lock 0));
  asks = opening_asks Shared;
  again = λ stage. false;
  follows = OpeningFollows (λ stage. stage) GetAttrJudges;
}

abbrev pub DuringGetAttr : Opening → Account → Asks → Type 0
DuringGetAttr stage c f = IsGetAttr c.given.op × InOpening Shared stage c f
