-- The table of a setattr.
use Rattle.std.specs.Prelude.{◌≡◌, false, cond, Option, Some, None}
use Rattle.ec_answers.specs.declared.grouped.Grouped.{Grouped}
use Rattle.ec_answers.specs.declared.grouped.Grouped.TheVariants.{Group as Found, Gone, Fewer}
use Rattle.ec_attr.specs.declared.attr.Attr.{Attr as AttrOf}
use Rattle.ec_attr.specs.declared.kind.LockKind.TheVariants.{Exclusive}
use Rattle.ec_conduct.specs.Account.{Account}
use Rattle.ec_conduct.specs.Ballots.{attr_after}
use Rattle.ec_txn.specs.declared.ballot.Ballot.{Ballot}
use Rattle.ec_txn.specs.declared.ballot.Ballot.TheVariants.{Pre, Post}
use Rattle.ec_txn.specs.declared.opening.Opening.{Opening}
use Rattle.ec_txn.specs.declared.opening.Opening.TheVariants.{Lock}
use Rattle.ec_txn.specs.declared.stage.Next.{Next}
use Rattle.ec_txn.specs.declared.stage.Next.TheVariants.{Go, Say}
use Rattle.ec_txn.specs.Ballot.{BallotFollows, InBallot, ballot_asks, ballot_phase, is_within}
use Rattle.ec_txn.specs.Opening.{InOpening, OpeningFollows, opening_asks, opening_phase}
use Rattle.ec_txn.specs.Rounds.{Asks}
use Rattle.ec_txn.specs.Tables.{Table}
use Rattle.ec_wire.specs.declared.answer.Answer.{Answer}
use Rattle.ec_wire.specs.declared.answer.Answer.TheVariants.{Attr, Limit, NoQuorum, NoSuch}
use Rattle.ec_wire.specs.declared.op.Op.{Op}
use Rattle.ec_wire.specs.declared.op.Op.TheVariants.{SetAttr}
use Rattle.ec_wire.specs.declared.phase.Phase.{Phase}
use Rattle.ec_wire.specs.declared.phase.Phase.TheVariants.{Query as QueryPhase}
use Rattle.ec_entry.specs.declared.setattr.SetAttrStage.{SetAttrStage}
use Rattle.ec_entry.specs.declared.setattr.SetAttrStage.TheVariants.{Opens, Votes}

abbrev pub setattr_phase : SetAttrStage → Phase
setattr_phase (Opens stage) = opening_phase stage
setattr_phase (Votes stage) = ballot_phase stage

abbrev pub opens : Next Opening → Next SetAttrStage
opens (Go stage) = Go (Opens stage)
opens (Say answer) = Say answer

abbrev pub SetAttrJudges : Account → Grouped → Next SetAttrStage → Type 0
SetAttrJudges c (Found group) next = next ≡ cond (is_within group.head) (Go (Votes (Pre group))) (Say (Limit group.head.version.content))
SetAttrJudges c (Gone bricks) next = next ≡ Say NoSuch
SetAttrJudges c (Fewer most) next = next ≡ Say (NoQuorum QueryPhase most)

-- the new attribute, which each setattr has
abbrev pub told : Option AttrOf → Answer
told None = NoSuch
told (Some attr) = Attr attr

-- nothing is changed between PreOp and PostOp
abbrev pub SetAttrVotes : Ballot → Account → Next SetAttrStage → Type 0
SetAttrVotes stage c next = BallotFollows Votes (λ group c next. next ≡ Go (Votes (Post group))) (λ c group. told (attr_after c.given.op)) stage c next

abbrev pub SetAttrFollows : SetAttrStage → Account → Next SetAttrStage → Type 0
SetAttrFollows (Opens stage) c next = OpeningFollows Opens SetAttrJudges stage c next
SetAttrFollows (Votes stage) c next = SetAttrVotes stage c next

abbrev pub setattr_asks : SetAttrStage → Account → Asks
setattr_asks (Opens stage) c = opening_asks Exclusive stage c
setattr_asks (Votes stage) c = ballot_asks stage c

abbrev pub IsSetAttr : Op → Type 0
IsSetAttr (SetAttr g attr) = Unit {0}
IsSetAttr op = ⊥

-- an exclusive lock at each brick, the Queries, the ballot, the answer
abbrev pub setattr_table : Table SetAttrStage
setattr_table = record {
  starts = λ given next. IsSetAttr given.op × (next ≡ Go (Opens (Lock 0)));
  asks = setattr_asks;
  again = λ stage. false;
  follows = SetAttrFollows;
}

abbrev pub InSetAttr : SetAttrStage → Account → Asks → Type 0
InSetAttr (Opens stage) c f = InOpening Exclusive stage c f
InSetAttr (Votes stage) c f = InBallot stage c f

abbrev pub DuringSetAttr : SetAttrStage → Account → Asks → Type 0
DuringSetAttr stage c f = IsSetAttr c.given.op × InSetAttr stage c f
