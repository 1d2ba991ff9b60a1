-- The table of a lookup.
use Rattle.std.specs.Prelude.{◌≡◌, false, ℕ, List, []}
use Rattle.ec_answers.specs.declared.grouped.Grouped.{Grouped}
use Rattle.ec_answers.specs.declared.grouped.Grouped.TheVariants.{Group as Found, Gone, Fewer}
use Rattle.std.specs.declared.option.Option.TheVariants.{None, Some}
use Rattle.ec_attr.specs.declared.kind.Kind.{Kind}
use Rattle.ec_attr.specs.declared.kind.Kind.TheVariants.{File, Dir}
use Rattle.ec_attr.specs.declared.kind.LockKind.TheVariants.{Shared}
use Rattle.ec_conduct.specs.Account.{Account}
use Rattle.ec_conduct.specs.Given.{bricks_of, quorum_of}
use Rattle.ec_txn.specs.declared.opening.Opening.TheVariants.{Lock}
use Rattle.ec_txn.specs.declared.stage.Next.{Next}
use Rattle.ec_txn.specs.declared.stage.Next.TheVariants.{Go, Say}
use Rattle.ec_txn.specs.Fetching.{IsFetching, asks_of}
use Rattle.ec_txn.specs.Opening.{InOpening, OpeningFollows, opening_asks, opening_phase}
use Rattle.ec_txn.specs.Replies.{replied}
use Rattle.ec_txn.specs.Rounds.{Asks, subject}
use Rattle.ec_txn.specs.Tables.{Table}
use Rattle.ec_wire.specs.declared.answer.Answer.{Answer}
use Rattle.ec_wire.specs.declared.answer.Answer.TheVariants.{Child, NoName, NoQuorum, NoSuch, NotDir, Split}
use Rattle.ec_wire.specs.declared.op.Op.{Op}
use Rattle.ec_wire.specs.declared.op.Op.TheVariants.{Lookup}
use Rattle.ec_wire.specs.declared.phase.Phase.{Phase}
use Rattle.ec_wire.specs.declared.phase.Phase.TheVariants.{Query as QueryPhase, Name as NamePhase}
use Rattle.ec_wire.specs.declared.request.Request.TheVariants.{NameGet}
use Rattle.ec_entry.specs.declared.lookup.LookupStage.{LookupStage}
use Rattle.ec_entry.specs.declared.lookup.LookupStage.TheVariants.{Opens, Name}
use Rattle.ec_entry.specs.declared.named.Named.{Named}
use Rattle.ec_entry.specs.declared.named.Named.TheVariants.{Alike, Fewer as FewerOf, Split as SplitOf}
use Rattle.ec_entry.specs.Named.{IsNamed, Value, said}

abbrev pub lookup_phase : LookupStage → Phase
lookup_phase (Opens opening) = opening_phase opening
lookup_phase (Name bricks) = NamePhase

abbrev pub IsLookup : Op → Type 0
IsLookup (Lookup g name) = Unit {0}
IsLookup op = ⊥

-- the name that is looked up
abbrev pub name_in : Op → List ℕ
name_in (Lookup g name) = name
name_in op = []

-- the good group of a directory is asked for the name
abbrev pub of_kind : Kind → ℕ → Next LookupStage
of_kind File bricks = Say NotDir
of_kind Dir bricks = Go (Name bricks)

abbrev pub lookup_next : Grouped → Next LookupStage
lookup_next (Found group) = of_kind group.head.kind group.bricks
lookup_next (Gone bricks) = Say NoSuch
lookup_next (Fewer most) = Say (NoQuorum QueryPhase most)

abbrev pub LookupJudges : Account → Grouped → Next LookupStage → Type 0
LookupJudges c grouped next = next ≡ lookup_next grouped

abbrev pub found_or_not : Value → Answer
found_or_not None = NoName
found_or_not (Some child) = Child child

-- what a lookup is answered, by what the replies to the name come to
abbrev pub lookup_answer : Named → Answer
lookup_answer (FewerOf most) = NoQuorum NamePhase most
lookup_answer (Alike value) = found_or_not value
lookup_answer (SplitOf a b) = Split a b

abbrev pub lookup_asks : LookupStage → Account → Asks
lookup_asks (Opens opening) c = opening_asks Shared opening c
lookup_asks (Name bricks) c = asks_of bricks (λ grant. NameGet (record { 0 = subject c.given.op }) grant (name_in c.given.op)) c

abbrev pub LookupFollows : LookupStage → Account → Next LookupStage → Type 0
LookupFollows (Opens opening) c next = OpeningFollows (λ o. Opens o) LookupJudges opening c next
LookupFollows (Name bricks) c next = (named : Named) × IsNamed (quorum_of c.given) (said bricks (replied c (subject c.given.op))) named × (next ≡ Say (lookup_answer named))

-- a shared lock at each brick, the Queries, the name of the good group, the answer
abbrev pub lookup_table : Table LookupStage
lookup_table = record {
  starts = λ given next. IsLookup given.op × (next ≡ Go (Opens (Lock 0)));
  asks = lookup_asks;
  again = λ stage. false;
  follows = LookupFollows;
}

abbrev pub InLookup : LookupStage → Account → Asks → Type 0
InLookup (Opens opening) c f = InOpening Shared opening c f
InLookup (Name bricks) c f = IsFetching (subject c.given.op) (bricks_of c.given) c f

abbrev pub DuringLookup : LookupStage → Account → Asks → Type 0
DuringLookup stage c f = IsLookup c.given.op × InLookup stage c f
