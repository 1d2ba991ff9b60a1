-- The table of a create or mkdir.
use Rattle.std.specs.Prelude.{◌≡◌, false, ℕ, ◌^◌, cond, nat_le, List, [], ◌∷◌, Some, None}
use Rattle.ec_answers.specs.declared.grouped.Group.{Group}
use Rattle.ec_answers.specs.declared.grouped.Grouped.{Grouped}
use Rattle.ec_answers.specs.declared.grouped.Grouped.TheVariants.{Group as Found, Gone, Fewer}
use Rattle.ec_attr.specs.declared.kind.Child.{Child as ChildOf}
use Rattle.ec_attr.specs.declared.kind.Kind.{Kind}
use Rattle.ec_attr.specs.declared.kind.Kind.TheVariants.{File, Dir}
use Rattle.ec_attr.specs.declared.kind.LockKind.TheVariants.{Exclusive}
use Rattle.ec_conduct.specs.Account.{Account}
use Rattle.ec_conduct.specs.Given.{Given, bricks_of, quorum_of}
use Rattle.ec_txn.specs.declared.ballot.Ballot.{Ballot}
use Rattle.ec_txn.specs.declared.ballot.Ballot.TheVariants.{Pre, Post, Clear}
use Rattle.ec_txn.specs.declared.opening.Opening.TheVariants.{Lock}
use Rattle.ec_txn.specs.declared.stage.Next.{Next}
use Rattle.ec_txn.specs.declared.stage.Next.TheVariants.{Go, Say}
use Rattle.ec_txn.specs.Ballot.{IfQuorum, InBallot, ballot_asks, ballot_phase, count_serving, is_within, to_members}
use Rattle.ec_txn.specs.Fetching.{asks_of}
use Rattle.ec_txn.specs.Opening.{InOpening, OpeningFollows, opening_asks, opening_phase}
use Rattle.ec_txn.specs.Replies.{replied}
use Rattle.ec_txn.specs.Rounds.{Asks, subject}
use Rattle.ec_txn.specs.Tables.{Table}
use Rattle.ec_wire.specs.declared.answer.Answer.TheVariants.{Child, Exists, Limit, NoQuorum, NoSuch, NotDir, Spent, Split}
use Rattle.ec_wire.specs.declared.op.Op.{Op}
use Rattle.ec_wire.specs.declared.op.Op.TheVariants.{Create, Mkdir}
use Rattle.ec_wire.specs.declared.phase.Phase.{Phase}
use Rattle.ec_wire.specs.declared.phase.Phase.TheVariants.{Query as QueryPhase, Name as NamePhase, Pre as PrePhase, Make as MakePhase, Entry as EntryPhase, Post as PostPhase, Made as MadePhase}
use Rattle.ec_wire.specs.declared.request.Request.{Request}
use Rattle.ec_wire.specs.declared.request.Request.TheVariants.{Make as MakeOf, Made as MadeOf, NameGet, NameSet}
use Rattle.ec_entry.specs.declared.make.MakeStage.{MakeStage}
use Rattle.ec_entry.specs.declared.make.MakeStage.TheVariants.{Opens, Name, Votes, Makes, Enters, Made}
use Rattle.ec_entry.specs.declared.named.Named.{Named}
use Rattle.ec_entry.specs.declared.named.Named.TheVariants.{Alike, Fewer as FewerOf, Split as SplitOf}
use Rattle.ec_entry.specs.Changing.{InChange, InLast, InNaming, IsMade, IsUnmade}
use Rattle.ec_entry.specs.Named.{IsNamed, Value, said}

abbrev pub make_phase : MakeStage → Phase
make_phase (Opens stage) = opening_phase stage
make_phase (Name group) = NamePhase
make_phase (Votes stage) = ballot_phase stage
make_phase (Makes group) = MakePhase
make_phase (Enters group) = EntryPhase
make_phase (Made group) = MadePhase

abbrev pub IsMake : Op → Type 0
IsMake (Create g name) = Unit {0}
IsMake (Mkdir g name) = Unit {0}
IsMake op = ⊥

-- the call by the kind of what it makes
abbrev pub make_op : Kind → ℕ → List ℕ → Op
make_op File g name = Create (record { 0 = g }) name
make_op Dir g name = Mkdir (record { 0 = g }) name

-- the name that is made
abbrev pub name_in : Op → List ℕ
name_in (Create g name) = name
name_in (Mkdir g name) = name
name_in op = []

abbrev pub kind_in : Op → Kind
kind_in (Mkdir g name) = Dir
kind_in op = File

-- the child, under the gfid that the call took as it began
abbrev pub child_of : Given → ChildOf
child_of given = record { kind = kind_in given.op; gfid = record { 0 = given.child } }

-- the child's record is made under the directory's grant; so it is said to be whole where every brick has it
abbrev pub make_request : Given → ℕ → ℕ → Request
make_request given grant version = MakeOf (record { 0 = subject given.op }) grant (child_of given)

abbrev pub entry_request : Given → ℕ → ℕ → Request
entry_request given grant version = NameSet (record { 0 = subject given.op }) grant (name_in given.op) (Some (child_of given))

abbrev pub made_request : Given → ℕ → ℕ → Request
made_request given grant version = MadeOf (record { 0 = subject given.op }) grant (record { 0 = given.child })

-- no gfid above 2^96 is taken
abbrev pub first_stage : ℕ → Next MakeStage
first_stage child = cond (nat_le child (2 ^ 96)) (Go (Opens (Lock 0))) (Say Spent)

abbrev pub of_kind : Kind → Group → Next MakeStage
of_kind File group = Say NotDir
of_kind Dir group = Go (Name group)

-- the good group of a directory is asked for the name
abbrev pub query_next : Grouped → Next MakeStage
query_next (Found group) = of_kind group.head.kind group
query_next (Gone bricks) = Say NoSuch
query_next (Fewer most) = Say (NoQuorum QueryPhase most)

abbrev pub MakeJudges : Account → Grouped → Next MakeStage → Type 0
MakeJudges c grouped next = next ≡ query_next grouped

-- a name that leads nowhere is made, where the version after the commit is within the limit
abbrev pub free_or_not : Group → Value → Next MakeStage
free_or_not group (Some child) = Say (Exists child)
free_or_not group None = cond (is_within group.head) (Go (Votes (Pre group))) (Say (Limit group.head.version.content))

abbrev pub name_next : Group → Named → Next MakeStage
name_next group (FewerOf most) = Say (NoQuorum NamePhase most)
name_next group (Alike value) = free_or_not group value
name_next group (SplitOf a b) = Say (Split a b)

-- a last stage goes out only where every brick of the volume did all before, as a brick of the group
abbrev pub where_all : Account → Group → MakeStage → Next MakeStage
where_all c group stage = cond (nat_le (bricks_of c.given) (count_serving c group)) (Go stage) (Say (Child (child_of c.given)))

abbrev pub make_asks : MakeStage → Account → Asks
make_asks (Opens stage) c = opening_asks Exclusive stage c
make_asks (Name group) c = asks_of group.bricks (λ grant. NameGet (record { 0 = subject c.given.op }) grant (name_in c.given.op)) c
make_asks (Votes stage) c = ballot_asks stage c
make_asks (Makes group) c = to_members group (make_request c.given) c
make_asks (Enters group) c = to_members group (entry_request c.given) c
make_asks (Made group) c = to_members group (made_request c.given) c

abbrev pub BallotGoes : Ballot → Account → Next MakeStage → Type 0
BallotGoes (Pre group) c next = IfQuorum c group PrePhase (λ next. next ≡ Go (Makes group)) next
BallotGoes (Post group) c next = IfQuorum c group PostPhase (λ next. next ≡ where_all c group (Votes (Clear group))) next
BallotGoes (Clear group) c next = next ≡ where_all c group (Made group)

abbrev pub MakeFollows : MakeStage → Account → Next MakeStage → Type 0
MakeFollows (Opens stage) c next = OpeningFollows Opens MakeJudges stage c next
MakeFollows (Name group) c next = (named : Named) × IsNamed (quorum_of c.given) (said group.bricks (replied c (subject c.given.op))) named × (next ≡ name_next group named)
MakeFollows (Votes stage) c next = BallotGoes stage c next
MakeFollows (Makes group) c next = IfQuorum c group MakePhase (λ next. next ≡ Go (Enters group)) next
MakeFollows (Enters group) c next = IfQuorum c group EntryPhase (λ next. next ≡ Go (Votes (Post group))) next
MakeFollows (Made group) c next = next ≡ Say (Child (child_of c.given))

-- An exclusive lock at each brick, the Queries, the name of the good group; the PreOps, the child's record, the name, the
-- PostOps and the Clears, each at those that did all before; and where every brick did, the child's record is whole.
abbrev pub make_table : Table MakeStage
make_table = record {
  starts = λ given next. IsMake given.op × (next ≡ first_stage given.child);
  asks = make_asks;
  again = λ stage. false;
  follows = MakeFollows;
}

abbrev pub InVotes : Ballot → Account → Asks → Type 0
InVotes (Pre group) c f = InBallot (Pre group) c f × IsUnmade group c
InVotes (Post group) c f = InBallot (Post group) c f × IsUnmade group c × IsMade group c
InVotes (Clear group) c f = InBallot (Clear group) c f × IsUnmade group c × IsMade group c

abbrev pub InMake : MakeStage → Account → Asks → Type 0
InMake (Opens stage) c f = InOpening Exclusive stage c f
InMake (Name group) c f = InNaming group (name_in c.given.op) c f
InMake (Votes stage) c f = InVotes stage c f
InMake (Makes group) c f = InChange group (make_request c.given) (λ grant. []) c f
InMake (Enters group) c f = InChange group (entry_request c.given) (λ grant. make_request c.given grant 0 ∷ []) c f × IsMade group c
InMake (Made group) c f = InLast group (made_request c.given) c f

abbrev pub DuringMake : MakeStage → Account → Asks → Type 0
DuringMake stage c f = IsMake c.given.op × InMake stage c f
