-- The table of an unlink.
use Rattle.std.specs.Prelude.{◌≡◌, ◌<◌, false, true, ℕ, cond, nat_le, nat_lt, Option, Some, None, List, []}
use Rattle.ec_answers.specs.declared.grouped.Group.{Group}
use Rattle.ec_answers.specs.declared.grouped.Grouped.{Grouped}
use Rattle.ec_answers.specs.declared.grouped.Grouped.TheVariants.{Group as Found, Gone as NoRecord, Fewer}
use Rattle.ec_attr.specs.Bricks.{is_in}
use Rattle.ec_attr.specs.declared.gfid.Gfid.{Gfid}
use Rattle.ec_attr.specs.declared.kind.Kind.{Kind}
use Rattle.ec_attr.specs.declared.kind.Kind.TheVariants.{File, Dir}
use Rattle.ec_attr.specs.declared.kind.LockKind.TheVariants.{Exclusive}
use Rattle.ec_conduct.specs.Account.{Account, Lock, at}
use Rattle.ec_conduct.specs.Children.{IsFound, IsPosted}
use Rattle.ec_conduct.specs.Given.{Given, bricks_of, quorum_of}
use Rattle.ec_txn.specs.declared.ballot.Ballot.{Ballot}
use Rattle.ec_txn.specs.declared.ballot.Ballot.TheVariants.{Pre, Post, Clear}
use Rattle.ec_txn.specs.declared.known.Held.{Held}
use Rattle.ec_txn.specs.declared.opening.Opening.TheVariants.{Lock as Locking}
use Rattle.ec_txn.specs.declared.stage.Next.{Next}
use Rattle.ec_txn.specs.declared.stage.Next.TheVariants.{Go, Say}
use Rattle.ec_txn.specs.Ballot.{IfQuorum, InBallot, ballot_asks, ballot_phase, count_serving, is_within, to_members}
use Rattle.ec_txn.specs.Fetching.{asks_of, under}
use Rattle.ec_txn.specs.Opening.{InOpening, OpeningFollows, opening_asks, opening_phase}
use Rattle.ec_txn.specs.Replies.{replied}
use Rattle.ec_txn.specs.Rounds.{Asks, subject}
use Rattle.ec_txn.specs.Tables.{Table}
use Rattle.ec_wire.specs.declared.answer.Answer.TheVariants.{Gone, IsDir, Limit, NoName, NoQuorum, NoSuch, NotDir}
use Rattle.ec_wire.specs.declared.op.Op.{Op}
use Rattle.ec_wire.specs.declared.op.Op.TheVariants.{Unlink}
use Rattle.ec_wire.specs.declared.phase.Phase.{Phase}
use Rattle.ec_wire.specs.declared.phase.Phase.TheVariants.{Query as QueryPhase, Name as NamePhase, Pre as PrePhase, Entry as EntryPhase, Post as PostPhase, Unmake as UnmakePhase}
use Rattle.ec_wire.specs.declared.request.Request.{Request}
use Rattle.ec_wire.specs.declared.request.Request.TheVariants.{NameGet, NameSet, Unmake}
use Rattle.ec_entry.specs.declared.children.Children.{Children}
use Rattle.ec_entry.specs.declared.named.Named.{Named}
use Rattle.ec_entry.specs.declared.named.Named.TheVariants.{Alike, Fewer as FewerOf, Split as SplitOf}
use Rattle.ec_entry.specs.declared.unlink.UnlinkStage.{UnlinkStage}
use Rattle.ec_entry.specs.declared.unlink.UnlinkStage.TheVariants.{Opens, Name, Votes, Enters, Unmakes}
use Rattle.ec_entry.specs.Asked.{under_held}
use Rattle.ec_entry.specs.Changing.{InChange, InNaming, IsUnmade}
use Rattle.ec_entry.specs.Children.{AreNamed, IsFirst, child_by, count_dirs}
use Rattle.ec_entry.specs.Named.{IsNamed, Value, said, value_in}

abbrev pub unlink_phase : UnlinkStage → Phase
unlink_phase (Opens stage) = opening_phase stage
unlink_phase (Name group) = NamePhase
unlink_phase (Votes stage children) = ballot_phase stage
unlink_phase (Enters group children) = EntryPhase
unlink_phase (Unmakes child children) = UnmakePhase

abbrev pub IsUnlink : Op → Type 0
IsUnlink (Unlink g name) = Unit {0}
IsUnlink op = ⊥

-- the name that is removed
abbrev pub name_in : Op → List ℕ
name_in (Unlink g name) = name
name_in op = []

-- the name is set to none, and a child's record removed, under the directory's grant
abbrev pub entry_request : Given → ℕ → ℕ → Request
entry_request given grant version = NameSet (record { 0 = subject given.op }) grant (name_in given.op) None

abbrev pub unmake_request : Given → Gfid → ℕ → Request
unmake_request given child grant = Unmake (record { 0 = subject given.op }) grant child

abbrev pub of_kind : Kind → Group → Next UnlinkStage
of_kind File group = Say NotDir
of_kind Dir group = Go (Name group)

-- the good group of a directory is asked for the name
abbrev pub query_next : Grouped → Next UnlinkStage
query_next (Found group) = of_kind group.head.kind group
query_next (NoRecord bricks) = Say NoSuch
query_next (Fewer most) = Say (NoQuorum QueryPhase most)

abbrev pub UnlinkJudges : Account → Grouped → Next UnlinkStage → Type 0
UnlinkJudges c grouped next = next ≡ query_next grouped

-- the name is removed, where the version after the commit is within the limit
abbrev pub removes_name : Group → Children → Next UnlinkStage
removes_name group children = cond (is_within group.head) (Go (Votes (Pre group) children)) (Say (Limit group.head.version.content))

abbrev pub there_or_not : Group → Children → Value → Next UnlinkStage
there_or_not group children None = Say NoName
there_or_not group children (Some child) = removes_name group children

-- Of at least k replies one that names a directory refuses, whatever the others are. A name without k replies alike is
-- removed too.
abbrev pub name_next : Group → Children → ℕ → Named → Next UnlinkStage
name_next group children dirs (FewerOf most) = Say (NoQuorum NamePhase most)
name_next group children dirs (Alike value) = cond (nat_lt 0 dirs) (Say IsDir) (there_or_not group children value)
name_next group children dirs (SplitOf a b) = cond (nat_lt 0 dirs) (Say IsDir) (removes_name group children)

-- the next child's record is removed; where there is none the call ends
abbrev pub removes_child : Children → Option Gfid → Next UnlinkStage
removes_child children None = Say Gone
removes_child children (Some child) = Go (Unmakes child children)

abbrev pub FirstRemoved : Children → Option Gfid → Next UnlinkStage → Type 0
FirstRemoved children past next = (first : Option Gfid) × IsFirst 31 (child_by children) past first × (next ≡ removes_child children first)

-- all bricks that granted the lock are asked
abbrev pub to_locked : (ℕ → Request) → Account → Asks
to_locked q c x = cond (nat_lt x (bricks_of c.given)) (under (at c (subject c.given.op) x).inode q) None

-- the same by what is known of the lock at a brick of n
abbrev pub asked_unmake : ℕ → ℕ → Gfid → Option Held → ℕ → Option Request
asked_unmake n g child lock x = cond (nat_lt x n) (under_held lock (λ grant. Unmake (record { 0 = g }) grant child)) None

abbrev pub unlink_asks : UnlinkStage → Account → Asks
unlink_asks (Opens stage) c = opening_asks Exclusive stage c
unlink_asks (Name group) c = asks_of group.bricks (λ grant. NameGet (record { 0 = subject c.given.op }) grant (name_in c.given.op)) c
unlink_asks (Votes stage children) c = ballot_asks stage c
unlink_asks (Enters group children) c = to_members group (entry_request c.given) c
unlink_asks (Unmakes child children) c = to_locked (unmake_request c.given child) c

-- After the PostOps come the Clears where all bricks did them, unmarked, and then, whatever came of those, the children.
abbrev pub BallotGoes : Ballot → Children → Account → Next UnlinkStage → Type 0
BallotGoes (Pre group) children c next = IfQuorum c group PrePhase (λ next. next ≡ Go (Enters group children)) next
BallotGoes (Post group) children c next = IfQuorum c group PostPhase (λ next. (first : Option Gfid) × IsFirst 31 (child_by children) None first × (next ≡ cond (nat_le (bricks_of c.given) (count_serving c group)) (Go (Votes (Clear group) children)) (removes_child children first))) next
BallotGoes (Clear group) children c next = FirstRemoved children None next

abbrev pub NameFollows : Group → ℕ → (ℕ → Option Value) → Next UnlinkStage → Type 0
NameFollows group k values next = (named : Named) × (children : Children) × IsNamed k values named × AreNamed children values × (next ≡ name_next group children (count_dirs values) named)

abbrev pub UnlinkFollows : UnlinkStage → Account → Next UnlinkStage → Type 0
UnlinkFollows (Opens stage) c next = OpeningFollows Opens UnlinkJudges stage c next
UnlinkFollows (Name group) c next = NameFollows group (quorum_of c.given) (said group.bricks (replied c (subject c.given.op))) next
UnlinkFollows (Votes stage children) c next = BallotGoes stage children c next
UnlinkFollows (Enters group children) c next = IfQuorum c group EntryPhase (λ next. next ≡ Go (Votes (Post group) children)) next
UnlinkFollows (Unmakes child children) c next = FirstRemoved children (Some child) next

-- An exclusive lock at each brick, the Queries, the name of the good group; the PreOps, the name set to none, the PostOps
-- and the Clears, each at those that did all before; and at all that granted the lock the records of the children that the
-- replies named, rising, a round each.
abbrev pub unlink_table : Table UnlinkStage
unlink_table = record {
  starts = λ given next. IsUnlink given.op × (next ≡ Go (Opens (Locking 0)));
  asks = unlink_asks;
  again = λ stage. false;
  follows = UnlinkFollows;
}

-- each child was named by a brick
abbrev pub AreFound : Children → Account → Type 0
AreFound children c = (x : ℕ) (child : Gfid) → child_by children x ≡ Some child → IsFound c (subject c.given.op) child.0

-- no brick of the group has replied anything of the name yet
abbrev pub AreSilent : Group → Account → Type 0
AreSilent group c = (x : ℕ) → is_in group.bricks x ≡ true → value_in (replied c (subject c.given.op) x) ≡ None

-- After the commit bricks are asked under their locks to remove the record of a child that a brick named.
pub record InRemoval (child : Gfid) (children : Children) (c : Account) (f : Asks) : Type 0 where
  pub posted : IsPosted c (subject c.given.op)
  pub found : AreFound children c
  pub one : (x : ℕ) × (child_by children x ≡ Some child)
  pub asks : (x : ℕ) (r : Request) → f x ≡ Some r → (x < bricks_of c.given) × (lock : Lock) × ((at c (subject c.given.op) x).inode ≡ Some lock) × (lock.granted ≡ true) × (r ≡ unmake_request c.given child lock.number)

abbrev pub InVotes : Ballot → Account → Asks → Type 0
InVotes (Pre group) c f = InBallot (Pre group) c f × IsUnmade group c
InVotes (Post group) c f = InBallot (Post group) c f
InVotes (Clear group) c f = InBallot (Clear group) c f

abbrev pub InUnlink : UnlinkStage → Account → Asks → Type 0
InUnlink (Opens stage) c f = InOpening Exclusive stage c f
InUnlink (Name group) c f = InNaming group (name_in c.given.op) c f × AreSilent group c
InUnlink (Votes stage children) c f = InVotes stage c f × AreFound children c
InUnlink (Enters group children) c f = InChange group (entry_request c.given) (λ grant. []) c f × AreFound children c
InUnlink (Unmakes child children) c f = InRemoval child children c f

abbrev pub DuringUnlink : UnlinkStage → Account → Asks → Type 0
DuringUnlink stage c f = IsUnlink c.given.op × InUnlink stage c f
