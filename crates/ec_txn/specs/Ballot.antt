-- The ballot of a change: a PreOp at the bricks of the group and its sinks, then the changes, a PostOp at those that did
-- all of it, and a Clear where every brick of the volume did.
use Rattle.std.specs.Prelude.{◌≡◌, ◌⊎◌, ℕ, ◌+◌, ◌^◌, ◌<◌, ◌≤◌, Bool, true, false, cond, nat_le, nat_lt, ◌&&◌, is_some, Option, Some, None}
use Rattle.ec_answers.specs.declared.grouped.Group.{Group}
use Rattle.ec_attr.specs.Bricks.{count_below, is_in}
use Rattle.ec_attr.specs.Marks.{marked}
use Rattle.ec_attr.specs.declared.attr.Attr.{Attr}
use Rattle.ec_attr.specs.declared.head.Head.{Head}
use Rattle.ec_conduct.specs.Account.{Account, Lock, Place, at}
use Rattle.ec_conduct.specs.Ballots.{DidWhole, attr_after, size_after}
use Rattle.ec_conduct.specs.Children.{IsPosted}
use Rattle.ec_conduct.specs.Done.{did, failed_none, is_any, is_post_to, is_pre, is_unmark, last_done, tried}
use Rattle.ec_conduct.specs.Given.{bricks_of, quorum_of}
use Rattle.ec_conduct.specs.Group.{is_sink}
use Rattle.ec_conduct.specs.Standing.{group_of, heads_at, is_grouped}
use Rattle.ec_wire.specs.declared.answer.Answer.{Answer}
use Rattle.ec_wire.specs.declared.answer.Answer.TheVariants.{NoQuorum}
use Rattle.ec_wire.specs.declared.phase.Phase.{Phase}
use Rattle.ec_wire.specs.declared.phase.Phase.TheVariants.{Pre as PrePhase, Post as PostPhase, Clear as ClearPhase}
use Rattle.ec_wire.specs.declared.request.Request.{Request}
use Rattle.ec_wire.specs.declared.request.Request.TheVariants.{Clear as ClearOf, PostOp, PreOp}
use Rattle.ec_txn.specs.declared.ballot.Ballot.{Ballot}
use Rattle.ec_txn.specs.declared.ballot.Ballot.TheVariants.{Pre, Post, Clear}
use Rattle.ec_txn.specs.declared.known.Held.{Held}
use Rattle.ec_txn.specs.declared.known.Place.{Place as KnownPlace}
use Rattle.ec_txn.specs.declared.stage.Next.{Next}
use Rattle.ec_txn.specs.declared.stage.Next.TheVariants.{Go, Say}
use Rattle.ec_txn.specs.Rounds.{Asks, subject}

abbrev pub ballot_phase : Ballot → Phase
ballot_phase (Pre group) = PrePhase
ballot_phase (Post group) = PostPhase
ballot_phase (Clear group) = ClearPhase

abbrev pub group_in : Ballot → Group
group_in (Pre group) = group
group_in (Post group) = group
group_in (Clear group) = group

-- one more than the greatest dirty number of the group
abbrev pub next_dirty : Head → ℕ
next_dirty head = head.dirty.content + 1

-- The version after the commit is below 2^61. A size past 2^40, which no brick answers, is past the limit too.
abbrev pub is_within : Head → Bool
is_within head = nat_lt (head.version.content + next_dirty head) (2 ^ 61) && nat_le head.size (2 ^ 40)

-- the group's version at a brick of it, and marked at a sink
abbrev pub version_at : Group → ℕ → Option ℕ
version_at group x = cond (is_in group.bricks x) (Some group.head.version.content) (cond (is_in group.sinks x) (Some (marked group.head.version.content)) None)

abbrev pub grant_of : Option Lock → Option ℕ
grant_of None = None
grant_of (Some lock) = cond lock.granted (Some lock.number) None

-- the grant of a brick that did all that it was sent in this window
abbrev pub serving : Place → Option ℕ
serving p = cond (failed_none is_any p.window) (grant_of p.inode) None

-- the same by what is known of a brick
abbrev pub grant_by : Option Held → Option ℕ
grant_by None = None
grant_by (Some lock) = cond lock.granted (Some lock.number) None

abbrev pub serving_by : KnownPlace → Option ℕ
serving_by p = cond p.failed None (grant_by p.lock)

abbrev pub ballot_request : ℕ → ℕ → Option Attr → Ballot → ℕ → ℕ → Request
ballot_request g size attr (Pre group) grant version = PreOp (record { 0 = g }) grant version (next_dirty group.head)
ballot_request g size attr (Post group) grant version = PostOp (record { 0 = g }) grant version (version + next_dirty group.head) size attr
ballot_request g size attr (Clear group) grant version = ClearOf (record { 0 = g }) grant (version + next_dirty group.head)

abbrev pub under : Option ℕ → Option ℕ → (ℕ → ℕ → Request) → Option Request
under None version f = None
under (Some grant) None f = None
under (Some grant) (Some version) f = Some (f grant version)

-- the bricks of the group and the sinks that serve are asked, each under its grant and by its version
abbrev pub to_members : Group → (ℕ → ℕ → Request) → Account → Asks
to_members group f c x = cond (is_within group.head && nat_lt x (bricks_of c.given)) (under (serving (at c (subject c.given.op) x)) (version_at group x) f) None

abbrev pub ballot_asks : Ballot → Account → Asks
ballot_asks stage c = to_members (group_in stage) (ballot_request (subject c.given.op) (size_after c.given.op (group_in stage).head.size) (attr_after c.given.op) stage) c

-- the same by what is known of a brick of n
abbrev pub ballot_asks_by : Ballot → ℕ → ℕ → ℕ → Option Attr → KnownPlace → ℕ → Option Request
ballot_asks_by stage n g size attr p x = cond (is_within (group_in stage).head && nat_lt x n) (under (serving_by p) (version_at (group_in stage) x) (ballot_request g size attr stage)) None

-- how many bricks of the group serve
abbrev pub count_serving : Account → Group → ℕ
count_serving c group = count_below (bricks_of c.given) (λ x. is_in group.bricks x && is_some (serving (at c (subject c.given.op) x)))

-- Where fewer than a quorum of the group did the phase the call ends; else it goes on.
abbrev pub IfQuorum : {P : Type 0} → Account → Group → Phase → (Next P → Type 0) → Next P → Type 0
IfQuorum {P} c group phase goes_on next =
    ((count_serving c group < quorum_of c.given) × (next ≡ Say (NoQuorum phase (count_serving c group))))
    ⊎ ((quorum_of c.given ≤ count_serving c group) × goes_on next)

-- What follows: after the PreOps the changes of the call; after the PostOps the Clears where all bricks did them, unmarked;
-- then the answer.
abbrev pub BallotFollows : {P : Type 0} → (Ballot → P) → (Group → Account → Next P → Type 0) → (Account → Group → Answer) → Ballot → Account → Next P → Type 0
BallotFollows {P} into changes says (Pre group) c next = IfQuorum c group PrePhase (changes group c) next
BallotFollows {P} into changes says (Post group) c next = IfQuorum c group PostPhase (λ next. next ≡ cond (nat_le (bricks_of c.given) (count_serving c group)) (Go (into (Clear group))) (Say (says c group))) next
BallotFollows {P} into changes says (Clear group) c next = next ≡ Say (says c group)

-- What a group that the replies come to is in the account: its head, its bricks and its sinks.
pub record IsGroupAt (c : Account) (g : ℕ) (group : Group) : Type 0 where
  pub head : group_of c g ≡ Some group.head
  pub bricks : (x : ℕ) → is_grouped c g x ≡ is_in group.bricks x
  pub sinks : (x : ℕ) → is_sink (bricks_of c.given) (quorum_of c.given) (heads_at c g) x ≡ is_in group.sinks x

-- of each brick of the group and each sink that serves, under its grant and by its version
abbrev pub Members : Group → Account → (ℕ → ℕ → ℕ → Type 0) → Type 0
Members group c P = (x grant version : ℕ) → x < bricks_of c.given → serving (at c (subject c.given.op) x) ≡ Some grant → version_at group x ≡ Some version → P x grant version

-- the brick did the PreOp and the changes that the commit is made of
pub record IsPrepared (c : Account) (g : ℕ) (group : Group) (x grant version : ℕ) : Type 0 where
  pub pre : last_done is_pre (at c g x).window ≡ Some (PreOp (record { 0 = g }) grant version (next_dirty group.head))
  pub whole : DidWhole c g group.head x

-- an account at which a stage of the ballot begins
abbrev pub AtBallot : Ballot → Account → Type 0
AtBallot (Pre group) c = ((c.on (subject c.given.op)).dirty ≡ None) × Members group c (λ x grant version. (tried is_pre (at c (subject c.given.op) x).window ≡ false) × (did is_unmark (at c (subject c.given.op) x).window ≡ false))
AtBallot (Post group) c = Members group c (IsPrepared c (subject c.given.op) group) × (quorum_of c.given ≤ count_serving c group)
AtBallot (Clear group) c =
    IsPosted c (subject c.given.op) × ((x : ℕ) → x < bricks_of c.given → (is_in group.bricks x ≡ true) × (did (is_post_to (group.head.version.content + next_dirty group.head)) (at c (subject c.given.op) x).window ≡ true))

pub record InBallot (stage : Ballot) (c : Account) (f : Asks) : Type 0 where
  pub within : is_within (group_in stage).head ≡ true
  pub size : size_after c.given.op (group_in stage).head.size ≤ 2 ^ 40
  pub group : IsGroupAt c (subject c.given.op) (group_in stage)
  pub at_stage : AtBallot stage c
  pub asks : (x : ℕ) → f x ≡ ballot_asks stage c x
