-- What holds of the account at which a stage of a write begins.
use Rattle.std.specs.Prelude.{◌≡◌, ◌⊎◌, ℕ, ◌+◌, ◌-◌, ◌<◌, ◌≤◌, ◌^◌, true, false, ◌&&◌, Some, List, [], length}
use Rattle.ec_answers.specs.declared.grouped.Group.{Group}
use Rattle.ec_attr.specs.Bricks.{is_in}
use Rattle.ec_attr.specs.declared.kind.LockKind.TheVariants.{Exclusive}
use Rattle.ec_conduct.specs.Account.{Account, Exchange, at}
use Rattle.ec_conduct.specs.Data.{IsOld}
use Rattle.ec_conduct.specs.Done.{changes, did, failed_none, is_change, is_pre, is_write, last_done, since, tried}
use Rattle.ec_conduct.specs.Given.{Given, bricks_of, quorum_of}
use Rattle.ec_conduct.specs.Phases.{is_read_from}
use Rattle.ec_txn.specs.declared.ballot.Ballot.TheVariants.{Pre, Post, Clear}
use Rattle.ec_txn.specs.declared.ctx.Ctx.{Ctx}
use Rattle.ec_txn.specs.declared.reading.Reading.{Reading}
use Rattle.ec_txn.specs.Ballot.{InBallot, IsGroupAt, is_within, next_dirty, serving, version_at}
use Rattle.ec_txn.specs.Opening.{InOpening}
use Rattle.ec_txn.specs.ReadPhase.{IsReading}
use Rattle.ec_txn.specs.Rounds.{Asks, subject}
use Rattle.ec_wire.specs.declared.op.Op.{Op}
use Rattle.ec_wire.specs.declared.request.Request.{Request}
use Rattle.ec_wire.specs.declared.request.Request.TheVariants.{PreOp}
use Rattle.ec_write.specs.declared.stage.WriteStage.{WriteStage}
use Rattle.ec_write.specs.declared.stage.WriteStage.TheVariants.{Opens, Votes, Reads, Writes}
use Rattle.ec_write.specs.Range.{count_stripes, data_of, first_stripe, off_of, reads_first, reads_last}
use Rattle.ec_write.specs.Stripes.{AreCoded, list_at}
use Rattle.ec_write.specs.Write.{IsWrite, reading_of, write_request}

-- a write within the file sizes
abbrev pub IsSized : Op → Type 0
IsSized op = IsWrite op × (off_of op + length (data_of op) ≤ 2 ^ 40)

-- no brick was sent chunks, and none was asked for the chunk of stripe `from` or a later one
abbrev pub IsUnwritten : ℕ → Account → Type 0
IsUnwritten g c = (x : ℕ) → tried is_write (at c g x).window ≡ false

abbrev pub IsUnread : ℕ → ℕ → Account → Type 0
IsUnread g from c = (x s : ℕ) → from ≤ s → tried (is_read_from s) (at c g x).window ≡ false

-- a brick did the PreOp and, with every one done, these changes since, the last first
pub record HasChanged (g : ℕ) (group : Group) (grant version : ℕ) (rs : List Request) (es : List Exchange) : Type 0 where
  pub pre : last_done is_pre es ≡ Some (PreOp (record { 0 = g }) grant version (next_dirty group.head))
  pub done : (did is_pre es && failed_none is_change (since is_pre es)) ≡ true
  pub sent : changes (since is_pre es) ≡ rs

-- it did the PreOp, and was sent no change since
abbrev pub IsReadied : ℕ → Group → ℕ → ℕ → List Exchange → Type 0
IsReadied g group grant version es = HasChanged g group grant version [] es

-- of a call begun with v, between the PreOps and the PostOps, as long as nothing is written
pub record IsBetween (v : Given) (c : Account) (group : Group) : Type 0 where
  pub within : is_within group.head ≡ true
  pub group_is : IsGroupAt c (subject v.op) group
  pub readied : (x grant version : ℕ) → x < bricks_of v → serving (at c (subject v.op) x) ≡ Some grant → version_at group x ≡ Some version → IsReadied (subject v.op) group grant version (at c (subject v.op) x).window
  pub unwritten : IsUnwritten (subject v.op) c

abbrev pub first_at : Given → ℕ
first_at v = first_stripe (quorum_of v) (off_of v.op)

abbrev pub count_at : Given → ℕ
count_at v = count_stripes (quorum_of v) (off_of v.op) (length (data_of v.op))

abbrev pub last_at : Given → ℕ
last_at v = first_at v + (count_at v - 1)

-- the first stripe as it was, where it has to be known, and the last one
abbrev pub KnowsFirst : Given → Account → Group → List (List ℕ) → Type 0
KnowsFirst v c group front = reads_first (quorum_of v) (off_of v.op) (length (data_of v.op)) group.head.size ≡ true → IsOld c (subject v.op) (first_at v) group.head front

abbrev pub KnowsLast : Given → Account → Group → List (List ℕ) → Type 0
KnowsLast v c group back = reads_last (quorum_of v) (off_of v.op) (length (data_of v.op)) group.head.size ≡ true → IsOld c (subject v.op) (last_at v) group.head back

-- the first stripe is read, or the last one after it
abbrev pub IsPlaced : Given → Account → Group → List (List ℕ) → ℕ → Type 0
IsPlaced v c group front s = (s ≡ first_at v) ⊎ ((s ≡ last_at v) × (1 < count_at v) × KnowsFirst v c group front)

-- one stripe is read, from bricks of the group that did all so far
pub record IsReadingOne (x : Ctx) (v : Given) (c : Account) (group : Group) (reading : Reading) (f : Asks) : Type 0 where
  pub between : IsBetween v c group
  pub reading_is : reading ≡ reading_of x (subject v.op) group reading.first
  pub unread : IsUnread (subject v.op) reading.first c
  pub asks : IsReading (subject v.op) (bricks_of v) reading c f
  pub serves : (y : ℕ) (r : Request) → f y ≡ Some r → (is_in group.bricks y ≡ true) × (i : ℕ) × (serving (at c (subject v.op) y) ≡ Some i)

pub record IsReadingOf (x : Ctx) (v : Given) (c : Account) (group : Group) (reading : Reading) (front : List (List ℕ)) (f : Asks) : Type 0 where
  pub one : IsReadingOne x v c group reading f
  pub some : 0 < length (data_of v.op)
  pub placed : IsPlaced v c group front reading.first

-- each brick of the group and each sink that did all so far is asked for the change that q tells
pub record IsChanging (v : Given) (c : Account) (group : Group) (q : ℕ → ℕ → ℕ → Request) (f : Asks) : Type 0 where
  pub asks : (y : ℕ) (r : Request) → f y ≡ Some r → (y < bricks_of v) × (i version : ℕ) × (serving (at c (subject v.op) y) ≡ Some i) × (version_at group y ≡ Some version) × (r ≡ q y i version)
  pub asked : (y i version : ℕ) → y < bricks_of v → serving (at c (subject v.op) y) ≡ Some i → version_at group y ≡ Some version → f y ≡ Some (q y i version)

-- The chunks of the stripes that bytes from `off` on touch are written, as in a file of this size: what is past it becomes
-- zeros.
pub record IsWritingAt (v : Given) (c : Account) (group : Group) (off : ℕ) (bytes : List ℕ) (size : ℕ) (lists : List (List (List ℕ))) (f : Asks) : Type 0 where
  pub between : IsBetween v c group
  pub front : List (List ℕ)
  pub back : List (List ℕ)
  pub coded : AreCoded v.geometry off bytes size front back lists
  pub knows_first : reads_first (quorum_of v) off (length bytes) size ≡ true → IsOld c (subject v.op) (first_stripe (quorum_of v) off) group.head front
  pub knows_last : reads_last (quorum_of v) off (length bytes) size ≡ true → IsOld c (subject v.op) (first_stripe (quorum_of v) off + (count_stripes (quorum_of v) off (length bytes) - 1)) group.head back
  pub changing : IsChanging v c group (λ y. write_request (subject v.op) (first_stripe (quorum_of v) off) (list_at lists y)) f

abbrev pub IsWritingOf : Given → Account → Group → List (List (List ℕ)) → Asks → Type 0
IsWritingOf v c group lists f = (0 < length (data_of v.op)) × IsWritingAt v c group (off_of v.op) (data_of v.op) group.head.size lists f

-- As the PreOps go out, the call has bytes to write, and no data was asked for or sent.
abbrev pub IsFresh : Given → Account → Type 0
IsFresh v c = IsUnwritten (subject v.op) c × IsUnread (subject v.op) 0 c

abbrev pub InWrite : Ctx → WriteStage → Account → Asks → Type 0
InWrite x (Opens stage) c f = InOpening Exclusive stage c f × IsFresh c.given c
InWrite x (Votes (Pre group)) c f = InBallot (Pre group) c f × (0 < length (data_of c.given.op)) × IsFresh c.given c
InWrite x (Votes (Post group)) c f = InBallot (Post group) c f
InWrite x (Votes (Clear group)) c f = InBallot (Clear group) c f
InWrite x (Reads group reading front) c f = IsReadingOf x c.given c group reading front f
InWrite x (Writes group lists) c f = IsWritingOf c.given c group lists f

abbrev pub DuringWrite : Ctx → WriteStage → Account → Asks → Type 0
DuringWrite x stage c f = IsSized c.given.op × InWrite x stage c f
