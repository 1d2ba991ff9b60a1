-- The deeds that an entry of a log is, seen from one gfid: its acts on heads and grants, and what is done to pieces.
use Rattle.std.specs.Prelude.{ℕ, Bool, true, false, not, cond, ◌==◌, ◌&&◌, ◌||◌, nat_lt, Option, Some, None, List, [], ◌∷◌, ◌++◌, map}
use Rattle.ec_attr.specs.declared.kind.Domain.TheVariants.{Inode}
use Rattle.ec_attr.specs.declared.kind.LockKind.TheVariants.{Exclusive}
use Rattle.ec_locks.specs.Table.{holds}
use Rattle.ec_store.specs.Records.{Record}
use Rattle.ec_brick.specs.Replies.{Says, Is, ShowsChunks, ShowsNames}
use Rattle.ec_brick.specs.State.{State as Brick}
use Rattle.ec_brick.specs.Step.{Out}
use Rattle.ec_history.specs.Run.{Net, after, out_of, torn_out}
use Rattle.ec_history.specs.Story.{is_done}
use Rattle.ec_wire.specs.declared.entry.Entry.{Entry}
use Rattle.ec_wire.specs.declared.entry.Entry.TheVariants.{Sent, Executed, Torn}
use Rattle.ec_wire.specs.declared.message.Body.{Body}
use Rattle.ec_wire.specs.declared.message.Body.TheVariants.{ToBrick, ToClient}
use Rattle.ec_wire.specs.declared.message.Message.{Message}
use Rattle.ec_wire.specs.declared.reply.Reply.TheVariants.{Child}
use Rattle.ec_wire.specs.declared.request.Request.{Request}
use Rattle.ec_wire.specs.declared.request.Request.TheVariants.{PostOp, WriteChunks, SetLength, NamesPut}
use Rattle.ec_law_base.specs.State.{State}
use Rattle.ec_law_ballots.specs.Act.{Act}
use Rattle.ec_law_ballots.specs.Act.Act.{See, Choose, Choose_kept, Post, Sink_post, Mark, Unmark, Make}
use Rattle.ec_law_pieces.specs.Deed.{Deed, after as after_deeds}
use Rattle.ec_law_pieces.specs.Deed.Deed.{Do, Look, Take, Take_kept, Read, Intend, Write, Tear, Copy, Spoil, Commit, Follow, Begin, Finish, Create}
use Rattle.ec_law_pieces.specs.File.{File}
use Rattle.ec_law_net.specs.Turns.{View, acts, seen_after, turn_of}
use Rattle.ec_law_data.specs.Reading.{Plans, Reading}

-- ## The acts of deeds

-- what a deed is on heads and grants
abbrev pub core_of : {P V C U S : Type 0} → Deed P V C U S → List Act
core_of (Do e) = e ∷ []
core_of (Look a b) = See a b ∷ []
core_of (Take a p shape) = Choose a p ∷ []
core_of (Take_kept x a p) = Choose_kept x a p ∷ []
core_of (Read a b places) = []
core_of (Intend a plan) = []
core_of (Write a b places) = []
core_of (Tear a b places pieces) = []
core_of (Copy a b places pieces) = []
core_of (Spoil b places pieces) = []
core_of (Commit a b) = Post a b ∷ []
core_of (Follow a b) = Sink_post a b ∷ []
core_of (Begin a b) = Mark a b ∷ []
core_of (Finish a b) = Unmark a b ∷ []
core_of (Create b shape) = Make b ∷ []

abbrev pub cores : {P V C U S : Type 0} → List (Deed P V C U S) → List Act
cores [] = []
cores (d ∷ ds) = core_of d ++ cores ds

-- a request was answered with chunks or names
abbrev pub shows : Says → Bool
shows (Is (Child child)) = true
shows (ShowsChunks piece first count) = true
shows (ShowsNames after names) = true
shows says = false

-- the turn has a ballot, on the version at which the brick has an unmarked record
abbrev pub is_at_base : State → ℕ → ℕ → Bool
is_at_base s a b = s.present b && not (s.marked b) && (s.version b == (s.ballot a).base) && nat_lt 0 (s.ballot a).number

-- a PostOp on the gfid
abbrev pub is_post_on : ℕ → Request → Bool
is_post_on g (PostOp x n at version size attr) = x.0 == g
is_post_on g q = false

-- a request whose work the store may leave undone in part
abbrev pub is_partial : Request → Bool
is_partial (WriteChunks x n first chunks) = true
is_partial q = false

-- the request goes under the grant of the content, where it might go under that of a heal
abbrev pub is_granted : Brick → Request → Bool
is_granted s (WriteChunks x n first chunks) = holds s.asks n x Inode Exclusive
is_granted s (SetLength x n keep count) = holds s.asks n x Inode Exclusive
is_granted s (NamesPut x n start upto list) = false
is_granted s q = true

module _ {P V C U S : Type 0} (R : Reading P V C U S) (plans : Plans P V U S) (n k g : ℕ) where
  -- an act on heads and grants as a deed
  abbrev pub dressed : Act → Deed P V C U S
  dressed (See a b) = Look a b
  dressed (Choose a p) = Take a p (plans.took a)
  dressed (Choose_kept x a p) = Take_kept x a p
  dressed (Post a b) = Commit a b
  dressed (Sink_post a b) = Follow a b
  dressed (Mark a b) = Begin a b
  dressed (Unmark a b) = Finish a b
  dressed (Make b) = Create b R.new
  dressed e = Do e

  -- the pieces that a brick has
  abbrev pub pieces_of : Option Record → P → C
  pieces_of None p = R.form.code R.form.zero 0
  pieces_of (Some r) p = R.held r p

  -- A turn plans its commit as it sends its first data request, or its PostOp where it has none.
  abbrev pub deeds_sent : File P V C U S → ℕ → Body → List (Deed P V C U S)
  deeds_sent f a (ToBrick q) = cond ((R.is_write g q || is_post_on g q) && not (f.planned a)) (Intend a (plans.plan a) ∷ []) []
  deeds_sent f a (ToClient re reply) = []

  -- A data request that was done, at a brick that was `old` before and is `now`.
  abbrev pub deeds_done : ℕ → ℕ → Request → Brick → Brick → List (Deed P V C U S)
  deeds_done a b q old now = cond (is_granted old q) (Write a b (R.writes g q)) (Spoil b (R.writes g q) (pieces_of (now.records g))) ∷ []

  -- one of which a part may stand
  abbrev pub deeds_partly : ℕ → ℕ → Request → Brick → Brick → List (Deed P V C U S)
  deeds_partly a b q old now = cond (is_granted old q) (Tear a b (R.writes g q) (pieces_of (now.records g))) (Spoil b (R.writes g q) (pieces_of (now.records g))) ∷ []

  -- a request that the brick answered
  abbrev pub deeds_answered : File P V C U S → ℕ → ℕ → Request → Brick → Out → List (Deed P V C U S)
  deeds_answered f a b q old out =
      cond (is_done out.says)
      (cond (R.is_write g q) (deeds_done a b q old out.brick) [])
      (cond (shows out.says && R.is_read g q && is_at_base f.heads a b) (Read a b (R.reads g q) ∷ []) [])

  -- one in which the store failed: in the work, where a version was read
  abbrev pub deeds_failed : ℕ → ℕ → Request → Option ℕ → Brick → Brick → List (Deed P V C U S)
  deeds_failed a b q None old now = []
  deeds_failed a b q (Some version) old now = cond (R.is_write g q && is_partial q) (deeds_partly a b q old now) []

  abbrev pub deeds_of_request : Net → View → File P V C U S → Message → Body → Option ℕ → Bool → List (Deed P V C U S)
  deeds_of_request m v f msg (ToBrick q) version true = deeds_failed (v.of msg.no) msg.brick q version (m.brick msg.brick) (out_of m msg q version true).brick
  deeds_of_request m v f msg (ToBrick q) version false = deeds_answered f (v.of msg.no) msg.brick q (m.brick msg.brick) (out_of m msg q version false)
  deeds_of_request m v f msg (ToClient re reply) version failed = []

  abbrev pub deeds_executed : Net → View → File P V C U S → Option Message → Option ℕ → Bool → List (Deed P V C U S)
  deeds_executed m v f None version failed = []
  deeds_executed m v f (Some msg) version failed = deeds_of_request m v f msg msg.body version failed

  -- a write that is cut short
  abbrev pub deeds_of_torn : Net → View → Message → Body → ℕ → Option ℕ → List (Deed P V C U S)
  deeds_of_torn m v msg (ToBrick q) count version = deeds_failed (v.of msg.no) msg.brick q version (m.brick msg.brick) (torn_out m msg q count version).brick
  deeds_of_torn m v msg (ToClient re reply) count version = []

  abbrev pub deeds_torn : Net → View → Option Message → ℕ → Option ℕ → List (Deed P V C U S)
  deeds_torn m v None count version = []
  deeds_torn m v (Some msg) count version = deeds_of_torn m v msg msg.body count version

  -- what an entry does to pieces and plans
  abbrev pub data_deeds : Net → View → File P V C U S → Entry → List (Deed P V C U S)
  data_deeds m v f (Sent msg) = deeds_sent f (turn_of g v msg) msg.body
  data_deeds m v f (Executed i version failed) = deeds_executed m v f (m.said i) version failed
  data_deeds m v f (Torn i count version) = deeds_torn m v (m.said i) count version
  data_deeds m v f e = []

  -- the deeds that an entry is, in their order
  abbrev pub deeds : Net → View → File P V C U S → Entry → List (Deed P V C U S)
  deeds m v f e = data_deeds m v f e ++ map dressed (acts g m v e)

  abbrev pub file_after : Net → View → File P V C U S → Entry → File P V C U S
  file_after m v f e = after_deeds R.form n k (deeds m v f e) f

  -- the file after all of these entries, and the deeds that they are, the first one first
  abbrev pub file : List Entry → Net → View → File P V C U S → File P V C U S
  file [] m v f = f
  file (e ∷ es) m v f = file es (after m e) (seen_after g m v e) (file_after m v f e)

  abbrev pub all_deeds : List Entry → Net → View → File P V C U S → List (Deed P V C U S)
  all_deeds [] m v f = []
  all_deeds (e ∷ es) m v f = deeds m v f e ++ all_deeds es (after m e) (seen_after g m v e) (file_after m v f e)
