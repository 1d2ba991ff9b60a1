-- A log seen from one gfid: which acts of the bricks and of the turns each entry is, and the machine of versions that
-- they step, beside the net of the log.
use Rattle.std.specs.Prelude.{ℕ, ◌+◌, ◌^◌, Bool, true, false, not, cond, ◌==◌, ◌&&◌, Option, Some, None, unwrap_or, is_some, List, [], ◌∷◌, ◌++◌}
use Rattle.ec_attr.specs.Marks.{is_marked, stripped}
use Rattle.ec_attr.specs.declared.kind.Domain.{Domain}
use Rattle.ec_attr.specs.declared.kind.Domain.TheVariants.{Inode, Heal}
use Rattle.ec_locks.specs.Table.{free, is_exclusive, same_domain}
use Rattle.ec_locks.specs.declared.ask.Ask.{Ask as Asking}
use Rattle.ec_store.specs.Put.{put}
use Rattle.ec_store.specs.Records.{Records}
use Rattle.ec_wire.specs.declared.entry.Entry.{Entry}
use Rattle.ec_wire.specs.declared.entry.Entry.TheVariants.{Called, Sent, Executed, Stopped, Cut, Torn, Replaced}
use Rattle.ec_wire.specs.declared.message.Body.{Body}
use Rattle.ec_wire.specs.declared.message.Body.TheVariants.{ToBrick, ToClient}
use Rattle.ec_wire.specs.declared.message.Message.{Message}
use Rattle.ec_wire.specs.declared.op.Op.{Op}
use Rattle.ec_wire.specs.declared.op.Op.TheVariants.{Create, Mkdir}
use Rattle.ec_wire.specs.declared.reply.Reply.TheVariants.{Head, NoInode}
use Rattle.ec_wire.specs.declared.request.Request.{Request}
use Rattle.ec_wire.specs.declared.request.Request.TheVariants.{Ask, Query, PreOp, PostOp, Clear, Make, Made, Unmake, Mark, Unmark}
use Rattle.ec_brick.specs.Replies.{Says, Is}
use Rattle.ec_brick.specs.Step.{cut_off}
use Rattle.ec_conduct.specs.Done.{or_else}
use Rattle.ec_history.specs.Run.{Net, after, call_of, is_number, out_of, wiped}
use Rattle.ec_history.specs.Story.{is_done}
use Rattle.ec_law_base.specs.State.{State}
use Rattle.ec_law_ballots.specs.Act.{Act, after as after_acts}
use Rattle.ec_law_ballots.specs.Act.Act.{Grant, Free, Moment, See, Choose, Pre, Sink_pre, Post, Sink_post, Clear as Clears, Heal_grant, Heal_free, Mark as Marks, Unmark as Unmarks, Maker_grant, Maker_free, Make as Makes, Made as Mades, Unmake as Unmakes, Stop, Replace}

-- the call that makes the gfid, and the directory in which it makes it
pub record Maker : Type 0 where
  pub call : ℕ
  pub dir : ℕ

-- `core` is the machine of versions. `turn` is, by call, the turn of its present window on the gfid, and `of` by message
-- the turn in which its call sent it. `next_gfid` is the gfid that the next create or mkdir takes.
pub record View : Type 0 where
  pub core : State
  pub turn : ℕ → Option ℕ
  pub of : ℕ → ℕ
  pub maker : Option Maker
  pub next_gfid : ℕ

-- A turn is numbered by the ask that begins it, above every version.
abbrev pub turn_from : ℕ → ℕ
turn_from i = 2 ^ 61 + i

-- ## Windows

-- an ask for the content of the gfid
abbrev pub is_lock_on : ℕ → Body → Bool
is_lock_on g (ToBrick (Ask x Inode kind)) = x.0 == g
is_lock_on g body = false

-- the call has no turn yet, or its turn has had its moment
abbrev pub is_over : State → Option ℕ → Bool
is_over s None = true
is_over s (Some a) = s.moment a

-- the first ask for the content after a turn's Queries begins a new turn
abbrev pub turn_after : ℕ → View → Message → ℕ → Option ℕ
turn_after g v msg = cond (is_lock_on g msg.body && is_over v.core (v.turn msg.call)) (put v.turn msg.call (Some (turn_from msg.no))) v.turn

-- the turn in which a message is sent
abbrev pub turn_of : ℕ → View → Message → ℕ
turn_of g v msg = unwrap_or (turn_after g v msg msg.call) 0

-- ## What is sent

abbrev pub moment_of : State → ℕ → List Act
moment_of s a = cond (s.moment a) [] (Moment a ∷ [])

abbrev pub chosen : State → ℕ → ℕ → ℕ → List Act
chosen s a base number = cond ((s.ballot a).number == 0) (Choose a (record { base = base; number = number }) ∷ []) []

-- The first Query of a turn is its moment, and with its first PreOp, Mark or Unmark it takes its ballot.
abbrev pub acts_sent : ℕ → State → ℕ → Body → List Act
acts_sent g s a (ToBrick (Query x n)) = cond (x.0 == g) (moment_of s a) []
acts_sent g s a (ToBrick (PreOp x n at number)) = cond (x.0 == g) (chosen s a (stripped at) number) []
acts_sent g s a (ToBrick (Mark x n heal head)) = cond (x.0 == g) (chosen s a (stripped head.version.content) (head.dirty.content + 1)) []
acts_sent g s a (ToBrick (Unmark x n at dirty)) = cond (x.0 == g) (chosen s a (stripped at) (dirty + 1)) []
acts_sent g s a body = []

-- ## What is executed

-- a head was shown, or that there is no record
abbrev pub is_shown : Says → Bool
is_shown (Is (Head h)) = true
is_shown (Is NoInode) = true
is_shown says = false

-- by a request that was done
abbrev pub acts_done : ℕ → ℕ → ℕ → Request → List Act
acts_done g a b (PreOp x n at number) = cond (x.0 == g) (cond (is_marked at) (Sink_pre a b) (Pre a b) ∷ []) []
acts_done g a b (PostOp x n at version size attr) = cond (x.0 == g) (cond (is_marked at) (Sink_post a b) (Post a b) ∷ []) []
acts_done g a b (Clear x n at) = cond (x.0 == g) (Clears a b ∷ []) []
acts_done g a b (Mark x n heal head) = cond (x.0 == g) (Marks a b ∷ []) []
acts_done g a b (Unmark x n at dirty) = cond (x.0 == g) (Unmarks a b ∷ []) []
acts_done g a b (Make x n child) = cond (child.gfid.0 == g) (Makes b ∷ []) []
acts_done g a b (Made x n child) = cond (child.0 == g) (Mades b ∷ []) []
acts_done g a b (Unmake x n child) = cond (child.0 == g) (Unmakes b ∷ []) []
acts_done g a b q = []

-- the number of the exclusive grant on the gfid in a domain, of the asks of `rest` behind those of `before`
abbrev pub exclusive_from : ℕ → Domain → List Asking → List Asking → Option ℕ
exclusive_from g d before [] = None
exclusive_from g d before (a ∷ rest) = cond (free before a && ((a.gfid.0 == g) && same_domain a.domain d && is_exclusive a.kind)) (Some a.number) (exclusive_from g d (before ++ a ∷ []) rest)

abbrev pub exclusive : ℕ → Domain → List Asking → Option ℕ
exclusive g d asks = exclusive_from g d [] asks

-- A Query counts where its call has the content for itself, until the turn takes its ballot: one that comes later told the
-- call nothing.
abbrev pub counted : State → ℕ → Option ℕ → Option ℕ
counted s a holder = cond ((s.ballot a).number == 0) holder None

abbrev pub acts_shown : ℕ → ℕ → ℕ → Option ℕ → Request → List Act
acts_shown g a b holder (Query x n) = cond ((x.0 == g) && is_number n holder) (See a b ∷ []) []
acts_shown g a b holder q = []

abbrev pub acts_worked : ℕ → ℕ → ℕ → Option ℕ → Request → Says → List Act
acts_worked g a b holder q says = cond (is_done says) (acts_done g a b q) (cond (is_shown says) (acts_shown g a b holder q) [])

-- ## What becomes of locks

abbrev pub same : Option ℕ → Option ℕ → Bool
same None None = true
same None (Some j) = false
same (Some i) None = false
same (Some i) (Some j) = i == j

abbrev pub granted : (ℕ → Act) → Option ℕ → List Act
granted grant None = []
granted grant (Some i) = grant i ∷ []

abbrev pub freed : Act → Option ℕ → List Act
freed free None = []
freed free (Some i) = free ∷ []

-- where another grant stands than before, the old one ends and the new one is given
abbrev pub acts_changed : Act → (ℕ → Act) → Option ℕ → Option ℕ → List Act
acts_changed free grant old new = cond (same old new) [] (freed free old ++ granted grant new)

-- the maker has the content of its directory; `said` are the messages
abbrev pub is_ask_of : (ℕ → Option Message) → ℕ → Option ℕ → Bool
is_ask_of said call None = false
is_ask_of said call (Some i) = call_of (said i) == call

abbrev pub has_directory : (ℕ → Option Message) → Option Maker → List Asking → Bool
has_directory said None asks = false
has_directory said (Some maker) asks = is_ask_of said maker.call (exclusive maker.dir Inode asks)

abbrev pub acts_maker : State → ℕ → Bool → Bool → List Act
acts_maker s b false true = cond s.making [] (Maker_grant b ∷ [])
acts_maker s b true false = Maker_free b ∷ []
acts_maker s b old new = []

-- the asks of brick b were these and are those
abbrev pub acts_locks : ℕ → Net → View → ℕ → List Asking → List Asking → List Act
acts_locks g m v b old new =
    acts_changed (Heal_free b) (λ i. Heal_grant (call_of (m.said i)) b) (exclusive g Heal old) (exclusive g Heal new)
    ++ (acts_changed (Free b) (λ i. Grant (v.of i) b) (exclusive g Inode old) (exclusive g Inode new)
    ++ acts_maker v.core b (has_directory m.said v.maker old) (has_directory m.said v.maker new))

abbrev pub acts_of_request : ℕ → Net → View → Message → Body → Option ℕ → Bool → List Act
acts_of_request g m v msg (ToBrick q) version failed =
    acts_worked g (v.of msg.no) msg.brick (counted v.core (v.of msg.no) (exclusive g Inode (m.brick msg.brick).asks)) q (out_of m msg q version failed).says
    ++ acts_locks g m v msg.brick (m.brick msg.brick).asks (out_of m msg q version failed).brick.asks
acts_of_request g m v msg (ToClient re reply) version failed = []

abbrev pub acts_executed : ℕ → Net → View → Option Message → Option ℕ → Bool → List Act
acts_executed g m v None version failed = []
acts_executed g m v (Some msg) version failed = acts_of_request g m v msg msg.body version failed

abbrev pub acts_torn : Option Message → List Act
acts_torn None = []
acts_torn (Some msg) = Stop msg.brick ∷ []

-- a record that a replaced brick has lost
abbrev pub acts_replaced : ℕ → ℕ → Records → Records → List Act
acts_replaced g b old new = cond (is_some (old g) && not (is_some (new g))) (Replace b ∷ []) []

-- ## Each entry

-- The acts that an entry is, in their order.
abbrev pub acts : ℕ → Net → View → Entry → List Act
acts g m v (Sent msg) = acts_sent g v.core (turn_of g v msg) msg.body
acts g m v (Executed i version failed) = acts_executed g m v (m.said i) version failed
acts g m v (Stopped b) = Stop b ∷ []
acts g m v (Cut client b) = acts_locks g m v b (m.brick b).asks (cut_off (m.brick b) client).brick.asks
acts g m v (Torn i bytes version) = acts_torn (m.said i)
acts g m v (Replaced b removed all) = acts_replaced g b (m.brick b).records (wiped removed all (m.brick b).records)
acts g m v e = []

-- a create or mkdir takes the next gfid
abbrev pub made_by : ℕ → View → ℕ → Op → View
made_by g v a (Create parent name) = record v { maker = or_else v.maker (cond (v.next_gfid == g) (Some (record { call = a; dir = parent.0 })) None); next_gfid = v.next_gfid + 1 }
made_by g v a (Mkdir parent name) = record v { maker = or_else v.maker (cond (v.next_gfid == g) (Some (record { call = a; dir = parent.0 })) None); next_gfid = v.next_gfid + 1 }
made_by g v a op = v

-- what an entry makes of turns and messages
abbrev pub noted : ℕ → View → Entry → View
noted g v (Called a client op) = made_by g v a op
noted g v (Sent msg) = record v { turn = turn_after g v msg; of = put v.of msg.no (turn_of g v msg) }
noted g v e = v

abbrev pub seen_after : ℕ → Net → View → Entry → View
seen_after g m v e = record (noted g v e) { core = after_acts (acts g m v e) v.core }

-- the view after all of these, and the acts that they are, the first one first
abbrev pub view : ℕ → List Entry → Net → View → View
view g [] m v = v
view g (e ∷ es) m v = view g es (after m e) (seen_after g m v e)

abbrev pub all_acts : ℕ → List Entry → Net → View → List Act
all_acts g [] m v = []
all_acts g (e ∷ es) m v = acts g m v e ++ all_acts g es (after m e) (seen_after g m v e)
