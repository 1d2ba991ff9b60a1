-- What a step of a cluster promises.
use Rattle.std.specs.Prelude.{◌≡◌, ◌≢◌, ℕ, ◌+◌, ◌<◌, ◌^◌, Bool, true, false, slice_index, length, Option, Some, None, List, [], ◌∷◌, ◌++◌, slice_get, IfSome}
use Rattle.std.specs.List.{list_all}
use Rattle.ec_brick.specs.Fit.{IsFitReply}
use Rattle.ec_brick.specs.Meets.{MeetsLocks, is_fault}
use Rattle.ec_brick.specs.Rows.{fence, row_of}
use Rattle.ec_brick.specs.State.{asks_of, state}
use Rattle.ec_brick.specs.Step.{Failing, step}
use Rattle.ec_brick.specs.declared.brick.Brick.{Brick}
use Rattle.ec_brick.specs.declared.effects.Effects.{Effects}
use Rattle.ec_brick.specs.declared.row.Row.{Row}
use Rattle.ec_history.specs.IsRun.{IsRun, May}
use Rattle.ec_history.specs.Run.{Asker, Net, run}
use Rattle.ec_history.specs.Script.{is_of_course}
use Rattle.ec_store.specs.Causes.{Rose}
use Rattle.ec_store.specs.Records.{Records}
use Rattle.ec_wire.specs.declared.entry.Entry.{Entry}
use Rattle.ec_wire.specs.declared.entry.Entry.TheVariants.{Executed, Sent}
use Rattle.ec_wire.specs.Lanes.{with_message}
use Rattle.ec_wire.specs.declared.message.Body.TheVariants.{ToBrick}
use Rattle.ec_wire.specs.declared.message.Message.{Message}
use Rattle.ec_wire.specs.declared.reply.Reply.{Reply}
use Rattle.ec_wire.specs.declared.request.Request.{Request}
use Rattle.ec_cluster.specs.Entries.{reply_entries}
use Rattle.ec_cluster.specs.Matches.{Matches, StandsAs}
use Rattle.ec_cluster.specs.Said.{said_in}
use Rattle.ec_cluster.specs.Sound.{IsSound}
use Rattle.ec_cluster.specs.Views.{bricks_of, flight, log_of, next_of, places_of, size_of}
use Rattle.ec_cluster.specs.declared.cluster.Cluster.{Cluster}

-- From each net that the cluster matches, and for which the caller knows what is given, the entries are a run, and the
-- net after them matches the cluster after the step.
abbrev pub Runs : (Net → Type 0) → Cluster → Cluster → List Records → List Records → List Entry → Type 0
Runs given s t before after es = (m : Net) → Matches s before m → given m → IsRun (size_of s) es m × Matches t after (run es m)

-- a step in which no store is asked
pub record Advances (given : Net → Type 0) (s t : Cluster) (es : List Entry) : Type 0 where
  pub log : log_of t ≡ log_of s ++ es
  pub size : size_of t ≡ size_of s
  pub sound : IsSound t
  pub runs : (records : List Records) → Runs given s t records records es

-- nothing has to be given
abbrev pub Always : Net → Type 0
Always m = Unit {0}

-- the entries so far of a step: none, or the one that it names, and then some that follow from it
abbrev pub IsBegun : (Entry → Type 0) → List Entry → Type 0
IsBegun Named [] = Unit {0}
IsBegun Named (e ∷ es) = Named e × (list_all is_of_course es ≡ true)

-- request i is executed
abbrev pub IsExecution : ℕ → Entry → Type 0
IsExecution i e = (version : Option ℕ) × (failed : Bool) × (e ≡ Executed i version failed)

-- Where there is no memory the log has the entries so far of the step, which are a run, and the stores stand as these say.
pub record Breaks (Named : Entry → Type 0) (Told : Type 0) (s t : Cluster) (before after : List Records) : Type 0 where
  pub entries : List Entry
  pub log : log_of t ≡ log_of s ++ entries
  pub begun : IsBegun Named entries
  pub runs : Told → (m : Net) → Matches s before m → IsRun (size_of s) entries m × StandsAs (size_of s) after (run entries m)

-- nothing has happened that is seen outside
pub record IsUnmoved (s t : Cluster) : Type 0 where
  pub same_log : log_of t ≡ log_of s
  pub same_bricks : bricks_of t ≡ bricks_of s

-- the client made this call and lives
pub record IsOfClient (call client : ℕ) (m : Net) : Type 0 where
  pub asker : Asker
  pub made : m.asker call ≡ Some asker
  pub of_client : asker.client ≡ client
  pub lives : m.dead client ≡ false

abbrev pub Lives : ℕ → Net → Type 0
Lives client m = m.dead client ≡ false

-- the entry may come, by the calls and clients that there are
abbrev pub IsAllowed : ℕ → Entry → Net → Type 0
IsAllowed n e m = May n m e

-- Messages in flight and the other bricks are as before.
pub record Keeps (s t : Cluster) (b : ℕ) : Type 0 where
  pub next : next_of t ≡ next_of s
  pub flies : flight t ≡ flight s
  pub others : (x : ℕ) → x ≢ b → slice_get (bricks_of t) x ≡ slice_get (bricks_of s) x

-- A message is sent: it is in flight, and the log's next entry.
pub record Sends (s t : Cluster) (m : Message) : Type 0 where
  pub no : m.no ≡ next_of s
  pub limit : next_of s < 2 ^ 62
  pub next : next_of t ≡ next_of s + 1
  pub flies : flight t ≡ with_message (flight s) (next_of s) (Some m)
  pub log : log_of t ≡ log_of s ++ Sent m ∷ []
  pub places : places_of t ≡ places_of s ++ length (log_of s) ∷ []
  pub bricks : bricks_of t ≡ bricks_of s

-- A message is in flight no more, and an entry says why.
pub record Takes (s t : Cluster) (num : ℕ) (e : Entry) : Type 0 where
  pub next : next_of t ≡ next_of s
  pub flies : flight t ≡ with_message (flight s) num None
  pub log : log_of t ≡ log_of s ++ e ∷ []
  pub bricks : bricks_of t ≡ bricks_of s

-- Request `num` is executed: the entry, its own reply, and the Granted of the waiters that it lets in. What the fence and
-- the lock table make of it, and that the reply is fit, holds for every store; that the entries are a run, where all
-- stores tell.
pub record Executes (Told : Type 0) (s t : Cluster) (before after : List Records) (faults_before faults_after : List ℕ) (num : ℕ) : Type 0 where
  pub message : Message
  pub request : Request
  pub old : Brick
  pub new : Brick
  pub effects : Effects
  pub sent : flight s num ≡ Some message
  pub own : message.no ≡ num
  pub body : message.body ≡ ToBrick request
  pub was : slice_get (bricks_of s) message.brick ≡ Some old
  pub is : slice_get (bricks_of t) message.brick ≡ Some new
  pub log : log_of t ≡ log_of s ++ Executed num effects.version (is_fault effects.reply) ∷ reply_entries (said_in (log_of s)) message (next_of s) effects.reply effects.granted
  pub locks : (m : Records) (f : Failing) → MeetsLocks (step (state old m) f message.client message.no request) request effects (state new m)
  pub fence : (r : Row) (y : Reply) → row_of request ≡ Some r → fence (asks_of old) r ≡ Some y → (effects ≡ record { reply = Some y; version = None; granted = [] }) × (new ≡ old)
  pub fits : IfSome effects.reply (IsFitReply request)
  pub cause : is_fault effects.reply ≡ true → Rose (slice_index faults_before message.brick) (slice_index faults_after message.brick)
  pub others : (b : ℕ) → b ≢ message.brick → (slice_get (bricks_of t) b ≡ slice_get (bricks_of s) b) × (slice_get after b ≡ slice_get before b)
  pub size : size_of t ≡ size_of s
  pub sound : IsSound t
  pub runs : Told → Runs Always s t before after (Executed num effects.version (is_fault effects.reply) ∷ reply_entries (said_in (log_of s)) message (next_of s) effects.reply effects.granted)
