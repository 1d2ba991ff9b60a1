-- What the parts of a cluster promise each other.
use Rattle.std.specs.Prelude.{◌≡◌, ◌≢◌, ℕ, ◌+◌, ◌<◌, true, Option, Some, None, List, [], ◌++◌, length, map, slice_get, slice_index, IfSome}
use Rattle.std.specs.List.{All, list_all}
use Rattle.ec_brick.specs.Fit.{IsFitReply}
use Rattle.ec_brick.specs.Index.{IndexIs}
use Rattle.ec_brick.specs.Meets.{Meets, MeetsLocks, failing_of, is_fault}
use Rattle.ec_brick.specs.Replies.{Says, Is, Replies}
use Rattle.ec_brick.specs.Rows.{fence, row_of}
use Rattle.ec_brick.specs.State.{asks_of, indexed, state}
use Rattle.ec_brick.specs.Step.{Failing, step}
use Rattle.ec_brick.specs.declared.brick.Brick.{Brick}
use Rattle.ec_brick.specs.declared.effects.Effects.{Effects}
use Rattle.ec_brick.specs.declared.row.Row.{Row}
use Rattle.ec_history.specs.IsRun.{IsRun}
use Rattle.ec_history.specs.Run.{Net, Owed, call_of, own_owed, run}
use Rattle.ec_history.specs.Script.{is_of_course}
use Rattle.ec_locks.specs.declared.waiters.Waiter.{Waiter}
use Rattle.ec_store.specs.Causes.{Rose}
use Rattle.ec_store.specs.Records.{Records}
use Rattle.ec_wire.specs.declared.entry.Entry.{Entry}
use Rattle.ec_wire.specs.declared.message.Body.TheVariants.{ToBrick}
use Rattle.ec_wire.specs.declared.message.Message.{Message}
use Rattle.ec_wire.specs.declared.reply.Reply.{Reply}
use Rattle.ec_wire.specs.declared.reply.Reply.TheVariants.{Granted}
use Rattle.ec_wire.specs.declared.request.Request.{Request}
use Rattle.ec_cluster.specs.Entries.{granted_entries, reply_entries}
use Rattle.ec_cluster.specs.Matches.{MatchesOf, StandsAs}
use Rattle.ec_cluster.specs.Said.{said_in}
use Rattle.ec_cluster.specs.Sound.{IsSound}
use Rattle.ec_cluster.specs.Views.{bricks_of, flight, log_of, next_of, size_of}
use Rattle.ec_cluster.specs.declared.cluster.Cluster.{Cluster}

-- while replies are owed
abbrev pub Owes : Cluster → List Records → List Owed → Net → Type 0
Owes c records owed m = MatchesOf (bricks_of c) (flight c) (next_of c) (log_of c) records owed m

-- a waiter of brick b waits for a request that was sent
pub record WasAsked (said : ℕ → Option Message) (b : ℕ) (w : Waiter) : Type 0 where
  pub message : Message
  pub request : Request
  pub sent : said w.number ≡ Some message
  pub client : message.client ≡ w.client
  pub brick : message.brick ≡ b
  pub body : message.body ≡ ToBrick request

-- the Granted that is owed to a waiter
abbrev pub owed_to : (ℕ → Option Message) → ℕ → Waiter → Owed
owed_to said b w = record { call = call_of (said w.number); client = w.client; brick = b; re = w.number; says = Is Granted }

-- the Granted of the first waiters are sent, and those of the others are still owed
pub record Granting (s t : Cluster) (b : ℕ) (ws rest : List Waiter) : Type 0 where
  pub log : log_of t ≡ log_of s ++ granted_entries (said_in (log_of s)) b (next_of s) ws
  pub bricks : bricks_of t ≡ bricks_of s
  pub sound : IsSound t
  pub next : next_of t ≡ next_of s + length ws
  pub grows : (i : ℕ) (m : Message) → said_in (log_of s) i ≡ Some m → said_in (log_of t) i ≡ Some m
  pub runs : (records : List Records) (m : Net) → Owes s records (map (owed_to (said_in (log_of s)) b) (ws ++ rest)) m → IsRun (size_of s) (granted_entries (said_in (log_of s)) b (next_of s) ws) m × Owes t records (map (owed_to (said_in (log_of s)) b) rest) (run (granted_entries (said_in (log_of s)) b (next_of s) ws) m)

-- all of them are sent
abbrev pub Grants : Cluster → Cluster → ℕ → List Waiter → Type 0
Grants s t b ws = Granting s t b ws []

-- some of them are in the log
pub record GrantsPart (s t : Cluster) (b : ℕ) (ws : List Waiter) : Type 0 where
  pub entries : List Entry
  pub log : log_of t ≡ log_of s ++ entries
  pub follow : list_all is_of_course entries ≡ true
  pub bricks : bricks_of t ≡ bricks_of s
  pub runs : (records : List Records) (m : Net) → Owes s records (map (owed_to (said_in (log_of s)) b) ws) m → IsRun (size_of s) entries m × StandsAs (size_of s) records (run entries m)

-- a brick has executed a request, and nothing else has changed
pub record AsksBrick (Told : Type 0) (s t : Cluster) (before after : List Records) (faults_before faults_after : List ℕ) (message : Message) (request : Request) (effects : Effects) : Type 0 where
  pub kept : t ≡ record s { bricks = t.bricks }
  pub old : Brick
  pub new : Brick
  pub was : slice_get (bricks_of s) message.brick ≡ Some old
  pub is : slice_get (bricks_of t) message.brick ≡ Some new
  pub others : (b : ℕ) → b ≢ message.brick → (slice_get (bricks_of t) b ≡ slice_get (bricks_of s) b) × (slice_get after b ≡ slice_get before b)
  pub size : size_of t ≡ size_of s
  pub stores : length after ≡ length before
  pub locks : (m : Records) (f : Failing) → MeetsLocks (step (state old m) f message.client message.no request) request effects (state new m)
  pub fence : (r : Row) (y : Reply) → row_of request ≡ Some r → fence (asks_of old) r ≡ Some y → (effects ≡ record { reply = Some y; version = None; granted = [] }) × (new ≡ old)
  pub fits : IfSome effects.reply (IsFitReply request)
  pub cause : is_fault effects.reply ≡ true → Rose (slice_index faults_before message.brick) (slice_index faults_after message.brick)
  pub meets : Told → (r q : Records) → slice_get before message.brick ≡ Some r → slice_get after message.brick ≡ Some q → IndexIs (indexed old) r → Meets (step (state old r) (failing_of effects.reply effects.version) message.client message.no request) effects (state new q) × IndexIs (indexed new) q

-- a request that was sent, and what it is answered
pub record IsAnswer (c : Cluster) (message : Message) (reply : Option Reply) (ws : List Waiter) : Type 0 where
  pub request : Request
  pub sent : said_in (log_of c) message.no ≡ Some message
  pub body : message.body ≡ ToBrick request
  pub to : message.brick < size_of c
  pub fits : IfSome reply (IsFitReply request)
  pub waiters : All (WasAsked (said_in (log_of c)) message.brick) ws

-- the reply of an execution is sent, if there is one, and the Granted of those let in
pub record Answers (s t : Cluster) (message : Message) (reply : Option Reply) (ws : List Waiter) : Type 0 where
  pub log : log_of t ≡ log_of s ++ reply_entries (said_in (log_of s)) message (next_of s) reply ws
  pub bricks : bricks_of t ≡ bricks_of s
  pub sound : IsSound t
  pub runs : (records : List Records) (says : Says) (m : Net) → Replies says reply → Owes s records (own_owed message says ++ map (owed_to (said_in (log_of s)) message.brick) ws) m → IsRun (size_of s) (reply_entries (said_in (log_of s)) message (next_of s) reply ws) m × Owes t records [] (run (reply_entries (said_in (log_of s)) message (next_of s) reply ws) m)

-- a part of it
pub record AnswersPart (s t : Cluster) (message : Message) (reply : Option Reply) (ws : List Waiter) : Type 0 where
  pub entries : List Entry
  pub log : log_of t ≡ log_of s ++ entries
  pub follow : list_all is_of_course entries ≡ true
  pub bricks : bricks_of t ≡ bricks_of s
  pub runs : (records : List Records) (says : Says) (m : Net) → Replies says reply → Owes s records (own_owed message says ++ map (owed_to (said_in (log_of s)) message.brick) ws) m → IsRun (size_of s) entries m × StandsAs (size_of s) records (run entries m)
