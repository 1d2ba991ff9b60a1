-- A write in flight that is cut short.
use Rattle.std.specs.Prelude.{◌≡◌, ◌≢◌, ℕ, Option, Some, None, List, [], ◌∷◌, ◌++◌, length, slice_get, slice_index}
use Rattle.ec_brick.specs.Bytes.{bytes_in}
use Rattle.ec_brick.specs.Index.{IndexIs}
use Rattle.ec_brick.specs.Meets.{TearsOff}
use Rattle.ec_brick.specs.Rows.{fence, row_of}
use Rattle.ec_brick.specs.State.{asks_of, indexed, state}
use Rattle.ec_brick.specs.Step.{stopped}
use Rattle.ec_brick.specs.declared.brick.Brick.{Brick}
use Rattle.ec_brick.specs.declared.row.Row.{Row}
use Rattle.ec_store.specs.Causes.{Rose}
use Rattle.ec_store.specs.Records.{Records}
use Rattle.ec_wire.specs.Lanes.{with_message}
use Rattle.ec_wire.specs.declared.entry.Entry.TheVariants.{Torn}
use Rattle.ec_wire.specs.declared.message.Body.{Body}
use Rattle.ec_wire.specs.declared.message.Body.TheVariants.{ToBrick, ToClient}
use Rattle.ec_wire.specs.declared.message.Message.{Message}
use Rattle.ec_wire.specs.declared.reply.Reply.{Reply}
use Rattle.ec_wire.specs.declared.request.Request.{Request}
use Rattle.ec_cluster.specs.Sound.{IsSound}
use Rattle.ec_cluster.specs.Steps.{Always, Runs}
use Rattle.ec_cluster.specs.Views.{bricks_of, flight, log_of, next_of, size_of}
use Rattle.ec_cluster.specs.declared.cluster.Cluster.{Cluster}

abbrev pub body_bytes : Body → Option ℕ
body_bytes (ToBrick q) = bytes_in q
body_bytes (ToClient re reply) = None

abbrev pub message_bytes : Option Message → Option ℕ
message_bytes None = None
message_bytes (Some m) = body_bytes m.body

-- how many bytes the write of this number has, or none where the message in flight is no WriteChunks
abbrev pub bytes_at : Cluster → ℕ → Option ℕ
bytes_at c i = message_bytes (flight c i)

-- what a brick does of a write, before the log says it
pub record TearsBrick (Told : Type 0) (s t : Cluster) (before after : List Records) (faults_before faults_after : List ℕ) (message : Message) (request : Request) (count : ℕ) (version : Option ℕ) : Type 0 where
  pub kept : t ≡ record s { bricks = t.bricks }
  pub old : Brick
  pub new : Brick
  pub was : slice_get (bricks_of s) message.brick ≡ Some old
  pub is : slice_get (bricks_of t) message.brick ≡ Some new
  pub others : (b : ℕ) → b ≢ message.brick → (slice_get (bricks_of t) b ≡ slice_get (bricks_of s) b) × (slice_get after b ≡ slice_get before b)
  pub size : size_of t ≡ size_of s
  pub stores : length after ≡ length before
  pub stops : (m : Records) → state new m ≡ stopped (state old m)
  pub same_index : indexed new ≡ indexed old
  pub fence : (r : Row) (y : Reply) → row_of request ≡ Some r → fence (asks_of old) r ≡ Some y → version ≡ None
  pub unread : version ≡ None → Told → after ≡ before
  pub tears : Told → (r q : Records) → slice_get before message.brick ≡ Some r → slice_get after message.brick ≡ Some q → TearsOff (Rose (slice_index faults_before message.brick) (slice_index faults_after message.brick)) (state old r) request count version (state new q)
  pub index : Told → (r q : Records) → slice_get before message.brick ≡ Some r → slice_get after message.brick ≡ Some q → IndexIs (indexed old) r → IndexIs (indexed new) q

-- Write `num` is cut short after `count` bytes: one entry, the message is in flight no more, and its brick has stopped.
-- What its store has of the write is said where all stores tell, and that the entry is a run too. Where no version was
-- read nothing was written.
pub record Tears (Told : Type 0) (s t : Cluster) (before after : List Records) (faults_before faults_after : List ℕ) (num count : ℕ) : Type 0 where
  pub message : Message
  pub request : Request
  pub old : Brick
  pub new : Brick
  pub version : Option ℕ
  pub sent : flight s num ≡ Some message
  pub body : message.body ≡ ToBrick request
  pub was : slice_get (bricks_of s) message.brick ≡ Some old
  pub is : slice_get (bricks_of t) message.brick ≡ Some new
  pub log : log_of t ≡ log_of s ++ Torn num count version ∷ []
  pub flies : flight t ≡ with_message (flight s) num None
  pub next : next_of t ≡ next_of s
  pub stops : (m : Records) → state new m ≡ stopped (state old m)
  pub fence : (r : Row) (y : Reply) → row_of request ≡ Some r → fence (asks_of old) r ≡ Some y → version ≡ None
  pub unread : version ≡ None → Told → after ≡ before
  pub tears : Told → (r q : Records) → slice_get before message.brick ≡ Some r → slice_get after message.brick ≡ Some q → TearsOff (Rose (slice_index faults_before message.brick) (slice_index faults_after message.brick)) (state old r) request count version (state new q)
  pub others : (b : ℕ) → b ≢ message.brick → (slice_get (bricks_of t) b ≡ slice_get (bricks_of s) b) × (slice_get after b ≡ slice_get before b)
  pub size : size_of t ≡ size_of s
  pub sound : IsSound t
  pub runs : Told → Runs Always s t before after (Torn num count version ∷ [])
