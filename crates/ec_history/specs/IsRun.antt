-- When a log is a run. What clients send is free in it; the conduct of the calls is said apart.
use Rattle.std.specs.Prelude.{◌≡◌, ℕ, ◌+◌, ◌-◌, ◌^◌, ◌<◌, ◌≤◌, Bool, true, false, min, is_some, Option, Some, List, [], ◌∷◌, length}
use Rattle.ec_attr.specs.Bricks.{count_below}
use Rattle.ec_field.specs.Chunk.{IsChunk}
use Rattle.ec_field.specs.Code.{chunk_at}
use Rattle.ec_store.specs.Records.{Records}
use Rattle.ec_wire.specs.declared.entry.Entry.{Entry}
use Rattle.ec_wire.specs.declared.entry.Entry.TheVariants.{Called, Sent, Executed, Heard, Lost, GivenUp, Stopped, Returned, Cut, Died, Yielded, Torn, Answered, Replaced}
use Rattle.ec_wire.specs.declared.message.Body.{Body}
use Rattle.ec_wire.specs.declared.message.Body.TheVariants.{ToBrick, ToClient}
use Rattle.ec_wire.specs.declared.message.Message.{Message}
use Rattle.ec_wire.specs.declared.reply.Reply.{Reply}
use Rattle.ec_wire.specs.declared.reply.Reply.TheVariants.{Fault}
use Rattle.ec_wire.specs.declared.request.Request.{Request}
use Rattle.ec_wire.specs.declared.request.Request.TheVariants.{WriteChunks}
use Rattle.ec_brick.specs.Replies.{Says, Is, Replies}
use Rattle.ec_brick.specs.Work.{bytes_of}
use Rattle.ec_history.specs.Run.{Asker, Net, Owed, after, out_of, torn_out}

-- the message is the first reply that is owed
pub record IsOwed (o : Owed) (m : Message) (re : ℕ) (reply : Reply) : Type 0 where
  pub call : m.call ≡ o.call
  pub client : m.client ≡ o.client
  pub brick : m.brick ≡ o.brick
  pub to : re ≡ o.re
  pub says : Replies o.says (Some reply)

abbrev pub IsFirstOwed : List Owed → Message → ℕ → Reply → Type 0
IsFirstOwed [] m re reply = ⊥
IsFirstOwed (o ∷ owed) m re reply = IsOwed o m re reply

-- the client made this call, lives, and hasn't been answered
pub record IsCalling (m : Net) (call client : ℕ) : Type 0 where
  pub asker : Asker
  pub made : m.asker call ≡ Some asker
  pub of_client : asker.client ≡ client
  pub unanswered : m.answered call ≡ false
  pub lives : m.dead client ≡ false

-- each chunk of a write is one, of 512 bytes
abbrev pub AreChunks : Request → Type 0
AreChunks (WriteChunks g n first chunks) = (i : ℕ) → i < length chunks → IsChunk (chunk_at chunks i)
AreChunks q = Unit {0}

-- A client sends for a call that it made; a Release it sends also after the answer.
pub record MayAsk (n : ℕ) (m : Net) (msg : Message) (q : Request) : Type 0 where
  pub asker : Asker
  pub made : m.asker msg.call ≡ Some asker
  pub of_client : asker.client ≡ msg.client
  pub lives : m.dead msg.client ≡ false
  pub to : msg.brick < n
  pub nothing_owed : m.owed ≡ []
  pub chunks : AreChunks q

abbrev pub MaySay : ℕ → Net → Message → Body → Type 0
MaySay n m msg (ToBrick q) = MayAsk n m msg q
MaySay n m msg (ToClient re reply) = IsFirstOwed m.owed msg re reply

abbrev pub is_fault : Says → Bool
is_fault (Is Fault) = true
is_fault says = false

-- The message is in flight and goes to a brick that is up.
pub record IsAt (m : Net) (i : ℕ) (msg : Message) (q : Request) : Type 0 where
  pub said : m.said i ≡ Some msg
  pub body : msg.body ≡ ToBrick q
  pub flying : m.flying i ≡ true
  pub up : (m.brick msg.brick).up ≡ true
  pub nothing_owed : m.owed ≡ []

-- The version is that of the head which the brick read, and the entry says that the reply is Fault exactly where it is.
pub record MayExecute (m : Net) (i : ℕ) (version : Option ℕ) (failed : Bool) : Type 0 where
  pub message : Message
  pub request : Request
  pub at : IsAt m i message request
  pub read : version ≡ (out_of m message request version failed).version
  pub fault : failed ≡ is_fault (out_of m message request version failed).says

-- as many bytes of a write as it has, or fewer
abbrev pub HasBytes : Request → ℕ → Type 0
HasBytes (WriteChunks g n first chunks) count = count ≤ length (bytes_of chunks)
HasBytes q count = ⊥

pub record MayTear (m : Net) (i count : ℕ) (version : Option ℕ) : Type 0 where
  pub message : Message
  pub request : Request
  pub at : IsAt m i message request
  pub bytes : HasBytes request count
  pub read : version ≡ (torn_out m message request count version).version

pub record MayHear (m : Net) (i : ℕ) : Type 0 where
  pub message : Message
  pub re : ℕ
  pub reply : Reply
  pub said : m.said i ≡ Some message
  pub body : message.body ≡ ToClient re reply
  pub flying : m.flying i ≡ true
  pub lives : m.dead message.client ≡ false
  pub nothing_owed : m.owed ≡ []

-- the client's call waits for this request at the brick
pub record MayGiveUp (m : Net) (client brick i : ℕ) : Type 0 where
  pub message : Message
  pub said : m.said i ≡ Some message
  pub calling : IsCalling m message.call client
  pub waits : m.awaits message.call brick ≡ Some i
  pub nothing_owed : m.owed ≡ []

-- how many records there are; a gfid has 128 bits
abbrev pub records_of : Records → ℕ
records_of records = count_below (2 ^ 128) (λ g. is_some (records g))

-- The number of records removed, which stands still at 2^64 - 1: all of them, or at most so many.
abbrev pub IsRemoved : Records → ℕ → Bool → Type 0
IsRemoved records removed true = removed ≡ min (records_of records) (2 ^ 64 - 1)
IsRemoved records removed false = removed ≤ records_of records

-- What a log may go on with, for n bricks.
abbrev pub May : ℕ → Net → Entry → Type 0
May n m (Called call client op) = (call ≡ m.calls + 1) × (m.dead client ≡ false) × (m.owed ≡ [])
May n m (Sent msg) = (msg.no ≡ m.next) × MaySay n m msg msg.body
May n m (Executed i version failed) = MayExecute m i version failed
May n m (Heard i) = MayHear m i
May n m (Lost i) = (m.flying i ≡ true) × (m.owed ≡ [])
May n m (GivenUp client brick i) = MayGiveUp m client brick i
May n m (Stopped b) = (b < n) × ((m.brick b).up ≡ true) × (m.owed ≡ [])
May n m (Returned b) = (b < n) × ((m.brick b).up ≡ false) × (m.owed ≡ [])
May n m (Cut client b) = (b < n) × ((m.brick b).up ≡ true) × (m.owed ≡ [])
May n m (Died client) = (m.dead client ≡ false) × (m.owed ≡ [])
May n m (Yielded client) = (m.dead client ≡ false) × (m.owed ≡ [])
May n m (Torn i bytes version) = MayTear m i bytes version
May n m (Answered call answer) = (client : ℕ) × IsCalling m call client × (m.owed ≡ [])
May n m (Replaced b removed all) = (b < n) × ((m.brick b).up ≡ false) × IsRemoved (m.brick b).records removed all × (m.owed ≡ [])

-- the entries are a run that goes on from here
abbrev pub IsRun : ℕ → List Entry → Net → Type 0
IsRun n [] m = Unit {0}
IsRun n (e ∷ es) m = May n m e × IsRun n es (after m e)
