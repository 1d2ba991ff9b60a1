-- What the entries of a settled call are, one by one.
use Rattle.std.specs.Prelude.{◌≡◌, ℕ, Bool, true, false, Option, Some, List, [], ◌∷◌}
use Rattle.ec_attr.specs.declared.gfid.Gfid.{Gfid}
use Rattle.ec_attr.specs.declared.kind.Domain.{Domain}
use Rattle.ec_attr.specs.declared.kind.LockKind.{LockKind}
use Rattle.ec_brick.specs.Replies.{Is}
use Rattle.ec_wire.specs.declared.entry.Entry.{Entry}
use Rattle.ec_wire.specs.declared.entry.Entry.TheVariants.{Called, Sent, Executed, Heard, Lost, GivenUp, Answered}
use Rattle.ec_wire.specs.declared.message.Body.{Body}
use Rattle.ec_wire.specs.declared.message.Body.TheVariants.{ToBrick, ToClient}
use Rattle.ec_wire.specs.declared.message.Message.{Message}
use Rattle.ec_wire.specs.declared.reply.Reply.TheVariants.{Granted}
use Rattle.ec_wire.specs.declared.request.Request.{Request}
use Rattle.ec_wire.specs.declared.request.Request.TheVariants.{Ask, Release}
use Rattle.ec_history.specs.Run.{Net, after, out_of}

-- ## What clients send

abbrev pub is_ask : Body → Bool
is_ask (ToBrick (Ask g domain kind)) = true
is_ask body = false

-- message i is the call's, and asks brick b for a lock
pub record AsksLock (said : ℕ → Option Message) (call b i : ℕ) : Type 0 where
  pub message : Message
  pub is : said i ≡ Some message
  pub of_call : message.call ≡ call
  pub of_brick : message.brick ≡ b
  pub asks : is_ask message.body ≡ true

-- Each request that is sent, but a Release, is of a call that has no answer yet.
abbrev pub SendsOnly : Net → Message → Body → Type 0
SendsOnly m msg (ToClient re reply) = Unit {0}
SendsOnly m msg (ToBrick (Release g n)) = Unit {0}
SendsOnly m msg (ToBrick q) = m.answered msg.call ≡ false

abbrev pub SendsIn : Net → Entry → Type 0
SendsIn m (Sent msg) = SendsOnly m msg msg.body
SendsIn m e = Unit {0}

abbrev pub AllSend : List Entry → Net → Type 0
AllSend [] m = Unit {0}
AllSend (e ∷ es) m = SendsIn m e × AllSend es (after m e)

-- A call asks a brick for a lock at most once.
abbrev pub AsksOnce : Net → Type 0
AsksOnce m = (a b i j : ℕ) → AsksLock m.said a b i → AsksLock m.said a b j → i ≡ j

-- ## What comes of it

-- a lock that is asked for is granted at once
abbrev pub GrantsAtOnce : Net → ℕ → Option ℕ → Bool → Type 0
GrantsAtOnce m i version failed = (msg : Message) (g : Gfid) (domain : Domain) (kind : LockKind) → m.said i ≡ Some msg → msg.body ≡ ToBrick (Ask g domain kind) → (out_of m msg (Ask g domain kind) version failed).says ≡ Is Granted

-- the message is a request to a brick that is stopped
pub record GoesToStopped (m : Net) (i : ℕ) : Type 0 where
  pub message : Message
  pub request : Request
  pub said : m.said i ≡ Some message
  pub body : message.body ≡ ToBrick request
  pub stopped : (m.brick message.brick).up ≡ false

-- Messages are sent, delivered and heard. Each lock is granted at once. A message is lost, and a brick given up, only where the
-- brick is stopped. No brick stops, returns or is torn, no client is cut off, dies or yields, and there is no other call.
abbrev pub IsCalmEntry : Net → Entry → Type 0
IsCalmEntry m (Called call client op) = Unit {0}
IsCalmEntry m (Sent msg) = Unit {0}
IsCalmEntry m (Executed i version failed) = GrantsAtOnce m i version failed
IsCalmEntry m (Heard i) = Unit {0}
IsCalmEntry m (Lost i) = GoesToStopped m i
IsCalmEntry m (GivenUp client brick i) = (m.brick brick).up ≡ false
IsCalmEntry m (Answered call answer) = Unit {0}
IsCalmEntry m e = ⊥
