-- Between two entries of a settled call: what is in flight, asked for and waited for is the call's.
use Rattle.std.proofs.Common.{◌≡◌, ◌⊎◌, ℕ, ◌<◌, Bool, true, false, Option, Some, List, [], ◌∷◌}
use Rattle.ec_brick.specs.State.{State}
use Rattle.ec_conduct.specs.Conduct.{is_release}
use Rattle.ec_history.specs.IsRun.{IsCalling}
use Rattle.ec_history.specs.Run.{Asker, Net, Owed}
use Rattle.ec_history.specs.Script.{IsSettling}
use Rattle.ec_locks.specs.declared.ask.Ask.{Ask as Asking}
use Rattle.ec_wire.specs.declared.entry.Entry.{Entry}
use Rattle.ec_wire.specs.declared.entry.Entry.TheVariants.{Sent, Answered}
use Rattle.ec_wire.specs.declared.message.Body.{Body}
use Rattle.ec_wire.specs.declared.message.Body.TheVariants.{ToBrick, ToClient}
use Rattle.ec_wire.specs.declared.message.Message.{Message}
use Rattle.ec_wire.specs.declared.reply.Reply.{Reply}
use Rattle.ec_wire.specs.declared.request.Request.{Request}
use Rattle.ec_wire.specs.declared.request.Request.TheVariants.{Release}
use Rattle.ec_law_settled.specs.Calm.{AsksLock}

-- what follows is of course; what else comes is what settling names
abbrev pub MayCome : Net → Entry → Type 0
MayCome m (Sent msg) = Unit {0}
MayCome m (Answered call answer) = Unit {0}
MayCome m e = IsSettling m e

-- an ask that stands is one of the call's, and has come to its brick
pub record IsOwnAsk (said : ℕ → Option Message) (flying : ℕ → Bool) (call b : ℕ) (a : Asking) : Type 0 where
  pub asks : AsksLock said call b a.number
  pub landed : flying a.number ≡ false

abbrev pub AreOwn : (ℕ → Option Message) → (ℕ → Bool) → ℕ → ℕ → List Asking → Type 0
AreOwn said flying call b [] = Unit {0}
AreOwn said flying call b (a ∷ []) = IsOwnAsk said flying call b a
AreOwn said flying call b (a ∷ c ∷ asks) = ⊥

-- a message of the call, or a Release
abbrev pub IsOwnBody : ℕ → ℕ → Message → Body → Type 0
IsOwnBody call client x (ToBrick (Release g n)) = Unit {0}
IsOwnBody call client x (ToBrick q) = (x.call ≡ call) × (x.client ≡ client)
IsOwnBody call client x (ToClient re reply) = (x.call ≡ call) × (x.client ≡ client)

-- the replies owed are the call's
abbrev pub AreOwed : ℕ → ℕ → List Owed → Type 0
AreOwed call client [] = Unit {0}
AreOwed call client (o ∷ os) = (o.call ≡ call) × (o.client ≡ client) × AreOwed call client os

abbrev pub IsAmong : ℕ → ℕ → ℕ → List Owed → Type 0
IsAmong call b i [] = ⊥
IsAmong call b i (o ∷ os) = ((o.call ≡ call) × (o.brick ≡ b) × (o.re ≡ i)) ⊎ IsAmong call b i os

-- A request is on its way to the brick, or the reply is owed or on its way back; or the brick is stopped.
pub data OnItsWay (said : ℕ → Option Message) (flying : ℕ → Bool) (owed : List Owed) (brick : ℕ → State) (call b i : ℕ) : Type 0 where
  Going : (flies : flying i ≡ true) → OnItsWay said flying owed brick call b i
  Owing : (owes : IsAmong call b i owed) → OnItsWay said flying owed brick call b i
  Coming : (j : ℕ) (x : Message) (reply : Reply) (is : said j ≡ Some x) (flies : flying j ≡ true) (body : x.body ≡ ToClient i reply) (of_call : x.call ≡ call) (of_brick : x.brick ≡ b) → OnItsWay said flying owed brick call b i
  Down : (stopped : (brick b).up ≡ false) → OnItsWay said flying owed brick call b i

pub record IsAwaited (said : ℕ → Option Message) (flying : ℕ → Bool) (owed : List Owed) (brick : ℕ → State) (call b i : ℕ) : Type 0 where
  pub message : Message
  pub request : Request
  pub is : said i ≡ Some message
  pub body : message.body ≡ ToBrick request
  pub speaks : is_release request ≡ false
  pub of_call : message.call ≡ call
  pub of_brick : message.brick ≡ b
  pub way : OnItsWay said flying owed brick call b i

abbrev pub Awaited : Net → ℕ → ℕ → ℕ → Type 0
Awaited m call b i = IsAwaited m.said m.flying m.owed m.brick call b i

pub record IsCalm (n : ℕ) (m : Net) (call client : ℕ) : Type 0 where
  pub lives : m.dead client ≡ false
  pub asker : Asker
  pub made : m.asker call ≡ Some asker
  pub of_client : asker.client ≡ client
  pub only : (a c : ℕ) → IsCalling m a c → a ≡ call
  pub flies : (i : ℕ) (x : Message) → m.said i ≡ Some x → m.flying i ≡ true → IsOwnBody call client x x.body
  pub owed : AreOwed call client m.owed
  pub asks : (b : ℕ) → b < n → AreOwn m.said m.flying call b (m.brick b).asks
  pub unasked : (b : ℕ) → b < n → (m.brick b).up ≡ false → (m.brick b).asks ≡ []
  pub waits : (b i : ℕ) → m.awaits call b ≡ Some i → Awaited m call b i
