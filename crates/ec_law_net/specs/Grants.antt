-- What a log keeps of locks beside the link: each ask in a table is a message that has arrived, and a turn that was granted
-- at a brick once asked there.
use Rattle.std.specs.Prelude.{◌≡◌, ◌≢◌, ◌⊎◌, ℕ, ◌^◌, ◌<◌, ◌≤◌, Bool, true, false, Option, Some, None, List, [], ◌∷◌}
use Rattle.ec_attr.specs.declared.gfid.Gfid.{Gfid}
use Rattle.ec_attr.specs.declared.kind.Domain.TheVariants.{Inode, Heal}
use Rattle.ec_attr.specs.declared.kind.LockKind.{LockKind}
use Rattle.ec_locks.specs.Table.{has}
use Rattle.ec_locks.specs.declared.ask.Ask.{Ask as Asking}
use Rattle.ec_wire.specs.declared.entry.Entry.{Entry}
use Rattle.ec_wire.specs.declared.entry.Entry.TheVariants.{Sent, Executed, Cut}
use Rattle.ec_wire.specs.declared.message.Body.{Body}
use Rattle.ec_wire.specs.declared.message.Body.TheVariants.{ToBrick, ToClient}
use Rattle.ec_wire.specs.declared.message.Message.{Message}
use Rattle.ec_wire.specs.declared.request.Request.TheVariants.{Ask, Query}
use Rattle.ec_brick.specs.Step.{cut_off}
use Rattle.ec_history.specs.Run.{Net, after, call_of, out_of}
use Rattle.ec_law_base.specs.State.{State}
use Rattle.ec_law_ballots.specs.Guard.{Runs}
use Rattle.ec_law_net.specs.Link.{Ready}
use Rattle.ec_law_net.specs.Turns.{View, acts_sent, exclusive, seen_after, turn_of}

-- message i asks brick b for the content of the gfid, in turn a
pub record AsksIn (g : ℕ) (m : Net) (v : View) (i b a : ℕ) : Type 0 where
  pub message : Message
  pub gfid : Gfid
  pub kind : LockKind
  pub said : m.said i ≡ Some message
  pub brick : message.brick ≡ b
  pub body : message.body ≡ ToBrick (Ask gfid Inode kind)
  pub on : gfid.0 ≡ g
  pub turn : v.of i ≡ a

-- a turn asks a brick for the content once
abbrev pub AsksOnce : ℕ → Net → View → Type 0
AsksOnce g m v = (i j b a : ℕ) → AsksIn g m v i b a → AsksIn g m v j b a → i ≡ j

-- an ask in the table of brick b is the message of its number
pub record IsAskOf (m : Net) (b : ℕ) (a : Asking) : Type 0 where
  pub message : Message
  pub said : m.said a.number ≡ Some message
  pub brick : message.brick ≡ b
  pub client : message.client ≡ a.client
  pub body : message.body ≡ ToBrick (Ask a.gfid a.domain a.kind)
  pub landed : m.flying a.number ≡ false

abbrev pub AreAsks : Net → ℕ → List Asking → Type 0
AreAsks m b [] = Unit {0}
AreAsks m b (a ∷ asks) = IsAskOf m b a × AreAsks m b asks

-- The ask by which turn a was granted at brick b: it has the grant, or is gone.
pub record Granted (g : ℕ) (m : Net) (v : View) (a b : ℕ) : Type 0 where
  pub number : ℕ
  pub asked : AsksIn g m v number b a
  pub landed : m.flying number ≡ false
  pub stands : (has (m.brick b).asks number ≡ false) ⊎ (exclusive g Inode (m.brick b).asks ≡ Some number)

pub record LocksStand (n g : ℕ) (m : Net) (v : View) : Type 0 where
  pub asks : (b : ℕ) → b < n → AreAsks m b (m.brick b).asks
  pub once : (a b : ℕ) → b < n → v.core.granted a b ≡ true → Granted g m v a b
  pub begun : (c a : ℕ) → v.turn c ≡ Some a → 2 ^ 61 ≤ a
  pub turns : (i b a : ℕ) → AsksIn g m v i b a → 2 ^ 61 ≤ a
  pub old : (a : ℕ) → v.core.old a ≡ true → a < 2 ^ 61
  pub none : v.core.old 0 ≡ false

-- a heal's lock comes before all locks of its windows
abbrev pub HealsReady : ℕ → Net → View → ℕ → List Asking → List Asking → Type 0
HealsReady g m v b old new = (i : ℕ) → exclusive g Heal new ≡ Some i → exclusive g Heal old ≢ Some i → (a : ℕ) → v.core.call a ≡ call_of (m.said i) → v.core.granted a b ≡ false

abbrev pub BodyKnown : ℕ → ℕ → ℕ → Net → View → Message → Body → Option ℕ → Bool → Type 0
BodyKnown n k g m v msg (ToBrick q) version failed = Ready n k g m v (v.of msg.no) msg.brick q × HealsReady g m v msg.brick (m.brick msg.brick).asks (out_of m msg q version failed).brick.asks
BodyKnown n k g m v msg (ToClient re reply) version failed = Unit {0}

abbrev pub MessageKnown : ℕ → ℕ → ℕ → Net → View → Option Message → Option ℕ → Bool → Type 0
MessageKnown n k g m v None version failed = Unit {0}
MessageKnown n k g m v (Some msg) version failed = BodyKnown n k g m v msg msg.body version failed

-- A Query may always be sent: it is the turn's moment, or no act. A ballot may come where it is taken.
abbrev pub SentKnown : ℕ → ℕ → ℕ → State → ℕ → Body → Type 0
SentKnown n k g s a (ToBrick (Query x i)) = Unit {0}
SentKnown n k g s a body = Runs n k (acts_sent g s a body) s

-- What an entry needs of the calls: as before, but of grants of the content only that a turn asks a brick once, and of
-- moments nothing.
abbrev pub EntryKnown : ℕ → ℕ → ℕ → Net → View → Entry → Type 0
EntryKnown n k g m v (Sent msg) = SentKnown n k g v.core (turn_of g v msg) msg.body
EntryKnown n k g m v (Executed i version failed) = MessageKnown n k g m v (m.said i) version failed
EntryKnown n k g m v (Cut client b) = HealsReady g m v b (m.brick b).asks (cut_off (m.brick b) client).brick.asks
EntryKnown n k g m v e = Unit {0}

abbrev pub AllKnown : ℕ → ℕ → ℕ → List Entry → Net → View → Type 0
AllKnown n k g [] m v = AsksOnce g m v
AllKnown n k g (e ∷ es) m v = AsksOnce g m v × EntryKnown n k g m v e × AllKnown n k g es (after m e) (seen_after g m v e)
