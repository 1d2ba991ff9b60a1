-- What stands in the machine of versions where a brick changes data for a turn, and which entries of a log do so.
use Rattle.std.specs.Prelude.{◌≡◌, ℕ, ◌<◌, Bool, true, false, ◌==◌, Option, Some, None, List, [], ◌∷◌}
use Rattle.ec_brick.specs.State.{State as Brick}
use Rattle.ec_brick.specs.Step.{Out}
use Rattle.ec_history.specs.Run.{Net, after, out_of}
use Rattle.ec_history.specs.Story.{is_done}
use Rattle.ec_wire.specs.declared.entry.Entry.{Entry}
use Rattle.ec_wire.specs.declared.entry.Entry.TheVariants.{Executed, Torn}
use Rattle.ec_wire.specs.declared.message.Body.{Body}
use Rattle.ec_wire.specs.declared.message.Body.TheVariants.{ToBrick, ToClient}
use Rattle.ec_wire.specs.declared.message.Message.{Message}
use Rattle.ec_wire.specs.declared.request.Request.{Request}
use Rattle.ec_wire.specs.declared.request.Request.TheVariants.{WriteChunks, SetLength, NameSet}
use Rattle.ec_law_base.specs.State.{State}
use Rattle.ec_law_ballots.specs.Guard.{Holds}
use Rattle.ec_law_ballots.specs.Words.{did, met}
use Rattle.ec_law_net.specs.Turns.{View, seen_after}
use Rattle.ec_law_data.specs.Deeds.{is_granted}

-- a request by which a call changes the chunks of a file, or a name of a directory
abbrev pub changes_on : ℕ → Request → Bool
changes_on g (WriteChunks x n first chunks) = x.0 == g
changes_on g (SetLength x n keep count) = x.0 == g
changes_on g (NameSet x n name child) = x.0 == g
changes_on g q = false

-- Turn a may change data at brick b, whose record may be marked or not: it holds the brick, has met its record, which stands at the
-- base of the turn's ballot, and none of its PostOps was done there.
pub record IsGuarded (s : State) (a b : ℕ) : Type 0 where
  pub before : did s a b ≡ false
  pub holds : Holds s a b
  pub present : s.present b ≡ true
  pub version : s.version b ≡ (s.ballot a).base
  pub number : 0 < (s.ballot a).number
  pub met : met s a b ≡ true

-- so it is where such a request is done under the grant of the content
abbrev pub DoneGuarded : ℕ → State → ℕ → ℕ → Request → Brick → Out → Type 0
DoneGuarded g s a b q old out = changes_on g q ≡ true → is_granted old q ≡ true → is_done out.says ≡ true → IsGuarded s a b

-- and where the store fails in it, or the brick stops in it, once a version was read
abbrev pub PartGuarded : ℕ → State → ℕ → ℕ → Request → Brick → Option ℕ → Type 0
PartGuarded g s a b q old None = Unit {0}
PartGuarded g s a b q old (Some version) = changes_on g q ≡ true → is_granted old q ≡ true → IsGuarded s a b

abbrev pub BodyGuarded : ℕ → Net → View → Message → Body → Option ℕ → Bool → Type 0
BodyGuarded g m v msg (ToBrick q) version true = PartGuarded g v.core (v.of msg.no) msg.brick q (m.brick msg.brick) version
BodyGuarded g m v msg (ToBrick q) version false = DoneGuarded g v.core (v.of msg.no) msg.brick q (m.brick msg.brick) (out_of m msg q version false)
BodyGuarded g m v msg (ToClient re reply) version failed = Unit {0}

abbrev pub MessageGuarded : ℕ → Net → View → Option Message → Option ℕ → Bool → Type 0
MessageGuarded g m v None version failed = Unit {0}
MessageGuarded g m v (Some msg) version failed = BodyGuarded g m v msg msg.body version failed

abbrev pub BodyTornGuarded : ℕ → Net → View → Message → Body → Option ℕ → Type 0
BodyTornGuarded g m v msg (ToBrick q) version = PartGuarded g v.core (v.of msg.no) msg.brick q (m.brick msg.brick) version
BodyTornGuarded g m v msg (ToClient re reply) version = Unit {0}

abbrev pub TornGuarded : ℕ → Net → View → Option Message → Option ℕ → Type 0
TornGuarded g m v None version = Unit {0}
TornGuarded g m v (Some msg) version = BodyTornGuarded g m v msg msg.body version

abbrev pub EntryGuarded : ℕ → Net → View → Entry → Type 0
EntryGuarded g m v (Executed i version failed) = MessageGuarded g m v (m.said i) version failed
EntryGuarded g m v (Torn i count version) = TornGuarded g m v (m.said i) version
EntryGuarded g m v e = Unit {0}

-- each entry of a log
abbrev pub AllGuarded : ℕ → List Entry → Net → View → Type 0
AllGuarded g [] m v = Unit {0}
AllGuarded g (e ∷ es) m v = EntryGuarded g m v e × AllGuarded g es (after m e) (seen_after g m v e)
