-- Between whom and which way messages go.
use Rattle.std.specs.Prelude.{◌≡◌, ℕ, ◌<◌, ◌≤◌, Bool, true, false, cond, ◌==◌, ◌&&◌, Option, Some, None, is_some}
use Rattle.std.specs.Bool.{beq}
use Rattle.ec_wire.specs.declared.message.Body.{Body}
use Rattle.ec_wire.specs.declared.message.Body.TheVariants.{ToBrick, ToClient}
use Rattle.ec_wire.specs.declared.message.Message.{Message}
use Rattle.ec_wire.specs.declared.places.Place.{Place}

abbrev pub is_to_brick : Body → Bool
is_to_brick (ToBrick request) = true
is_to_brick (ToClient re reply) = false

-- between this client and this brick, to the brick or from it
abbrev pub goes_between : ℕ → ℕ → Bool → Message → Bool
goes_between client brick to_brick m = (m.client == client) && (m.brick == brick) && beq (is_to_brick m.body) to_brick

abbrev pub place_of : Message → Place
place_of m = record { client = m.client; brick = m.brick; to_brick = is_to_brick m.body; no = m.no }

-- whether there is a message, and it goes so
abbrev pub is_going : ℕ → ℕ → Bool → Option Message → Bool
is_going client brick to_brick None = false
is_going client brick to_brick (Some m) = goes_between client brick to_brick m

-- with another message of this number, or none
abbrev pub with_message : (ℕ → Option Message) → ℕ → Option Message → ℕ → Option Message
with_message messages n m i = cond (i == n) m (messages i)

-- a message has its own number, which is from 1 on and below the next; the numbers and the places are the messages'
pub record IsIndexed (messages : ℕ → Option Message) (next : ℕ) (numbers : ℕ → Bool) (places : Place → Bool) : Type 0 where
  pub from_one : 1 ≤ next
  pub numbered : (i : ℕ) → (m : Message) → messages i ≡ Some m → (m.no ≡ i) × (1 ≤ i) × (i < next)
  pub is_number : (i : ℕ) → numbers i ≡ is_some (messages i)
  pub is_place : (p : Place) → places p ≡ is_going p.client p.brick p.to_brick (messages p.no)
