-- What is in flight.
use Rattle.std.specs.Prelude.{ℕ, Option, nat_eq}
use Rattle.indexmap.specs.IndexMap.{get}
use Rattle.ec_wire.specs.declared.message.Message.{Message}
use Rattle.ec_wire.specs.declared.wire.Wire.{Wire}

-- the message of this number, where it is in flight
abbrev pub in_flight : Wire → ℕ → Option Message
in_flight w i = get nat_eq w.messages i

-- the number of the next message that is sent
abbrev pub next_number : Wire → ℕ
next_number w = w.next
