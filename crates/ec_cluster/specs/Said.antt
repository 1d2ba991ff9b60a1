-- The messages that a log says were sent, by number.
use Rattle.std.specs.Prelude.{ℕ, Option, Some, None, List, [], ◌∷◌}
use Rattle.ec_store.specs.Put.{put}
use Rattle.ec_wire.specs.declared.entry.Entry.{Entry}
use Rattle.ec_wire.specs.declared.entry.Entry.TheVariants.{Sent}
use Rattle.ec_wire.specs.declared.message.Message.{Message}

abbrev pub said_with : (ℕ → Option Message) → Entry → ℕ → Option Message
said_with said (Sent msg) = put said msg.no (Some msg)
said_with said e = said

abbrev pub said_after : (ℕ → Option Message) → List Entry → ℕ → Option Message
said_after said [] = said
said_after said (e ∷ es) = said_after (said_with said e) es

-- the message of this number, in flight or not
abbrev pub said_in : List Entry → ℕ → Option Message
said_in log = said_after (λ i. None) log

-- the message of a Sent
abbrev pub message_of : Entry → Option Message
message_of (Sent msg) = Some msg
message_of e = None
