-- The replies of a step, as entries of the log.
use Rattle.std.specs.Prelude.{ℕ, ◌+◌, Option, Some, None, List, [], ◌∷◌, ◌++◌}
use Rattle.ec_history.specs.Run.{call_of}
use Rattle.ec_locks.specs.declared.waiters.Waiter.{Waiter}
use Rattle.ec_wire.specs.declared.entry.Entry.{Entry}
use Rattle.ec_wire.specs.declared.entry.Entry.TheVariants.{Sent}
use Rattle.ec_wire.specs.declared.message.Body.TheVariants.{ToClient}
use Rattle.ec_wire.specs.declared.message.Message.{Message}
use Rattle.ec_wire.specs.declared.reply.Reply.{Reply}
use Rattle.ec_wire.specs.declared.reply.Reply.TheVariants.{Granted}

-- the reply to a request, sent as message i
abbrev pub reply_message : Message → ℕ → Reply → Message
reply_message q i reply = record { no = i; call = q.call; client = q.client; brick = q.brick; body = ToClient q.no reply }

abbrev pub own_entries : Message → ℕ → Option Reply → List Entry
own_entries q i None = []
own_entries q i (Some reply) = Sent (reply_message q i reply) ∷ []

-- the number of the next message after it
abbrev pub after_own : ℕ → Option Reply → ℕ
after_own i None = i
after_own i (Some reply) = i + 1

-- the Granted of a waiter of brick b, sent as message i, which is of the call of its Ask
abbrev pub granted_message : (ℕ → Option Message) → ℕ → ℕ → Waiter → Message
granted_message said b i w = record { no = i; call = call_of (said w.number); client = w.client; brick = b; body = ToClient w.number Granted }

-- of waiters that are let in, in their order, numbered from i on
abbrev pub granted_entries : (ℕ → Option Message) → ℕ → ℕ → List Waiter → List Entry
granted_entries said b i [] = []
granted_entries said b i (w ∷ ws) = Sent (granted_message said b i w) ∷ granted_entries said b (i + 1) ws

-- the own reply of a request, if it has one, and then the Granted of those that are let in
abbrev pub reply_entries : (ℕ → Option Message) → Message → ℕ → Option Reply → List Waiter → List Entry
reply_entries said q i reply ws = own_entries q i reply ++ granted_entries said q.brick (after_own i reply) ws
