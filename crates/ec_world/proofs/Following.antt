-- The replies of a brick are between it and clients.
use Rattle.std.proofs.Common.{ℕ, ◌+◌, ◌<◌, Option, Some, None, List, [], ◌∷◌}
use Rattle.ec_clients.specs.Frames.{AreWithin}
use Rattle.ec_cluster.specs.Entries.{granted_entries, reply_entries}
use Rattle.ec_locks.specs.declared.waiters.Waiter.{Waiter}
use Rattle.ec_wire.specs.declared.message.Message.{Message}
use Rattle.ec_wire.specs.declared.reply.Reply.{Reply}

pub granted_within : (n : ℕ) (said : ℕ → Option Message) (b i : ℕ) (ws : List Waiter) → b < n → AreWithin n (granted_entries said b i ws)
granted_within n said b i [] lt = tt
granted_within n said b i (w ∷ ws) lt = (lt, granted_within n said b (i + 1) ws lt)

pub replies_within : (n : ℕ) (said : ℕ → Option Message) (q : Message) (i : ℕ) (reply : Option Reply) (ws : List Waiter) → q.brick < n → AreWithin n (reply_entries said q i reply ws)
replies_within n said q i None ws lt = granted_within n said q.brick i ws lt
replies_within n said q i (Some reply) ws lt = (lt, granted_within n said q.brick (i + 1) ws lt)
