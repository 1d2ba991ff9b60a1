-- Replies follow from what an event names.
use Rattle.std.proofs.Common.{◌≡◌, ℕ, ◌+◌, true, Option, Some, None, List, [], ◌∷◌, refl}
use Rattle.std.specs.List.{list_all}
use Rattle.ec_cluster.specs.Entries.{granted_entries, reply_entries}
use Rattle.ec_history.specs.Script.{is_of_course}
use Rattle.ec_locks.specs.declared.waiters.Waiter.{Waiter}
use Rattle.ec_wire.specs.declared.message.Message.{Message}
use Rattle.ec_wire.specs.declared.reply.Reply.{Reply}

pub granted_follow : (said : ℕ → Option Message) (b i : ℕ) (ws : List Waiter) → list_all is_of_course (granted_entries said b i ws) ≡ true
granted_follow said b i [] = refl
granted_follow said b i (w ∷ ws) = granted_follow said b (i + 1) ws

pub replies_follow : (said : ℕ → Option Message) (q : Message) (i : ℕ) (reply : Option Reply) (ws : List Waiter) → list_all is_of_course (reply_entries said q i reply ws) ≡ true
replies_follow said q i None ws = granted_follow said q.brick i ws
replies_follow said q i (Some reply) ws = granted_follow said q.brick (i + 1) ws
