-- What is seen of the clients.
use Rattle.std.specs.Prelude.{ℕ, Bool, false, Option, Some, None, List, slice_get}
use Rattle.std.specs.BTreeSet.{contains}
use Rattle.std.specs.Ordering.{nat_cmp}
use Rattle.ec_clients.specs.declared.clients.Clients.{Clients}
use Rattle.ec_clients.specs.declared.clients.Running.{Running}

-- by client, the call that isn't answered yet
abbrev pub slots_of : {C : Type 0} → Clients C → List (Option (Running C))
slots_of c = c.running.items

abbrev pub joined : {X : Type 0} → Option (Option X) → Option X
joined None = None
joined (Some x) = x

abbrev pub running_at : {C : Type 0} → Clients C → ℕ → Option (Running C)
running_at c j = joined (slice_get (slots_of c) j)

abbrev pub is_true : Option Bool → Bool
is_true None = false
is_true (Some b) = b

abbrev pub is_dead_at : {C : Type 0} → Clients C → ℕ → Bool
is_dead_at c j = is_true (slice_get c.dead.items j)

-- whether a Release of this ask was sent
abbrev pub is_released : {C : Type 0} → Clients C → ℕ → Bool
is_released c i = contains nat_cmp c.released i
