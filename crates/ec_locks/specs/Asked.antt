-- What an ask is answered, and whom a release and a cut let in.
use Rattle.std.specs.Prelude.{◌≡◌, Bool, true, false, ◌||◌, List, [], map}
use Rattle.ec_locks.specs.declared.ask.Ask.{Ask}
use Rattle.ec_locks.specs.declared.ask.Leaving.{Leaving}
use Rattle.ec_locks.specs.declared.waiters.Waiter.{Waiter}
use Rattle.ec_locks.specs.declared.table.Asked.{Asked}
use Rattle.ec_locks.specs.declared.table.Asked.TheVariants.{Granted, Queued}
use Rattle.ec_locks.specs.Table.{conflicts, same_queue, some_grant, some_waiter, waiters_before, let_in, by_queue, waiter_of}

-- a conflicting grant stands, or a waiter of the same queue
abbrev pub has_to_wait : List Ask → Ask → Bool
has_to_wait asks e = some_grant (λ a. conflicts a e) [] asks || some_waiter (λ a. same_queue a e) [] asks

abbrev pub AskedIs : List Ask → Ask → Asked → Type 0
AskedIs asks e Granted = has_to_wait asks e ≡ false
AskedIs asks e (Queued n) = (has_to_wait asks e ≡ true) × (n ≡ waiters_before [] asks e)

-- the waiters that are let in, in the order of asking
abbrev pub granted : Leaving → List Ask → List Waiter
granted l asks = map waiter_of (let_in l [] asks)

-- the same, one queue after the other
abbrev pub granted_by_queue : Leaving → List Ask → List Waiter
granted_by_queue l asks = map waiter_of (by_queue [] (let_in l [] asks))
