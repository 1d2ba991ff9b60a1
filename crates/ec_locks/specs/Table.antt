-- The lock table is the list of the asks that stand, in the order of asking: which of them are granted is told by the
-- order alone.
use Rattle.std.specs.Prelude.{ℕ, ◌+◌, nat_lt, Bool, true, false, not, cond, ◌==◌, ◌&&◌, ◌||◌, List, [], ◌∷◌, ◌++◌, filter}
use Rattle.std.specs.List.{list_any}
use Rattle.ec_attr.specs.declared.gfid.Gfid.{Gfid}
use Rattle.ec_attr.specs.declared.kind.Domain.{Domain}
use Rattle.ec_attr.specs.declared.kind.Domain.TheVariants.{Inode, Heal}
use Rattle.ec_attr.specs.declared.kind.LockKind.{LockKind}
use Rattle.ec_attr.specs.declared.kind.LockKind.TheVariants.{Shared, Exclusive}
use Rattle.ec_locks.specs.declared.ask.Ask.{Ask}
use Rattle.ec_locks.specs.declared.ask.Leaving.{Leaving}
use Rattle.ec_locks.specs.declared.ask.Leaving.TheVariants.{Number, Client}
use Rattle.ec_locks.specs.declared.waiters.Waiter.{Waiter}

abbrev pub same_domain : Domain → Domain → Bool
same_domain Inode Inode = true
same_domain Inode Heal = false
same_domain Heal Inode = false
same_domain Heal Heal = true

abbrev pub is_exclusive : LockKind → Bool
is_exclusive Shared = false
is_exclusive Exclusive = true

-- a queue is of one gfid and one domain
abbrev pub same_queue : Ask → Ask → Bool
same_queue a b = (a.gfid.0 == b.gfid.0) && same_domain a.domain b.domain

-- two asks of one queue of which one is exclusive
abbrev pub conflicts : Ask → Ask → Bool
conflicts a b = same_queue a b && (is_exclusive a.kind || is_exclusive b.kind)

-- none of these conflicts with it: granted is exactly the ask that is free of all before it
abbrev pub free : List Ask → Ask → Bool
free before a = not (list_any (λ b. conflicts b a) before)

-- whether the test holds of a granted ask of `rest`, behind those of `before`
abbrev pub some_grant : (Ask → Bool) → List Ask → List Ask → Bool
some_grant p before [] = false
some_grant p before (a ∷ rest) = (free before a && p a) || some_grant p (before ++ a ∷ []) rest

-- whether the test holds of a waiting ask of `rest`, behind those of `before`
abbrev pub some_waiter : (Ask → Bool) → List Ask → List Ask → Bool
some_waiter p before [] = false
some_waiter p before (a ∷ rest) = (not (free before a) && p a) || some_waiter p (before ++ a ∷ []) rest

-- how many wait in the queue of `e`
abbrev pub waiters_before : List Ask → List Ask → Ask → ℕ
waiters_before before [] e = 0
waiters_before before (a ∷ rest) e = cond (not (free before a) && same_queue a e) 1 0 + waiters_before (before ++ a ∷ []) rest e

abbrev pub has_number : ℕ → Ask → Bool
has_number n a = a.number == n

-- whether an ask of that number stands
abbrev pub has : List Ask → ℕ → Bool
has asks n = list_any (has_number n) asks

-- an exclusive grant holds as shared too
abbrev pub covers : Ask → ℕ → Gfid → Domain → LockKind → Bool
covers a n g d k = (a.number == n) && (a.gfid.0 == g.0) && same_domain a.domain d && (is_exclusive a.kind || not (is_exclusive k))

abbrev pub holds : List Ask → ℕ → Gfid → Domain → LockKind → Bool
holds asks n g d k = some_grant (λ a. covers a n g d k) [] asks

-- whether an ask of that number waits
abbrev pub queued : List Ask → ℕ → Bool
queued asks n = some_waiter (has_number n) [] asks

-- whether an ask waits in the queue of `a`
abbrev pub has_waiter : List Ask → Ask → Bool
has_waiter asks a = some_waiter (λ b. same_queue b a) [] asks

-- whether a grant of that number stands for which an ask waits
abbrev pub waited : List Ask → ℕ → Bool
waited asks n = some_grant (λ a. has_number n a && has_waiter asks a) [] asks

abbrev pub leaves : Leaving → Ask → Bool
leaves (Number n) a = a.number == n
leaves (Client c) a = a.client == c

abbrev pub stays : Leaving → Ask → Bool
stays l a = not (leaves l a)

-- whether an ask behind these is let in as others leave: it stays, waited for one that leaves, and waits for none that
-- stays
abbrev pub is_let_in : Leaving → List Ask → Ask → Bool
is_let_in l before a = stays l a && (list_any (λ b. conflicts b a) (filter (leaves l) before) && free (filter (stays l) before) a)

-- who of `rest`, behind those of `before`, is let in
abbrev pub let_in : Leaving → List Ask → List Ask → List Ask
let_in l before [] = []
let_in l before (a ∷ rest) = cond (is_let_in l before a) (a ∷ let_in l (before ++ a ∷ []) rest) (let_in l (before ++ a ∷ []) rest)

abbrev pub waiter_of : Ask → Waiter
waiter_of a = record { number = a.number; client = a.client }

-- whether the queue of `a` comes after that of `e`: gfids rise, and Inode comes before Heal
abbrev pub is_behind : Ask → Ask → Bool
is_behind a e = nat_lt e.gfid.0 a.gfid.0 || ((e.gfid.0 == a.gfid.0) && same_domain e.domain Inode && same_domain a.domain Heal)

-- an ask put in front of the queues after its own
abbrev pub put : List Ask → Ask → List Ask
put [] e = e ∷ []
put (a ∷ rest) e = cond (is_behind a e) (e ∷ a ∷ rest) (a ∷ put rest e)

-- one queue after the other, each in the order of asking
abbrev pub by_queue : List Ask → List Ask → List Ask
by_queue done [] = done
by_queue done (a ∷ rest) = by_queue (put done a) rest
