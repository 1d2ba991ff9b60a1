-- What a brick makes of a request, and what its stop, its start, the cut of a client and a torn write make of it.
use Rattle.std.specs.Prelude.{ℕ, ◌*◌, true, false, cond, Option, Some, None, List, [], ◌∷◌, ◌++◌, filter, length, take}
use Rattle.std.specs.Option.{option_map}
use Rattle.ec_attr.specs.declared.gfid.Gfid.{Gfid}
use Rattle.ec_attr.specs.declared.head.Head.{Head}
use Rattle.ec_locks.specs.Asked.{granted, granted_by_queue, has_to_wait}
use Rattle.ec_locks.specs.Table.{stays}
use Rattle.ec_locks.specs.declared.ask.Ask.{Ask as Asking}
use Rattle.ec_locks.specs.declared.ask.Leaving.TheVariants.{Client, Number}
use Rattle.ec_locks.specs.declared.waiters.Waiter.{Waiter}
use Rattle.ec_store.specs.Records.{head_at, wrote}
use Rattle.ec_wire.specs.declared.reply.Reply.{Reply}
use Rattle.ec_wire.specs.declared.reply.Reply.TheVariants.{Done, Fault, Granted}
use Rattle.ec_wire.specs.declared.request.Request.{Request}
use Rattle.ec_wire.specs.declared.request.Request.TheVariants.{Ask, Release, WriteChunks, GfidsAfter}
use Rattle.ec_brick.specs.Replies.{Says, Nothing, Is, own_of}
use Rattle.ec_brick.specs.Rows.{fence, is_writers, refusal, row_of}
use Rattle.ec_brick.specs.State.{State}
use Rattle.ec_brick.specs.Work.{broken_of, bytes_of, removed_of, unset_at, work_of}
use Rattle.ec_brick.specs.declared.row.Row.{Row}

-- whether the store failed, and when: as the head was read, or in the work
pub data Failing : Type 0 where
  Fine : Failing
  Before : Failing
  Within : Failing

-- the brick after it, what is replied, the version of the head that was read, and who is let in
pub record Out : Type 0 where
  pub brick : State
  pub says : Says
  pub version : Option ℕ
  pub lets_in : List Waiter

abbrev pub replies : State → Says → Option ℕ → Out
replies b says version = record { brick = b; says = says; version = version; lets_in = [] }

-- no reply, and all as it was
abbrev pub quiet : State → Out
quiet b = replies b Nothing None

-- granted where no conflicting grant stands and nobody waits for that gfid and domain
abbrev pub asked : State → Asking → Out
asked b a = replies (record b { asks = b.asks ++ a ∷ [] }) (cond (has_to_wait b.asks a) Nothing (Is Granted)) None

abbrev pub released : State → ℕ → Out
released b n = record { brick = record b { asks = filter (stays (Number n)) b.asks }; says = Nothing; version = None; lets_in = granted (Number n) b.asks }

-- the brick after the work, the brick after a work in which the store failed, and the work's own reply
pub record Work : Type 0 where
  pub done : State
  pub broken : State
  pub own : Says

abbrev pub work : State → Request → Work
work b q = record { done = record b { records = work_of b.config q b.records; removed = removed_of q b.removed }; broken = record b { records = broken_of q b.records }; own = own_of q b.records }

abbrev pub worked : State → Failing → Work → Option ℕ → Out
worked b Fine w version = replies w.done w.own version
worked b Before w version = replies b (Is Fault) version
worked b Within w version = replies w.broken (Is Fault) version

abbrev pub version_of : Option Head → Option ℕ
version_of h = option_map (λ h. h.version.content) h

abbrev pub refusal_of : State → Row → Option Head → Option Reply
refusal_of b r h = refusal r.check r.grant (is_writers r.need b.asks r.grant r.gfid) (b.removed r.subject.0) h

-- refused by the head, or done
abbrev pub judged : State → Failing → Work → Option ℕ → Option Reply → Out
judged b f w version None = worked b f w version
judged b f w version (Some y) = replies b (Is y) version

-- the head is read, unless the store fails
abbrev pub head_read : State → Failing → Work → Row → Option Head → Out
head_read b Fine w r h = judged b Fine w (version_of h) (refusal_of b r h)
head_read b Before w r h = replies b (Is Fault) None
head_read b Within w r h = judged b Within w (version_of h) (refusal_of b r h)

-- refused by the fence, or let through
abbrev pub fenced : State → Failing → Work → Row → Option Reply → Out
fenced b f w r None = head_read b f w r (head_at b.records r.subject.0)
fenced b f w r (Some y) = replies b (Is y) None

abbrev pub by_row : State → Failing → Work → Option Row → Out
by_row b f w None = quiet b
by_row b f w (Some r) = fenced b f w r (fence b.asks r)

-- a request that no grant guards, and for which no head is read
abbrev pub unguarded : State → Failing → Says → Out
unguarded b Fine own = replies b own None
unguarded b Before own = replies b (Is Fault) None
unguarded b Within own = replies b (Is Fault) None

abbrev pub executed : State → Failing → ℕ → ℕ → Request → Out
executed b f client number (Ask g domain kind) = asked b (record { number = number; client = client; gfid = g; domain = domain; kind = kind })
executed b f client number (Release g n) = released b n
executed b f client number (GfidsAfter after dirty) = unguarded b f (own_of (GfidsAfter after dirty) b.records)
executed b f client number q = by_row b f (work b q) (row_of q)

-- the request of message `number` by a client; a brick that is stopped executes nothing
abbrev pub step : State → Failing → ℕ → ℕ → Request → Out
step b f client number q = cond b.up (executed b f client number q) (quiet b)

-- the records stay, and all grants and waiters end
abbrev pub stopped : State → State
stopped b = record b { up = false; asks = []; removed = λ g. false }

abbrev pub started : State → State
started b = record b { up = true }

-- all grants and waiters of a client end
abbrev pub cut_off : State → ℕ → Out
cut_off b client = record { brick = record b { asks = filter (stays (Client client)) b.asks }; says = Nothing; version = None; lets_in = granted_by_queue (Client client) b.asks }

-- these bytes of a write, from its chunk `first` on
abbrev pub part_work : State → Gfid → ℕ → List ℕ → Work
part_work b g first bytes = record { done = record b { records = wrote b.records g.0 (512 * first) bytes }; broken = record b { records = unset_at b.records g.0 (512 * first) (length bytes) }; own = Is Done }

-- no reply comes, and the brick stops
abbrev pub stops : Out → Out
stops out = record { brick = stopped out.brick; says = Nothing; version = out.version; lets_in = [] }

-- a write that is cut short: its first bytes, under the same fence and refusals, and then the brick stops
abbrev pub torn_off : State → Failing → Request → ℕ → Out
torn_off b f (WriteChunks g n first chunks) count = stops (by_row b f (part_work b g first (take count (bytes_of chunks))) (row_of (WriteChunks g n first chunks)))
torn_off b f q count = stops (quiet b)

abbrev pub torn : State → Failing → Request → ℕ → Out
torn b f q count = cond b.up (torn_off b f q count) (quiet b)
