-- Short forms for the worked examples: three bricks of which one may fail, one file, and logs of the entries that the flat
-- file is made from.
use Rattle.std.specs.Prelude.{ℕ, true, false, cond, ◌==◌, nat_lt, Option, Some, None, List, [], ◌∷◌}
use Rattle.ec_attr.specs.Head.{new_attr}
use Rattle.ec_attr.specs.declared.gfid.Gfid.{Gfid}
use Rattle.ec_attr.specs.declared.head.Head.{Head}
use Rattle.ec_attr.specs.declared.kind.Domain.{Domain}
use Rattle.ec_attr.specs.declared.kind.Kind.{Kind}
use Rattle.ec_attr.specs.declared.kind.LockKind.TheVariants.{Exclusive}
use Rattle.ec_locks.specs.declared.ask.Ask.{Ask}
use Rattle.ec_store.specs.Put.{put}
use Rattle.ec_store.specs.Records.{empty}
use Rattle.ec_wire.specs.declared.entry.Entry.{Entry}
use Rattle.ec_wire.specs.declared.entry.Entry.TheVariants.{Sent, Executed}
use Rattle.ec_wire.specs.declared.message.Body.TheVariants.{ToBrick}
use Rattle.ec_wire.specs.declared.request.Request.{Request}
use Rattle.ec_brick.specs.State.{State}
use Rattle.ec_conduct.specs.Examples.{three}
use Rattle.ec_history.specs.Flat.{Flat, Opener, blank, stripe_of}
use Rattle.ec_history.specs.Run.{fresh}
use Rattle.ec_history.specs.Story.{opening, story}

-- the gfid of the file or directory
abbrev pub two : Gfid
two = record { 0 = 2 }

abbrev pub head_of : Kind → ℕ → ℕ → Head
head_of kind version size = record { kind = kind; config = record { geometry = three }; version = record { content = version; meta = 0 }; size = size; dirty = record { content = 0; meta = 0 }; attr = new_attr kind }

-- an exclusive ask for gfid 2
abbrev pub lock : ℕ → ℕ → Domain → Ask
lock number client domain = record { number = number; client = client; gfid = two; domain = domain; kind = Exclusive }

-- a brick with a record of gfid 2 at a version, and with these asks
abbrev pub brick_at : Kind → ℕ → ℕ → List Ask → State
brick_at kind version size asks = record { config = record { geometry = three }; records = put (λ g. None) 2 (Some (empty (head_of kind version size))); up = true; asks = asks; removed = λ g. false }

-- each brick by its number
abbrev pub bricks_of : State → State → State → ℕ → State
bricks_of a b c i = cond (i == 0) a (cond (i == 1) b c)

-- gfid 2 at a version and size, with one and the same byte below the size
abbrev pub flat_of : Kind → ℕ → ℕ → ℕ → Flat
flat_of kind version size byte = record blank { kind = Some kind; version = version; size = size; attr = new_attr kind; byte = λ p. cond (nat_lt p size) (Some byte) (Some 0) }

-- message `number` of a call to a brick, executed there
abbrev pub does : ℕ → ℕ → ℕ → ℕ → Request → List Entry
does number call client brick request = Sent (record { no = number; call = call; client = client; brick = brick; body = ToBrick request }) ∷ Executed number None false ∷ []

-- gfid 2 after a log
abbrev pub after_log : (ℕ → State) → Flat → List Entry → Flat
after_log bricks flat log = (story three log (fresh bricks) (opening (put (λ g. blank) 2 flat) 3)).tree 2

-- what is seen of it: the version, the size, the byte at a place, and who has its stripe open
abbrev pub Seen : Type 0
Seen = ℕ × ℕ × Option ℕ × Opener

abbrev pub seen : Flat → ℕ → Seen
seen flat p = (flat.version, flat.size, flat.byte p, flat.opener (stripe_of 2 p))
