-- What a log makes of the flat files: the fold of what bricks executed, read beside the net before each entry.
use Rattle.std.specs.Prelude.{ℕ, ◌+◌, Bool, true, false, not, cond, ◌==◌, ◌&&◌, ◌||◌, nat_lt, nat_le, Option, Some, None, List, [], ◌∷◌, length}
use Rattle.ec_conduct.specs.Given.{quorum}
use Rattle.ec_attr.specs.Bricks.{count_below}
use Rattle.ec_attr.specs.Marks.{is_marked, stripped}
use Rattle.ec_attr.specs.declared.geometry.Geometry.{Geometry}
use Rattle.ec_attr.specs.declared.head.Head.{Head}
use Rattle.ec_attr.specs.declared.kind.Domain.TheVariants.{Inode}
use Rattle.ec_attr.specs.declared.kind.LockKind.TheVariants.{Exclusive}
use Rattle.ec_locks.specs.Table.{holds}
use Rattle.ec_store.specs.Put.{put}
use Rattle.ec_store.specs.Records.{head_at}
use Rattle.ec_wire.specs.declared.entry.Entry.{Entry}
use Rattle.ec_wire.specs.declared.entry.Entry.TheVariants.{Called, Sent, Executed, Torn}
use Rattle.ec_wire.specs.declared.message.Body.{Body}
use Rattle.ec_wire.specs.declared.message.Body.TheVariants.{ToBrick, ToClient}
use Rattle.ec_wire.specs.declared.message.Message.{Message}
use Rattle.ec_wire.specs.declared.op.Op.{Op}
use Rattle.ec_wire.specs.declared.op.Op.TheVariants.{Create, Mkdir, Heal, Sweep, Stat}
use Rattle.ec_wire.specs.declared.reply.Reply.TheVariants.{Done}
use Rattle.ec_wire.specs.declared.request.Request.{Request}
use Rattle.ec_wire.specs.declared.request.Request.TheVariants.{WriteChunks, SetLength, PostOp, NameSet, Make}
use Rattle.ec_brick.specs.Replies.{Says, Is}
use Rattle.ec_history.specs.Changes.{Found, change}
use Rattle.ec_history.specs.Flat.{Flat, Tree, committed, from_before, made, name_opened, opened}
use Rattle.ec_history.specs.Run.{Asker, Net, after, out_of}

-- `posted` is, by call, gfid and brick, whether the brick executed the call's PostOp while unmarked. `found` is what each
-- call has found by now, and `next_gfid` the gfid that the next create or mkdir takes.
pub record Story : Type 0 where
  pub tree : Tree
  pub posted : ℕ → ℕ → ℕ → Bool
  pub found : ℕ → Found
  pub next_gfid : ℕ

abbrev pub nothing_found : Found
nothing_found = record { took = 0; renames = None; rewrote = λ s. false }

-- as a log begins
abbrev pub opening : Tree → ℕ → Story
opening tree next_gfid = record { tree = λ g. from_before (tree g); posted = λ a g b. false; found = λ a. nothing_found; next_gfid = next_gfid }

-- what a call asked for
abbrev pub asked_for : Option Asker → Op
asked_for None = Stat (record { 0 = 0 })
asked_for (Some asker) = asker.op

abbrev pub op_of : Net → ℕ → Op
op_of m a = asked_for (m.asker a)

abbrev pub makes_a_child : Op → Bool
makes_a_child (Create parent name) = true
makes_a_child (Mkdir parent name) = true
makes_a_child op = false

-- a heal's copies are no data requests
abbrev pub is_heal : Op → Bool
is_heal (Heal gfid) = true
is_heal (Sweep full) = true
is_heal op = false

abbrev pub is_done : Says → Bool
is_done (Is Done) = true
is_done says = false

-- from `first` on, so many
abbrev pub is_among : ℕ → ℕ → ℕ → Bool
is_among first count s = nat_le first s && nat_lt s (first + count)

abbrev pub found_by : Story → ℕ → (Found → Found) → Story
found_by t a f = record t { found = put t.found a (f (t.found a)) }

abbrev pub began : Story → ℕ → Op → Story
began t a op = cond (makes_a_child op) (record (found_by t a (λ f. record f { took = t.next_gfid })) { next_gfid = t.next_gfid + 1 }) t

-- what a call says of its commit by what it sends: the stripes that it writes, and the child that it gives a name
abbrev pub said_by : Story → ℕ → Body → Story
said_by t a (ToBrick (WriteChunks g n first chunks)) = found_by t a (λ f. record f { rewrote = λ s. f.rewrote s || is_among first (length chunks) s })
said_by t a (ToBrick (NameSet g n name (Some child))) = found_by t a (λ f. record f { renames = Some child })
said_by t a body = t

abbrev pub with_flat : Story → ℕ → (Flat → Flat) → Story
with_flat t g f = record t { tree = put t.tree g (f (t.tree g)) }

abbrev pub is_at : Option Head → ℕ → Bool
is_at None v = false
is_at (Some h) v = stripped h.version.content == v

-- whether the brick's version, without the mark, is the flat one
abbrev pub is_at_flat : Net → Story → ℕ → ℕ → Bool
is_at_flat m t b g = is_at (head_at (m.brick b).records g) (t.tree g).version

-- A data request opens its stripes for its call where the brick is at the flat version.
abbrev pub opens : Net → Story → Message → ℕ → (ℕ → Bool) → Story
opens m t msg g stripes = cond (not (is_heal (op_of m msg.call)) && is_at_flat m t msg.brick g) (with_flat t g (opened msg.call stripes)) t

abbrev pub is_unmarked : Option Head → Bool
is_unmarked None = false
is_unmarked (Some h) = not (is_marked h.version.content)

-- how many bricks have executed the PostOp of a call on a gfid while unmarked
abbrev pub posts : Geometry → Story → ℕ → ℕ → ℕ
posts geometry t a g = count_below geometry.n (t.posted a g)

abbrev pub with_post : Story → ℕ → ℕ → ℕ → Story
with_post t a g b = record t { posted = λ x y z. cond ((x == a) && (y == g) && (z == b)) true (t.posted x y z) }

-- A call commits as the K-th brick executes its PostOp while unmarked.
abbrev pub is_commit : Geometry → Story → ℕ → ℕ → ℕ → Bool
is_commit geometry t a g b = nat_lt (posts geometry t a g) (quorum geometry) && nat_le (quorum geometry) (posts geometry (with_post t a g b) a g)

abbrev pub post_done : Geometry → Net → Story → ℕ → ℕ → ℕ → ℕ → Story
post_done geometry m t a g b version =
    cond (is_unmarked (head_at (m.brick b).records g))
    (cond (is_commit geometry t a g b)
    (with_flat (with_post t a g b) g (λ flat. committed (quorum geometry) a version (change (quorum geometry) (op_of m a) (t.found a) g flat) flat))
    (with_post t a g b))
    t

-- what a request that was done makes of it
abbrev pub done_by : Geometry → Net → Story → Message → Request → Story
done_by geometry m t msg (WriteChunks g n first chunks) = opens m t msg g.0 (is_among first (length chunks))
done_by geometry m t msg (SetLength g n keep count) = opens m t msg g.0 (λ s. nat_le keep s)
done_by geometry m t msg (NameSet g n name child) = cond (is_at_flat m t msg.brick g.0) (with_flat t g.0 (name_opened name)) t
done_by geometry m t msg (Make g n child) = with_flat t child.gfid.0 (made child.kind)
done_by geometry m t msg (PostOp g n at version size attr) = post_done geometry m t msg.call g.0 msg.brick version
done_by geometry m t msg q = t

-- a write in which the store failed opens its stripes too
abbrev pub failed_by : Net → Story → Message → Request → Option ℕ → Story
failed_by m t msg (WriteChunks g n first chunks) (Some version) = opens m t msg g.0 (is_among first (length chunks))
failed_by m t msg q version = t

abbrev pub outcome : Geometry → Net → Story → Message → Request → Option ℕ → Bool → Story
outcome geometry m t msg q version true = failed_by m t msg q version
outcome geometry m t msg q version false = cond (is_done (out_of m msg q version false).says) (done_by geometry m t msg q) t

-- so does one that was torn while its grant stood
abbrev pub torn_by : Net → Story → Message → Request → Option ℕ → Story
torn_by m t msg (WriteChunks g n first chunks) (Some version) = cond (holds (m.brick msg.brick).asks n g Inode Exclusive) (opens m t msg g.0 (is_among first (length chunks))) t
torn_by m t msg q version = t

abbrev pub request_of : Body → Option Request
request_of (ToBrick q) = Some q
request_of (ToClient re reply) = None

abbrev pub executes : Geometry → Net → Story → Message → Option Request → Option ℕ → Bool → Story
executes geometry m t msg None version failed = t
executes geometry m t msg (Some q) version failed = outcome geometry m t msg q version failed

abbrev pub tears : Net → Story → Message → Option Request → Option ℕ → Story
tears m t msg None version = t
tears m t msg (Some q) version = torn_by m t msg q version

abbrev pub told_executed : Geometry → Net → Story → Option Message → Option ℕ → Bool → Story
told_executed geometry m t None version failed = t
told_executed geometry m t (Some msg) version failed = executes geometry m t msg (request_of msg.body) version failed

abbrev pub told_torn : Net → Story → Option Message → Option ℕ → Story
told_torn m t None version = t
told_torn m t (Some msg) version = tears m t msg (request_of msg.body) version

-- What an entry makes of it; every other entry leaves it.
abbrev pub told : Geometry → Net → Story → Entry → Story
told geometry m t (Called call client op) = began t call op
told geometry m t (Sent msg) = said_by t msg.call msg.body
told geometry m t (Executed i version failed) = told_executed geometry m t (m.said i) version failed
told geometry m t (Torn i bytes version) = told_torn m t (m.said i) version
told geometry m t e = t

-- after all of these
abbrev pub story : Geometry → List Entry → Net → Story → Story
story geometry [] m t = t
story geometry (e ∷ es) m t = story geometry es (after m e) (told geometry m t e)

-- whether no brick does anything by an entry
abbrev pub is_quiet : Entry → Bool
is_quiet (Executed i version failed) = false
is_quiet (Torn i bytes version) = false
is_quiet e = true

-- whether a call commits as this request of its is done
abbrev pub commits_by : Geometry → Net → Story → Message → Request → Bool
commits_by geometry m t msg (PostOp g n at version size attr) = is_unmarked (head_at (m.brick msg.brick).records g.0) && is_commit geometry t msg.call g.0 msg.brick
commits_by geometry m t msg q = false

abbrev pub commits_with : Geometry → Net → Story → Message → Option Request → Option ℕ → Bool → Bool
commits_with geometry m t msg (Some q) version false = is_done (out_of m msg q version false).says && commits_by geometry m t msg q
commits_with geometry m t msg (Some q) version true = false
commits_with geometry m t msg None version failed = false

abbrev pub commits_of : Geometry → Net → Story → Option Message → Option ℕ → Bool → Bool
commits_of geometry m t (Some msg) version failed = commits_with geometry m t msg (request_of msg.body) version failed
commits_of geometry m t None version failed = false

-- whether a call commits by this entry
abbrev pub commits : Geometry → Net → Story → Entry → Bool
commits geometry m t (Executed i version failed) = commits_of geometry m t (m.said i) version failed
commits geometry m t e = false
