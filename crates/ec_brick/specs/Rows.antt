-- The table's rows: which grant a request needs, whose head is read, and why that refuses it.
use Rattle.std.specs.Prelude.{ℕ, Bool, true, false, not, cond, ◌==◌, ◌&&◌, ◌||◌, Option, Some, None, List}
use Rattle.ec_attr.specs.GoodGroup.{same_kind}
use Rattle.ec_attr.specs.Marks.{is_marked, stripped}
use Rattle.ec_attr.specs.declared.gfid.Gfid.{Gfid}
use Rattle.ec_attr.specs.declared.head.Head.{Head}
use Rattle.ec_attr.specs.declared.kind.Domain.TheVariants.{Inode, Heal}
use Rattle.ec_attr.specs.declared.kind.Kind.{Kind}
use Rattle.ec_attr.specs.declared.kind.Kind.TheVariants.{File, Dir}
use Rattle.ec_attr.specs.declared.kind.LockKind.TheVariants.{Shared, Exclusive}
use Rattle.ec_locks.specs.Table.{holds}
use Rattle.ec_locks.specs.declared.ask.Ask.{Ask as Asking}
use Rattle.ec_wire.specs.declared.reply.Reply.{Reply}
use Rattle.ec_wire.specs.declared.reply.Reply.TheVariants.{NoGrant, NoInode, IsInode, OtherKind, NotAt}
use Rattle.ec_wire.specs.declared.request.Request.{Request}
use Rattle.ec_wire.specs.declared.request.Request.TheVariants.{Ask, Release, Query, PreOp, ReadChunks, WriteChunks, SetLength, PostOp, Clear, NameGet, NamesAfter, NameSet, NamesPut, Make, Made, Unmake, Mark, Unmark, GfidsAfter}
use Rattle.ec_brick.specs.declared.row.Need.{Need}
use Rattle.ec_brick.specs.declared.row.Need.TheVariants.{Reading, Writing, Healing, Either}
use Rattle.ec_brick.specs.declared.row.Check.{Check}
use Rattle.ec_brick.specs.declared.row.Check.TheVariants.{Present, At, OfKind, Content, Absent, Fresh, Markable}
use Rattle.ec_brick.specs.declared.row.Row.{Row}

abbrev pub row : Gfid → ℕ → Need → Gfid → Check → Option Row
row g grant need subject check = Some (record { gfid = g; grant = grant; need = need; heal = None; subject = subject; check = check })

-- with a Heal grant of the gfid besides
abbrev pub row_with_heal : Gfid → ℕ → Need → ℕ → Gfid → Check → Option Row
row_with_heal g grant need heal subject check = Some (record { gfid = g; grant = grant; need = need; heal = Some heal; subject = subject; check = check })

-- the row of a request; the first two and the last need no grant
abbrev pub row_of : Request → Option Row
row_of (Ask g domain kind) = None
row_of (Release g n) = None
row_of (Query g n) = row g n Reading g Present
row_of (PreOp g n at dirty) = row g n Writing g (At at)
row_of (ReadChunks g n first count) = row g n Reading g (OfKind File)
row_of (WriteChunks g n first chunks) = row g n Either g (Content File)
row_of (SetLength g n keep count) = row g n Either g (Content File)
row_of (PostOp g n at version size attr) = row g n Writing g (At at)
row_of (Clear g n at) = row g n Writing g (At at)
row_of (NameGet g n name) = row g n Reading g (OfKind Dir)
row_of (NamesAfter g n after) = row g n Reading g (OfKind Dir)
row_of (NameSet g n name child) = row g n Writing g (OfKind Dir)
row_of (NamesPut g n after upto list) = row g n Healing g (Content Dir)
row_of (Make g n child) = row g n Writing child.gfid Absent
row_of (Made g n child) = row g n Writing child Fresh
row_of (Unmake g n child) = row g n Writing child Present
row_of (Mark g n heal head) = row_with_heal g n Writing heal g (Markable head.kind head.version.content)
row_of (Unmark g n at dirty) = row g n Healing g (At at)
row_of (GfidsAfter after dirty) = None

abbrev pub meets : Need → List Asking → ℕ → Gfid → Bool
meets Reading asks n g = holds asks n g Inode Shared
meets Writing asks n g = holds asks n g Inode Exclusive
meets Healing asks n g = holds asks n g Heal Exclusive
meets Either asks n g = holds asks n g Inode Exclusive || holds asks n g Heal Exclusive

-- whether the grant lets a record be changed that isn't marked
abbrev pub is_writers : Need → List Asking → ℕ → Gfid → Bool
is_writers Reading asks n g = false
is_writers Writing asks n g = true
is_writers Healing asks n g = false
is_writers Either asks n g = holds asks n g Inode Exclusive

abbrev pub heal_fence : List Asking → Gfid → Option ℕ → Option Reply
heal_fence asks g None = None
heal_fence asks g (Some n) = cond (holds asks n g Heal Exclusive) None (Some (NoGrant n))

-- the fence: a request is refused whose grant, or then whose Heal grant, the lock table doesn't hold
abbrev pub fence : List Asking → Row → Option Reply
fence asks r = cond (meets r.need asks r.grant r.gfid) (heal_fence asks r.gfid r.heal) (Some (NoGrant r.grant))

abbrev pub other_kind : Kind → Head → Option Reply
other_kind k h = cond (same_kind h.kind k) None (Some OtherKind)

-- why the head refuses a request. `writer` is whether the grant lets an unmarked record be changed, `gone` whether the
-- subject was removed since the brick started.
abbrev pub refusal : Check → ℕ → Bool → Bool → Option Head → Option Reply
refusal Present n writer gone None = Some NoInode
refusal Present n writer gone (Some h) = None
refusal (At v) n writer gone None = Some NoInode
refusal (At v) n writer gone (Some h) = cond (h.version.content == v) None (Some (NotAt h.version.content))
refusal (OfKind k) n writer gone None = Some NoInode
refusal (OfKind k) n writer gone (Some h) = other_kind k h
refusal (Content k) n writer gone None = Some NoInode
refusal (Content k) n writer gone (Some h) = cond (writer || is_marked h.version.content) (other_kind k h) (Some (NoGrant n))
refusal Absent n writer gone None = cond gone (Some IsInode) None
refusal Absent n writer gone (Some h) = Some IsInode
refusal Fresh n writer gone None = Some NoInode
refusal Fresh n writer gone (Some h) = cond (not gone && (h.version.content == 0) && (h.dirty.content == 1)) None (Some (NotAt h.version.content))
refusal (Markable k v) n writer gone None = None
refusal (Markable k v) n writer gone (Some h) = cond (same_kind h.kind k) (cond (not (is_marked h.version.content) && (h.version.content == stripped v)) (Some IsInode) None) (Some OtherKind)
