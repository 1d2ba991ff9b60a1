-- Short histories of calls on a volume of 2+1 bricks, some of which keep the conduct.
use Rattle.std.specs.Prelude.{◌≡◌, ℕ, zero, suc, ◌+◌, ◌<◌, Option, Some, None, true, List, [], ◌∷◌, ◌++◌, length, slice_index}
use Rattle.std.proofs.Common.{lit≤}
use Rattle.ec_attr.specs.Head.{new_attr}
use Rattle.ec_attr.specs.Marks.{marked}
use Rattle.ec_attr.specs.declared.attr.Attr.{Attr}
use Rattle.ec_attr.specs.declared.geometry.Geometry.{Geometry}
use Rattle.ec_attr.specs.declared.gfid.Gfid.{Gfid}
use Rattle.ec_attr.specs.declared.head.Head.{Head}
use Rattle.ec_attr.specs.declared.kind.Child.{Child}
use Rattle.ec_attr.specs.declared.kind.Domain.TheVariants.{Inode, Heal}
use Rattle.ec_attr.specs.declared.kind.Kind.TheVariants.{File, Dir}
use Rattle.ec_attr.specs.declared.kind.LockKind.{LockKind}
use Rattle.ec_attr.specs.declared.kind.LockKind.TheVariants.{Exclusive}
use Rattle.ec_field.specs.Code.{IsCode, IsStripe}
use Rattle.ec_store.specs.Pages.{Page}
use Rattle.ec_wire.specs.declared.answer.Answer.{Answer}
use Rattle.ec_wire.specs.declared.answer.Answer.TheVariants.{Attr as AttrIs, Child as ChildOf, Healed, Size}
use Rattle.ec_wire.specs.declared.op.Op.{Op}
use Rattle.ec_wire.specs.declared.op.Op.TheVariants.{Write}
use Rattle.ec_wire.specs.declared.reply.Reply.{Reply}
use Rattle.ec_wire.specs.declared.reply.Reply.TheVariants.{Child as ChildIs, Chunks, Done, NoInode, Fault, Granted, Head as HeadIs, Names}
use Rattle.ec_wire.specs.declared.request.Request.{Request}
use Rattle.ec_wire.specs.declared.request.Request.TheVariants.{Ask, Clear, Made, Make, Mark, NameGet, NameSet, NamesAfter, NamesPut, PostOp, PreOp, Query, ReadChunks, Release, SetLength, Unmark, WriteChunks}
use Rattle.ec_conduct.specs.Data.{stripe_byte}
use Rattle.ec_conduct.specs.Given.{CachedStripe, Given}
use Rattle.ec_conduct.specs.declared.kept.Kept.{Kept}
use Rattle.ec_conduct.specs.Own.{Own, Sends, Hears, GivesUp, Answers}

abbrev pub three : Geometry
three = record { n = 3; r = 1; algorithm = 0; redundant = lit≤ tt; majority = lit≤ tt; least = lit≤ tt; most = lit≤ tt; bricks = lit≤ tt; known = lit≤ tt }

abbrev pub file : Gfid
file = record { 0 = 2 }

-- an empty file that no one has written yet
abbrev pub new_file : Head
new_file = record { kind = File; config = record { geometry = three }; version = record { content = 0; meta = 0 }; size = 0; dirty = record { content = 0; meta = 0 }; attr = new_attr File }

-- the same after a commit that not all bricks have
abbrev pub later_file : Head
later_file = record new_file { version = record { content = 1; meta = 0 }; dirty = record { content = 1; meta = 0 } }

abbrev pub begun : Op → Given
begun op = record { geometry = three; op = op; child = 9; kept = None; cache = [] }

-- an ask at one brick after another: the numbers from n on, each followed by that of its reply
abbrev pub locks : Gfid → ℕ → List Own
locks g n =
    Sends 0 n (Ask g Inode Exclusive) ∷ Hears 0 n Granted ∷
    Sends 1 (n + 2) (Ask g Inode Exclusive) ∷ Hears 1 (n + 2) Granted ∷
    Sends 2 (n + 4) (Ask g Inode Exclusive) ∷ Hears 2 (n + 4) Granted ∷ []

-- a request to each brick at once, and the replies
abbrev pub round : ℕ → (ℕ → Request) → Reply → List Own
round n to reply =
    Sends 0 n (to 0) ∷ Sends 1 (n + 1) (to 1) ∷ Sends 2 (n + 2) (to 2) ∷
    Hears 0 n reply ∷ Hears 1 (n + 1) reply ∷ Hears 2 (n + 2) reply ∷ []

-- the grant that `locks g 1` gives at a brick
abbrev pub grant_at : ℕ → ℕ
grant_at b = 1 + b + b

abbrev pub releases : Gfid → ℕ → List Own
releases g n = Sends 0 n (Release g 1) ∷ Sends 1 (n + 1) (Release g 3) ∷ Sends 2 (n + 2) (Release g 5) ∷ []

abbrev pub queries : Gfid → Head → ℕ → List Own
queries g head n = round n (λ b. Query g (grant_at b)) (HeadIs head)

abbrev pub pre_ops : Gfid → ℕ → ℕ → ℕ → List Own
pre_ops g version dirty n = round n (λ b. PreOp g (grant_at b) version dirty) Done

abbrev pub post_ops : Gfid → ℕ → ℕ → ℕ → Option Attr → ℕ → List Own
post_ops g old new size attr n = round n (λ b. PostOp g (grant_at b) old new size attr) Done

abbrev pub clears : Gfid → ℕ → ℕ → List Own
clears g version n = round n (λ b. Clear g (grant_at b) version) Done

abbrev pub other_attr : Attr
other_attr = record { mode = 384; owner = 7; group = 8; in_range = lit≤ tt }

abbrev pub answered : Answer → List Own
answered answer = Answers answer ∷ []

-- a setattr whose every request is done
abbrev pub whole_setattr : List Own
whole_setattr = locks file 1 ++ queries file new_file 7 ++ pre_ops file 0 1 13 ++ post_ops file 0 1 0 (Some other_attr) 19 ++ clears file 1 25 ++ releases file 31 ++ answered (AttrIs other_attr)

-- bytes that fill one stripe of two chunks, and the codes of that stripe at each brick
pub record IsOneStripe (bytes : List ℕ) (stripe : List (List ℕ)) (code : ℕ → List ℕ) : Type 0 where
  pub len : length bytes ≡ 1024
  pub stripe_is : IsStripe 2 stripe
  pub bytes_are : (i : ℕ) → i < 1024 → stripe_byte stripe i ≡ slice_index bytes i
  pub codes : (b : ℕ) → b < 3 → IsCode 2 0 b stripe (code b)

abbrev pub writing : List ℕ → Given
writing bytes = begun (Write file 0 bytes)

abbrev pub writes_of : (ℕ → List ℕ) → ℕ → List Own
writes_of code n = round n (λ b. WriteChunks file (grant_at b) 0 (code b ∷ [])) Done

-- a write of one stripe up to its PostOps
abbrev pub half_write : (ℕ → List ℕ) → List Own
half_write code = locks file 1 ++ queries file new_file 7 ++ pre_ops file 0 1 13 ++ writes_of code 19

-- and to its end
abbrev pub whole_write : (ℕ → List ℕ) → List Own
whole_write code = half_write code ++ post_ops file 0 1 1024 None 25 ++ clears file 1 31 ++ releases file 37 ++ answered (Size 1024)

-- a write at whose third brick the store fails in the WriteChunks
abbrev pub faulted_write : (ℕ → List ℕ) → List Own
faulted_write code =
    locks file 1 ++ queries file new_file 7 ++ pre_ops file 0 1 13
    ++ Sends 0 19 (WriteChunks file 1 0 (code 0 ∷ [])) ∷ Sends 1 20 (WriteChunks file 3 0 (code 1 ∷ [])) ∷ Sends 2 21 (WriteChunks file 5 0 (code 2 ∷ []))
    ∷ Hears 0 19 Done ∷ Hears 1 20 Done ∷ Hears 2 21 Fault ∷ []

-- a setattr up to its PreOps, and up to PostOps of which the third is given up
abbrev pub begun_setattr : List Own
begun_setattr = locks file 1 ++ queries file new_file 7 ++ pre_ops file 0 1 13

abbrev pub posted_setattr : List Own
posted_setattr = begun_setattr
    ++ Sends 0 19 (PostOp file 1 0 1 0 (Some other_attr)) ∷ Sends 1 20 (PostOp file 3 0 1 0 (Some other_attr)) ∷ Sends 2 21 (PostOp file 5 0 1 0 (Some other_attr))
    ∷ Hears 0 19 Done ∷ Hears 1 20 Done ∷ GivesUp 2 21 ∷ []

-- the third brick's ask is waited for
abbrev pub two_locks : List Own
two_locks = Sends 0 1 (Ask file Inode Exclusive) ∷ Hears 0 1 Granted ∷ Sends 1 3 (Ask file Inode Exclusive) ∷ Hears 1 3 Granted ∷ Sends 2 5 (Ask file Inode Exclusive) ∷ []

-- the first PreOp is sent
abbrev pub one_pre_op : List Own
one_pre_op = locks file 1 ++ queries file new_file 7 ++ Sends 0 13 (PreOp file 1 0 1) ∷ []

-- the third brick has an older version than the others
abbrev pub stale_third : List Own
stale_third = locks file 1
    ++ Sends 0 7 (Query file 1) ∷ Sends 1 8 (Query file 3) ∷ Sends 2 9 (Query file 5)
    ∷ Hears 0 7 (HeadIs later_file) ∷ Hears 1 8 (HeadIs later_file) ∷ Hears 2 9 (HeadIs new_file) ∷ []

abbrev pub directory : Gfid
directory = record { 0 = 1 }

abbrev pub new_directory : Head
new_directory = record new_file { kind = Dir; attr = new_attr Dir }

abbrev pub name_f : List ℕ
name_f = 102 ∷ []

-- the child that `begun` lets a call take
abbrev pub new_child : Child
new_child = record { kind = File; gfid = record { 0 = 9 } }

-- a create up to its Makes, and to its end
abbrev pub half_create : List Own
half_create = locks directory 1 ++ queries directory new_directory 7 ++ round 13 (λ b. NameGet directory (grant_at b) name_f) (ChildIs None) ++ pre_ops directory 0 1 19

-- a create at whose third brick the Make fails
abbrev pub unmade_create : List Own
unmade_create = half_create
    ++ Sends 0 25 (Make directory 1 new_child) ∷ Sends 1 26 (Make directory 3 new_child) ∷ Sends 2 27 (Make directory 5 new_child)
    ∷ Hears 0 25 Done ∷ Hears 1 26 Done ∷ Hears 2 27 Fault ∷ []

abbrev pub whole_create : List Own
whole_create = half_create
    ++ round 25 (λ b. Make directory (grant_at b) new_child) Done
    ++ round 31 (λ b. NameSet directory (grant_at b) name_f (Some new_child)) Done
    ++ post_ops directory 0 1 0 None 37 ++ clears directory 1 43
    ++ round 49 (λ b. Made directory (grant_at b) new_child.gfid) Done
    ++ releases directory 55 ++ answered (ChildOf new_child)

abbrev pub heal_locks : List Own
heal_locks =
    Sends 0 1 (Ask file Heal Exclusive) ∷ Hears 0 1 Granted ∷
    Sends 1 3 (Ask file Heal Exclusive) ∷ Hears 1 3 Granted ∷
    Sends 2 5 (Ask file Heal Exclusive) ∷ Hears 2 5 Granted ∷ []

-- the grant that `locks file 7` gives at a brick
abbrev pub window_grant : ℕ → ℕ
window_grant b = 7 + b + b

-- the third brick has no record of a file that has this head elsewhere
abbrev pub sink_queries : Head → List Own
sink_queries head =
    Sends 0 13 (Query file 7) ∷ Sends 1 14 (Query file 9) ∷ Sends 2 15 (Query file 11) ∷
    Hears 0 13 (HeadIs head) ∷ Hears 1 14 (HeadIs head) ∷ Hears 2 15 NoInode ∷ []

abbrev pub marked_head : Head → Head
marked_head head = record head { version = record head.version { content = marked head.version.content } }

-- a heal of the third brick up to its Queries, and to the length of its fragment
abbrev pub begun_heal : Head → List Own
begun_heal head = heal_locks ++ locks file 7 ++ sink_queries head

abbrev pub marked_heal : Head → List Own
marked_heal head = begun_heal head ++ Sends 2 19 (Mark file 11 5 (marked_head head)) ∷ Hears 2 19 Done ∷ []

abbrev pub trimmed_heal : Head → ℕ → List Own
trimmed_heal head chunks = marked_heal head ++ Sends 2 21 (SetLength file 5 chunks chunks) ∷ Hears 2 21 Done ∷ []

-- a heal of a file of one stripe that has read it from two bricks
abbrev pub read_heal : (ℕ → List ℕ) → List Own
read_heal code = marked_heal (record later_file { size = 1024 })
    ++ Sends 2 21 (SetLength file 5 1 1) ∷ Hears 2 21 Done
    ∷ Sends 0 23 (ReadChunks file 7 0 1) ∷ Sends 1 24 (ReadChunks file 9 0 1)
    ∷ Hears 0 23 (Chunks (code 0 ∷ [])) ∷ Hears 1 24 (Chunks (code 1 ∷ [])) ∷ []

-- A heal of an empty file, which has nothing to copy: up to its Unmark, to the Clears of its touch, and to its end.
abbrev pub unmarked_heal : List Own
unmarked_heal = trimmed_heal later_file 0 ++ Sends 2 23 (Unmark file 5 (marked 1) 1) ∷ Hears 2 23 Done ∷ []

abbrev pub touched_heal : List Own
touched_heal = unmarked_heal
    ++ round 25 (λ b. PreOp file (window_grant b) 1 2) Done
    ++ round 31 (λ b. PostOp file (window_grant b) 1 3 0 None) Done
    ++ round 37 (λ b. Clear file (window_grant b) 3) Done

abbrev pub whole_heal : List Own
whole_heal = touched_heal
    ++ (Sends 0 43 (Release file 7) ∷ Sends 0 44 (Release file 1) ∷ Sends 1 45 (Release file 9) ∷ Sends 1 46 (Release file 3) ∷ Sends 2 47 (Release file 11) ∷ Sends 2 48 (Release file 5) ∷ [])
    ++ answered (Healed 4 true)

-- a file of one stripe
abbrev pub full_file : Head
full_file = record later_file { size = 1024 }

-- the third brick's Heal lock is given up
abbrev pub two_heal_locks : List Own
two_heal_locks = Sends 0 1 (Ask file Heal Exclusive) ∷ Hears 0 1 Granted ∷ Sends 1 3 (Ask file Heal Exclusive) ∷ Hears 1 3 Granted ∷ Sends 2 5 (Ask file Heal Exclusive) ∷ GivesUp 2 5 ∷ Sends 2 6 (Release file 5) ∷ []

-- a write of one byte into a file of one stripe, up to its PreOps, with nothing read
abbrev pub writing_byte : Given
writing_byte = begun (Write file 0 (65 ∷ []))

abbrev pub unread_write : List Own
unread_write = locks file 1 ++ queries file full_file 7 ++ pre_ops file 1 2 13

-- grants that a write of the file left at all three bricks
abbrev pub kept_grants : Kept
kept_grants = record { gfid = file; head = later_file; bricks = 7; sinks = 0; grants = 1 ∷ 3 ∷ 5 ∷ []; dirty = 0 }

abbrev pub on_kept_grants : Op → Given
on_kept_grants op = record { geometry = three; op = op; child = 9; kept = Some kept_grants; cache = [] }

-- beginning anew with them
abbrev pub anew : List Own
anew = Sends 0 41 (Release file 1) ∷ Sends 1 42 (Release file 3) ∷ Sends 2 43 (Release file 5) ∷ Sends 0 44 (Ask file Inode Exclusive) ∷ []

-- three PreOps with these replies
abbrev pub mixed_pre_ops : Reply → Reply → Reply → List Own
mixed_pre_ops a b c = locks file 1 ++ queries file new_file 7
    ++ Sends 0 13 (PreOp file 1 0 1) ∷ Sends 1 14 (PreOp file 3 0 1) ∷ Sends 2 15 (PreOp file 5 0 1)
    ∷ Hears 0 13 a ∷ Hears 1 14 b ∷ Hears 2 15 c ∷ []

-- one brick of three is asked for its head
abbrev pub one_query : List Own
one_query = locks file 1 ++ Sends 0 7 (Query file 1) ∷ Hears 0 7 (HeadIs new_file) ∷ []

-- an unlink up to its NameSets, and to its PostOps
abbrev pub half_unlink : List Own
half_unlink = locks directory 1 ++ queries directory new_directory 7 ++ round 13 (λ b. NameGet directory (grant_at b) name_f) (ChildIs (Some new_child)) ++ pre_ops directory 0 1 19 ++ round 25 (λ b. NameSet directory (grant_at b) name_f None) Done

abbrev pub posted_unlink : List Own
posted_unlink = half_unlink ++ post_ops directory 0 1 0 None 31

-- a truncate of a file of one stripe to nothing, up to its PreOps, and with a SetLength
abbrev pub begun_truncate : List Own
begun_truncate = locks file 1 ++ queries file full_file 7 ++ pre_ops file 1 2 13

abbrev pub cut_truncate : ℕ → List Own
cut_truncate chunks = begun_truncate ++ round 19 (λ b. SetLength file (grant_at b) chunks chunks) Done

-- a write that is answered and keeps its grants
abbrev pub unclear_write : (ℕ → List ℕ) → List Own
unclear_write code = half_write code ++ post_ops file 0 1 1024 None 25

abbrev pub kept_write : (ℕ → List ℕ) → List Own
kept_write code = unclear_write code ++ clears file 1 31 ++ answered (Size 1024)

-- what it keeps
abbrev pub left_grants : Kept
left_grants = record { gfid = file; head = full_file; bricks = 7; sinks = 0; grants = 1 ∷ 3 ∷ 5 ∷ []; dirty = 0 }

-- The old and the new stripe of a write of the byte 65 at the front, with the chunks that two bricks gave of the old one
-- and the codes of the new one.
pub record IsPartWrite (old new : List (List ℕ)) (chunk code : ℕ → List ℕ) : Type 0 where
  pub old_is : IsStripe 2 old
  pub new_is : IsStripe 2 new
  pub first : stripe_byte new 0 ≡ 65
  pub others : (i : ℕ) → 0 < i → i < 1024 → stripe_byte new i ≡ stripe_byte old i
  pub chunks : (b : ℕ) → b < 2 → IsCode 2 0 b old (chunk b)
  pub codes : (b : ℕ) → b < 3 → IsCode 2 0 b new (code b)

-- that write, with the stripe read from two bricks
abbrev pub read_write : (ℕ → List ℕ) → List Own
read_write chunk = unread_write
    ++ Sends 0 19 (ReadChunks file 1 0 1) ∷ Sends 1 20 (ReadChunks file 3 0 1)
    ∷ Hears 0 19 (Chunks (chunk 0 ∷ [])) ∷ Hears 1 20 (Chunks (chunk 1 ∷ [])) ∷ []

-- heads at three bricks
abbrev pub three_heads : Head → Head → Head → ℕ → Option Head
three_heads a b c zero = Some a
three_heads a b c (suc zero) = Some b
three_heads a b c (suc (suc x)) = Some c

-- a second window of a heal, whose third brick answers with this head
abbrev pub second_window : Head → Reply → List Own
second_window head third =
    Sends 0 23 (Release file 7) ∷ Sends 1 24 (Release file 9) ∷ Sends 2 25 (Release file 11) ∷ []
    ++ locks file 31
    ++ Sends 0 37 (Query file 31) ∷ Sends 1 38 (Query file 33) ∷ Sends 2 39 (Query file 35)
    ∷ Hears 0 37 (HeadIs head) ∷ Hears 1 38 (HeadIs head) ∷ Hears 2 39 third ∷ []

-- the same file two commits later
abbrev pub newer_file : Head
newer_file = record later_file { version = record { content = 3; meta = 0 } }

abbrev pub name_g : List ℕ
name_g = 103 ∷ []

-- a WriteChunks of so many chunks, whatever they are
abbrev pub write_of : ℕ → List (List ℕ) → Request
write_of first chunks = WriteChunks file 1 first chunks

abbrev pub set_of : List ℕ → Option Child → Request
set_of name child = NameSet directory 1 name child

-- a setattr whose third brick has a marked record at the group's version: up to its Queries, to its PreOps, of which the
-- second has this reply, and to its PostOps
abbrev pub sink_heads : List Own
sink_heads = locks file 1
    ++ Sends 0 7 (Query file 1) ∷ Sends 1 8 (Query file 3) ∷ Sends 2 9 (Query file 5)
    ∷ Hears 0 7 (HeadIs later_file) ∷ Hears 1 8 (HeadIs later_file) ∷ Hears 2 9 (HeadIs (marked_head later_file)) ∷ []

abbrev pub sink_pre_ops : Reply → List Own
sink_pre_ops second = sink_heads
    ++ Sends 0 13 (PreOp file 1 1 2) ∷ Sends 1 14 (PreOp file 3 1 2) ∷ Sends 2 15 (PreOp file 5 (marked 1) 2)
    ∷ Hears 0 13 Done ∷ Hears 1 14 second ∷ Hears 2 15 Done ∷ []

abbrev pub sink_setattr : List Own
sink_setattr = sink_pre_ops Done

abbrev pub sink_posted : List Own
sink_posted = sink_setattr
    ++ Sends 0 19 (PostOp file 1 1 3 0 (Some other_attr)) ∷ Sends 1 20 (PostOp file 3 1 3 0 (Some other_attr)) ∷ Sends 2 21 (PostOp file 5 (marked 1) (marked 3) 0 (Some other_attr))
    ∷ Hears 0 19 Done ∷ Hears 1 20 Done ∷ Hears 2 21 Done ∷ []

-- the write of a part of a stripe by a client that has the stripe cached under this version
abbrev pub cached_byte : ℕ → List (List ℕ) → Given
cached_byte version stripe = record { geometry = three; op = Write file 0 (65 ∷ []); child = 9; kept = None; cache = record { gfid = 2; stripe = 0; version = version; chunks = stripe } ∷ [] }

-- a heal of a directory: the pages that the two bricks of its group give, and the names put at its sink
abbrev pub later_directory : Head
later_directory = record later_file { kind = Dir; attr = new_attr Dir }

abbrev pub page_f : Page
page_f = (name_f, new_child) ∷ []

abbrev pub listed_heal : Page → List Own
listed_heal second = marked_heal later_directory
    ++ Sends 0 21 (NamesAfter file 7 None) ∷ Sends 1 22 (NamesAfter file 9 None) ∷ Hears 0 21 (Names page_f) ∷ Hears 1 22 (Names second) ∷ []

abbrev pub put_heal : List Own
put_heal = listed_heal page_f ++ Sends 2 23 (NamesPut file 5 None None page_f) ∷ Hears 2 23 Done ∷ []

-- a heal whose sink has fallen behind in its second window, of which the content's locks are released
abbrev pub behind_heal : List Own
behind_heal = trimmed_heal later_file 0 ++ second_window newer_file (HeadIs (marked_head later_file))
    ++ Sends 0 41 (Release file 31) ∷ Sends 1 42 (Release file 33) ∷ Sends 2 43 (Release file 35) ∷ []

-- the PreOps of a call on kept grants, two of which fail
abbrev pub kept_pre_ops : List Own
kept_pre_ops =
    Sends 0 41 (PreOp file 1 1 1) ∷ Sends 1 42 (PreOp file 3 1 1) ∷ Sends 2 43 (PreOp file 5 1 1) ∷
    Hears 0 41 Done ∷ Hears 1 42 Fault ∷ Hears 2 43 Fault ∷ []

-- stripe 0 as a write of it leaves it in the cache
abbrev pub own_stripe : ℕ → List (List ℕ) → CachedStripe
own_stripe version stripe = record { gfid = 2; stripe = 0; version = version; chunks = stripe }

-- a full sweep that has the root locked, has read this page of it, and has asked for the record of gfid 2
abbrev pub asks_for : LockKind → List Own
asks_for kind =
    Sends 0 13 (Ask file Inode kind) ∷ Hears 0 13 Granted ∷
    Sends 1 15 (Ask file Inode kind) ∷ Hears 1 15 Granted ∷
    Sends 2 17 (Ask file Inode kind) ∷ Hears 2 17 Granted ∷ []

abbrev pub shedding : LockKind → Page → List Own
shedding kind page = locks directory 1 ++ round 7 (λ b. NamesAfter directory (grant_at b) None) (Names page)
    ++ asks_for kind ++ round 19 (λ b. Query file (13 + b + b)) NoInode

-- a scrub that has read the one stripe of a file at each brick
abbrev pub scanned : (ℕ → List ℕ) → List Own
scanned code = locks file 1 ++ queries file full_file 7
    ++ Sends 0 13 (ReadChunks file 1 0 1) ∷ Sends 1 14 (ReadChunks file 3 0 1) ∷ Sends 2 15 (ReadChunks file 5 0 1)
    ∷ Hears 0 13 (Chunks (code 0 ∷ [])) ∷ Hears 1 14 (Chunks (code 1 ∷ [])) ∷ Hears 2 15 (Chunks (code 2 ∷ [])) ∷ []
