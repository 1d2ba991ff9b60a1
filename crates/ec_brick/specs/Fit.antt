-- Which requests a brick executes, and which replies it gives.
use Rattle.std.specs.Prelude.{◌≡◌, ℕ, ◌+◌, ◌*◌, ◌≤◌, ◌^◌, true, Option, None, List, length}
use Rattle.ec_attr.specs.Marks.{is_marked}
use Rattle.ec_attr.specs.declared.gfid.Gfid.{Gfid}
use Rattle.ec_store.specs.Pages.{are_within, is_rising}
use Rattle.ec_wire.specs.declared.reply.Reply.{Reply}
use Rattle.ec_wire.specs.declared.reply.Reply.TheVariants.{Head, Chunks, Names, Gfids}
use Rattle.ec_wire.specs.declared.request.Request.{Request}
use Rattle.ec_wire.specs.declared.request.Request.TheVariants.{ReadChunks, WriteChunks, SetLength, PostOp, NamesAfter, NamesPut, Mark, GfidsAfter}
use Rattle.ec_brick.specs.Gfids.{gfids_rise}

-- sizes are at most 2^40, chunk numbers and the one past the last at most 2^30; the names of a list rise and lie past
-- `after` and not past `upto`; the version that a Mark sets is marked
abbrev pub IsFit : Request → Type 0
IsFit (ReadChunks g n first count) = first + count ≤ 2 ^ 30
IsFit (WriteChunks g n first chunks) = first + length chunks ≤ 2 ^ 30
IsFit (SetLength g n keep count) = (keep ≤ 2 ^ 30) × (count ≤ 2 ^ 30)
IsFit (PostOp g n at version size attr) = size ≤ 2 ^ 40
IsFit (NamesPut g n after upto list) = (is_rising after list ≡ true) × (are_within upto list ≡ true)
IsFit (Mark g n heal head) = (head.size ≤ 2 ^ 40) × (is_marked head.version.content ≡ true)
IsFit q = Unit {0}

-- a write of at least so many bytes
abbrev pub IsWriteOf : Request → ℕ → Type 0
IsWriteOf (WriteChunks g n first chunks) count = count ≤ 512 * length chunks
IsWriteOf q count = ⊥

-- how many chunks are asked for, and past which name or gfid
abbrev pub count_of : Request → ℕ
count_of (ReadChunks g n first count) = count
count_of q = 0

abbrev pub name_before : Request → Option (List ℕ)
name_before (NamesAfter g n after) = after
name_before q = None

abbrev pub gfid_before : Request → Option Gfid
gfid_before (GfidsAfter after dirty) = after
gfid_before q = None

-- a reply that fits its request
abbrev pub IsFitReply : Request → Reply → Type 0
IsFitReply q (Head h) = h.size ≤ 2 ^ 40
IsFitReply q (Chunks chunks) = length chunks ≡ count_of q
IsFitReply q (Names list) = (length list ≤ 64) × (is_rising (name_before q) list ≡ true)
IsFitReply q (Gfids list) = (length list ≤ 64) × (gfids_rise (gfid_before q) list ≡ true)
IsFitReply q reply = Unit {0}
