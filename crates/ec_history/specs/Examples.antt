-- Worked examples: short logs over three bricks, and the flat file that they make. A stripe has 1024 bytes.
use Rattle.std.specs.Prelude.{◌≡◌, ℕ, ◌+◌, ◌^◌, true, false, cond, ◌==◌, Some, None, List, [], ◌∷◌, ◌++◌}
use Rattle.ec_attr.specs.declared.kind.Domain.TheVariants.{Inode, Heal as HealLock}
use Rattle.ec_attr.specs.declared.kind.Kind.TheVariants.{File}
use Rattle.ec_locks.specs.declared.ask.Ask.{Ask}
use Rattle.ec_wire.specs.declared.entry.Entry.{Entry}
use Rattle.ec_wire.specs.declared.entry.Entry.TheVariants.{Called, Sent, Executed, Cut, Died, Torn}
use Rattle.ec_wire.specs.declared.message.Body.TheVariants.{ToBrick}
use Rattle.ec_wire.specs.declared.op.Op.TheVariants.{Write, Truncate, Read, Heal, Scrub}
use Rattle.ec_wire.specs.declared.request.Request.TheVariants.{WriteChunks, SetLength, PostOp, Unmark}
use Rattle.ec_brick.specs.State.{State}
use Rattle.ec_history.specs.Flat.{Flat}
use Rattle.ec_history.specs.Flat.Opener.{Nobody, One, Several}
use Rattle.ec_history.specs.Short.{Seen, after_log, brick_at, bricks_of, does, flat_of, lock, seen, two}

-- so many chunks, of which only the number counts here
abbrev pub one_chunk : List (List ℕ)
one_chunk = [] ∷ []

abbrev pub two_chunks : List (List ℕ)
two_chunks = [] ∷ [] ∷ []

-- the locks of client 1 are granted, and those of client 2 wait behind them
abbrev pub locks : List Ask
locks = lock 91 1 Inode ∷ lock 92 2 Inode ∷ []

-- the bricks are alike
abbrev pub alike : ℕ → ℕ → ℕ → State
alike version size = bricks_of (brick_at File version size locks) (brick_at File version size locks) (brick_at File version size locks)

-- client 1 is cut off from every brick
abbrev pub cut_off : List Entry
cut_off = Cut 1 0 ∷ Cut 1 1 ∷ Cut 1 2 ∷ []

-- A write of client 1 is posted at one brick alone; then the write of client 2, which that brick misses, commits above it.
abbrev pub half_posted : List Entry
half_posted = Called 1 1 (Write two 0 (65 ∷ 65 ∷ []))
    ∷ does 1 1 1 0 (WriteChunks two 91 0 one_chunk)
    ++ does 2 1 1 2 (WriteChunks two 91 0 one_chunk)
    ++ does 3 1 1 2 (PostOp two 91 0 1 2 None)
    ++ Died 1 ∷ cut_off

abbrev pub second_write : List Entry
second_write = Called 2 2 (Write two 0 (66 ∷ 66 ∷ []))
    ∷ does 4 2 2 0 (WriteChunks two 92 0 one_chunk)
    ++ does 5 2 2 1 (WriteChunks two 92 0 one_chunk)

abbrev pub second_post : List Entry
second_post = does 6 2 2 0 (PostOp two 92 0 2 2 None) ++ does 7 2 2 1 (PostOp two 92 0 2 2 None)

-- what each of these leaves, at byte 0
abbrev pub half : List Entry → Seen
half log = seen (after_log (alike 0 0) (flat_of File 0 0 0) log) 0

pub record HalfPosted : Type 0 where
  pub open_to_one : half half_posted ≡ (0, 0, Some 0, One 1)
  pub open_to_both : half (half_posted ++ second_write) ≡ (0, 0, Some 0, Several)
  pub committed : half (half_posted ++ second_write ++ second_post) ≡ (2, 2, Some 66, Nobody)

-- A write over two stripes, and one that is executed at one brick before its client dies. Its stripe is open until another
-- write covers it: then the byte that this one carries over is free, and the other stripe is as it was.
abbrev pub over_two : List Entry
over_two = Called 1 1 (Write two 1023 (65 ∷ 65 ∷ []))
    ∷ does 1 1 1 0 (WriteChunks two 91 0 two_chunks)
    ++ does 2 1 1 1 (WriteChunks two 91 0 two_chunks)

abbrev pub over_two_posted : List Entry
over_two_posted = over_two ++ does 3 1 1 0 (PostOp two 91 0 1 1025 None) ++ does 4 1 1 1 (PostOp two 91 0 1 1025 None)

abbrev pub cut_short : List Entry
cut_short = over_two_posted ++ Called 2 1 (Write two 0 (66 ∷ 66 ∷ [])) ∷ does 5 2 1 1 (WriteChunks two 91 0 one_chunk) ++ Died 1 ∷ cut_off

abbrev pub then_read : List Entry
then_read = cut_short ++ Called 3 2 (Read two 1024 1 None) ∷ []

abbrev pub then_written : List Entry
then_written = then_read ++ Called 4 2 (Write two 0 (67 ∷ 67 ∷ []))
    ∷ does 6 4 2 0 (WriteChunks two 92 0 one_chunk)
    ++ does 7 4 2 1 (WriteChunks two 92 0 one_chunk)

abbrev pub then_posted : List Entry
then_posted = then_written ++ does 8 4 2 0 (PostOp two 92 1 3 1025 None) ++ does 9 4 2 1 (PostOp two 92 1 3 1025 None)

abbrev pub whole : List Entry → ℕ → Seen
whole log p = seen (after_log (alike 0 0) (flat_of File 0 0 0) log) p

pub record CutShort : Type 0 where
  pub first_open : whole over_two 0 ≡ (0, 0, Some 0, One 1)
  pub both_open : whole over_two 1024 ≡ (0, 0, Some 0, One 1)
  pub none_further : whole over_two 2048 ≡ (0, 0, Some 0, Nobody)
  pub closed : whole over_two_posted 1023 ≡ (1, 1025, Some 65, Nobody)
  pub open_again : whole cut_short 1023 ≡ (1, 1025, Some 65, One 2)
  pub other_closed : whole cut_short 1024 ≡ (1, 1025, Some 65, Nobody)
  pub read : whole then_read 1023 ≡ (1, 1025, Some 65, One 2)
  pub opened_by_both : whole then_written 1023 ≡ (1, 1025, Some 65, Several)
  pub set : whole then_posted 0 ≡ (3, 1025, Some 67, Nobody)
  pub carried : whole then_posted 1023 ≡ (3, 1025, None, Nobody)
  pub past_the_size : whole then_posted 1025 ≡ (3, 1025, Some 0, Nobody)
  pub left : whole then_posted 1024 ≡ (3, 1025, Some 65, Nobody)

-- A write beside a heal: what the heal copies opens no stripe, and the brick that it rebuilds doesn't count for a commit.
abbrev pub healed : List Ask
healed = lock 90 2 HealLock ∷ locks

abbrev pub mark : ℕ
mark = 2 ^ 62

abbrev pub one_behind : ℕ → State
one_behind = bricks_of (brick_at File 2 3072 healed) (brick_at File 2 3072 healed) (brick_at File (mark + 2) 3072 healed)

abbrev pub copied : List Entry
copied = Called 1 2 (Heal two) ∷ does 1 1 2 2 (SetLength two 90 3 3) ++ does 2 1 2 2 (WriteChunks two 90 0 one_chunk)

abbrev pub written_beside : List Entry
written_beside = copied ++ Called 2 1 (Write two 1024 (67 ∷ [])) ∷ does 3 2 1 2 (WriteChunks two 91 1 one_chunk)

abbrev pub posted_at_one : List Entry
posted_at_one = written_beside ++ does 4 2 1 2 (PostOp two 91 (mark + 2) (mark + 4) 3072 None) ++ does 5 2 1 0 (PostOp two 91 2 4 3072 None)

abbrev pub posted_at_two : List Entry
posted_at_two = posted_at_one ++ does 6 2 1 1 (PostOp two 91 2 4 3072 None)

abbrev pub touched : List Entry
touched = posted_at_two ++ cut_off
    ++ does 7 1 2 2 (WriteChunks two 90 1 one_chunk)
    ++ does 8 1 2 2 (Unmark two 90 (mark + 4) 1)
    ++ does 9 1 2 2 (PostOp two 92 4 6 3072 None)
    ++ does 10 1 2 0 (PostOp two 92 4 6 3072 None)

abbrev pub beside : List Entry → ℕ → Seen
beside log p = seen (after_log one_behind (flat_of File 2 3072 65) log) p

pub record BesideAHeal : Type 0 where
  pub copy_opens_none : beside copied 0 ≡ (2, 3072, Some 65, Nobody)
  pub trim_opens_none : beside copied 3072 ≡ (2, 3072, Some 0, Nobody)
  pub open_at_the_sink : beside written_beside 1024 ≡ (2, 3072, Some 65, One 2)
  pub not_yet : beside posted_at_one 1024 ≡ (2, 3072, Some 65, One 2)
  pub committed : beside posted_at_two 1024 ≡ (4, 3072, Some 67, Nobody)
  pub carried : beside posted_at_two 1025 ≡ (4, 3072, Some 65, Nobody)
  pub touched : beside touched 1024 ≡ (6, 3072, Some 67, Nobody)

-- A torn write, and one in which the store failed, open their stripe where a version was read; a torn one besides only while
-- its grant holds.
abbrev pub sent_off : ℕ → List Entry
sent_off grant = Called 1 1 (Write two 0 (65 ∷ [])) ∷ Sent (record { no = 1; call = 1; client = 1; brick = 2; body = ToBrick (WriteChunks two grant 0 one_chunk) }) ∷ []

abbrev pub torn_and_posted : List Entry
torn_and_posted = sent_off 91 ++ Torn 1 100 (Some 0) ∷ does 2 1 1 0 (PostOp two 91 0 1 1 None) ++ does 3 1 1 1 (PostOp two 91 0 1 1 None)

pub record TornWrite : Type 0 where
  pub opens : whole (sent_off 91 ++ Torn 1 100 (Some 0) ∷ []) 0 ≡ (0, 0, Some 0, One 1)
  pub closes : whole torn_and_posted 0 ≡ (1, 1, Some 65, Nobody)
  pub unread : whole (sent_off 91 ++ Torn 1 100 None ∷ []) 0 ≡ (0, 0, Some 0, Nobody)
  pub not_granted : whole (sent_off 92 ++ Torn 1 100 (Some 0) ∷ []) 0 ≡ (0, 0, Some 0, Nobody)
  pub failed : whole (sent_off 91 ++ Executed 1 (Some 0) true ∷ []) 0 ≡ (0, 0, Some 0, One 1)
  pub failed_unread : whole (sent_off 91 ++ Executed 1 None true ∷ []) 0 ≡ (0, 0, Some 0, Nobody)
  pub refused : whole (sent_off 92 ++ Executed 1 None false ∷ []) 0 ≡ (0, 0, Some 0, Nobody)

-- A data request at a brick that is behind opens nothing.
abbrev pub late : ℕ → State
late = bricks_of (brick_at File 2 3072 locks) (brick_at File 2 3072 locks) (brick_at File 1 3072 locks)

pub record Behind : Type 0 where
  pub opens_none : seen (after_log late (flat_of File 2 3072 65) (sent_off 91 ++ Executed 1 (Some 1) false ∷ [])) 0 ≡ (2, 3072, Some 65, Nobody)

-- A truncate: its write opens the stripe of the new size, its SetLength all later ones, and its commit sets zeros from the new
-- size on.
abbrev pub shortened : List Entry
shortened = Called 1 1 (Truncate two 1) ∷ does 1 1 1 0 (WriteChunks two 91 0 one_chunk)

abbrev pub ended : List Entry
ended = shortened ++ does 2 1 1 0 (SetLength two 91 1 1)

abbrev pub truncated : List Entry
truncated = ended ++ does 3 1 1 0 (PostOp two 91 1 2 1 None) ++ does 4 1 1 1 (PostOp two 91 1 2 1 None)

abbrev pub cut_to : List Entry → ℕ → Seen
cut_to log p = seen (after_log (alike 1 3072) (flat_of File 1 3072 65) log) p

pub record Truncation : Type 0 where
  pub opens_its_own : cut_to shortened 0 ≡ (1, 3072, Some 65, One 1)
  pub opens_no_later : cut_to shortened 1024 ≡ (1, 3072, Some 65, Nobody)
  pub opens_from : cut_to ended 1024 ≡ (1, 3072, Some 65, One 1)
  pub opens_all_later : cut_to ended 9000 ≡ (1, 3072, Some 0, One 1)
  pub keeps : cut_to truncated 0 ≡ (2, 1, Some 65, Nobody)
  pub zeros : cut_to truncated 1 ≡ (2, 1, Some 0, Nobody)
  pub zeros_later : cut_to truncated 2048 ≡ (2, 1, Some 0, Nobody)

-- A scrub that settles a stripe that was open as the log began, also where a call of the same number had opened it.
abbrev pub left_open : ℕ → Flat
left_open call = record (flat_of File 1 1025 65) { opener = λ s. cond (s == 0) (One call) Nobody }

abbrev pub scrubbed : List Entry
scrubbed = Called 1 1 (Scrub two true)
    ∷ does 1 1 1 0 (WriteChunks two 91 0 one_chunk)
    ++ does 2 1 1 0 (PostOp two 91 1 2 1025 None)
    ++ does 3 1 1 1 (PostOp two 91 1 2 1025 None)

pub record Scrubbed : Type 0 where
  pub free : seen (after_log (alike 1 1025) (left_open 1) scrubbed) 0 ≡ (2, 1025, None, Nobody)
  pub others : seen (after_log (alike 1 1025) (left_open 1) scrubbed) 1024 ≡ (2, 1025, Some 65, Nobody)
  pub carried : seen (after_log (alike 1 1025) (flat_of File 1 1025 65) scrubbed) 0 ≡ (2, 1025, Some 65, Nobody)
