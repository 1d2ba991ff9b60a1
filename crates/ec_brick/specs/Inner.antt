-- What the parts of a brick promise each other.
use Rattle.std.specs.Prelude.{◌≡◌, ◌⊎◌, ℕ, ◌≤◌, List, take, Bool, true, false, Option, Some, None, Result, Ok, Err, IfOk, OnOk, is_some}
use Rattle.std.specs.Option.{option_map}
use Rattle.ec_attr.specs.declared.config.Config.{Config}
use Rattle.ec_attr.specs.declared.head.Head.{Head as HeadOf}
use Rattle.ec_attr.specs.declared.kind.Kind.{Kind}
use Rattle.ec_attr.specs.declared.kind.Kind.TheVariants.{File, Dir}
use Rattle.ec_locks.specs.declared.table.Asked.{Asked}
use Rattle.ec_locks.specs.declared.table.Asked.TheVariants.{Granted as AtOnce, Queued}
use Rattle.ec_store.specs.Records.{Records}
use Rattle.ec_store.specs.declared.store.StoreFault.{StoreFault}
use Rattle.ec_store.specs.declared.store.StoreFault.TheVariants.{Failed, NoMemory}
use Rattle.ec_wire.specs.declared.reply.Reply.{Reply}
use Rattle.ec_wire.specs.declared.reply.Reply.TheVariants.{Granted, Head, Chunks, Child, Names, Done, NoGrant, NoInode, IsInode, OtherKind, NotAt, Fault, Gfids}
use Rattle.ec_wire.specs.declared.request.Request.{Request}
use Rattle.ec_wire.specs.declared.request.Request.TheVariants.{Ask, Release, Query, PreOp, ReadChunks, WriteChunks, SetLength, PostOp, Clear, NameGet, NamesAfter, NameSet, NamesPut, Make, Made, Unmake, Mark, Unmark, GfidsAfter}
use Rattle.ec_brick.specs.declared.brick.Brick.{Brick}
use Rattle.ec_brick.specs.Fit.{IsFitReply}
use Rattle.ec_brick.specs.Known.{AreKnown}
use Rattle.ec_brick.specs.Meets.{is_fault}
use Rattle.ec_brick.specs.Replies.{Replies, own_of}
use Rattle.ec_attr.specs.declared.gfid.Gfid.{Gfid}
use Rattle.ec_brick.specs.State.{State}
use Rattle.ec_brick.specs.Step.{Before, Failing, Fine, by_row, part_work}
use Rattle.ec_brick.specs.declared.row.Row.{Row}
use Rattle.ec_brick.specs.Rows.{row_of}
use Rattle.ec_brick.specs.Work.{broken_of, bytes_of, committed, new_head, unmarked, work_of}
use Rattle.ec_attr.specs.Head.{with_dirty}

-- a refusal by the fence or the head
abbrev pub is_refusal : Reply → Bool
is_refusal Granted = false
is_refusal (Head h) = false
is_refusal (Chunks chunks) = false
is_refusal (Child child) = false
is_refusal (Names list) = false
is_refusal Done = false
is_refusal (NoGrant n) = true
is_refusal NoInode = true
is_refusal IsInode = true
is_refusal OtherKind = true
is_refusal (NotAt v) = true
is_refusal Fault = false
is_refusal (Gfids list) = false

-- the head that a request puts, if it puts one
abbrev pub head_after : Config → Request → Option HeadOf → Option HeadOf
head_after config (PreOp g n at dirty) h = option_map (with_dirty dirty) h
head_after config (PostOp g n at version size attr) h = option_map (committed version size attr) h
head_after config (Clear g n at) h = option_map (with_dirty 0) h
head_after config (Make g n child) h = Some (new_head config child.kind)
head_after config (Made g n child) h = option_map (with_dirty 0) h
head_after config (Mark g n heal head) h = Some head
head_after config (Unmark g n at dirty) h = option_map (unmarked dirty) h
head_after config q h = None

-- whose record a request is about
abbrev pub subject_of : Request → ℕ
subject_of (Ask g domain kind) = g.0
subject_of (Release g n) = g.0
subject_of (Query g n) = g.0
subject_of (PreOp g n at dirty) = g.0
subject_of (ReadChunks g n first count) = g.0
subject_of (WriteChunks g n first chunks) = g.0
subject_of (SetLength g n keep count) = g.0
subject_of (PostOp g n at version size attr) = g.0
subject_of (Clear g n at) = g.0
subject_of (NameGet g n name) = g.0
subject_of (NamesAfter g n after) = g.0
subject_of (NameSet g n name child) = g.0
subject_of (NamesPut g n after upto list) = g.0
subject_of (Make g n child) = child.gfid.0
subject_of (Made g n child) = child.0
subject_of (Unmake g n child) = child.0
subject_of (Mark g n heal head) = g.0
subject_of (Unmark g n at dirty) = g.0
subject_of (GfidsAfter after dirty) = 0

-- whether a request asks a record without changing it
abbrev pub is_reading : Request → Bool
is_reading (Query g n) = true
is_reading (ReadChunks g n first count) = true
is_reading (NameGet g n name) = true
is_reading (NamesAfter g n after) = true
is_reading q = false

-- whether a request changes the content of a record and leaves its head
abbrev pub is_writing : Request → Bool
is_writing (WriteChunks g n first chunks) = true
is_writing (SetLength g n keep count) = true
is_writing (NameSet g n name child) = true
is_writing (NamesPut g n after upto list) = true
is_writing q = false

abbrev pub IsHeadOf : Kind → Option HeadOf → Type 0
IsHeadOf kind h = option_map (λ h. h.kind) h ≡ Some kind

-- the head that a request has to find for its work
abbrev pub IsReady : Request → Option HeadOf → Type 0
IsReady (Ask g domain kind) h = ⊥
IsReady (Release g n) h = ⊥
IsReady (Query g n) h = is_some h ≡ true
IsReady (PreOp g n at dirty) h = is_some h ≡ true
IsReady (ReadChunks g n first count) h = IsHeadOf File h
IsReady (WriteChunks g n first chunks) h = IsHeadOf File h
IsReady (SetLength g n keep count) h = IsHeadOf File h
IsReady (PostOp g n at version size attr) h = is_some h ≡ true
IsReady (Clear g n at) h = is_some h ≡ true
IsReady (NameGet g n name) h = IsHeadOf Dir h
IsReady (NamesAfter g n after) h = IsHeadOf Dir h
IsReady (NameSet g n name child) h = IsHeadOf Dir h
IsReady (NamesPut g n after upto list) h = IsHeadOf Dir h
IsReady (Make g n child) h = h ≡ None
IsReady (Made g n child) h = is_some h ≡ true
IsReady (Unmake g n child) h = is_some h ≡ true
IsReady (Mark g n heal head) h = Unit {0}
IsReady (Unmark g n at dirty) h = is_some h ≡ true
IsReady (GfidsAfter after dirty) h = ⊥

-- the work of a request, or what is left of it after an error
pub record DoesWork (config : Config) (q : Request) (told_before told_now : Bool) (before now : Records) (result : Result Reply StoreFault) : Type 0 where
  pub tells : told_now ≡ told_before
  pub ok : OnOk result (told_before ≡ true → now ≡ work_of config q before)
  pub own : IfOk result (λ reply. told_before ≡ true → Replies (own_of q before) (Some reply))
  pub failed : result ≡ Err Failed → told_before ≡ true → AreKnown (broken_of q before) now
  pub memory : result ≡ Err NoMemory → told_before ≡ true → now ≡ before

-- a reply that is no Fault and fits
pub record IsOwn (q : Request) (reply : Reply) : Type 0 where
  pub plain : is_fault (Some reply) ≡ false
  pub fits : IsFitReply q reply

-- the config, the locks, and whether the brick is up
pub record KeepsLocks (old new : Brick) : Type 0 where
  pub same_config : new.config ≡ old.config
  pub same_up : new.up ≡ old.up
  pub same_locks : new.locks ≡ old.locks

abbrev pub done_of : {T : Type 0} → Result T StoreFault → Result Reply StoreFault
done_of (Ok x) = Ok Done
done_of (Err e) = Err e

-- the reply to an ask, now or later
abbrev pub granted_reply : Asked → Option Reply
granted_reply AtOnce = Some Granted
granted_reply (Queued n) = None

-- the records after a write's first bytes, and the version that was read
pub record IsFront (b : State) (f : Failing) (o : Option Row) (g : Gfid) (first : ℕ) (bytes : List ℕ) (version : Option ℕ) (now : Records) : Type 0 where
  pub same_version : version ≡ (by_row b f (part_work b g first bytes) o).version
  pub same_records : now ≡ (by_row b f (part_work b g first bytes) o).brick.records

abbrev pub FrontIs : Type 0 → State → Option Row → Gfid → ℕ → List ℕ → ℕ → Option ℕ → Records → Type 0
FrontIs Risen b o g first bytes count version now = IsFront b Fine o g first (take count bytes) version now ⊎ (Risen × (IsFront b Before o g first (take count bytes) version now ⊎ ((k : ℕ) × (k ≤ count) × IsFront b Fine o g first (take k bytes) version now)))

abbrev pub FrontOf : Type 0 → State → Request → ℕ → Option ℕ → Records → Type 0
FrontOf Risen b (WriteChunks g n first chunks) count version now = FrontIs Risen b (row_of (WriteChunks g n first chunks)) g first (bytes_of chunks) count version now
FrontOf Risen b q count version now = ⊥
