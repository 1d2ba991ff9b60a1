-- What a reply has to be.
use Rattle.std.specs.Prelude.{◌≡◌, ℕ, ◌+◌, ◌<◌, ◌≤◌, Bool, true, cond, Option, Some, None, is_some, List, [], length, slice_index, slice_index_or}
use Rattle.ec_attr.specs.declared.gfid.Gfid.{Gfid}
use Rattle.ec_attr.specs.declared.kind.Child.{Child as ChildOf}
use Rattle.ec_store.specs.Pages.{IsPage, is_rising}
use Rattle.ec_store.specs.Records.{Record, Records}
use Rattle.ec_wire.specs.declared.reply.Reply.{Reply}
use Rattle.ec_wire.specs.declared.reply.Reply.TheVariants.{Head, Chunks, Child, Names, Done, NoInode, Gfids}
use Rattle.ec_wire.specs.declared.request.Request.{Request}
use Rattle.ec_wire.specs.declared.request.Request.TheVariants.{Ask, Release, Query, PreOp, ReadChunks, WriteChunks, SetLength, PostOp, Clear, NameGet, NamesAfter, NameSet, NamesPut, Make, Made, Unmake, Mark, Unmark, GfidsAfter}
use Rattle.ec_brick.specs.Gfids.{IsGfidPage}
use Rattle.ec_brick.specs.Index.{dirty_of}

-- no reply, this one, or one that shows the bytes that are known, a page of names or a page of gfids
pub data Says : Type 0 where
  Nothing : Says
  Is : (reply : Reply) → Says
  ShowsChunks : (piece : ℕ → ℕ → Option ℕ) (first count : ℕ) → Says
  ShowsNames : (after : Option (List ℕ)) (names : List ℕ → Option ChildOf) → Says
  ShowsGfids : (after : Option Gfid) (set : ℕ → Bool) → Says

-- as many chunks as were asked for, each with the bytes of its piece that are known
pub record AreChunks (piece : ℕ → ℕ → Option ℕ) (first count : ℕ) (chunks : List (List ℕ)) : Type 0 where
  pub many : length chunks ≡ count
  pub each : (k i v : ℕ) → k < count → i < 512 → piece (first + k) i ≡ Some v → slice_index (slice_index_or chunks k []) i ≡ v

-- at most 64 names past `after`, rising, and all of them up to the page's last where it is full
pub record AreNames (after : Option (List ℕ)) (names : List ℕ → Option ChildOf) (list : List (List ℕ × ChildOf)) : Type 0 where
  pub few : length list ≤ 64
  pub rise : is_rising after list ≡ true
  pub page : IsPage after names list

abbrev pub RepliesChunks : (ℕ → ℕ → Option ℕ) → ℕ → ℕ → Option Reply → Type 0
RepliesChunks piece first count (Some (Chunks chunks)) = AreChunks piece first count chunks
RepliesChunks piece first count reply = ⊥

abbrev pub RepliesNames : Option (List ℕ) → (List ℕ → Option ChildOf) → Option Reply → Type 0
RepliesNames after names (Some (Names list)) = AreNames after names list
RepliesNames after names reply = ⊥

abbrev pub RepliesGfids : Option Gfid → (ℕ → Bool) → Option Reply → Type 0
RepliesGfids after set (Some (Gfids list)) = IsGfidPage after set list
RepliesGfids after set reply = ⊥

abbrev pub Replies : Says → Option Reply → Type 0
Replies Nothing reply = reply ≡ None
Replies (Is y) reply = reply ≡ Some y
Replies (ShowsChunks piece first count) reply = RepliesChunks piece first count reply
Replies (ShowsNames after names) reply = RepliesNames after names reply
Replies (ShowsGfids after set) reply = RepliesGfids after set reply

-- what is said of a record, where there is one
abbrev pub of_record : Option Record → (Record → Says) → Says
of_record None say = Is NoInode
of_record (Some r) say = say r

-- the gfids of the index, or of all records
abbrev pub gfids_of : Records → Bool → ℕ → Bool
gfids_of m dirty g = cond dirty (dirty_of m g) (is_some (m g))

-- the own reply of each request, by the records before it
abbrev pub own_of : Request → Records → Says
own_of (Ask g domain kind) m = Nothing
own_of (Release g n) m = Nothing
own_of (Query g n) m = of_record (m g.0) (λ r. Is (Head r.head))
own_of (PreOp g n at dirty) m = Is Done
own_of (ReadChunks g n first count) m = of_record (m g.0) (λ r. ShowsChunks r.piece first count)
own_of (WriteChunks g n first chunks) m = Is Done
own_of (SetLength g n keep count) m = Is Done
own_of (PostOp g n at version size attr) m = Is Done
own_of (Clear g n at) m = Is Done
own_of (NameGet g n name) m = of_record (m g.0) (λ r. Is (Child (r.names name)))
own_of (NamesAfter g n after) m = of_record (m g.0) (λ r. ShowsNames after r.names)
own_of (NameSet g n name child) m = Is Done
own_of (NamesPut g n after upto list) m = Is Done
own_of (Make g n child) m = Is Done
own_of (Made g n child) m = Is Done
own_of (Unmake g n child) m = Is Done
own_of (Mark g n heal head) m = Is Done
own_of (Unmark g n at dirty) m = Is Done
own_of (GfidsAfter after dirty) m = ShowsGfids after (gfids_of m dirty)
