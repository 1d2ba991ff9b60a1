-- What a call that is answered with content was replied.
use Rattle.std.specs.Prelude.{◌≡◌, ◌⊎◌, ℕ, ◌+◌, ◌/◌, ◌<◌, ◌≤◌, true, Option, Some, None, List, []}
use Rattle.std.specs.List.{Contains}
use Rattle.ec_attr.specs.Bricks.{count_below, is_in}
use Rattle.ec_attr.specs.declared.gfid.Gfid.{Gfid}
use Rattle.ec_attr.specs.declared.head.Head.{Head}
use Rattle.ec_attr.specs.declared.kind.Kind.TheVariants.{File, Dir}
use Rattle.ec_conduct.specs.Done.{reply_to}
use Rattle.ec_conduct.specs.Given.{Given, bricks_of, quorum_of}
use Rattle.ec_conduct.specs.Phases.{is_read_from}
use Rattle.ec_entry.specs.Named.{Value, count_said}
use Rattle.ec_entry.specs.Paging.{Entries, IsEntry, end_in, entry_at}
use Rattle.ec_read.specs.Decoded.{AreBytes}
use Rattle.ec_read.specs.Range.{end_of, stripes_to}
use Rattle.ec_read.specs.Read.{len_in, off_in}
use Rattle.ec_store.specs.Pages.{Page, is_rising}
use Rattle.ec_store.specs.Records.{is_inside, listed}
use Rattle.ec_stripe.specs.Span.{stripe_bytes}
use Rattle.ec_txn.specs.ReadPhase.{has_chunks}
use Rattle.ec_wire.specs.declared.reply.Reply.TheVariants.{Names as NamesAre}
use Rattle.ec_wire.specs.declared.request.Request.TheVariants.{NamesAfter, ReadChunks}
use Rattle.ec_law_causes.specs.Counted.{Windows, head_in, is_grouped}

-- K bricks of the good group replied the chunks from the first stripe of the range on, and the bytes are those that the chunks decode to.
pub record GivesRange (given : Given) (w : Windows) (head : Head) (bytes : List ℕ) : Type 0 where
  pub first : ℕ
  pub first_is : first ≡ off_in given.op / stripe_bytes (quorum_of given)
  pub which : ℕ
  pub enough : count_below 31 (is_in which) ≡ quorum_of given
  pub each : (x : ℕ) → is_in which x ≡ true → (x < bricks_of given) × (is_grouped given w x ≡ true) × (has_chunks (reply_to (is_read_from first) (w x)) ≡ true)
  -- each was asked for a chunk of each stripe that has a byte of the range
  pub count : ℕ
  pub covers : stripes_to (quorum_of given) (end_of (off_in given.op) (len_in given.op) head.size) ≤ first + count
  pub asked : (x : ℕ) → is_in which x ≡ true → (gfid : Gfid) × (grant : ℕ) × (number : ℕ) × Contains (w x) (record { number = number; request = ReadChunks gfid grant first count; reply = reply_to (is_read_from first) (w x) })
  pub decoded : AreBytes (quorum_of given) given.geometry.algorithm which (λ x. reply_to (is_read_from first) (w x)) first (off_in given.op) (end_of (off_in given.op) (len_in given.op) head.size) bytes

-- A read is answered by the size of the group's record, which is a file's: no byte, where none of the range lies below it.
pub record GivesBytes (given : Given) (w : Windows) (bytes : List ℕ) : Type 0 where
  pub head : Head
  pub head_is : head_in given w ≡ Some head
  pub kind : head.kind ≡ File
  pub range : ((end_of (off_in given.op) (len_in given.op) head.size ≤ off_in given.op) × (bytes ≡ []))
      ⊎ ((off_in given.op < end_of (off_in given.op) (len_in given.op) head.size) × GivesRange given w head bytes)

-- a brick of the good group replied a page of names that tells of this name, and this is what it tells
pub record Tells (given : Given) (w : Windows) (x : ℕ) (name : List ℕ) (value : Value) : Type 0 where
  pub below : x < bricks_of given
  pub grouped : is_grouped given w x ≡ true
  pub gfid : Gfid
  pub grant : ℕ
  pub after : Option (List ℕ)
  pub page : Page
  pub number : ℕ
  pub exchanged : Contains (w x) (record { number = number; request = NamesAfter gfid grant after; reply = Some (NamesAre page) })
  pub inside : is_inside after (end_in (Some page)) name ≡ true
  pub value_is : value ≡ listed page name

-- What a readdir lists of a name is what K bricks of the group told alike, or that it is open, where no K did.
pub record ListsName (given : Given) (w : Windows) (list : Entries) (name : List ℕ) : Type 0 where
  pub said : ℕ → Option Value
  pub told : (x : ℕ) (value : Value) → said x ≡ Some value → Tells given w x name value
  pub enough : quorum_of given ≤ count_said said
  pub entry : IsEntry (quorum_of given) said (entry_at list name)

-- Each page of names that a brick of the good group replied is in order, past the name after which it was asked for.
abbrev pub PagesRise : Given → Windows → Type 0
PagesRise given w = (x : ℕ) (gfid : Gfid) (grant : ℕ) (after : Option (List ℕ)) (page : Page) (number : ℕ) → x < bricks_of given → is_grouped given w x ≡ true
    → Contains (w x) (record { number = number; request = NamesAfter gfid grant after; reply = Some (NamesAre page) }) → is_rising after page ≡ true

-- The list is in order where the pages are. (A brick that replies names from before those it was asked for has them listed twice.)
pub record GivesNames (given : Given) (w : Windows) (list : Entries) : Type 0 where
  pub head : Head
  pub head_is : head_in given w ≡ Some head
  pub kind : head.kind ≡ Dir
  pub rises : PagesRise given w → is_rising None list ≡ true
  pub each : (name : List ℕ) → ListsName given w list name
