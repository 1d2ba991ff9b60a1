-- What a call has read of a file, as its account says, and what its turn was given in the machine of pieces, after every log.
use Rattle.std.specs.Prelude.{◌≡◌, ◌<◌, ◌%◌, ◌^◌, ℕ, Some, List, [], ◌∷◌, true, false}
use Rattle.ec_attr.specs.declared.config.Config.{Config}
use Rattle.ec_attr.specs.declared.head.Head.{Head}
use Rattle.ec_brick.specs.State.{State as Brick}
use Rattle.ec_conduct.specs.Account.{Account, at}
use Rattle.ec_conduct.specs.Data.{IsOld, stripe_byte}
use Rattle.ec_conduct.specs.Done.{chunk_read, did, is_pre, since}
use Rattle.ec_conduct.specs.Given.{Given, quorum}
use Rattle.ec_conduct.specs.Opened.{account}
use Rattle.ec_conduct.specs.Standing.{is_grouped}
use Rattle.ec_field.specs.Code.{IsStripe}
use Rattle.ec_history.specs.Accounts.{books, no_books}
use Rattle.ec_history.specs.Flat.{Tree}
use Rattle.ec_history.specs.IsRun.{IsRun}
use Rattle.ec_history.specs.Run.{Net, after, fresh}
use Rattle.ec_history.specs.Starts.{IsStart}
use Rattle.ec_history.specs.Story.{opening}
use Rattle.ec_law_data.specs.Coding.{by_rows}
use Rattle.ec_law_data.specs.Deeds.{file, file_after}
use Rattle.ec_law_data.specs.Forms.{CodesZeros, Coder, Piece, Shape}
use Rattle.ec_law_data.specs.Laws.{begun, begun_file}
use Rattle.ec_law_data.specs.Link.{AllCoded, HasPieces}
use Rattle.ec_law_data.specs.Reading.{Plans, Reading}
use Rattle.ec_law_net.specs.Turns.{View, seen_after, view}
use Rattle.ec_law_pieces.specs.Deed.{AreCodes}
use Rattle.ec_law_pieces.specs.File.{File, Flat}
use Rattle.ec_law_reads.specs.Given.{IsGiven}
use Rattle.ec_law_reads.specs.Rows.{AreRows}
use Rattle.ec_law_reads.specs.Units.{of_units}
use Rattle.ec_law_reads.specs.Stripes.{HaveSameBytes, HaveSameLowBytes}
use Rattle.ec_law_turns.specs.Orderly.{ArePlain, IsOrderly}
use Rattle.ec_store.specs.Records.{Records}
use Rattle.ec_stripe.specs.Span.{stripe_bytes}
use Rattle.ec_wire.specs.declared.entry.Entry.{Entry}

-- the machine of pieces has those of the bricks, before each entry
abbrev pub HadPieces : {P V C U S : Type 0} → Reading P V C U S → Plans P V U S → ℕ → ℕ → ℕ → List Entry → Net → View → File P V C U S → Type 0
HadPieces R plans n k g [] m v f = Unit {0}
HadPieces R plans n k g (e ∷ es) m v f = HasPieces R n g m f × HadPieces R plans n k g es (after m e) (seen_after g m v e) (file_after R plans n k g m v f e)

-- ## A log of a file

-- How the machine of pieces begins with a file.
pub record Begins : Type 0 where
  pub flat : Flat ℕ ℕ Shape
  pub shape : ℕ → Shape
  pub piece : ℕ → ℕ → Piece
  pub value : ℕ → List (List ℕ)

-- A log in which the calls are plain and keep the conduct in order, from bricks that stand for a tree, and which as the machine of
-- pieces reads it has always had the pieces of the bricks.
pub record FileLog (unit : List (List ℕ) → ℕ → ℕ) (coder : Coder) : Type 0 where
  pub plans : Plans ℕ (List (List ℕ)) ℕ Shape
  pub config : Config
  pub records : ℕ → Records
  pub bricks : ℕ → Brick
  pub tree : Tree
  pub next : ℕ
  pub g : ℕ
  pub es : List Entry
  pub start : IsStart config records bricks tree next
  pub runs : IsRun config.geometry.n es (fresh bricks)
  pub plain : ArePlain es
  pub orderly : IsOrderly config.geometry es (fresh bricks) (opening tree next)
  pub begins : Begins
  pub version : begins.flat.version ≡ (tree g).version
  pub pieces : HadPieces (of_units unit (quorum config.geometry) coder) plans config.geometry.n (quorum config.geometry) g es (fresh bricks) (begun config records tree next g) (begun_file (of_units unit (quorum config.geometry) coder) config records g begins.flat begins.shape begins.piece begins.value)

-- the file at its end, in the machine of pieces
abbrev pub file_of : {unit : List (List ℕ) → ℕ → ℕ} {coder : Coder} → FileLog unit coder → File ℕ (List (List ℕ)) Piece ℕ Shape
file_of {unit} {coder} l = file (of_units unit (quorum l.config.geometry) coder) l.plans l.config.geometry.n (quorum l.config.geometry) l.g l.es (fresh l.bricks) (begun l.config l.records l.tree l.next l.g) (begun_file (of_units unit (quorum l.config.geometry) coder) l.config l.records l.g l.begins.flat l.begins.shape l.begins.piece l.begins.value)

-- Call a has this account there, and is in turn t on the gfid, which has planned nothing yet.
pub record IsReader {unit : List (List ℕ) → ℕ → ℕ} {coder : Coder} (l : FileLog unit coder) (a t : ℕ) (c : Account) : Type 0 where
  pub given : Given
  pub began : (books l.config.geometry l.orderly.left l.es (fresh l.bricks) (opening l.tree l.next) no_books).given a ≡ Some given
  pub account_is : c ≡ account given ((books l.config.geometry l.orderly.left l.es (fresh l.bricks) (opening l.tree l.next) no_books).own a)
  pub turn : (view l.g l.es (fresh l.bricks) (begun l.config l.records l.tree l.next l.g)).turn a ≡ Some t
  pub free : (file_of l).planned t ≡ false

-- ## The laws

-- What a brick of the group gave of a stripe after it did the PreOp, the turn was given.
abbrev pub GivenAsRead : Type 0
GivenAsRead =
    (unit : List (List ℕ) → ℕ → ℕ) (coder : Coder) (l : FileLog unit coder) (a t : ℕ) (c : Account) → IsReader l a t c
    → (x s : ℕ) (chunk : List ℕ) → x < l.config.geometry.n
    → is_grouped c l.g x ≡ true
    → did is_pre (at c l.g x).window ≡ true
    → chunk_read s (since is_pre (at c l.g x).window) ≡ Some chunk
    → IsGiven (file_of l) t x s chunk

-- a stripe has the bytes of one of chunks, as far as a byte is a number below 256
abbrev pub HasBytesOf : ℕ → List (List ℕ) → List (List ℕ) → Type 0
HasBytesOf k old v = (i : ℕ) → i < stripe_bytes k → stripe_byte v i % 2 ^ 8 ≡ stripe_byte old i

-- So where a stripe is known as it was, each one of which the turn was given codes has its bytes. In such logs no call leaves
-- stripes to its client.
pub record IsOldAsGiven (unit : List (List ℕ) → ℕ → ℕ) (k : ℕ) (rows : ℕ → ℕ → ℕ) (l : FileLog unit (by_rows k rows)) (t s : ℕ) (old v : List (List ℕ)) : Type 0 where
  pub bytes : HasBytesOf k old v
  pub low : HaveSameLowBytes k v old
  pub same : IsStripe k v → HaveSameBytes k v old

abbrev pub OldAsGiven : Type 0
OldAsGiven =
    (unit : List (List ℕ) → ℕ → ℕ) (k : ℕ) (rows : ℕ → ℕ → ℕ) (l : FileLog unit (by_rows k rows)) (a t : ℕ) (c : Account)
    → k ≡ quorum l.config.geometry
    → AreRows l.config.geometry.n k l.config.geometry.algorithm rows
    → ((x : ℕ) → (l.orderly.left x).cache ≡ [])
    → IsReader l a t c
    → (s : ℕ) (head : Head) (old : List (List ℕ)) → IsOld c l.g s head old
    → (v : List (List ℕ)) → AreCodes (of_units unit k (by_rows k rows)).form l.config.geometry.n k (file_of l) t s v
    → IsOldAsGiven unit k rows l t s old v

pub record ReadLaws : Type 0 where
  pub given : GivenAsRead
  pub old : OldAsGiven

-- ## The pieces before each entry

-- In every such log the machine has had the pieces of the bricks, if it began with them and each data request that was done put the
-- codes of what its turn planned.
abbrev pub HadInEveryLog : Type 0
HadInEveryLog =
    (unit : List (List ℕ) → ℕ → ℕ) (coder : Coder) (plans : Plans ℕ (List (List ℕ)) ℕ Shape) (config : Config) (records : ℕ → Records) (bricks : ℕ → Brick) (tree : Tree) (next g : ℕ) (es : List Entry)
    → CodesZeros (quorum config.geometry) coder
    → IsStart config records bricks tree next
    → IsRun config.geometry.n es (fresh bricks)
    → ArePlain es
    → IsOrderly config.geometry es (fresh bricks) (opening tree next)
    → (b : Begins)
    → HasPieces (of_units unit (quorum config.geometry) coder) config.geometry.n g (fresh bricks) (begun_file (of_units unit (quorum config.geometry) coder) config records g b.flat b.shape b.piece b.value)
    → AllCoded (of_units unit (quorum config.geometry) coder) plans config.geometry.n (quorum config.geometry) g es (fresh bricks) (begun config records tree next g) (begun_file (of_units unit (quorum config.geometry) coder) config records g b.flat b.shape b.piece b.value)
    → HadPieces (of_units unit (quorum config.geometry) coder) plans config.geometry.n (quorum config.geometry) g es (fresh bricks) (begun config records tree next g) (begun_file (of_units unit (quorum config.geometry) coder) config records g b.flat b.shape b.piece b.value)

pub record FrontLaws : Type 0 where
  pub had : HadInEveryLog
