-- What holds of a brick's record between two moments of the log of a world.
use Rattle.std.specs.Prelude.{◌≡◌, ◌≢◌, ℕ, ◌<◌, ◌≤◌, true, false, Option, Some, None, List, ◌++◌}
use Rattle.ec_attr.specs.declared.config.Config.{Config}
use Rattle.ec_attr.specs.declared.gfid.Gfid.{Gfid}
use Rattle.ec_attr.specs.declared.kind.Domain.TheVariants.{Inode}
use Rattle.ec_attr.specs.declared.kind.LockKind.{LockKind}
use Rattle.ec_brick.specs.State.{State as Brick}
use Rattle.ec_calls.specs.declared.any.AnyCall.{AnyCall}
use Rattle.ec_conduct.specs.Conduct.{named_grant}
use Rattle.ec_conduct.specs.Given.{Given, quorum}
use Rattle.ec_conduct.specs.Own.{Own}
use Rattle.ec_history.specs.Flat.{Tree, blank}
use Rattle.ec_history.specs.Run.{Net, fresh, run}
use Rattle.ec_history.specs.Story.{Story, opening, posts, story}
use Rattle.ec_locks.specs.Table.{holds}
use Rattle.ec_store.specs.Records.{Record, Records}
use Rattle.ec_txn.specs.declared.ctx.Ctx.{Ctx}
use Rattle.ec_wire.specs.declared.entry.Entry.{Entry}
use Rattle.ec_wire.specs.declared.message.Body.TheVariants.{ToBrick}
use Rattle.ec_wire.specs.declared.message.Message.{Message}
use Rattle.ec_wire.specs.declared.request.Request.{Request}
use Rattle.ec_wire.specs.declared.request.Request.TheVariants.{Ask}
use Rattle.ec_law_parts.specs.Laws.{InEveryWorldsLog}
use Rattle.ec_law_grants.specs.Alters.{alters}
use Rattle.ec_law_grants.specs.Became.{Became}

-- Message i is call a's ask of brick b for the content of a gfid, and the call heard that it was granted while it waited for it.
pub record HasHeard (m : Net) (a b : ℕ) (gfid : Gfid) (kind : LockKind) (i : ℕ) : Type 0 where
  pub message : Message
  pub said : m.said i ≡ Some message
  pub of_call : message.call ≡ a
  pub of_brick : message.brick ≡ b
  pub asks : message.body ≡ ToBrick (Ask gfid Inode kind)
  pub heard : m.granted i ≡ true

-- no request that changes the record was sent under this grant
abbrev pub NoneAlters : Net → ℕ → Type 0
NoneAlters m i = (j : ℕ) (msg : Message) (q : Request) → m.said j ≡ Some msg → msg.body ≡ ToBrick q → named_grant q ≡ Some i → alters q ≡ false

-- brick b's record of the gfid after these entries
abbrev pub record_after : List Entry → (ℕ → Brick) → ℕ → ℕ → Option Record
record_after es bricks g b = ((run es (fresh bricks)).brick b).records g

-- As long as a grant stands that its call has heard, and nothing was sent under it that changes the record, the record is as it was.
abbrev pub StaysWhileHeld : Config → (ℕ → Records) → (ℕ → Brick) → Tree → ℕ → ℕ → List Entry → Type 0
StaysWhileHeld config records bricks tree next g es =
    (mo later : List Entry) → es ≡ mo ++ later
    → (a b i : ℕ) (gfid : Gfid) (kind : LockKind) → gfid.0 ≡ g → b < config.geometry.n
    → HasHeard (run mo (fresh bricks)) a b gfid kind i
    → holds ((run es (fresh bricks)).brick b).asks i gfid Inode kind ≡ true
    → NoneAlters (run es (fresh bricks)) i
    → Became config (record_after mo bricks g b) (record_after es bricks g b)

-- Where a brick did a PostOp, an unmarked record that it has isn't of version 0: what it had is there, or is gone for good.
abbrev pub PostedIsNotNew : Config → (ℕ → Records) → (ℕ → Brick) → Tree → ℕ → ℕ → List Entry → Type 0
PostedIsNotNew config records bricks tree next g es =
    (a b : ℕ) (r : Record) → b < config.geometry.n → (story config.geometry es (fresh bricks) (opening tree next)).posted a g b ≡ true
    → record_after es bricks g b ≡ Some r → r.head.version.content ≢ 0

-- a version that the flat file didn't begin with is one that a call committed
pub record IsCommitted (config : Config) (t : Story) (g : ℕ) : Type 0 where
  pub call : ℕ
  pub enough : quorum config.geometry ≤ posts config.geometry t call g

abbrev pub VersionIsCommitted : Config → (ℕ → Records) → (ℕ → Brick) → Tree → ℕ → ℕ → List Entry → Type 0
VersionIsCommitted config records bricks tree next g es =
    ((story config.geometry es (fresh bricks) (opening tree next)).tree g).version ≢ (tree g).version → IsCommitted config (story config.geometry es (fresh bricks) (opening tree next)) g

-- a record that is there, and wasn't at an earlier moment, is of a gfid of which nothing was known as the log began
abbrev pub MadeIsNew : Config → (ℕ → Records) → (ℕ → Brick) → Tree → ℕ → ℕ → List Entry → Type 0
MadeIsNew config records bricks tree next g es =
    (mo later : List Entry) → es ≡ mo ++ later → (b : ℕ) (r : Record) → b < config.geometry.n
    → record_after mo bricks g b ≡ None → record_after es bricks g b ≡ Some r → tree g ≡ blank

-- Of each front of the log of every world.
pub record WorldGrantLaws (stands : Ctx → Given → AnyCall → List Own → Type 0) (by_table : Ctx → Given → List Own → Type 0) : Type 0 where
  pub stays : InEveryWorldsLog stands by_table StaysWhileHeld
  pub posted : InEveryWorldsLog stands by_table PostedIsNotNew
  pub committed : InEveryWorldsLog stands by_table VersionIsCommitted
  pub made : InEveryWorldsLog stands by_table MadeIsNew
