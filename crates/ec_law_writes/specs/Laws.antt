-- What data requests and PostOps owe in every log, whatever the plans are.
use Rattle.std.specs.Prelude.{◌≡◌, ℕ, true, List}
use Rattle.ec_attr.specs.declared.config.Config.{Config}
use Rattle.ec_brick.specs.State.{State as Brick}
use Rattle.ec_conduct.specs.Given.{quorum}
use Rattle.ec_history.specs.Accounts.{no_books}
use Rattle.ec_history.specs.Flat.{Tree}
use Rattle.ec_history.specs.IsRun.{IsRun}
use Rattle.ec_history.specs.Run.{fresh}
use Rattle.ec_history.specs.Starts.{IsStart}
use Rattle.ec_history.specs.Story.{opening}
use Rattle.ec_store.specs.Records.{Records}
use Rattle.ec_wire.specs.declared.entry.Entry.{Entry}
use Rattle.ec_wire.specs.declared.request.Request.{Request}
use Rattle.ec_law_pieces.specs.Deed.{Deed}
use Rattle.ec_law_pieces.specs.File.{File, Flat, Form}
use Rattle.ec_law_turns.specs.Laws.{Always}
use Rattle.ec_law_turns.specs.Orderly.{ArePlain, IsOrderly}
use Rattle.ec_law_data.specs.Deeds.{all_deeds}
use Rattle.ec_law_data.specs.Laws.{begun, begun_file}
use Rattle.ec_law_data.specs.Link.{IsWriter}
use Rattle.ec_law_data.specs.Owing.{AllOwe}
use Rattle.ec_law_data.specs.Reading.{Plans, Reading}
use Rattle.ec_law_parts.specs.LeavesOff.{DataBeforePosts}
use Rattle.ec_law_writes.specs.Guarding.{AllGuarded}
use Rattle.ec_law_writes.specs.Owing.{AllOf, AlwaysOfCalls, CoverWrites, OwesElse, OwesWriting, PlansOfChanges}
use Rattle.ec_law_writes.specs.Writing.{AllWrite}

-- In every log that begins with bricks that stand for a tree, in which the calls are plain and keep the conduct in order, and each
-- request of a call that changes data was sent before each of its PostOps.
abbrev pub GuardedInEveryLog : Type 0
GuardedInEveryLog =
    (config : Config) (records : ℕ → Records) (bricks : ℕ → Brick) (tree : Tree) (next g : ℕ) (es : List Entry)
    → IsStart config records bricks tree next
    → IsRun config.geometry.n es (fresh bricks)
    → ArePlain es
    → IsOrderly config.geometry es (fresh bricks) (opening tree next)
    → Always DataBeforePosts g es (fresh bricks) (begun config records tree next g)
    → AllGuarded g es (fresh bricks) (begun config records tree next g)

pub record WriteGuardLaws : Type 0 where
  -- whatever a brick writes under the grant of the content, it writes for a turn that may
  pub guarded : GuardedInEveryLog

-- In every such log, by any reading that takes for data what changes data, whatever the plans are and the pieces at the beginning.
abbrev pub WrittenInEveryLog : {P V C U S : Type 0} → Reading P V C U S → Type 0
WrittenInEveryLog {P} {V} {C} {U} {S} R =
    (plans : Plans P V U S) (config : Config) (records : ℕ → Records) (bricks : ℕ → Brick) (tree : Tree) (next g : ℕ) (es : List Entry) (f : File P V C U S)
    → IsStart config records bricks tree next
    → IsRun config.geometry.n es (fresh bricks)
    → ArePlain es
    → (orderly : IsOrderly config.geometry es (fresh bricks) (opening tree next))
    → Always DataBeforePosts g es (fresh bricks) (begun config records tree next g)
    → AllWrite R plans config.geometry orderly.left config.geometry.n (quorum config.geometry) g es (fresh bricks) (begun config records tree next g) (opening tree next) no_books f

-- a reading takes for data only requests that change data
abbrev pub TakesWriters : {P V C U S : Type 0} → Reading P V C U S → Type 0
TakesWriters R = (g : ℕ) (q : Request) → R.is_write g q ≡ true → IsWriter g q

pub record WrittenLaws {P V C U S : Type 0} (R : Reading P V C U S) : Type 0 where
  -- a brick that does a PostOp has written all that the commit is made of
  pub written : WrittenInEveryLog R

-- In every such log, where besides the plans cover what the turns write, and what they cover is written by the changes that a PostOp
-- stands on: the data requests and the PostOps owe nothing, from whatever pieces.
abbrev pub OwedInEveryLog : {P V C U S : Type 0} → Reading P V C U S → Type 0
OwedInEveryLog {P} {V} {C} {U} {S} R =
    (plans : Plans P V U S) (config : Config) (records : ℕ → Records) (bricks : ℕ → Brick) (tree : Tree) (next g : ℕ) (es : List Entry) (flat : Flat P U S) (shape : ℕ → S) (piece : ℕ → P → C) (value : P → V)
    → IsStart config records bricks tree next
    → IsRun config.geometry.n es (fresh bricks)
    → ArePlain es
    → (orderly : IsOrderly config.geometry es (fresh bricks) (opening tree next))
    → Always DataBeforePosts g es (fresh bricks) (begun config records tree next g)
    → Always (CoverWrites R plans g) g es (fresh bricks) (begun config records tree next g)
    → AlwaysOfCalls (PlansOfChanges R plans g) config.geometry orderly.left g es (fresh bricks) (begun config records tree next g) (opening tree next) no_books
    → flat.version ≡ (tree g).version
    → AllOf R.form config.geometry.n (quorum config.geometry) (OwesWriting R.form config.geometry.n (quorum config.geometry)) (all_deeds R plans config.geometry.n (quorum config.geometry) g es (fresh bricks) (begun config records tree next g) (begun_file R config records g flat shape piece value)) (begun_file R config records g flat shape piece value)

-- deeds of which neither part owes anything owe nothing
abbrev pub OwesInParts : {P V C U S : Type 0} → Form P V C U S → Type 0
OwesInParts {P} {V} {C} {U} {S} form = (n k : ℕ) (ds : List (Deed P V C U S)) (f : File P V C U S) → AllOf form n k (OwesWriting form n k) ds f → AllOf form n k (OwesElse form n k) ds f → AllOwe form n k ds f

pub record OwingLaws {P V C U S : Type 0} (R : Reading P V C U S) : Type 0 where
  pub owed : OwedInEveryLog R
  pub in_parts : OwesInParts R.form
