-- What holds of the data of one gfid in every log.
use Rattle.ec_law_turns.specs.Laws.{Always}
use Rattle.ec_history.specs.Holds.{is_at_version}
use Rattle.ec_attr.specs.Marks.{is_marked}
use Rattle.ec_attr.specs.Bricks.{count_below}
use Rattle.ec_attr.specs.declared.geometry.Geometry.{Geometry}
use Rattle.ec_attr.specs.declared.kind.Child.{Child}
use Rattle.std.specs.Prelude.{◌≡◌, ℕ, List, Option, ◌≤◌, false}
use Rattle.ec_attr.specs.declared.config.Config.{Config}
use Rattle.ec_brick.specs.State.{State as Brick}
use Rattle.ec_conduct.specs.Given.{quorum}
use Rattle.ec_history.specs.Flat.{Tree}
use Rattle.ec_history.specs.Flat.Opener.{Nobody}
use Rattle.ec_history.specs.IsRun.{IsRun}
use Rattle.ec_history.specs.Run.{Net, fresh, run}
use Rattle.ec_history.specs.Starts.{IsStart}
use Rattle.ec_history.specs.Story.{opening, Story, story}
use Rattle.ec_store.specs.Records.{Records}
use Rattle.ec_wire.specs.declared.entry.Entry.{Entry}
use Rattle.ec_law_pieces.specs.Deed.{after as after_deeds}
use Rattle.ec_law_pieces.specs.File.{File, Flat}
use Rattle.ec_law_pieces.specs.Laws.{Alike, Closed, InOrder, StandAgain, Stands, start}
use Rattle.ec_law_net.specs.Start.{first_heads, first_view, is_new}
use Rattle.ec_law_net.specs.Turns.{View, acts, all_acts, view}
use Rattle.ec_law_turns.specs.Orderly.{ArePlain, IsOrderly}
use Rattle.ec_law_data.specs.Deeds.{all_deeds, cores, deeds, file}
use Rattle.ec_law_data.specs.Forms.{CodesZeros, Coder, of_directory, of_file, Shape, child_in, directory_flat, shape_in}
use Rattle.ec_law_data.specs.Link.{AgreeAtFlat, AllCoded, GoToBricks, HasPieces, HoldClosed, AllUnmarked}
use Rattle.ec_law_data.specs.Owing.{AllOwe}
use Rattle.ec_law_data.specs.Reading.{Plans, Reading}
use Rattle.ec_law_data.specs.Versions.{no_plans, of_versions, PostsInOneTurn}

-- Without what they do to pieces, the deeds of an entry are its acts on heads and grants; so the deeds of a log step the
-- machine of versions as its acts do, whatever the plans.
pub record CoreLaws {P V C U S : Type 0} (R : Reading P V C U S) (plans : Plans P V U S) : Type 0 where
  pub entry : (n k g : ℕ) (m : Net) (v : View) (f : File P V C U S) (e : Entry) → cores (deeds R plans n k g m v f e) ≡ acts g m v e
  pub log : (n k g : ℕ) (es : List Entry) (m : Net) (v : View) (f : File P V C U S) → cores (all_deeds R plans n k g es m v f) ≡ all_acts g es m v
  pub heads : (n k g : ℕ) (es : List Entry) (m : Net) (v : View) (f : File P V C U S) → f.heads ≡ v.core → (file R plans n k g es m v f).heads ≡ (view g es m v).core
  -- the deeds are all that steps the machine of pieces
  pub lead_on : (n k g : ℕ) (es : List Entry) (m : Net) (v : View) (f : File P V C U S) → file R plans n k g es m v f ≡ after_deeds R.form n k (all_deeds R plans n k g es m v f) f

-- A machine that has the pieces of the bricks has them after every run in which no heal marks a record, and each data
-- request that is done puts the codes of what its turn planned.
abbrev pub PiecesFollow : {P V C U S : Type 0} → Reading P V C U S → Type 0
PiecesFollow {P} {V} {C} {U} {S} R = (plans : Plans P V U S) (n k g : ℕ) (es : List Entry) (m : Net) (v : View) (f : File P V C U S) → IsRun n es m → GoToBricks n m → HasPieces R n g m f → AllUnmarked R g es m → AllCoded R plans n k g es m v f → HasPieces R n g (run es m) (file R plans n k g es m v f)

pub record DataLaws : Type 0 where
  pub of_files : (k : ℕ) (coder : Coder) → CodesZeros k coder → PiecesFollow (of_file k coder)
  pub of_directories : PiecesFollow of_directory

-- The machines of versions and of pieces as a log begins. Each turn counts as a call of its own.
abbrev pub begun : Config → (ℕ → Records) → Tree → ℕ → ℕ → View
begun config records tree next g = first_view config.geometry.n (tree g).version records g (λ a. a) next

abbrev pub begun_file : {P V C U S : Type 0} (R : Reading P V C U S) (config : Config) (records : ℕ → Records) (g : ℕ) (flat : Flat P U S) (shape : ℕ → S) (piece : ℕ → P → C) → (P → V) → File P V C U S
begun_file R config records g flat shape piece value = start R.form config.geometry.n flat (first_heads config.geometry.n records g) (is_new config.geometry.n records g) (λ a. a) shape piece value

-- A law of the machine of pieces after every log in which the calls are plain and keep the conduct in order, from bricks
-- that stand for a flat value, where the data owe nothing.
abbrev pub AfterEveryOwedLog : {P V C U S : Type 0} → Reading P V C U S → (ℕ → ℕ → File P V C U S → Type 0) → Type 0
AfterEveryOwedLog {P} {V} {C} {U} {S} R law =
    (plans : Plans P V U S) (config : Config) (records : ℕ → Records) (bricks : ℕ → Brick) (tree : Tree) (next g : ℕ) (es : List Entry)
    → IsStart config records bricks tree next
    → IsRun config.geometry.n es (fresh bricks)
    → ArePlain es
    → IsOrderly config.geometry es (fresh bricks) (opening tree next)
    → (flat : Flat P U S) (shape : ℕ → S) (piece : ℕ → P → C) (st : Stands R.form config.geometry.n (quorum config.geometry) flat (first_heads config.geometry.n records g) (is_new config.geometry.n records g) shape piece)
    → flat.version ≡ (tree g).version
    → AllOwe R.form config.geometry.n (quorum config.geometry) (all_deeds R plans config.geometry.n (quorum config.geometry) g es (fresh bricks) (begun config records tree next g) (begun_file R config records g flat shape piece st.value)) (begun_file R config records g flat shape piece st.value)
    → law config.geometry.n (quorum config.geometry) (file R plans config.geometry.n (quorum config.geometry) g es (fresh bricks) (begun config records tree next g) (begun_file R config records g flat shape piece st.value))

pub record OwedLaws {P V C U S : Type 0} (R : Reading P V C U S) : Type 0 where
  -- at each closed place each unmarked record at the flat version has the code of one value, with the known units
  pub closed : AfterEveryOwedLog R (Closed R.form)
  -- K unmarked records that agree have the flat version and shape
  pub alike : AfterEveryOwedLog R (Alike R.form)
  -- a turn commits on the flat version before it, after the moments of all who committed before
  pub in_order : AfterEveryOwedLog R (InOrder R.form)
  -- the bricks stand again
  pub stand : AfterEveryOwedLog R (StandAgain R.form)

-- What the bricks hold after every such log, where besides the machine began with their pieces, and each data request that was
-- done put the codes of what its turn planned.
abbrev pub HeldInEveryOwedLog : {P V C U S : Type 0} → Reading P V C U S → Type 0
HeldInEveryOwedLog {P} {V} {C} {U} {S} R =
    (plans : Plans P V U S) (config : Config) (records : ℕ → Records) (bricks : ℕ → Brick) (tree : Tree) (next g : ℕ) (es : List Entry)
    → IsStart config records bricks tree next
    → IsRun config.geometry.n es (fresh bricks)
    → ArePlain es
    → IsOrderly config.geometry es (fresh bricks) (opening tree next)
    → (flat : Flat P U S) (shape : ℕ → S) (piece : ℕ → P → C) (st : Stands R.form config.geometry.n (quorum config.geometry) flat (first_heads config.geometry.n records g) (is_new config.geometry.n records g) shape piece)
    → flat.version ≡ (tree g).version
    → HasPieces R config.geometry.n g (fresh bricks) (begun_file R config records g flat shape piece st.value)
    → AllOwe R.form config.geometry.n (quorum config.geometry) (all_deeds R plans config.geometry.n (quorum config.geometry) g es (fresh bricks) (begun config records tree next g) (begun_file R config records g flat shape piece st.value)) (begun_file R config records g flat shape piece st.value)
    → AllCoded R plans config.geometry.n (quorum config.geometry) g es (fresh bricks) (begun config records tree next g) (begun_file R config records g flat shape piece st.value)
    → HoldClosed R config.geometry.n g (run es (fresh bricks)) (file R plans config.geometry.n (quorum config.geometry) g es (fresh bricks) (begun config records tree next g) (begun_file R config records g flat shape piece st.value))

-- a directory of the tree, as the machine begins with it
abbrev pub directory_begun : Config → (ℕ → Records) → Tree → ℕ → File (List ℕ) (Option Child) (Option Child) (Option Child) Shape
directory_begun config records tree g = begun_file of_directory config records g (directory_flat (tree g)) (λ b. shape_in (records b g)) (λ b. child_in (records b g)) (λ n. (tree g).child n)

-- What the bricks hold of a directory after every log in which the calls are plain and keep the conduct in order, from bricks
-- that stand for a tree: at each closed name the one child, as far as the calls plan and write so.
abbrev pub HeldNames : Type 0
HeldNames =
    (plans : Plans (List ℕ) (Option Child) (Option Child) Shape) (config : Config) (records : ℕ → Records) (bricks : ℕ → Brick) (tree : Tree) (next g : ℕ) (es : List Entry)
    → IsStart config records bricks tree next
    → IsRun config.geometry.n es (fresh bricks)
    → ArePlain es
    → IsOrderly config.geometry es (fresh bricks) (opening tree next)
    → AllOwe of_directory.form config.geometry.n (quorum config.geometry) (all_deeds of_directory plans config.geometry.n (quorum config.geometry) g es (fresh bricks) (begun config records tree next g) (directory_begun config records tree g)) (directory_begun config records tree g)
    → AllCoded of_directory plans config.geometry.n (quorum config.geometry) g es (fresh bricks) (begun config records tree next g) (directory_begun config records tree g)
    → HoldClosed of_directory config.geometry.n g (run es (fresh bricks)) (file of_directory plans config.geometry.n (quorum config.geometry) g es (fresh bricks) (begun config records tree next g) (directory_begun config records tree g))

pub record HeldLaws : Type 0 where
  -- each brick's unmarked record at the flat version has the code of the one stripe at each closed stripe
  pub of_files : (k : ℕ) (coder : Coder) → CodesZeros k coder → HeldInEveryOwedLog (of_file k coder)
  -- and the one child at each closed name
  pub of_directories : HeldInEveryOwedLog of_directory
  -- bricks that stand for a tree stand for each directory of it, so nothing else is asked of the beginning
  pub of_names : HeldNames

-- the flat value of no data, at the version for which the bricks stand
abbrev pub bare : ℕ → Flat ⊥ (Unit {0}) (Unit {0})
bare version = record { version = version; shape = tt; unit = λ p i. absurd p; opener = λ p. Nobody }

abbrev pub versions_begun : Config → (ℕ → Records) → Tree → ℕ → File ⊥ (Unit {0}) (Unit {0}) (Unit {0}) (Unit {0})
versions_begun config records tree g = begun_file of_versions config records g (bare (tree g).version) (λ b. tt) (λ b p. tt) (λ p. tt)

-- A law of versions and commits after every log in which the calls are plain and keep the conduct in order.
abbrev pub AfterEveryOrderlyLog : (ℕ → ℕ → File ⊥ (Unit {0}) (Unit {0}) (Unit {0}) (Unit {0}) → Type 0) → Type 0
AfterEveryOrderlyLog law =
    (config : Config) (records : ℕ → Records) (bricks : ℕ → Brick) (tree : Tree) (next g : ℕ) (es : List Entry)
    → IsStart config records bricks tree next
    → IsRun config.geometry.n es (fresh bricks)
    → ArePlain es
    → IsOrderly config.geometry es (fresh bricks) (opening tree next)
    → law config.geometry.n (quorum config.geometry) (file of_versions no_plans config.geometry.n (quorum config.geometry) g es (fresh bricks) (begun config records tree next g) (versions_begun config records tree g))

pub record CommitLaws : Type 0 where
  -- K unmarked records that agree have the version of the last commit
  pub alike : AfterEveryOrderlyLog (Alike of_versions.form)
  -- a turn commits on the version of the last commit before it, after the moments of all who committed before
  pub in_order : AfterEveryOrderlyLog (InOrder of_versions.form)
  -- the same of the records of the bricks
  pub agree : (config : Config) (records : ℕ → Records) (bricks : ℕ → Brick) (tree : Tree) (next g : ℕ) (es : List Entry)
      → IsStart config records bricks tree next
      → IsRun config.geometry.n es (fresh bricks)
      → ArePlain es
      → IsOrderly config.geometry es (fresh bricks) (opening tree next)
      → AgreeAtFlat config.geometry.n (quorum config.geometry) g (run es (fresh bricks)) (file of_versions no_plans config.geometry.n (quorum config.geometry) g es (fresh bricks) (begun config records tree next g) (versions_begun config records tree g))
  -- the bricks stand for the version of the last commit, so that a further log may begin
  pub stand : AfterEveryOrderlyLog (StandAgain of_versions.form)

-- What holds of the flat file that a log makes, after every such log in which besides the PostOps of a call on the gfid are of one
-- turn.
abbrev pub AfterEveryLogOfCommits : (Geometry → ℕ → List Entry → Net → Story → Type 0) → Type 0
AfterEveryLogOfCommits law =
    (config : Config) (records : ℕ → Records) (bricks : ℕ → Brick) (tree : Tree) (next g : ℕ) (es : List Entry)
    → IsStart config records bricks tree next
    → IsRun config.geometry.n es (fresh bricks)
    → ArePlain es
    → IsOrderly config.geometry es (fresh bricks) (opening tree next)
    → Always (PostsInOneTurn g) g es (fresh bricks) (begun config records tree next g)
    → law config.geometry g es (fresh bricks) (opening tree next)

-- K unmarked records that agree have the version of the flat file
abbrev pub AgreeAtFlatFile : Geometry → ℕ → List Entry → Net → Story → Type 0
AgreeAtFlatFile geometry g es m t = (v : ℕ) → is_marked v ≡ false → quorum geometry ≤ count_below geometry.n (λ b. is_at_version v (((run es m).brick b).records g)) → v ≡ ((story geometry es m t).tree g).version

pub record FlatLaws : Type 0 where
  -- the version of the last commit of the machine is that of the flat file
  pub same_version : (config : Config) (records : ℕ → Records) (bricks : ℕ → Brick) (tree : Tree) (next g : ℕ) (es : List Entry)
      → IsStart config records bricks tree next
      → IsRun config.geometry.n es (fresh bricks)
      → ArePlain es
      → IsOrderly config.geometry es (fresh bricks) (opening tree next)
      → Always (PostsInOneTurn g) g es (fresh bricks) (begun config records tree next g)
      → (file of_versions no_plans config.geometry.n (quorum config.geometry) g es (fresh bricks) (begun config records tree next g) (versions_begun config records tree g)).flat.version ≡ ((story config.geometry es (fresh bricks) (opening tree next)).tree g).version
  pub agree : AfterEveryLogOfCommits AgreeAtFlatFile
