-- What the machine of pieces and the flat file of a log have in common, gfid by gfid.
use Rattle.std.specs.Prelude.{◌≡◌, ℕ, ◌<◌, false, Option, Some, List}
use Rattle.ec_attr.specs.declared.config.Config.{Config}
use Rattle.ec_attr.specs.Marks.{is_marked}
use Rattle.ec_attr.specs.declared.geometry.Geometry.{Geometry}
use Rattle.ec_attr.specs.declared.kind.Child.{Child}
use Rattle.ec_brick.specs.State.{State as Brick}
use Rattle.ec_conduct.specs.Given.{quorum}
use Rattle.ec_history.specs.Flat.{Flat as FlatFile, Tree}
use Rattle.ec_history.specs.Flat.Opener.{Nobody}
use Rattle.ec_history.specs.IsRun.{IsRun}
use Rattle.ec_history.specs.Run.{Net, fresh, run}
use Rattle.ec_history.specs.Starts.{IsStart}
use Rattle.ec_history.specs.Story.{Story, op_of, opening, story}
use Rattle.ec_store.specs.Records.{Record, Records}
use Rattle.ec_wire.specs.declared.entry.Entry.{Entry}
use Rattle.ec_law_pieces.specs.File.{File, Flat}
use Rattle.ec_law_turns.specs.Laws.{Always}
use Rattle.ec_law_turns.specs.Orderly.{ArePlain, IsOrderly}
use Rattle.ec_law_data.specs.Deeds.{file}
use Rattle.ec_law_data.specs.Forms.{Shape, of_directory}
use Rattle.ec_law_data.specs.Laws.{begun, directory_begun}
use Rattle.ec_law_data.specs.Link.{HoldClosed}
use Rattle.ec_law_data.specs.Reading.{Plans}
use Rattle.ec_law_data.specs.Versions.{PostsInOneTurn}
use Rattle.ec_law_flats.specs.Plans.{AllPlans, AreBuilt, NamePlan, is_unbuilt}

-- ## Directories

-- The machine's flat value of a directory: it is at the flat file's version, and each name that is closed there is closed here, and
-- leads to the same child.
pub record NamesAgree (flat : Flat (List ℕ) (Option Child) Shape) (x : FlatFile) : Type 0 where
  pub version : flat.version ≡ x.version
  pub closed : (n : List ℕ) → x.is_name_open n ≡ false → flat.opener n ≡ Nobody
  pub child : (n : List ℕ) → x.is_name_open n ≡ false → flat.unit n 0 ≡ Some (x.child n)

-- A law of the machine of a directory and of the story, after every log in which the calls are plain and built, keep the conduct in
-- order and send the PostOps of a gfid in one turn, for plans that are those of the flat file's commits.
abbrev pub OfNames : (ℕ → ℕ → Net → File (List ℕ) (Option Child) (Option Child) (Option Child) Shape → Story → Type 0) → Type 0
OfNames law =
    (plans : Plans (List ℕ) (Option Child) (Option Child) Shape) (config : Config) (records : ℕ → Records) (bricks : ℕ → Brick) (tree : Tree) (next g : ℕ) (es : List Entry)
    → IsStart config records bricks tree next
    → IsRun config.geometry.n es (fresh bricks)
    → ArePlain es
    → AreBuilt es
    → IsOrderly config.geometry es (fresh bricks) (opening tree next)
    → Always (PostsInOneTurn g) g es (fresh bricks) (begun config records tree next g)
    → AllPlans of_directory (NamePlan (quorum config.geometry) g) plans config.geometry g es (fresh bricks) (begun config records tree next g) (opening tree next) (directory_begun config records tree g)
    → law config.geometry.n g (run es (fresh bricks)) (file of_directory plans config.geometry.n (quorum config.geometry) g es (fresh bricks) (begun config records tree next g) (directory_begun config records tree g)) (story config.geometry es (fresh bricks) (opening tree next))

-- an unmarked record at the flat file's version leads each closed name to the flat file's child
abbrev pub HoldNames : ℕ → ℕ → Net → FlatFile → Type 0
HoldNames n g m x = (b : ℕ) (r : Record) (name : List ℕ) → b < n → (m.brick b).records g ≡ Some r → is_marked r.head.version.content ≡ false → r.head.version.content ≡ x.version → x.is_name_open name ≡ false → r.names name ≡ x.child name

pub record FlatNameLaws : Type 0 where
  pub agree : OfNames (λ n g m f t. NamesAgree f.flat (t.tree g))
  -- so what the machine says of the bricks is the half of the flat file's `HoldClosed` that speaks of names
  pub held : OfNames (λ n g m f t. HoldClosed of_directory n g m f → HoldNames n g m (t.tree g))
  -- a run is one of built calls where none of the calls that it made is unbuilt
  pub built : (geometry : Geometry) (es : List Entry) (m : Net) → IsRun geometry.n es m → ((c : ℕ) → is_unbuilt (op_of (run es m) c) ≡ false) → AreBuilt es
