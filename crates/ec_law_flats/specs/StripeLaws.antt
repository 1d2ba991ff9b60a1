-- What the machine of a file and the flat file of a log have in common, gfid by gfid.
use Rattle.ec_attr.specs.Marks.{is_marked}
use Rattle.ec_attr.specs.declared.geometry.Geometry.{Geometry}
use Rattle.ec_conduct.specs.Data.{stripe_byte}
use Rattle.ec_history.specs.Flat.Opener.{Nobody}
use Rattle.ec_history.specs.Holds.{HoldsStripe}
use Rattle.ec_matrix.specs.Inverse.{IsByteRow}
use Rattle.ec_stripe.specs.Span.{stripe_bytes}
use Rattle.ec_law_data.specs.Coding.{by_rows}
use Rattle.ec_law_data.specs.Link.{HoldClosed}
use Rattle.std.specs.Prelude.{◌≡◌, ℕ, ◌%◌, ◌^◌, ◌<◌, false, List}
use Rattle.ec_attr.specs.declared.config.Config.{Config}
use Rattle.ec_brick.specs.State.{State as Brick}
use Rattle.ec_conduct.specs.Given.{quorum}
use Rattle.ec_history.specs.Flat.{Flat as FlatFile, Tree, from_before}
use Rattle.ec_history.specs.IsRun.{IsRun}
use Rattle.ec_history.specs.Run.{Net, fresh, run}
use Rattle.ec_history.specs.Starts.{IsStart}
use Rattle.ec_history.specs.Story.{Story, opening, story}
use Rattle.ec_store.specs.Records.{Record, Records}
use Rattle.ec_wire.specs.declared.entry.Entry.{Entry}
use Rattle.ec_law_pieces.specs.File.{File, Flat, Form}
use Rattle.ec_law_turns.specs.Laws.{Always}
use Rattle.ec_law_turns.specs.Orderly.{ArePlain, IsOrderly}
use Rattle.ec_law_data.specs.Deeds.{file}
use Rattle.ec_law_data.specs.Forms.{Coder, Piece, Shape, file_form}
use Rattle.ec_law_data.specs.Laws.{begun, begun_file}
use Rattle.ec_law_data.specs.Reading.{Plans}
use Rattle.ec_law_flats.specs.Plans.{AllPlans, AreBuilt}
use Rattle.ec_law_flats.specs.Stripes.{AllSized, CutsKeep, DataInOneTurn, StripePlan, StripesAgree, file_flat, of_file_by}

-- A law of the machine of a file and of the story, after every log in which the calls are plain and built, keep the conduct in order
-- and send the data and the PostOps of a gfid in one turn, for plans that are those of the flat file's commits, from a flat value
-- that is the tree's.
abbrev pub OfStripes : (Config → ℕ → Coder → Form ℕ (List (List ℕ)) Piece ℕ Shape → Net → File ℕ (List (List ℕ)) Piece ℕ Shape → Story → Type 0) → Type 0
OfStripes law =
    (coder : Coder) (form : Form ℕ (List (List ℕ)) Piece ℕ Shape) (plans : Plans ℕ (List (List ℕ)) ℕ Shape) (config : Config) (records : ℕ → Records) (bricks : ℕ → Brick) (tree : Tree) (next g : ℕ) (es : List Entry)
    → IsStart config records bricks tree next
    → IsRun config.geometry.n es (fresh bricks)
    → ArePlain es
    → AreBuilt es
    → IsOrderly config.geometry es (fresh bricks) (opening tree next)
    → Always (DataInOneTurn g) g es (fresh bricks) (begun config records tree next g)
    → Always (CutsKeep g) g es (fresh bricks) (begun config records tree next g)
    → (flat : Flat ℕ ℕ Shape) (shape : ℕ → Shape) (piece : ℕ → ℕ → Piece) (value : ℕ → List (List ℕ))
    → StripesAgree (quorum config.geometry) flat (from_before (tree g))
    → AllPlans (of_file_by (quorum config.geometry) coder form) (StripePlan (quorum config.geometry) g plans.took) plans config.geometry g es (fresh bricks) (begun config records tree next g) (opening tree next) (begun_file (of_file_by (quorum config.geometry) coder form) config records g flat shape piece value)
    → AllSized plans.took config.geometry g es (fresh bricks) (begun config records tree next g) (opening tree next)
    → law config g coder form (run es (fresh bricks)) (file (of_file_by (quorum config.geometry) coder form) plans config.geometry.n (quorum config.geometry) g es (fresh bricks) (begun config records tree next g) (begun_file (of_file_by (quorum config.geometry) coder form) config records g flat shape piece value)) (story config.geometry es (fresh bricks) (opening tree next))

-- The form codes a stripe with these rows, byte by byte, and reads the low eight bits of its bytes.
pub record IsByteForm (k : ℕ) (rows : ℕ → ℕ → ℕ) (form : Form ℕ (List (List ℕ)) Piece ℕ Shape) : Type 0 where
  pub codes : (x : List (List ℕ)) (b : ℕ) → form.code x b ≡ (file_form k (by_rows k rows)).code x b
  pub units : (x : List (List ℕ)) (i : ℕ) → i < stripe_bytes k → form.unit x i ≡ stripe_byte x i % 2 ^ 8

-- an unmarked record at a version
abbrev pub IsUnmarkedAt : ℕ → ℕ → Record → Type 0
IsUnmarkedAt version b r = (is_marked r.head.version.content ≡ false) × (r.head.version.content ≡ version)

-- of each closed stripe of the flat file each such record holds the code
abbrev pub HoldStripes : Geometry → ℕ → Net → FlatFile → Type 0
HoldStripes geometry g m x = (s : ℕ) → x.opener s ≡ Nobody → HoldsStripe geometry (λ b. (m.brick b).records g) (IsUnmarkedAt x.version) x s

pub record FlatStripeLaws : Type 0 where
  -- the machine of a file of the tree begins so
  pub begins : (k : ℕ) (x : FlatFile) → StripesAgree k (file_flat k x) (from_before x)
  pub agree : OfStripes (λ config g coder form m f t. StripesAgree (quorum config.geometry) f.flat (t.tree g))
  -- so what the machine says of the bricks is the half of the flat file's `HoldClosed` that speaks of stripes, where the form has
  -- the rows of the volume's algorithm
  pub held : OfStripes (λ config g coder form m f t. (rows : ℕ → ℕ → ℕ) → ((b : ℕ) → b < config.geometry.n → IsByteRow (quorum config.geometry) config.geometry.algorithm b (rows b)) → IsByteForm (quorum config.geometry) rows form → HoldClosed (of_file_by (quorum config.geometry) coder form) config.geometry.n g m f → HoldStripes config.geometry g m (t.tree g))
