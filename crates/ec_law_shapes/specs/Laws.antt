-- What holds of shapes along every log, as the plans of its turns are chosen entry by entry.
use Rattle.std.specs.Prelude.{◌≡◌, ℕ, ◌<◌, false, Some, List, [], ◌∷◌, ◌++◌}
use Rattle.ec_attr.specs.Marks.{is_marked}
use Rattle.ec_attr.specs.declared.head.Head.{Head}
use Rattle.ec_attr.specs.declared.config.Config.{Config}
use Rattle.ec_brick.specs.State.{State as Brick}
use Rattle.ec_conduct.specs.Given.{Given, quorum}
use Rattle.ec_conduct.specs.Opened.{account}
use Rattle.ec_conduct.specs.Standing.{group_of, heads_at}
use Rattle.ec_history.specs.Accounts.{Leaving, books, no_books}
use Rattle.ec_history.specs.Flat.{Tree}
use Rattle.ec_history.specs.IsRun.{IsRun}
use Rattle.ec_history.specs.Run.{fresh, run}
use Rattle.ec_history.specs.Starts.{IsStart}
use Rattle.ec_history.specs.Story.{opening}
use Rattle.ec_store.specs.Records.{Records}
use Rattle.ec_wire.specs.declared.entry.Entry.{Entry}
use Rattle.ec_law_pieces.specs.File.{File, Flat}
use Rattle.ec_law_pieces.specs.Laws.{Stands}
use Rattle.ec_law_net.specs.Start.{first_heads, is_new}
use Rattle.ec_law_net.specs.Turns.{View, view}
use Rattle.ec_law_turns.specs.Orderly.{ArePlain, IsOrderly}
use Rattle.ec_law_data.specs.Deeds.{deeds, file}
use Rattle.ec_law_data.specs.Forms.{Shape, shape_in}
use Rattle.ec_law_data.specs.Laws.{begun, begun_file}
use Rattle.ec_law_data.specs.Reading.{Plans, Reading}
use Rattle.ec_law_shapes.specs.Fitting.{AllOweShape, EntryFits}
use Rattle.ec_law_shapes.specs.Shadows.{HasShapes}
use Rattle.ec_law_shapes.specs.Shapes.{head_shape}

-- the call has this turn, which has a ballot
abbrev pub HasTurn : View → ℕ → ℕ → Type 0
HasTurn v a t = (v.turn a ≡ Some t) × (0 < (v.core.ballot t).number)

module _ {P V C U : Type 0} (R : Reading P V C U Shape) where
  -- the machine as a log begins, with the shapes of the bricks' records
  abbrev pub shaped_begun : (config : Config) (records : ℕ → Records) (g : ℕ) → Flat P U Shape → (ℕ → P → C) → (P → V) → File P V C U Shape
  shaped_begun config records g flat piece value = begun_file R config records g flat (λ b. shape_in (records b g)) piece value

  -- what stands of shapes after these entries
  abbrev pub ShapesAfter : Plans P V U Shape → Config → (ℕ → Records) → (ℕ → Brick) → Tree → ℕ → ℕ → (ℕ → Leaving) → File P V C U Shape → List Entry → Type 0
  ShapesAfter plans config records bricks tree next g left f es =
      HasShapes config.geometry.n (quorum config.geometry) next g R.new (run es (fresh bricks)) (view g es (fresh bricks) (begun config records tree next g)) (books config.geometry left es (fresh bricks) (opening tree next) no_books)
      (file R plans config.geometry.n (quorum config.geometry) g es (fresh bricks) (begun config records tree next g) f)

  -- what is asked of the plans at one entry more
  abbrev pub FitsAfter : Plans P V U Shape → Config → (ℕ → Records) → (ℕ → Brick) → Tree → ℕ → ℕ → (ℕ → Leaving) → File P V C U Shape → List Entry → Entry → Type 0
  FitsAfter plans config records bricks tree next g left f es e =
      EntryFits R plans g (run es (fresh bricks)) (view g es (fresh bricks) (begun config records tree next g)) (books config.geometry left es (fresh bricks) (opening tree next) no_books)
      (file R plans config.geometry.n (quorum config.geometry) g es (fresh bricks) (begun config records tree next g) f) e

  -- the Takes and Creates of that entry owe nothing
  abbrev pub OwesNoShape : Plans P V U Shape → Config → (ℕ → Records) → (ℕ → Brick) → Tree → ℕ → ℕ → File P V C U Shape → List Entry → Entry → Type 0
  OwesNoShape plans config records bricks tree next g f es e =
      AllOweShape R.form config.geometry.n (quorum config.geometry)
      (deeds R plans config.geometry.n (quorum config.geometry) g (run es (fresh bricks)) (view g es (fresh bricks) (begun config records tree next g)) (file R plans config.geometry.n (quorum config.geometry) g es (fresh bricks) (begun config records tree next g) f) e)
      (file R plans config.geometry.n (quorum config.geometry) g es (fresh bricks) (begun config records tree next g) f)

  pub record ShapeLaws : Type 0 where
    -- from bricks that stand
    pub begin : (plans : Plans P V U Shape) (config : Config) (records : ℕ → Records) (bricks : ℕ → Brick) (tree : Tree) (next g : ℕ) (left : ℕ → Leaving)
        → IsStart config records bricks tree next
        → (flat : Flat P U Shape) (piece : ℕ → P → C) (st : Stands R.form config.geometry.n (quorum config.geometry) flat (first_heads config.geometry.n records g) (is_new config.geometry.n records g) (λ b. shape_in (records b g)) piece)
        → flat.version ≡ (tree g).version
        → ShapesAfter plans config records bricks tree next g left (shaped_begun config records g flat piece st.value) []
    -- and after one entry more, at which the plans fit
    pub step : (plans : Plans P V U Shape) (config : Config) (records : ℕ → Records) (bricks : ℕ → Brick) (tree : Tree) (next g : ℕ) (es : List Entry) (e : Entry)
        → IsStart config records bricks tree next
        → IsRun config.geometry.n (es ++ e ∷ []) (fresh bricks)
        → ArePlain (es ++ e ∷ [])
        → (orderly : IsOrderly config.geometry (es ++ e ∷ []) (fresh bricks) (opening tree next))
        → (f : File P V C U Shape)
        → ShapesAfter plans config records bricks tree next g orderly.left f es
        → FitsAfter plans config records bricks tree next g orderly.left f es e
        → OwesNoShape plans config records bricks tree next g f es e × ShapesAfter plans config records bricks tree next g orderly.left f (es ++ e ∷ [])
    -- a head that a call heard in the window of a turn with a ballot has the shape that the turn was told
    pub told : (plans : Plans P V U Shape) (config : Config) (records : ℕ → Records) (bricks : ℕ → Brick) (tree : Tree) (next g : ℕ) (es : List Entry)
        → IsStart config records bricks tree next
        → IsRun config.geometry.n es (fresh bricks)
        → ArePlain es
        → (orderly : IsOrderly config.geometry es (fresh bricks) (opening tree next))
        → (f : File P V C U Shape)
        → ShapesAfter plans config records bricks tree next g orderly.left f es
        → (a t x : ℕ) (given : Given) (h : Head)
        → (books config.geometry orderly.left es (fresh bricks) (opening tree next) no_books).given a ≡ Some given
        → HasTurn (view g es (fresh bricks) (begun config records tree next g)) a t
        → heads_at (account given ((books config.geometry orderly.left es (fresh bricks) (opening tree next) no_books).own a)) g x ≡ Some h
        → is_marked h.version.content ≡ false
        → (file R plans config.geometry.n (quorum config.geometry) g es (fresh bricks) (begun config records tree next g) f).told t x ≡ head_shape h
    -- and the turn took the shape of its call's group
    pub took : (plans : Plans P V U Shape) (config : Config) (records : ℕ → Records) (bricks : ℕ → Brick) (tree : Tree) (next g : ℕ) (es : List Entry)
        → IsStart config records bricks tree next
        → IsRun config.geometry.n es (fresh bricks)
        → ArePlain es
        → (orderly : IsOrderly config.geometry es (fresh bricks) (opening tree next))
        → (f : File P V C U Shape)
        → ShapesAfter plans config records bricks tree next g orderly.left f es
        → (a t : ℕ) (given : Given) (head : Head)
        → (books config.geometry orderly.left es (fresh bricks) (opening tree next) no_books).given a ≡ Some given
        → HasTurn (view g es (fresh bricks) (begun config records tree next g)) a t
        → group_of (account given ((books config.geometry orderly.left es (fresh bricks) (opening tree next) no_books).own a)) g ≡ Some head
        → (file R plans config.geometry.n (quorum config.geometry) g es (fresh bricks) (begun config records tree next g) f).took t ≡ head_shape head
