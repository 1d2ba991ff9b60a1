-- What holds of the heads of a gfid's records after every log, and at each moment of the log of every world.
use Rattle.std.specs.Prelude.{◌≡◌, ℕ, Some, List}
use Rattle.ec_attr.specs.declared.config.Config.{Config}
use Rattle.ec_attr.specs.declared.gfid.Gfid.{Gfid}
use Rattle.ec_attr.specs.declared.kind.Child.{Child}
use Rattle.ec_brick.specs.State.{State as Brick}
use Rattle.ec_history.specs.Flat.{Flat, Tree}
use Rattle.ec_history.specs.Holds.{Copies}
use Rattle.ec_history.specs.IsRun.{IsRun}
use Rattle.ec_history.specs.Run.{Net, fresh, run}
use Rattle.ec_history.specs.Starts.{IsStart}
use Rattle.ec_history.specs.Story.{opening, story}
use Rattle.ec_store.specs.Records.{Records}
use Rattle.ec_wire.specs.declared.entry.Entry.{Entry}
use Rattle.ec_wire.specs.declared.message.Body.TheVariants.{ToBrick}
use Rattle.ec_wire.specs.declared.message.Message.{Message}
use Rattle.ec_wire.specs.declared.request.Request.TheVariants.{Make}
use Rattle.ec_law_data.specs.Laws.{begun}
use Rattle.ec_law_net.specs.Turns.{View}
use Rattle.ec_law_turns.specs.Laws.{Always}
use Rattle.ec_law_turns.specs.Orderly.{ArePlain, IsOrderly}
use Rattle.ec_law_parts.specs.Laws.{AlwaysInOneTurn}
use Rattle.ec_law_heads.specs.Heads.{AreBounded, AreOfKind, AreOfVolume, ArePromised, HeadsStand, IsBlankUnmade, NoOthersAgree, StandTogether}

-- a gfid's records after a log
abbrev pub copies_after : List Entry → (ℕ → Brick) → ℕ → Copies
copies_after es bricks g b = ((run es (fresh bricks)).brick b).records g

-- and the flat file that the log makes
abbrev pub flat_after : Config → List Entry → (ℕ → Brick) → Tree → ℕ → ℕ → Flat
flat_after config es bricks tree next g = (story config.geometry es (fresh bricks) (opening tree next)).tree g

-- the Makes of one call on the gfid are of one kind
abbrev pub MakesOneKind : ℕ → Net → View → Type 0
MakesOneKind g m v = (i j : ℕ) (x y : Message) (d e : Gfid) (n k : ℕ) (child other : Child) → m.said i ≡ Some x → m.said j ≡ Some y → x.body ≡ ToBrick (Make d n child) → y.body ≡ ToBrick (Make e k other) → child.gfid.0 ≡ g → other.gfid.0 ≡ g → x.call ≡ y.call → child.kind ≡ other.kind

-- What else is asked of the beginning and of a log, seen from one gfid: nothing;
abbrev pub Any : Config → (ℕ → Records) → (ℕ → Brick) → Tree → ℕ → ℕ → List Entry → Type 0
Any config records bricks tree next g es = Unit {0}

-- that each record was of the volume as the log began, as a brick sees to that opens its store;
abbrev pub BeganOfVolume : Config → (ℕ → Records) → (ℕ → Brick) → Tree → ℕ → ℕ → List Entry → Type 0
BeganOfVolume config records bricks tree next g es = AreOfVolume config (λ b. records b g) (tree g)

-- that at each moment the Makes of a call on the gfid are of one kind;
abbrev pub AlwaysOneKind : Config → (ℕ → Records) → (ℕ → Brick) → Tree → ℕ → ℕ → List Entry → Type 0
AlwaysOneKind config records bricks tree next g es = Always (MakesOneKind g) g es (fresh bricks) (begun config records tree next g)

-- or that its PostOps are of one turn; or all three.
pub record AllOfThese (config : Config) (records : ℕ → Records) (bricks : ℕ → Brick) (tree : Tree) (next g : ℕ) (es : List Entry) : Type 0 where
  pub of_volume : BeganOfVolume config records bricks tree next g es
  pub one_kind : AlwaysOneKind config records bricks tree next g es
  pub one_turn : AlwaysInOneTurn config records bricks tree next g es

-- A clause of the records of a gfid and the flat file, after every log that begins with bricks that stand for a tree, in which the
-- calls are plain and keep the conduct in order, and of which this premise holds.
abbrev pub AfterEveryLog : (Config → (ℕ → Records) → (ℕ → Brick) → Tree → ℕ → ℕ → List Entry → Type 0) → (Config → Copies → Flat → Type 0) → Type 0
AfterEveryLog premise clause =
    (config : Config) (records : ℕ → Records) (bricks : ℕ → Brick) (tree : Tree) (next g : ℕ) (es : List Entry)
    → IsStart config records bricks tree next
    → IsRun config.geometry.n es (fresh bricks)
    → ArePlain es
    → IsOrderly config.geometry es (fresh bricks) (opening tree next)
    → premise config records bricks tree next g es
    → clause config (copies_after es bricks g) (flat_after config es bricks tree next g)

pub record HeadLaws : Type 0 where
  pub bounded : AfterEveryLog Any AreBounded
  pub of_volume : AfterEveryLog BeganOfVolume AreOfVolume
  pub kinds : AfterEveryLog AlwaysOneKind AreOfKind
  pub alone : AfterEveryLog AlwaysInOneTurn NoOthersAgree
  pub promised : AfterEveryLog AlwaysInOneTurn ArePromised
  pub heads : AfterEveryLog AllOfThese HeadsStand
  pub unmade : AfterEveryLog Any IsBlankUnmade
  -- what is left to show of bricks that stand
  pub together : StandTogether
