-- Bricks that can serve a call alone: as many as suffice are up and have the gfid alike, or none has it. And what the call is to be
-- answered then.
use Rattle.std.specs.Prelude.{◌≡◌, ◌⊎◌, ℕ, ◌<◌, ◌≤◌, true, cond, Option, Some, None, List}
use Rattle.ec_attr.specs.Bricks.{count_below, is_in}
use Rattle.ec_attr.specs.GoodGroup.{agrees_with}
use Rattle.ec_attr.specs.declared.geometry.Geometry.{Geometry}
use Rattle.ec_attr.specs.declared.head.Head.{Head}
use Rattle.ec_conduct.specs.Given.{quorum}
use Rattle.ec_store.specs.Records.{head_at}
use Rattle.ec_wire.specs.declared.answer.Answer.{Answer}
use Rattle.ec_wire.specs.declared.entry.Entry.{Entry}
use Rattle.ec_wire.specs.declared.entry.Entry.TheVariants.{Answered}
use Rattle.ec_wire.specs.declared.op.Op.{Op}
use Rattle.ec_wire.specs.declared.op.Op.TheVariants.{Read}
use Rattle.ec_history.specs.Answers.{IsPlain, Scene}
use Rattle.ec_history.specs.Run.{Net}
use Rattle.ec_history.specs.Story.{Story}
use Rattle.ec_law_settled.specs.Settled.{Has}

-- the head of a brick's record of the gfid, where the brick is up
abbrev pub head_up : Net → ℕ → ℕ → Option Head
head_up m g b = cond (m.brick b).up (head_at (m.brick b).records g) None

-- As many bricks as suffice are up and have records of the gfid that are without a mark and agree with this head, but for dirty
-- numbers. Where a gfid has a good group they are bricks of it.
abbrev pub HasGroupUp : Geometry → Net → ℕ → Head → Type 0
HasGroupUp geometry m g head = quorum geometry ≤ count_below geometry.n (λ b. agrees_with head (head_up m g b))

-- Each brick that a read names is one of these.
abbrev pub NamesGroup : Net → Head → Op → Type 0
NamesGroup m head (Read g off count (Some bits)) = (b : ℕ) → is_in bits b ≡ true → agrees_with head (head_up m g.0 b) ≡ true
NamesGroup m head op = Unit {0}

pub record HasServers (geometry : Geometry) (m : Net) (g : ℕ) (op : Op) : Type 0 where
  pub head : Head
  pub enough : HasGroupUp geometry m g head
  pub named : NamesGroup m head op

-- No brick has a record of the gfid, and as many as suffice are up.
pub record IsNowhere (geometry : Geometry) (m : Net) (g : ℕ) : Type 0 where
  pub none : (b : ℕ) → b < geometry.n → (m.brick b).records g ≡ None
  pub enough : quorum geometry ≤ count_below geometry.n (λ b. (m.brick b).up)

-- the bricks can serve a call on the gfid
abbrev pub CanServe : Geometry → Net → ℕ → Op → Type 0
CanServe geometry m g op = HasServers geometry m g op ⊎ IsNowhere geometry m g

-- the flat files and the records of the bricks, and the gfid that the next call takes for a child
abbrev pub scene_of : Geometry → Net → Story → Scene
scene_of geometry m t = record { geometry = geometry; tree = t.tree; copies = λ g b. (m.brick b).records g; took = t.next_gfid }

-- The call is answered in these entries, and as the flat files say that stood before them.
pub record IsAnsweredPlainly (geometry : Geometry) (m : Net) (t : Story) (call : ℕ) (op : Op) (es : List Entry) : Type 0 where
  pub answer : Answer
  pub answered : Has (λ e. e ≡ Answered call answer) es
  pub plain : IsPlain (scene_of geometry m t) op answer
