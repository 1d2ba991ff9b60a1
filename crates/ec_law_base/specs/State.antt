-- One gfid seen as records, grants and turns. A turn is one use of a ballot by one call: a write has one, a heal one for
-- each of its windows. No message is spoken of.
use Rattle.std.specs.Prelude.{ℕ, ◌+◌, Bool, cond, ◌==◌, ◌&&◌, Option}

-- The base is the version on which a turn stands. A turn whose number is 0 has no ballot yet.
pub record Ballot : Type 0 where
  pub base : ℕ
  pub number : ℕ

-- the version that its PostOp sets
abbrev pub target : Ballot → ℕ
target p = p.base + p.number

-- What a Query tells of a record. `present` is false where the brick has none, and then the rest says nothing. The
-- version is without its mark.
pub record Head : Type 0 where
  pub present : Bool
  pub version : ℕ
  pub dirty : ℕ
  pub marked : Bool

pub record State : Type 0 where
  -- by brick: its record's head
  pub present : ℕ → Bool
  pub version : ℕ → ℕ
  pub dirty : ℕ → ℕ
  pub marked : ℕ → Bool
  -- By brick: the turn that has the exclusive Inode grant, and the call that has the Heal grant. By turn and brick: a shared
  -- Inode grant.
  pub holder : ℕ → Option ℕ
  pub healer : ℕ → Option ℕ
  pub shares : ℕ → ℕ → Bool
  -- The call that makes the record: by brick, whether it has the directory's grant there since before its moment, and
  -- whether its Make and its Made were executed. `removed` is what a brick remembers of an Unmake while it stays up.
  pub maker : ℕ → Bool
  pub born : ℕ → Bool
  pub grown : ℕ → Bool
  pub removed : ℕ → Bool
  -- whether a Make was executed anywhere, or a record stood as the run began
  pub making : Bool
  -- By turn and brick: what the brick has executed for the turn. `early`: the grant came before the turn's moment. `spost`:
  -- PostOp on a marked record. `fixed`: Unmark.
  pub granted : ℕ → ℕ → Bool
  pub early : ℕ → ℕ → Bool
  pub seen : ℕ → ℕ → Option Head
  pub pre : ℕ → ℕ → Bool
  pub post : ℕ → ℕ → Bool
  pub spost : ℕ → ℕ → Bool
  pub mark : ℕ → ℕ → Bool
  pub fixed : ℕ → ℕ → Bool
  -- by call and brick: an Unmark of the call was executed
  pub stripped_by : ℕ → ℕ → Bool
  -- by turn: it asks for shared grants
  pub reads : ℕ → Bool
  -- by turn: its ballot, whether its moment has been, and the turn whose kept grants it carries over
  pub ballot : ℕ → Ballot
  pub moment : ℕ → Bool
  pub carries : ℕ → Option ℕ
  -- As things stood at the moment of a turn x: which bricks had done the PreOp and PostOp of a turn, whose moment had
  -- been, and who had a ballot.
  pub at_pre : ℕ → ℕ → ℕ → Bool
  pub at_post : ℕ → ℕ → ℕ → Bool
  pub begun : ℕ → ℕ → Bool
  pub had : ℕ → ℕ → Bool
  -- who commits no more, who never has K PreOps, and the turns that saw to it
  pub voided : ℕ → Bool
  pub voider : ℕ → ℕ
  pub dead : ℕ → Bool
  pub killer : ℕ → ℕ
  -- by brick: the turn by which a record that was made here left version 0, or first was marked
  pub risen_by : ℕ → ℕ
  -- How the run began: the flat version, the heads, and a turn y for each version y above the flat one at which a brick
  -- stood. `call` says of which call a turn is.
  pub origin : ℕ
  pub began : ℕ → Head
  pub old : ℕ → Bool
  pub call : ℕ → ℕ

-- a function that is changed at one place
abbrev pub put : {X : Type 0} → (ℕ → X) → ℕ → X → ℕ → X
put f i x j = cond (j == i) x (f j)

abbrev pub put2 : {X : Type 0} → (ℕ → ℕ → X) → ℕ → ℕ → X → ℕ → ℕ → X
put2 f a b x i j = cond ((i == a) && (j == b)) x (f i j)
