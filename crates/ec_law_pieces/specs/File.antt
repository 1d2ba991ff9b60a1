-- What the bricks hold of one file or directory, beside heads and grants, and the flat value that its commits make.
-- A place is a stripe of a file or a name of a directory; at each place a record has a piece, which is the code of a
-- value at that brick. A value has units: the bytes of a stripe, or the one child of a name. A shape is the size and
-- attribute that a head tells.
use Rattle.std.specs.Prelude.{ℕ, Bool, Option}
use Rattle.ec_history.specs.Flat.{Opener}
use Rattle.ec_law_base.specs.State.{State}

-- The code of a value at a brick; unit i of a value; whether a place lies past a shape; and the value that stands there.
pub record Form (P V C U S : Type 0) : Type 0 where
  pub code : V → ℕ → C
  pub unit : V → ℕ → U
  pub past : S → P → Bool
  pub zero : V

-- a unit is known, or free: then nothing is promised of it
pub record Flat (P U S : Type 0) : Type 0 where
  pub version : ℕ
  pub shape : S
  pub unit : P → ℕ → Option U
  pub opener : P → Opener

pub record File (P V C U S : Type 0) : Type 0 where
  pub heads : State
  pub flat : Flat P U S
  -- By brick: its pieces, and which of them a heal has copied since the mark, or there was no mark. The shape of its head.
  -- A head is stale as long as it is as it began, beside the flat version of the beginning.
  pub piece : ℕ → P → C
  pub synced : ℕ → P → Bool
  pub shape : ℕ → S
  pub stale : ℕ → Bool
  -- by turn: the shape of its group, and what its commit is made of, once it is planned
  pub took : ℕ → S
  pub planned : ℕ → Bool
  pub covers : ℕ → P → Bool
  pub sets : ℕ → P → ℕ → Option U
  pub value : ℕ → P → V
  pub becomes : ℕ → S
  -- by call: one of its turns is planned
  pub writes : ℕ → Bool
  -- By turn and brick: the shape that its Query told, the places that the brick has written for it whole, and the pieces
  -- that it was given.
  pub told : ℕ → ℕ → S
  pub wrote : ℕ → ℕ → P → Bool
  pub got : ℕ → ℕ → P → Option C
  -- one value by place of which the flat units are units, and the shape by version
  pub content : P → V
  pub shape_of : ℕ → S
