-- What the deeds of a log need of data, beside what their acts need of heads and grants.
use Rattle.std.specs.Prelude.{◌≡◌, ◌⊎◌, ℕ, Bool, true, false, List, [], ◌∷◌}
use Rattle.ec_law_ballots.specs.Act.{step as act_step}
use Rattle.ec_law_ballots.specs.Act.Act.{Choose}
use Rattle.ec_law_ballots.specs.Words.{did, group}
use Rattle.ec_law_pieces.specs.Deed.{Deed, IsPlan, MayDo, step}
use Rattle.ec_law_pieces.specs.Deed.Deed.{Take, Intend, Write, Tear, Copy, Spoil, Commit, Follow, Create}
use Rattle.ec_law_pieces.specs.File.{File, Form}

module _ {P V C U S : Type 0} (form : Form P V C U S) (n k : ℕ) where
  -- A data request comes before the PostOp, to places that its turn covers. Where the turn did its PreOp on an unmarked record
  -- that is all; at a sink all the rest is owed too.
  pub record OwesWrite (f : File P V C U S) (a b : ℕ) (places : P → Bool) (d : Deed P V C U S) : Type 0 where
    pub before : did f.heads a b ≡ false
    pub covered : (p : P) → places p ≡ true → f.covers a p ≡ true
    pub sink : f.heads.pre a b ≡ false → MayDo form n k f d

  -- A group told one shape, a plan is one, a brick wrote all of it before a PostOp, a record is made with the first shape; and
  -- of heals' copies all that they need.
  abbrev pub Owes : File P V C U S → Deed P V C U S → Type 0
  Owes f (Take a p shape) = (b : ℕ) → group (act_step f.heads (Choose a p)) a b ≡ true → f.told a b ≡ shape
  Owes f (Intend a plan) = IsPlan form n k f a plan
  Owes f (Write a b places) = OwesWrite f a b places (Write a b places)
  Owes f (Tear a b places pieces) = OwesWrite f a b places (Tear a b places pieces)
  Owes f (Copy a b places pieces) = MayDo form n k f (Copy a b places pieces)
  Owes f (Spoil b places pieces) = MayDo form n k f (Spoil b places pieces)
  Owes f (Commit a b) = (p : P) → f.covers a p ≡ true → f.wrote a b p ≡ true
  Owes f (Follow a b) = (p : P) → f.covers a p ≡ true → f.wrote a b p ≡ true
  Owes f (Create b shape) = (f.heads.making ≡ false) ⊎ (shape ≡ f.shape_of 0)
  Owes f d = Unit {0}

  abbrev pub AllOwe : List (Deed P V C U S) → File P V C U S → Type 0
  AllOwe [] f = Unit {0}
  AllOwe (d ∷ ds) f = Owes f d × AllOwe ds (step form n k f d)
