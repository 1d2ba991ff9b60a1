-- What reports go by: the records of each brick.
use Rattle.std.specs.Prelude.{◌≡◌, ◌≢◌, ◌⊎◌, ◌↔◌, ℕ, Bool, true, Option, Some, None, List, [], ◌∷◌, ◌++◌, map, slice_get, slice_index_or}
use Rattle.ec_answers.specs.declared.answers.Given.{Given}
use Rattle.ec_answers.specs.declared.answers.Given.TheVariants.{Head as HeadGiven}
use Rattle.ec_attr.specs.Bricks.{bricks_below}
use Rattle.ec_attr.specs.GoodGroup.{IsGoodGroup}
use Rattle.ec_attr.specs.declared.gfid.Gfid.{Gfid}
use Rattle.ec_attr.specs.declared.head.Head.{Head}
use Rattle.ec_brick.specs.Gfids.{gfids_rise, is_listed}
use Rattle.ec_brick.specs.Opening.{IsNamed}
use Rattle.ec_store.specs.Records.{Records, head_at}
use Rattle.ec_report.specs.Lines.{check_line}

-- the heads of a gfid, and that of brick b
abbrev pub heads_at : List Records → ℕ → List (Option Head)
heads_at records g = map (λ m. head_at m g) records

abbrev pub head_of : List (Option Head) → ℕ → Option Head
head_of heads b = slice_index_or heads b None

-- what a brick answers with this head; one without a record answers nothing
abbrev pub given_of : Option Head → Option Given
given_of None = None
given_of (Some h) = Some (HeadGiven h)

abbrev pub HasRecord : Records → ℕ → Type 0
HasRecord m g = m g ≢ None

-- it holds of the records of a brick
abbrev pub OfAny : (Records → ℕ → Type 0) → List Records → ℕ → Type 0
OfAny P records g = (b : ℕ) × (m : Records) × (slice_get records b ≡ Some m) × P m g

-- a gfid other than the root's to which no name in a directory of any brick leads
abbrev pub IsOrphan : List Records → ℕ → Type 0
IsOrphan records g = (g ≢ 1) × ¬ (OfAny IsNamed records g)

-- the bricks of the good group, rising; none where there is no good group
abbrev pub AreGood : ℕ → (ℕ → Option Head) → List ℕ → Type 0
AreGood k heads group =
    ((set : ℕ → Bool) × IsGoodGroup k heads set × (group ≡ bricks_below 31 set))
    ⊎ (((set : ℕ → Bool) → ¬ (IsGoodGroup k heads set)) × (group ≡ []))

-- the line of a gfid
pub record IsLine (k : ℕ) (records : List Records) (g : ℕ) (line : List ℕ) : Type 0 where
  pub group : List ℕ
  pub orphan : Bool
  pub good : AreGood k (head_of (heads_at records g)) group
  pub named : (orphan ≡ true) ↔ IsOrphan records g
  pub text : line ≡ check_line g (heads_at records g) group orphan

-- a line for each of these gfids
abbrev pub AreLines : ℕ → List Records → List Gfid → List ℕ → Type 0
AreLines k records [] text = text ≡ []
AreLines k records (g ∷ gfids) text = (line : List ℕ) × (rest : List ℕ) × IsLine k records g.0 line × (text ≡ line ++ rest) × AreLines k records gfids rest

-- exactly these gfids, each once, rising
pub record IsListOf (P : ℕ → Type 0) (gfids : List Gfid) : Type 0 where
  pub rises : gfids_rise None gfids ≡ true
  pub all : (g : ℕ) → P g → is_listed gfids g ≡ true
  pub only : (g : ℕ) → is_listed gfids g ≡ true → P g

-- a line for each gfid of which a brick has a record
pub record IsCheck (k : ℕ) (records : List Records) (text : List ℕ) : Type 0 where
  pub gfids : List Gfid
  pub listed : IsListOf (OfAny HasRecord records) gfids
  pub lines : AreLines k records gfids text
