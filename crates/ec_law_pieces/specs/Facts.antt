-- What the ballots say of the flat version, as the deeds need it.
use Rattle.std.specs.Prelude.{◌≡◌, ◌⊎◌, ℕ, ◌<◌, ◌≤◌, true, false, Some}
use Rattle.ec_history.specs.Flat.{opened_by, is_open_to_it_alone}
use Rattle.ec_history.specs.Flat.Opener.{Nobody, One}
use Rattle.ec_law_base.specs.State.{Head, target}
use Rattle.ec_law_ballots.specs.Words.{did, met}
use Rattle.ec_law_ballots.specs.Act.{step}
use Rattle.ec_law_ballots.specs.Act.Act.{Post}
use Rattle.ec_law_ballots.specs.Guard.{IsCommitted}
use Rattle.ec_law_pieces.specs.File.{File}

module _ {P V C U S : Type 0} (n k : ℕ) (f : File P V C U S) where
  -- a base is at most the flat version
  abbrev pub BaseLe : Type 0
  BaseLe = (a : ℕ) → 0 < (f.heads.ballot a).number → (f.heads.ballot a).base ≤ f.flat.version

  abbrev pub DidNumber : Type 0
  DidNumber = (a b : ℕ) → did f.heads a b ≡ true → 0 < (f.heads.ballot a).number

  abbrev pub CommitNumber : Type 0
  CommitNumber = (a : ℕ) → IsCommitted n k f.heads a → 0 < (f.heads.ballot a).number

  abbrev pub CommitPlanned : Type 0
  CommitPlanned = (a : ℕ) → IsCommitted n k f.heads a → f.planned a ≡ true

  abbrev pub MetGranted : Type 0
  MetGranted = (a b : ℕ) → met f.heads a b ≡ true → f.heads.granted a b ≡ true

  -- a turn of which a brick did the PostOp to the version of x is x
  abbrev pub SameDid : ℕ → Type 0
  SameDid x = (e b : ℕ) → did f.heads e b ≡ true → target (f.heads.ballot e) ≡ target (f.heads.ballot x) → e ≡ x

  -- of a place that a call opens
  abbrev pub OpenAfter : Type 0
  OpenAfter = (c : ℕ) (p : P) → opened_by c (f.flat.opener p) ≡ Nobody → ⊥

  abbrev pub AloneBefore : Type 0
  AloneBefore = (a c : ℕ) (p : P) → is_open_to_it_alone a (opened_by c (f.flat.opener p)) ≡ true → is_open_to_it_alone a (f.flat.opener p) ≡ true

  abbrev pub OneBefore : Type 0
  OneBefore = (a c : ℕ) (p : P) → opened_by c (f.flat.opener p) ≡ One a → (f.flat.opener p ≡ One a) ⊎ (a ≡ c)

  -- where the record of the gfid isn't made yet
  abbrev pub NoneMade : Type 0
  NoneMade = f.heads.making ≡ false → ((b : ℕ) → f.heads.present b ≡ false) × ((a b : ℕ) (h : Head) → f.heads.seen a b ≡ Some h → h.present ≡ false) × ((a : ℕ) → (f.heads.ballot a).number ≡ 0) × (f.flat.version ≡ 0)

  -- where a Make may still be executed no turn has come by
  abbrev pub UnbornMet : ℕ → Type 0
  UnbornMet d = (a : ℕ) → met f.heads a d ≡ false

  -- At the version of x there is nothing, or it has the shape of x.
  pub record OneShape (x : ℕ) : Type 0 where
    pub here : (b : ℕ) → f.heads.present b ≡ true → f.stale b ≡ false → f.heads.version b ≡ target (f.heads.ballot x) → f.shape_of (target (f.heads.ballot x)) ≡ f.becomes x
    pub told : (a b : ℕ) (h : Head) → f.heads.seen a b ≡ Some h → h.present ≡ true → h.marked ≡ false → h.version ≡ target (f.heads.ballot x) → f.shape_of (target (f.heads.ballot x)) ≡ f.becomes x
    pub took : (a : ℕ) → 0 < (f.heads.ballot a).number → (f.heads.ballot a).base ≡ target (f.heads.ballot x) → f.shape_of (target (f.heads.ballot x)) ≡ f.becomes x
    pub did : (a b : ℕ) → did f.heads a b ≡ true → f.heads.old a ≡ false → target (f.heads.ballot a) ≡ target (f.heads.ballot x) → f.shape_of (target (f.heads.ballot x)) ≡ f.becomes x
    pub flat : f.flat.version ≡ target (f.heads.ballot x) → f.shape_of (target (f.heads.ballot x)) ≡ f.becomes x

  -- the turns that are committed after a PostOp of x at d are those that were
  abbrev pub Back : ℕ → ℕ → Type 0
  Back x d = (a : ℕ) → IsCommitted n k (step f.heads (Post x d)) a → IsCommitted n k f.heads a
