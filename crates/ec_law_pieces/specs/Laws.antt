-- What holds of files and directories after every run, from bricks that stand.
use Rattle.std.specs.Prelude.{◌≡◌, ℕ, ◌+◌, ◌<◌, ◌≤◌, Bool, true, false, not, cond, nat_lt, Some, None, List}
use Rattle.ec_attr.specs.Bricks.{count_below}
use Rattle.ec_history.specs.Flat.{opened_before}
use Rattle.ec_history.specs.Flat.Opener.{Nobody, One}
use Rattle.ec_law_base.specs.State.{State, Head, target}
use Rattle.ec_law_ballots.specs.Words.{head}
use Rattle.ec_law_ballots.specs.Begin.{begin, is_plain, Standing}
use Rattle.ec_law_ballots.specs.Guard.{IsCommitted}
use Rattle.ec_law_pieces.specs.File.{Form, Flat, File}
use Rattle.ec_law_pieces.specs.Deed.{Deed, MayDo, Runs, after, step, commits}
use Rattle.ec_law_pieces.specs.Deed.Deed.{Commit}

-- One value of a place: each unmarked record at the flat version has its code, and it has each known unit.
pub record IsOneValue {P V C U S : Type 0} (form : Form P V C U S) (flat : Flat P U S) (heads : ℕ → Head) (piece : ℕ → P → C) (p : P) (x : V) : Type 0 where
  pub codes : (b : ℕ) → is_plain flat.version (heads b) ≡ true → piece b p ≡ form.code x b
  pub units : (i : ℕ) (u : U) → flat.unit p i ≡ Some u → form.unit x i ≡ u

-- Bricks stand for a flat value: their heads stand for its version, unmarked records at that version have its shape, and at
-- each closed place one value. Past the shape a closed place has the value zero, and so has every place of a gfid of
-- which no record was made. No place is open to a call of the run.
pub record Stands {P V C U S : Type 0} (form : Form P V C U S) (n k : ℕ) (flat : Flat P U S) (heads : ℕ → Head) (fresh : Bool) (shape : ℕ → S) (piece : ℕ → P → C) : Type 0 where
  pub standing : Standing n k flat.version heads fresh
  pub shapes : (b : ℕ) → is_plain flat.version (heads b) ≡ true → shape b ≡ flat.shape
  pub value : P → V
  pub closed : (p : P) → flat.opener p ≡ Nobody → IsOneValue form flat heads piece p (value p)
  pub past : (p : P) → flat.opener p ≡ Nobody → form.past flat.shape p ≡ true → value p ≡ form.zero
  pub blank : fresh ≡ true → (p : P) → value p ≡ form.zero
  pub unopened : (p : P) (c : ℕ) → flat.opener p ≡ One c → ⊥

-- how a run begins
abbrev pub start : {P V C U S : Type 0} → Form P V C U S → ℕ → Flat P U S → (ℕ → Head) → Bool → (ℕ → ℕ) → (ℕ → S) → (ℕ → P → C) → (P → V) → File P V C U S
start form n flat heads fresh call shape piece value = record {
  heads = begin n flat.version heads fresh call;
  flat = flat;
  piece = piece;
  synced = λ b p. not (heads b).marked;
  shape = shape;
  stale = λ b. not (is_plain flat.version (heads b));
  took = λ a. flat.shape;
  planned = λ a. false;
  covers = λ a p. false;
  sets = λ a p i. None;
  value = λ a p. form.zero;
  becomes = λ a. flat.shape;
  writes = λ c. false;
  told = λ a b. flat.shape;
  wrote = λ a b p. false;
  got = λ a b p. None;
  content = value;
  shape_of = λ v. flat.shape;
}

-- a law of the state after every run, for any N and K of which two quorums share a brick
abbrev pub AfterEveryRun : {P V C U S : Type 0} → Form P V C U S → (ℕ → ℕ → File P V C U S → Type 0) → Type 0
AfterEveryRun {P} {V} {C} {U} {S} form law = (n k : ℕ) → n < k + k → k ≤ n → (flat : Flat P U S) (heads : ℕ → Head) (fresh : Bool) (call : ℕ → ℕ) (shape : ℕ → S) (piece : ℕ → P → C) (st : Stands form n k flat heads fresh shape piece)
    → (deeds : List (Deed P V C U S)) → Runs form n k deeds (start form n flat heads fresh call shape piece st.value) → law n k (after form n k deeds (start form n flat heads fresh call shape piece st.value))

-- at each closed place one value, of which each unmarked record at the flat version has the code
abbrev pub Closed : {P V C U S : Type 0} → Form P V C U S → ℕ → ℕ → File P V C U S → Type 0
Closed {P} {V} form n k f = (p : P) → f.flat.opener p ≡ Nobody → (x : V) × IsOneValue form f.flat (head f.heads) f.piece p x

-- K unmarked records that agree have the flat version, and the flat shape
abbrev pub Alike : {P V C U S : Type 0} → Form P V C U S → ℕ → ℕ → File P V C U S → Type 0
Alike form n k f = (v : ℕ) → k ≤ count_below n (λ b. is_plain v (head f.heads b)) → (v ≡ f.flat.version) × ((b : ℕ) → is_plain v (head f.heads b) ≡ true → f.shape b ≡ f.flat.shape)

-- A turn that commits stands on the flat version before it, and whoever committed before had begun at its moment: commits
-- are in the order of moments.
abbrev pub InOrder : {P V C U S : Type 0} → Form P V C U S → ℕ → ℕ → File P V C U S → Type 0
InOrder form n k f = (a b : ℕ) → MayDo form n k f (Commit a b) → commits n k f.heads a b ≡ true → ((f.heads.ballot a).base ≡ f.flat.version) × ((step form n k f (Commit a b)).flat.version ≡ target (f.heads.ballot a)) × ((e : ℕ) → IsCommitted n k f.heads e → f.heads.begun a e ≡ true)

-- the heads of the first n bricks
abbrev pub first_heads : ℕ → State → ℕ → Head
first_heads n s b = cond (nat_lt b n) (head s b) (record { present = false; version = 0; dirty = 0; marked = false })

-- As a further run begins, an open place counts as opened by calls that are none of that run's.
abbrev pub from_before : {P U S : Type 0} → Flat P U S → Flat P U S
from_before flat = record flat { opener = λ p. opened_before (flat.opener p) }

-- the bricks stand again, so that a further run may begin from what this one leaves
abbrev pub StandAgain : {P V C U S : Type 0} → Form P V C U S → ℕ → ℕ → File P V C U S → Type 0
StandAgain form n k f = Stands form n k (from_before f.flat) (first_heads n f.heads) false f.shape f.piece

pub record FileLaws {P V C U S : Type 0} (form : Form P V C U S) : Type 0 where
  pub closed : AfterEveryRun form (Closed form)
  pub alike : AfterEveryRun form (Alike form)
  pub in_order : AfterEveryRun form (InOrder form)
  pub stand : AfterEveryRun form (StandAgain form)
