-- What holds of pieces after each deed, clause by clause.
use Rattle.std.specs.Prelude.{◌≡◌, ◌⊎◌, ℕ, ◌<◌, ◌≤◌, true, false, Some, None}
use Rattle.ec_history.specs.Flat.{is_open_to_it_alone}
use Rattle.ec_history.specs.Flat.Opener.{Nobody, One}
use Rattle.ec_law_base.specs.State.{Head, target}
use Rattle.ec_law_ballots.specs.Words.{did, met}
use Rattle.ec_law_ballots.specs.Guard.{IsCommitted}
use Rattle.ec_law_pieces.specs.File.{Form, File}

module _ {P V C U S : Type 0} (form : Form P V C U S) (n k : ℕ) where
  -- THE FLAT VERSION IS THAT OF THE LAST COMMIT

  abbrev pub Top : File P V C U S → Type 0
  Top f = (a : ℕ) → IsCommitted n k f.heads a → target (f.heads.ballot a) ≤ f.flat.version

  abbrev pub Last : File P V C U S → Type 0
  Last f = (f.flat.version ≡ f.heads.origin) ⊎ ((a : ℕ) × IsCommitted n k f.heads a × (f.flat.version ≡ target (f.heads.ballot a)))

  -- AT THE FLAT VERSION A CLOSED PLACE HAS THE CODE OF THE ONE VALUE

  abbrev pub Here : File P V C U S → Type 0
  Here f = (b : ℕ) (p : P) → f.heads.present b ≡ true → f.heads.version b ≡ f.flat.version → f.flat.opener p ≡ Nobody → f.synced b p ≡ true → f.piece b p ≡ form.code (f.content p) b

  abbrev pub SyncedAll : File P V C U S → Type 0
  SyncedAll f = (b : ℕ) (p : P) → f.heads.present b ≡ true → f.heads.marked b ≡ false → f.synced b p ≡ true

  -- at the version of a turn on the flat version: what it leaves is the flat value, what it covers is its own
  abbrev pub Ahead : File P V C U S → Type 0
  Ahead f = (a b : ℕ) (p : P) → did f.heads a b ≡ true → f.heads.old a ≡ false → f.heads.present b ≡ true → (f.heads.ballot a).base ≡ f.flat.version → f.heads.version b ≡ target (f.heads.ballot a) → f.flat.opener p ≡ Nobody → f.covers a p ≡ false → f.synced b p ≡ true → f.piece b p ≡ form.code (f.content p) b

  abbrev pub AheadNew : File P V C U S → Type 0
  AheadNew f = (a b : ℕ) (p : P) → did f.heads a b ≡ true → f.heads.old a ≡ false → f.heads.present b ≡ true → (f.heads.ballot a).base ≡ f.flat.version → f.heads.version b ≡ target (f.heads.ballot a) → f.covers a p ≡ true → f.synced b p ≡ true → f.piece b p ≡ form.code (f.value a p) b

  -- where the PostOp of the last commit may still come: what it leaves is the flat value
  abbrev pub Behind : File P V C U S → Type 0
  Behind f = (a b : ℕ) (p : P) → f.heads.holder b ≡ Some a → f.heads.present b ≡ true → f.heads.version b ≡ (f.heads.ballot a).base → met f.heads a b ≡ true → IsCommitted n k f.heads a → target (f.heads.ballot a) ≡ f.flat.version → f.flat.opener p ≡ Nobody → f.covers a p ≡ false → f.synced b p ≡ true → f.piece b p ≡ form.code (f.content p) b

  -- what the holder has written is its own, until its PostOp
  abbrev pub Written : File P V C U S → Type 0
  Written f = (a b : ℕ) (p : P) → f.heads.holder b ≡ Some a → f.heads.present b ≡ true → f.heads.version b ≡ (f.heads.ballot a).base → f.wrote a b p ≡ true → f.synced b p ≡ true → f.piece b p ≡ form.code (f.value a p) b

  -- what the last commit covers and nobody has opened since is its own
  abbrev pub Latest : File P V C U S → Type 0
  Latest f = (a : ℕ) (p : P) → IsCommitted n k f.heads a → target (f.heads.ballot a) ≡ f.flat.version → f.covers a p ≡ true → f.flat.opener p ≡ Nobody → f.content p ≡ f.value a p

  -- THE ORDER OF ONE TURN'S REQUESTS

  abbrev pub WrotePlanned : File P V C U S → Type 0
  WrotePlanned f = (a b : ℕ) (p : P) → f.wrote a b p ≡ true → (f.planned a ≡ true) × (met f.heads a b ≡ true)

  abbrev pub PlannedNumber : File P V C U S → Type 0
  PlannedNumber f = (a : ℕ) → f.planned a ≡ true → (0 < (f.heads.ballot a).number) × (f.heads.old a ≡ false) × (f.writes (f.heads.call a) ≡ true)

  abbrev pub CoversPlanned : File P V C U S → Type 0
  CoversPlanned f = (a : ℕ) (p : P) → f.covers a p ≡ true → f.planned a ≡ true

  abbrev pub DidPlanned : File P V C U S → Type 0
  DidPlanned f = (a b : ℕ) → did f.heads a b ≡ true → f.heads.old a ≡ false → f.planned a ≡ true

  -- one turn of a call writes, and only such a call has a place open alone
  abbrev pub OneWriter : File P V C U S → Type 0
  OneWriter f = (a x : ℕ) → f.planned a ≡ true → f.planned x ≡ true → f.heads.call a ≡ f.heads.call x → a ≡ x

  abbrev pub OpenerWrites : File P V C U S → Type 0
  OpenerWrites f = (p : P) (c : ℕ) → f.flat.opener p ≡ One c → f.writes c ≡ true

  -- THE KNOWN UNITS

  abbrev pub Units : File P V C U S → Type 0
  Units f = (p : P) (i : ℕ) (u : U) → f.flat.opener p ≡ Nobody → f.flat.unit p i ≡ Some u → form.unit (f.content p) i ≡ u

  abbrev pub Sets : File P V C U S → Type 0
  Sets f = (a : ℕ) (p : P) (i : ℕ) (u : U) → f.covers a p ≡ true → f.sets a p i ≡ Some u → form.unit (f.value a p) i ≡ u

  -- what a turn on the flat version carries over, where nobody else has the place open
  abbrev pub Keeps : File P V C U S → Type 0
  Keeps f = (a : ℕ) (p : P) (i : ℕ) (u : U) → f.covers a p ≡ true → (f.heads.ballot a).base ≡ f.flat.version → is_open_to_it_alone (f.heads.call a) (f.flat.opener p) ≡ true → f.sets a p i ≡ None → f.flat.unit p i ≡ Some u → form.unit (f.value a p) i ≡ u

  -- what a turn on the flat version was given of a closed place
  abbrev pub GotIs : File P V C U S → Type 0
  GotIs f = (a b : ℕ) (p : P) (y : C) → f.got a b p ≡ Some y → (f.heads.ballot a).base ≡ f.flat.version → f.flat.opener p ≡ Nobody → y ≡ form.code (f.content p) b

  abbrev pub GotNumber : File P V C U S → Type 0
  GotNumber f = (a b : ℕ) (p : P) (y : C) → f.got a b p ≡ Some y → 0 < (f.heads.ballot a).number

  -- A VERSION HAS ONE SHAPE

  abbrev pub ShapeHere : File P V C U S → Type 0
  ShapeHere f = (b : ℕ) → f.heads.present b ≡ true → f.stale b ≡ false → f.shape b ≡ f.shape_of (f.heads.version b)

  abbrev pub StaleIs : File P V C U S → Type 0
  StaleIs f = (b : ℕ) → f.heads.present b ≡ true → f.stale b ≡ true → f.heads.marked b ≡ false → (f.heads.old (f.heads.version b) ≡ true) ⊎ (f.heads.version b < f.heads.origin)

  abbrev pub ToldIs : File P V C U S → Type 0
  ToldIs f = (a b : ℕ) (h : Head) → f.heads.seen a b ≡ Some h → h.present ≡ true → h.marked ≡ false → (f.told a b ≡ f.shape_of h.version) ⊎ ((f.heads.old h.version ≡ true) ⊎ (h.version < f.heads.origin))

  abbrev pub TookIs : File P V C U S → Type 0
  TookIs f = (a : ℕ) → 0 < (f.heads.ballot a).number → f.heads.old a ≡ false → f.took a ≡ f.shape_of (f.heads.ballot a).base

  abbrev pub BecomesIs : File P V C U S → Type 0
  BecomesIs f = (a b : ℕ) → did f.heads a b ≡ true → f.heads.old a ≡ false → f.becomes a ≡ f.shape_of (target (f.heads.ballot a))

  abbrev pub FlatShape : File P V C U S → Type 0
  FlatShape f = f.flat.shape ≡ f.shape_of f.flat.version

  -- PAST THE SHAPE STANDS THE VALUE ZERO

  abbrev pub ZeroPast : File P V C U S → Type 0
  ZeroPast f = (p : P) → f.flat.opener p ≡ Nobody → form.past f.flat.shape p ≡ true → f.content p ≡ form.zero

  abbrev pub PlanZero : File P V C U S → Type 0
  PlanZero f = (a : ℕ) (p : P) → f.planned a ≡ true → f.covers a p ≡ true → form.past (f.becomes a) p ≡ true → f.value a p ≡ form.zero

  abbrev pub PlanGrows : File P V C U S → Type 0
  PlanGrows f = (a : ℕ) (p : P) → f.planned a ≡ true → f.covers a p ≡ false → form.past (f.becomes a) p ≡ true → form.past (f.took a) p ≡ true

  -- before the first commit of a record that was made in this run all is zero
  abbrev pub NotMadeZero : File P V C U S → Type 0
  NotMadeZero f = (p : P) → f.heads.making ≡ false → f.content p ≡ form.zero

  abbrev pub MakerZero : File P V C U S → Type 0
  MakerZero f = (b : ℕ) (p : P) → f.heads.maker b ≡ true → f.flat.version ≡ 0 → f.content p ≡ form.zero

  pub record Good (f : File P V C U S) : Type 0 where
    pub top : Top f
    pub last : Last f
    pub here : Here f
    pub synced_all : SyncedAll f
    pub ahead : Ahead f
    pub ahead_new : AheadNew f
    pub behind : Behind f
    pub written : Written f
    pub latest : Latest f
    pub wrote_planned : WrotePlanned f
    pub planned_number : PlannedNumber f
    pub covers_planned : CoversPlanned f
    pub did_planned : DidPlanned f
    pub one_writer : OneWriter f
    pub opener_writes : OpenerWrites f
    pub units : Units f
    pub sets : Sets f
    pub keeps : Keeps f
    pub got_is : GotIs f
    pub got_number : GotNumber f
    pub shape_here : ShapeHere f
    pub stale_is : StaleIs f
    pub told_is : ToldIs f
    pub took_is : TookIs f
    pub becomes_is : BecomesIs f
    pub flat_shape : FlatShape f
    pub zero_past : ZeroPast f
    pub plan_zero : PlanZero f
    pub plan_grows : PlanGrows f
    pub not_made_zero : NotMadeZero f
    pub maker_zero : MakerZero f
