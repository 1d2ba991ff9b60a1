-- What bricks and turns do to pieces, what each deed needs, and what comes of it.
use Rattle.std.specs.Prelude.{◌≡◌, ◌⊎◌, ℕ, ◌<◌, Bool, true, false, not, cond, ◌==◌, ◌&&◌, ◌||◌, nat_lt, nat_le, Option, Some, None, List, [], ◌∷◌}
use Rattle.ec_attr.specs.Bricks.{count_below}
use Rattle.ec_history.specs.Flat.{opened_by, is_open_to_it_alone}
use Rattle.ec_history.specs.Flat.Opener.{Nobody}
use Rattle.ec_law_base.specs.State.{State, Ballot, target, put, put2}
use Rattle.ec_law_ballots.specs.Words.{did, group, met}
use Rattle.ec_law_ballots.specs.Act.{Act, step as act_step}
use Rattle.ec_law_ballots.specs.Act.Act.{See, Choose, Choose_kept, Post, Sink_post, Mark, Unmark, Make}
use Rattle.ec_law_ballots.specs.Guard.{May, Holds, IsCommitted}
use Rattle.ec_law_pieces.specs.File.{Form, Flat, File}

-- what a turn's commit is made of: the places that it covers, the units that it sets there, the values, and the shape
pub record Plan (P V U S : Type 0) : Type 0 where
  pub covers : P → Bool
  pub sets : P → ℕ → Option U
  pub value : P → V
  pub becomes : S

pub data Deed (P V C U S : Type 0) : Type 0 where
  -- an act on heads and grants that touches no piece and tells nothing of a shape
  Do : (act : Act) → Deed P V C U S
  -- Query, and the ballot over a group of a shape, or on kept grants
  Look : (turn brick : ℕ) → Deed P V C U S
  Take : (turn : ℕ) (ballot : Ballot) (shape : S) → Deed P V C U S
  Take_kept : (turn other : ℕ) (ballot : Ballot) → Deed P V C U S
  -- a turn reads pieces to carry units over or to copy them, and plans its commit as it sends its first data request
  Read : (turn brick : ℕ) (places : P → Bool) → Deed P V C U S
  Intend : (turn : ℕ) (plan : Plan P V U S) → Deed P V C U S
  -- a data request, whole; and one that is torn or fails in its work, after which these pieces may be anything
  Write : (turn brick : ℕ) (places : P → Bool) → Deed P V C U S
  Tear : (turn brick : ℕ) (places : P → Bool) (pieces : P → C) → Deed P V C U S
  -- a heal's copy in its window, and one that comes late, is torn or fails
  Copy : (turn brick : ℕ) (places : P → Bool) (pieces : P → C) → Deed P V C U S
  Spoil : (brick : ℕ) (places : P → Bool) (pieces : P → C) → Deed P V C U S
  -- PostOp on an unmarked record and on a marked one, Mark, Unmark, Make
  Commit : (turn brick : ℕ) → Deed P V C U S
  Follow : (turn brick : ℕ) → Deed P V C U S
  Begin : (turn brick : ℕ) → Deed P V C U S
  Finish : (turn brick : ℕ) → Deed P V C U S
  Create : (brick : ℕ) (shape : S) → Deed P V C U S

-- whether this PostOp is the one by which the turn commits
abbrev pub commits : ℕ → ℕ → State → ℕ → ℕ → Bool
commits n k s a b = nat_lt (count_below n (s.post a)) k && nat_le k (count_below n ((act_step s (Post a b)).post a))

-- a unit of a covered place: set, or carried over, which keeps it where no other call had the place open
abbrev pub carried_unit : {U : Type 0} → Option U → Bool → Option U → Option U
carried_unit (Some v) alone old = Some v
carried_unit None true old = old
carried_unit None false old = None

-- what the commit of turn a makes of the flat value, and of the one value by place
abbrev pub flat_after : {P V C U S : Type 0} → File P V C U S → ℕ → Flat P U S
flat_after f a = record {
  version = target (f.heads.ballot a);
  shape = f.becomes a;
  unit = λ p i. cond (f.covers a p) (carried_unit (f.sets a p i) (is_open_to_it_alone (f.heads.call a) (f.flat.opener p)) (f.flat.unit p i)) (f.flat.unit p i);
  opener = λ p. cond (f.covers a p) Nobody (f.flat.opener p);
}

abbrev pub content_after : {P V C U S : Type 0} → File P V C U S → ℕ → P → V
content_after f a p = cond (f.covers a p) (f.value a p) (f.content p)

-- a data request of turn a at brick b, where the brick is at the flat version
abbrev pub opened_at : {P V C U S : Type 0} → File P V C U S → ℕ → ℕ → (P → Bool) → Flat P U S
opened_at f a b places = record f.flat { opener = λ p. cond (places p && (f.heads.version b == f.flat.version)) (opened_by (f.heads.call a) (f.flat.opener p)) (f.flat.opener p) }

-- pieces, or what is said of them, at one brick and some places
abbrev pub put_places : {P X : Type 0} → (ℕ → P → X) → ℕ → (P → Bool) → (P → X) → ℕ → P → X
put_places f b places x c p = cond ((c == b) && places p) (x p) (f c p)

abbrev pub mark_places : {P X : Type 0} → (ℕ → ℕ → P → X) → ℕ → ℕ → (P → Bool) → (P → X) → ℕ → ℕ → P → X
mark_places f a b places x i c p = cond ((i == a) && (c == b) && places p) (x p) (f i c p)

-- after a PostOp that commits nothing, and after one that commits
abbrev pub posted_at : {P V C U S : Type 0} → File P V C U S → ℕ → ℕ → File P V C U S
posted_at f a b = record f {
  heads = act_step f.heads (Post a b);
  shape = put f.shape b (f.becomes a);
  stale = put f.stale b false;
  shape_of = put f.shape_of (target (f.heads.ballot a)) (f.becomes a);
}

abbrev pub committed_at : {P V C U S : Type 0} → File P V C U S → ℕ → ℕ → File P V C U S
committed_at f a b = record (posted_at f a b) { flat = flat_after f a; content = content_after f a }

module _ {P V C U S : Type 0} (form : Form P V C U S) (n k : ℕ) where
  abbrev pub step : File P V C U S → Deed P V C U S → File P V C U S
  step f (Do e) = record f { heads = act_step f.heads e }
  step f (Look a b) = record f { heads = act_step f.heads (See a b); told = put2 f.told a b (f.shape b) }
  step f (Take a p shape) = record f { heads = act_step f.heads (Choose a p); took = put f.took a shape }
  step f (Take_kept x a p) = record f { heads = act_step f.heads (Choose_kept x a p); took = put f.took x (f.becomes a) }
  step f (Read a b places) = record f { got = mark_places f.got a b places (λ p. Some (f.piece b p)) }
  step f (Intend a plan) = record f {
    planned = put f.planned a true;
    covers = λ x p. cond (x == a) (plan.covers p) (f.covers x p);
    sets = λ x p i. cond (x == a) (plan.sets p i) (f.sets x p i);
    value = λ x p. cond (x == a) (plan.value p) (f.value x p);
    becomes = put f.becomes a plan.becomes;
    writes = put f.writes (f.heads.call a) true;
  }
  step f (Write a b places) = record f {
    piece = put_places f.piece b places (λ p. form.code (f.value a p) b);
    wrote = mark_places f.wrote a b places (λ p. true);
    flat = opened_at f a b places;
  }
  step f (Tear a b places pieces) = record f {
    piece = put_places f.piece b places pieces;
    wrote = mark_places f.wrote a b places (λ p. false);
    flat = opened_at f a b places;
  }
  step f (Copy a b places pieces) = record f {
    piece = put_places f.piece b places pieces;
    synced = put_places f.synced b places (λ p. true);
  }
  step f (Spoil b places pieces) = record f {
    piece = put_places f.piece b places pieces;
    synced = put_places f.synced b places (λ p. false);
  }
  step f (Commit a b) = record (posted_at f a b) {
    flat = cond (commits n k f.heads a b) (flat_after f a) f.flat;
    content = cond (commits n k f.heads a b) (content_after f a) f.content;
  }
  step f (Follow a b) = record f {
    heads = act_step f.heads (Sink_post a b);
    shape = put f.shape b (f.becomes a);
    stale = put f.stale b false;
    shape_of = put f.shape_of (target (f.heads.ballot a)) (f.becomes a);
  }
  step f (Begin a b) = record f {
    heads = act_step f.heads (Mark a b);
    shape = put f.shape b (f.took a);
    stale = put f.stale b false;
    synced = λ c p. cond (c == b) false (f.synced c p);
  }
  step f (Finish a b) = record f { heads = act_step f.heads (Unmark a b) }
  step f (Create b shape) = record f {
    heads = act_step f.heads (Make b);
    shape = put f.shape b shape;
    stale = put f.stale b false;
    piece = λ c p. cond (c == b) (form.code form.zero b) (f.piece c p);
    synced = λ c p. cond (c == b) true (f.synced c p);
    flat = record f.flat { shape = cond f.heads.making f.flat.shape shape };
    shape_of = λ v. cond (f.heads.making || not (v == 0)) (f.shape_of v) shape;
  }

  -- the pieces of place p that turn a was given are codes of x
  abbrev pub AreCodes : File P V C U S → ℕ → P → V → Type 0
  AreCodes f a p x = (c : ℕ) (y : C) → f.got a c p ≡ Some y → y ≡ form.code x c

  -- Unit i of value v at place p is that of the value as it was: of what turn a was given, or of what the turn sent
  -- whose commit it stands on.
  abbrev pub IsOldUnit : File P V C U S → ℕ → P → ℕ → V → Type 0
  IsOldUnit f a p i v = ((x : V) → AreCodes f a p x → form.unit v i ≡ form.unit x i)
      ⊎ ((c : ℕ) × IsCommitted n k f.heads c × (target (f.heads.ballot c) ≡ (f.heads.ballot a).base) × (f.covers c p ≡ true) × (form.unit v i ≡ form.unit (f.value c p) i))

  -- the plan sets its units and keeps the others; past its shape a covered place has the value zero, and one that it does
  -- not cover lay past the shape before
  pub record IsPlan (f : File P V C U S) (a : ℕ) (plan : Plan P V U S) : Type 0 where
    pub sets : (p : P) (i : ℕ) (u : U) → plan.covers p ≡ true → plan.sets p i ≡ Some u → form.unit (plan.value p) i ≡ u
    pub keeps : (p : P) (i : ℕ) → plan.covers p ≡ true → plan.sets p i ≡ None → IsOldUnit f a p i (plan.value p)
    pub zero : (p : P) → plan.covers p ≡ true → form.past plan.becomes p ≡ true → plan.value p ≡ form.zero
    pub grows : (p : P) → plan.covers p ≡ false → form.past plan.becomes p ≡ true → form.past (f.took a) p ≡ true

  -- the code of what the turn was given, or of the value past the shape of its group
  abbrev pub IsCopy : File P V C U S → ℕ → ℕ → P → C → Type 0
  IsCopy f a b p y = ((x : V) → AreCodes f a p x → y ≡ form.code x b) ⊎ ((form.past (f.took a) p ≡ true) × (y ≡ form.code form.zero b))

  -- acts that stand as they are among the deeds
  abbrev pub is_plain : Act → Bool
  is_plain (See a b) = false
  is_plain (Choose a p) = false
  is_plain (Choose_kept x a p) = false
  is_plain (Post a b) = false
  is_plain (Sink_post a b) = false
  is_plain (Mark a b) = false
  is_plain (Unmark a b) = false
  is_plain (Make b) = false
  is_plain e = true

  abbrev pub HasBase : File P V C U S → ℕ → ℕ → Type 0
  HasBase f a b = (f.heads.present b ≡ true) × (f.heads.version b ≡ (f.heads.ballot a).base) × (0 < (f.heads.ballot a).number)

  abbrev pub MayDo : File P V C U S → Deed P V C U S → Type 0
  MayDo f (Do e) = May n k f.heads e × (is_plain e ≡ true)
  MayDo f (Look a b) = May n k f.heads (See a b)
  MayDo f (Take a p shape) = May n k f.heads (Choose a p) × ((b : ℕ) → group (act_step f.heads (Choose a p)) a b ≡ true → f.told a b ≡ shape)
  MayDo f (Take_kept x a p) = May n k f.heads (Choose_kept x a p)
  MayDo f (Read a b places) = HasBase f a b × (f.heads.marked b ≡ false)
  MayDo f (Intend a plan) = (0 < (f.heads.ballot a).number) × (f.heads.old a ≡ false) × (f.planned a ≡ false) × (f.writes (f.heads.call a) ≡ false) × IsPlan f a plan
  MayDo f (Write a b places) = Holds f.heads a b × HasBase f a b × (f.planned a ≡ true) × (met f.heads a b ≡ true) × (did f.heads a b ≡ false) × ((p : P) → places p ≡ true → f.covers a p ≡ true)
  MayDo f (Tear a b places pieces) = Holds f.heads a b × HasBase f a b × (f.planned a ≡ true) × (met f.heads a b ≡ true) × (did f.heads a b ≡ false) × ((p : P) → places p ≡ true → f.covers a p ≡ true)
  -- a window copies before the heal's touch
  MayDo f (Copy a b places pieces) = Holds f.heads a b × HasBase f a b × (f.planned a ≡ false) × ((p : P) → places p ≡ true → IsCopy f a b p (pieces p))
  MayDo f (Spoil b places pieces) = (f.heads.present b ≡ true) × (f.heads.marked b ≡ true)
  MayDo f (Commit a b) = May n k f.heads (Post a b) × (f.planned a ≡ true) × (met f.heads a b ≡ true) × ((p : P) → f.covers a p ≡ true → f.wrote a b p ≡ true)
  MayDo f (Follow a b) = May n k f.heads (Sink_post a b) × (f.planned a ≡ true) × (met f.heads a b ≡ true) × ((p : P) → f.covers a p ≡ true → f.wrote a b p ≡ true)
  MayDo f (Begin a b) = May n k f.heads (Mark a b) × (f.planned a ≡ false)
  -- every place was copied under this mark
  MayDo f (Finish a b) = May n k f.heads (Unmark a b) × ((p : P) → f.synced b p ≡ true) × (f.stale b ≡ false)
  -- the first Make gives the record its shape
  MayDo f (Create b shape) = May n k f.heads (Make b) × ((f.heads.making ≡ false) ⊎ (shape ≡ f.shape_of 0))

  abbrev pub after : List (Deed P V C U S) → File P V C U S → File P V C U S
  after [] f = f
  after (e ∷ es) f = after es (step f e)

  abbrev pub Runs : List (Deed P V C U S) → File P V C U S → Type 0
  Runs [] f = f ≡ f
  Runs (e ∷ es) f = MayDo f e × Runs es (step f e)
