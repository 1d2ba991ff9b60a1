-- What an opening and a commit make of stripes: what is closed and known in the flat file is so in the machine.
use Rattle.std.proofs.Common.{◌≡◌, ◌⊎◌, ℕ, ◌+◌, ◌*◌, ◌/◌, ◌<◌, Bool, true, false, cond, ◌==◌, ◌&&◌, Option, Some, None, List, min, refl, sym, ◌∙◌, ap, subst, inl, inr}
use Rattle.std.specs.Prelude.{nat_le}
use Rattle.std.proofs.Math.Nat.{mul_comm}
use Rattle.std.proofs.lemmas.Nat.{div-mul-add}
use Rattle.ec_conduct.specs.Done.{or_else}
use Rattle.ec_history.specs.Changes.{Found, change, in_range, zeros_from}
use Rattle.ec_history.specs.Flat.{Flat as FlatFile, Opener, blank, carried, committed, is_open_to_it_alone, opened_by, stripe_of}
use Rattle.ec_history.specs.Flat.Opener.{Nobody, One, Several}
use Rattle.ec_stripe.specs.Span.{stripe_bytes}
use Rattle.ec_wire.specs.declared.message.Body.TheVariants.{ToBrick}
use Rattle.ec_wire.specs.declared.message.Message.{Message}
use Rattle.ec_wire.specs.declared.op.Op.{Op}
use Rattle.ec_wire.specs.declared.op.Op.TheVariants.{Write, Truncate, Read, Stat, Create, Mkdir, Unlink, Lookup, Readdir, Heal, SetAttr, GetAttr, Rename, Rmdir, Scrub, Sweep}
use Rattle.ec_wire.specs.declared.request.Request.{Request}
use Rattle.ec_law_base.specs.State.{target}
use Rattle.ec_law_pieces.specs.Deed.{carried_unit}
use Rattle.ec_law_pieces.specs.File.{File, Flat}
use Rattle.ec_law_turns.proofs.Basics.{equal, itself}
use Rattle.ec_law_data.specs.Deeds.{is_post_on}
use Rattle.ec_law_data.specs.Forms.{Piece, Shape, is_data}
use Rattle.ec_law_flats.specs.Plans.{is_unbuilt}
use Rattle.ec_law_flats.specs.Stripes.{FitsStripes}
use Rattle.ec_law_flats.proofs.MachineSteps.{Commits, FlatKept, Opens}
use Rattle.ec_law_flats.proofs.StripeTelling.{OpensStripes, SameStripes}

abbrev pub StripedFile : Type 0
StripedFile = File ℕ (List (List ℕ)) Piece ℕ Shape

-- ## Changes

module _ (k g : ℕ) where
  -- the stripes that a call covers follow from what it asked for
  same_covers : (op : Op) (found found' : Found) (x : FlatFile) → is_unbuilt op ≡ false → (change k op found' g x).covers ≡ (change k op found g x).covers
  same_covers (Write gfid off bytes) found found' x e = refl
  same_covers (Truncate gfid size) found found' x e = refl
  same_covers (Read gfid off len via) found found' x e = refl
  same_covers (Stat gfid) found found' x e = refl
  same_covers (Create parent name) found found' x e = refl
  same_covers (Mkdir parent name) found found' x e = refl
  same_covers (Unlink parent name) found found' x e = refl
  same_covers (Lookup parent name) found found' x e = refl
  same_covers (Readdir gfid) found found' x e = refl
  same_covers (Heal gfid) found found' x e = refl
  same_covers (SetAttr gfid attr) found found' x e = refl
  same_covers (GetAttr gfid) found found' x e = refl
  same_covers (Rename from_dir from_name to_dir to_name) found found' x e = refl
  same_covers (Rmdir parent name) found found' x e = refl
  same_covers (Scrub gfid settle) found found' x e = absurd (cc)
  same_covers (Sweep full) found found' x e = refl

  same_sets : (op : Op) (found found' : Found) (x : FlatFile) → (change k op found' g x).sets ≡ (change k op found g x).sets
  same_sets (Write gfid off bytes) found found' x = refl
  same_sets (Truncate gfid size) found found' x = refl
  same_sets (Read gfid off len via) found found' x = refl
  same_sets (Stat gfid) found found' x = refl
  same_sets (Create parent name) found found' x = refl
  same_sets (Mkdir parent name) found found' x = refl
  same_sets (Unlink parent name) found found' x = refl
  same_sets (Lookup parent name) found found' x = refl
  same_sets (Readdir gfid) found found' x = refl
  same_sets (Heal gfid) found found' x = refl
  same_sets (SetAttr gfid attr) found found' x = refl
  same_sets (GetAttr gfid) found found' x = refl
  same_sets (Rename from_dir from_name to_dir to_name) found found' x = refl
  same_sets (Rmdir parent name) found found' x = refl
  same_sets (Scrub gfid settle) found found' x = refl
  same_sets (Sweep full) found found' x = refl

  -- and from the flat file's size
  sized_covers : (op : Op) (found : Found) (x y : FlatFile) → x.size ≡ y.size → (change k op found g x).covers ≡ (change k op found g y).covers
  sized_covers (Write gfid off bytes) found x y e = refl
  sized_covers (Truncate gfid size) found x y e = ap {B = ℕ → Bool} (λ (z : ℕ). λ s. nat_le (stripe_of k (min size z)) s) e
  sized_covers (Read gfid off len via) found x y e = refl
  sized_covers (Stat gfid) found x y e = refl
  sized_covers (Create parent name) found x y e = refl
  sized_covers (Mkdir parent name) found x y e = refl
  sized_covers (Unlink parent name) found x y e = refl
  sized_covers (Lookup parent name) found x y e = refl
  sized_covers (Readdir gfid) found x y e = refl
  sized_covers (Heal gfid) found x y e = refl
  sized_covers (SetAttr gfid attr) found x y e = refl
  sized_covers (GetAttr gfid) found x y e = refl
  sized_covers (Rename from_dir from_name to_dir to_name) found x y e = refl
  sized_covers (Rmdir parent name) found x y e = refl
  sized_covers (Scrub gfid settle) found x y e = refl
  sized_covers (Sweep full) found x y e = refl

  sized_sets : (op : Op) (found : Found) (x y : FlatFile) → x.size ≡ y.size → (change k op found g x).sets ≡ (change k op found g y).sets
  sized_sets (Write gfid off bytes) found x y e = ap {B = ℕ → Option ℕ} (λ (z : ℕ). λ p. or_else (in_range off bytes p) (zeros_from z p)) e
  sized_sets (Truncate gfid size) found x y e = ap {B = ℕ → Option ℕ} (λ (z : ℕ). zeros_from (min size z)) e
  sized_sets (Read gfid off len via) found x y e = refl
  sized_sets (Stat gfid) found x y e = refl
  sized_sets (Create parent name) found x y e = refl
  sized_sets (Mkdir parent name) found x y e = refl
  sized_sets (Unlink parent name) found x y e = refl
  sized_sets (Lookup parent name) found x y e = refl
  sized_sets (Readdir gfid) found x y e = refl
  sized_sets (Heal gfid) found x y e = refl
  sized_sets (SetAttr gfid attr) found x y e = refl
  sized_sets (GetAttr gfid) found x y e = refl
  sized_sets (Rename from_dir from_name to_dir to_name) found x y e = refl
  sized_sets (Rmdir parent name) found x y e = refl
  sized_sets (Scrub gfid settle) found x y e = ap {B = ℕ → Option ℕ} (λ (z : ℕ). zeros_from z) e
  sized_sets (Sweep full) found x y e = refl

  pub stripes_stable : (size : ℕ) (op : Op) (found found' : Found) (covers : ℕ → Bool) (sets : ℕ → ℕ → Option ℕ) → is_unbuilt op ≡ false → FitsStripes k g size op found covers sets → FitsStripes k g size op found' covers sets
  stripes_stable size op found found' covers sets built x = record {
    covers = λ s. x.covers s ∙ sym (ap (λ (z : ℕ → Bool). z s) (same_covers op found found' (record blank { size = size }) built));
    sets = λ s i c lt. x.sets s i c lt ∙ sym (ap (λ (z : ℕ → Option ℕ). z (stripe_bytes k * s + i)) (same_sets op found found' (record blank { size = size })));
  }

-- ## Openers

-- whether a call's message that changes data or commits has this turn
pub record HasTurn (g : ℕ) (said : ℕ → Option Message) (of : ℕ → ℕ) (call turn : ℕ) : Type 0 where
  pub number : ℕ
  pub message : Message
  pub request : Request
  pub is : said number ≡ Some message
  pub body : message.body ≡ ToBrick request
  pub changes : (is_data g request ≡ true) ⊎ (is_post_on g request ≡ true)
  pub caller : message.call ≡ call
  pub turn_is : of number ≡ turn

-- What the machine says of who has a stripe open, where the story says so: a call's turn for the call.
abbrev pub Below : ℕ → (ℕ → Option Message) → (ℕ → ℕ) → Opener → Opener → Type 0
Below g said of y Nobody = y ≡ Nobody
Below g said of y (One c) = (y ≡ Nobody) ⊎ ((a : ℕ) × (y ≡ One a) × HasTurn g said of c a)
Below g said of y Several = Unit {0}

abbrev pub is_several : Opener → Bool
is_several Nobody = false
is_several (One c) = false
is_several Several = true

-- the machine's flat value and the flat file
pub record StripesBelow (k g : ℕ) (said : ℕ → Option Message) (of : ℕ → ℕ) (flat : Flat ℕ ℕ Shape) (x : FlatFile) : Type 0 where
  pub version : flat.version ≡ x.version
  pub below : (s : ℕ) → Below g said of (flat.opener s) (x.opener s)
  pub bytes : (s i v : ℕ) → is_several (x.opener s) ≡ false → i < stripe_bytes k → x.byte (stripe_bytes k * s + i) ≡ Some v → flat.unit s i ≡ Some v

-- the turns of one call are one
abbrev pub OneTurn : ℕ → (ℕ → Option Message) → (ℕ → ℕ) → ℕ → ℕ → Type 0
OneTurn g said of call turn = (x : ℕ) → HasTurn g said of call x → x ≡ turn

module _ (k g : ℕ) (said : ℕ → Option Message) (of : ℕ → ℕ) where
  -- a call opens a stripe; the machine opens it only where the story does
  below_opened : (a c : ℕ) (y o : Opener) (there met : Bool) → (met ≡ true → HasTurn g said of c a × OneTurn g said of c a) → (there ≡ true → met ≡ true) → Below g said of y o → Below g said of (cond there (opened_by a y) y) (cond met (opened_by c o) o)
  below_opened a c y o true false has h b = absurd (let z = h refl in cc)
  below_opened a c y o false false has h b = b
  below_opened a c y Nobody true true has h b = inr (a, ap (opened_by a) b, (has refl).0)
  below_opened a c y Nobody false true has h b = inl b
  below_opened a c y Several there true has h b = tt
  below_opened a c y (One d) there true has h b = by (d == c) refl b
    where
      mine : (t : Bool) → (x : ℕ) → x ≡ a → cond t (cond (x == a) (One x) Several) (One x) ≡ One a
      mine true x e = ap (λ (z : ℕ). cond (z == a) (One z) Several) e ∙ ap (λ (t : Bool). cond t (One a) Several) (itself a)
      mine false x e = ap One e

      by : (t : Bool) → (d == c) ≡ t → (y ≡ Nobody) ⊎ ((x : ℕ) × (y ≡ One x) × HasTurn g said of d x) → Below g said of (cond there (opened_by a y) y) (cond t (One d) Several)
      by false e b = tt
      by true e (inl b) = opens there
        where
          opens : (t : Bool) → (cond t (opened_by a y) y ≡ Nobody) ⊎ ((x : ℕ) × (cond t (opened_by a y) y ≡ One x) × HasTurn g said of d x)
          opens true = inr (a, ap (opened_by a) b, subst (λ (z : ℕ). HasTurn g said of z a) (sym (equal d c e)) (has refl).0)
          opens false = inl b
      by true e (inr b) = inr (a, ap (λ (z : Opener). cond there (opened_by a z) z) b.1 ∙ mine there b.0 ((has refl).1 b.0 (subst (λ (z : ℕ). HasTurn g said of z b.0) (equal d c e) b.2)), subst (λ (z : ℕ). HasTurn g said of z a) (sym (equal d c e)) (has refl).0)

  still_few : (c : ℕ) (o : Opener) (met : Bool) → is_several (cond met (opened_by c o) o) ≡ false → is_several o ≡ false
  still_few c o false e = e
  still_few c Nobody true e = refl
  still_few c (One d) true e = refl
  still_few c Several true e = absurd (cc)

  pub opens_below : (f h : StripedFile) (x y : FlatFile) (a b c : ℕ) (places test : ℕ → Bool) (w : Bool) → f.heads.call a ≡ a → (on : Bool) → (on ≡ true → HasTurn g said of c a × OneTurn g said of c a) → Opens f h a b places w → OpensStripes x y c on test → ((s : ℕ) → test s ≡ (w && (places s && (f.heads.version b == f.flat.version)))) → StripesBelow k g said of f.flat x → StripesBelow k g said of h.flat y
  opens_below f h x y a b c places test w own on has s d same j = record {
    version = s.version ∙ (j.version ∙ sym d.version);
    below = λ p.
        let o = d.each p in
        subst (λ (z : Opener). Below g said of z (y.opener p)) (sym (s.opener p ∙ ap (λ (z : ℕ). cond (w && (places p && (f.heads.version b == f.flat.version))) (opened_by z (f.flat.opener p)) (f.flat.opener p)) own))
        (subst (λ (z : Opener). Below g said of (cond (w && (places p && (f.heads.version b == f.flat.version))) (opened_by a (f.flat.opener p)) (f.flat.opener p)) z) (sym o.opener)
        (below_opened a c (f.flat.opener p) (x.opener p) (w && (places p && (f.heads.version b == f.flat.version))) o.opens (λ e. has (o.here e)) (λ e. o.where_met (same p ∙ e)) (j.below p)));
    bytes = λ p i v few lt known. ap (λ (u : ℕ → ℕ → Option ℕ). u p i) s.unit ∙ j.bytes p i v (still_few c (x.opener p) (d.each p).opens (sym (ap is_several (d.each p).opener) ∙ few)) lt (sym (ap (λ (z : ℕ → Option ℕ). z (stripe_bytes k * p + i)) d.byte) ∙ known);
  }

  pub still_below : (f h : StripedFile) (x y : FlatFile) → FlatKept f h → SameStripes x y → StripesBelow k g said of f.flat x → StripesBelow k g said of h.flat y
  still_below f h x y s d j = record {
    version = s.version ∙ (j.version ∙ sym d.version);
    below = λ p. subst (λ (z : Opener). Below g said of z (y.opener p)) (sym (ap (λ (o : ℕ → Opener). o p) s.opener)) (subst (λ (z : Opener). Below g said of (f.flat.opener p) z) (sym (ap (λ (o : ℕ → Opener). o p) d.opener)) (j.below p));
    bytes = λ p i v few lt known. ap (λ (u : ℕ → ℕ → Option ℕ). u p i) s.unit ∙ j.bytes p i v (sym (ap (λ (o : ℕ → Opener). is_several (o p)) d.opener) ∙ few) lt (sym (ap (λ (z : ℕ → Option ℕ). z (stripe_bytes k * p + i)) d.byte) ∙ known);
  }

  -- ## Commits

  -- who has a stripe open alone for the story has it for the machine
  alone : (a c : ℕ) → OneTurn g said of c a → (y o : Opener) → Below g said of y o → is_open_to_it_alone c o ≡ true → (is_open_to_it_alone a y ≡ true) × (is_several o ≡ false)
  alone a c one y Nobody b e = (ap (is_open_to_it_alone a) b, refl)
  alone a c one y Several b e = absurd (cc)
  alone a c one y (One d) b e = (by b, refl)
    where
      by : (y ≡ Nobody) ⊎ ((x : ℕ) × (y ≡ One x) × HasTurn g said of d x) → is_open_to_it_alone a y ≡ true
      by (inl b) = ap (is_open_to_it_alone a) b
      by (inr b) = ap (is_open_to_it_alone a) b.1 ∙ subst (λ (z : ℕ). (z == a) ≡ true) (sym (one b.0 (subst (λ (z : ℕ). HasTurn g said of z b.0) (equal d c e) b.2))) (itself a)

  place : (s i : ℕ) → i < stripe_bytes k → stripe_of k (stripe_bytes k * s + i) ≡ s
  place s i lt = ap (λ (z : ℕ). (z + i) / stripe_bytes k) (mul_comm (stripe_bytes k) s) ∙ div-mul-add s (stripe_bytes k) i lt

  pub commit_below : (f h : StripedFile) (x : FlatFile) (a c size version : ℕ) (op : Op) (found : Found) → f.heads.call a ≡ a → OneTurn g said of c a → Commits f h a → FitsStripes k g size op found (f.covers a) (f.sets a) → size ≡ x.size → target (f.heads.ballot a) ≡ version → StripesBelow k g said of f.flat x → StripesBelow k g said of h.flat (committed k c version (change k op found g x) x)
  commit_below f h x a c size version op found own one s p sized e j = record {
    version = s.version ∙ e;
    below = λ q. subst (λ (z : Opener). Below g said of z (cond ((change k op found g x).covers q) Nobody (x.opener q))) (sym (s.opener q ∙ ap (λ (z : Bool). cond z Nobody (f.flat.opener q)) (covers_are q))) (closes q ((change k op found g x).covers q));
    bytes = λ q i v few lt known. s.unit q i ∙ (ap (λ (z : Bool). cond z (carried_unit (f.sets a q i) (is_open_to_it_alone (f.heads.call a) (f.flat.opener q)) (f.flat.unit q i)) (f.flat.unit q i)) (covers_are q) ∙ carries q i v ((change k op found g x).covers q) refl few lt (sym (ap (λ (z : ℕ). cond ((change k op found g x).covers z) (carried ((change k op found g x).sets (stripe_bytes k * q + i)) (is_open_to_it_alone c (x.opener z)) (x.byte (stripe_bytes k * q + i))) (x.byte (stripe_bytes k * q + i))) (place q i lt)) ∙ known));
  }
    where
      covers_are : (q : ℕ) → f.covers a q ≡ (change k op found g x).covers q
      covers_are q = p.covers q ∙ ap (λ (z : ℕ → Bool). z q) (sized_covers k g op found (record blank { size = size }) x sized)

      sets_are : (q i : ℕ) → (change k op found g x).covers q ≡ true → i < stripe_bytes k → f.sets a q i ≡ (change k op found g x).sets (stripe_bytes k * q + i)
      sets_are q i c lt = p.sets q i (covers_are q ∙ c) lt ∙ ap (λ (z : ℕ → Option ℕ). z (stripe_bytes k * q + i)) (sized_sets k g op found (record blank { size = size }) x sized)

      closes : (q : ℕ) (t : Bool) → Below g said of (cond t Nobody (f.flat.opener q)) (cond t Nobody (x.opener q))
      closes q true = refl
      closes q false = j.below q

      carries : (q i v : ℕ) (t : Bool) → (change k op found g x).covers q ≡ t → is_several (cond ((change k op found g x).covers q) Nobody (x.opener q)) ≡ false → i < stripe_bytes k → cond ((change k op found g x).covers q) (carried ((change k op found g x).sets (stripe_bytes k * q + i)) (is_open_to_it_alone c (x.opener q)) (x.byte (stripe_bytes k * q + i))) (x.byte (stripe_bytes k * q + i)) ≡ Some v → cond ((change k op found g x).covers q) (carried_unit (f.sets a q i) (is_open_to_it_alone (f.heads.call a) (f.flat.opener q)) (f.flat.unit q i)) (f.flat.unit q i) ≡ Some v
      carries q i v false u few lt known = ap (λ (z : Bool). cond z (carried_unit (f.sets a q i) (is_open_to_it_alone (f.heads.call a) (f.flat.opener q)) (f.flat.unit q i)) (f.flat.unit q i)) u ∙ j.bytes q i v (sym (ap (λ (z : Bool). is_several (cond z Nobody (x.opener q))) u) ∙ few) lt (sym (ap (λ (z : Bool). cond z (carried ((change k op found g x).sets (stripe_bytes k * q + i)) (is_open_to_it_alone c (x.opener q)) (x.byte (stripe_bytes k * q + i))) (x.byte (stripe_bytes k * q + i))) u) ∙ known)
      carries q i v true u few lt known =
          ap (λ (z : Bool). cond z (carried_unit (f.sets a q i) (is_open_to_it_alone (f.heads.call a) (f.flat.opener q)) (f.flat.unit q i)) (f.flat.unit q i)) u
          ∙ (ap (λ (z : Option ℕ). carried_unit z (is_open_to_it_alone (f.heads.call a) (f.flat.opener q)) (f.flat.unit q i)) (sets_are q i u lt)
          ∙ (ap (λ (z : ℕ). carried_unit ((change k op found g x).sets (stripe_bytes k * q + i)) (is_open_to_it_alone z (f.flat.opener q)) (f.flat.unit q i)) own
          ∙ keeps ((change k op found g x).sets (stripe_bytes k * q + i)) (is_open_to_it_alone c (x.opener q)) refl (sym (ap (λ (z : Bool). cond z (carried ((change k op found g x).sets (stripe_bytes k * q + i)) (is_open_to_it_alone c (x.opener q)) (x.byte (stripe_bytes k * q + i))) (x.byte (stripe_bytes k * q + i))) u) ∙ known)))
        where
          keeps : (o : Option ℕ) (t : Bool) → is_open_to_it_alone c (x.opener q) ≡ t → carried o (is_open_to_it_alone c (x.opener q)) (x.byte (stripe_bytes k * q + i)) ≡ Some v → carried_unit o (is_open_to_it_alone a (f.flat.opener q)) (f.flat.unit q i) ≡ Some v
          keeps (Some w) t e known = known
          keeps None true e known =
              let z = alone a c one (f.flat.opener q) (x.opener q) (j.below q) e in
              ap (λ (b : Bool). carried_unit None b (f.flat.unit q i)) z.0 ∙ j.bytes q i v z.1 lt (sym (ap (λ (b : Bool). carried None b (x.byte (stripe_bytes k * q + i))) e) ∙ known)
          keeps None false e known = absurd (let z = sym (ap (λ (b : Bool). carried None b (x.byte (stripe_bytes k * q + i))) e) ∙ known in cc)
