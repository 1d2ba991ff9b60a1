-- Bricks that stand for a tree stand for each file of it, stripe by stripe.
use Rattle.std.proofs.Common.{◌≡◌, ℕ, ◌+◌, ◌*◌, ◌%◌, ◌^◌, ◌<◌, ◌≤◌, Bool, true, false, cond, Option, Some, None, List, refl, sym, ◌∙◌, ap, arith}
use Rattle.std.specs.Prelude.{nat_le, nat_lt}
use Rattle.std.proofs.lemmas.Bool.Decides.{nat_tests}
use Rattle.ec_attr.specs.declared.attr.Attr.{Attr}
use Rattle.ec_attr.specs.declared.config.Config.{Config}
use Rattle.ec_brick.specs.State.{State as Brick}
use Rattle.ec_conduct.specs.Data.{stripe_byte}
use Rattle.ec_conduct.specs.Given.{quorum}
use Rattle.ec_field.specs.Chunk.{element}
use Rattle.ec_field.specs.Code.{IsCode, IsStripe, chunk_at, combined_element}
use Rattle.ec_field.specs.Field.{product}
use Rattle.ec_field.proofs.Sums.{sum_ext}
use Rattle.ec_history.specs.Flat.{Flat as FlatFile, Opener, Tree, opened_before}
use Rattle.ec_history.specs.Flat.Opener.{Nobody, One, Several}
use Rattle.ec_history.specs.Holds.{HasKnownBytes, HoldsCode}
use Rattle.ec_history.specs.Starts.{IsStart}
use Rattle.ec_store.specs.Records.{Record, Records}
use Rattle.ec_stripe.specs.Span.{stripe_bytes}
use Rattle.ec_law_data.specs.Coding.{by_rows}
use Rattle.ec_law_data.specs.Forms.{Shape, piece_of, shape_in, zero_stripe}
use Rattle.ec_law_data.proofs.Coding.{coding_laws}
use Rattle.ec_law_data.proofs.Directories.{at_version, no_record}
use Rattle.ec_law_data.proofs.Forms.{alike as same_piece}
use Rattle.ec_law_flats.specs.Stripes.{file_flat}
use Rattle.ec_law_net.proofs.Starting.{starts_linked}
use Rattle.ec_law_reads.specs.Rows.{row_at}
use Rattle.ec_law_reads.proofs.Stripes.{stripe_laws}
use Rattle.ec_law_stripes.specs.Begins.{StandsForFile, ZerosPastSizes, piece_in}
use Rattle.ec_law_stripes.specs.Bytes.{of_volume}
use Rattle.ec_law_stripes.specs.Laws.{BeginLaws, FileBegins}
use Rattle.ec_law_stripes.proofs.Sizes.{again, fresh_tree}
use Rattle.ec_law_stripes.proofs.ZeroStripes.{byte_small, zero_stripe_is}

some_is : (x y : ℕ) → Some x ≡ Some y → x ≡ y
some_is x y e = cc

small_low : (x : ℕ) → x < 2 ^ 8 → x % 2 ^ 8 ≡ x
small_low x lt = omega (arith, lt)

module _ (config : Config) (records : ℕ → Records) (bricks : ℕ → Brick) (tree : Tree) (next g : ℕ) (start : IsStart config records bricks tree next) (zeros : ZerosPastSizes (quorum config.geometry) tree) where
  abbrev k : ℕ
  k = quorum config.geometry

  abbrev rows : ℕ → ℕ → ℕ
  rows = row_at (quorum config.geometry) config.geometry.algorithm

  positive : 0 < quorum config.geometry
  positive = let h = config.geometry.least in omega (arith, h)

  -- one stripe that has each known byte and whose code the bricks at the version hold
  record Stands (s : ℕ) (x : List (List ℕ)) : Type 0 where
    pub is_stripe : IsStripe (quorum config.geometry) x
    pub bytes : HasKnownBytes (quorum config.geometry) (tree g) s x
    pub codes : (b : ℕ) (r : Record) → b < config.geometry.n → records b g ≡ Some r → r.head.version.content ≡ (tree g).version → HoldsCode config.geometry b r s x

  abbrev stripe_at : (s : ℕ) (o : Opener) → (tree g).opener s ≡ o → List (List ℕ)
  stripe_at s Nobody e = ((start.stand g).content.stripes s e).stripe
  stripe_at s (One c) e = zero_stripe (quorum config.geometry)
  stripe_at s Several e = zero_stripe (quorum config.geometry)

  stands_at : (s : ℕ) (o : Opener) (e : (tree g).opener s ≡ o) → o ≡ Nobody → Stands s (stripe_at s o e)
  stands_at s Nobody e h = let x = (start.stand g).content.stripes s e in record { is_stripe = x.is_stripe; bytes = x.bytes; codes = x.codes }
  stands_at s (One c) e h = absurd (cc)
  stands_at s Several e h = absurd (cc)

  abbrev value : ℕ → List (List ℕ)
  value s = stripe_at s ((tree g).opener s) refl

  shut : (o : Opener) → opened_before o ≡ Nobody → o ≡ Nobody
  shut Nobody e = refl
  shut (One c) e = absurd (cc)
  shut Several e = absurd (cc)

  no_one : (o : Opener) (c : ℕ) → opened_before o ≡ One c → ⊥
  no_one Nobody c e = cc
  no_one (One d) c e = cc
  no_one Several c e = cc

  stands : (s : ℕ) → (tree g).opener s ≡ Nobody → Stands s (value s)
  stands s e = stands_at s ((tree g).opener s) refl e

  zero_value : (s : ℕ) → (tree g).opener s ≡ Nobody → ((i : ℕ) → i < stripe_bytes (quorum config.geometry) → (tree g).byte (stripe_bytes (quorum config.geometry) * s + i) ≡ Some 0) → value s ≡ zero_stripe (quorum config.geometry)
  zero_value s e known = let x = stands s e in zero_stripe_is (quorum config.geometry) (value s) x.is_stripe (λ i lt. x.bytes i 0 lt (known i lt))

  -- the brick's row is the one of the algorithm
  elements_there : (b : ℕ) (x : List (List ℕ)) (chunk : List ℕ) → b < config.geometry.n → IsCode (quorum config.geometry) config.geometry.algorithm b x chunk → (e : ℕ) → e < 512 → element chunk e ≡ combined_element (quorum config.geometry) (row_at (quorum config.geometry) config.geometry.algorithm b) x e
  elements_there b x chunk lt c e l =
      c.elements e l
      ∙ sum_ext (quorum config.geometry) (λ j. product (c.row j) (element (chunk_at x j) e)) (λ j. product (row_at (quorum config.geometry) config.geometry.algorithm b j) (element (chunk_at x j) e))
      (λ j h. ap (λ (z : ℕ). product z (element (chunk_at x j) e)) (stripe_laws.one_row (quorum config.geometry) config.geometry.algorithm b c.row few (let z = config.geometry.bricks in omega (arith, z, lt)) (record { bytes = c.bytes; is_row = c.is_row }) j h))
    where
      few : quorum config.geometry ≤ 16
      few = let z = config.geometry.most in omega (arith, z)

  code_there : (b : ℕ) (r : Record) (s : ℕ) (x : List (List ℕ)) → b < config.geometry.n → HoldsCode config.geometry b r s x → piece_of (r.piece s) ≡ (of_volume config.geometry).form.code x b
  code_there b r s x lt h = same_piece (r.piece s) (λ i. Some (by_rows (quorum config.geometry) (row_at (quorum config.geometry) config.geometry.algorithm) x b i)) (λ i l. h.piece.bytes i l ∙ ap {B = Option ℕ} (λ (z : ℕ). Some z) (coding_laws.bytes (quorum config.geometry) (row_at (quorum config.geometry) config.geometry.algorithm b) x h.chunk h.piece.is_chunk (elements_there b x h.chunk lt h.code) i l))

  unit_there : (s i u : ℕ) (x : List (List ℕ)) → Stands s x → (file_flat (quorum config.geometry) (tree g)).unit s i ≡ Some u → (of_volume config.geometry).form.unit x i ≡ u
  unit_there s i u x h e = by (nat_lt i (stripe_bytes (quorum config.geometry))) refl e
    where
      below : nat_lt i (stripe_bytes (quorum config.geometry)) ≡ true → i < stripe_bytes (quorum config.geometry)
      below t = grind (arith, nat_tests)

      by : (t : Bool) → nat_lt i (stripe_bytes (quorum config.geometry)) ≡ t → cond t ((tree g).byte (stripe_bytes (quorum config.geometry) * s + i)) None ≡ Some u → stripe_byte x i % 2 ^ 8 ≡ u
      by true t known = small_low (stripe_byte x i) (byte_small (quorum config.geometry) x i h.is_stripe (below t)) ∙ h.bytes i u (below t) known
      by false t known = absurd (cc)

  abbrev shape : ℕ → Attr → Shape
  shape x a = record { size = x; attr = a }

  same_shape : (x y : ℕ) (a b : Attr) → x ≡ y → a ≡ b → shape x a ≡ shape y b
  same_shape x y a b e h = ap (λ (z : ℕ). shape z a) e ∙ ap (λ (z : Attr). shape y z) h

  past_size : (s : ℕ) → nat_le (tree g).size (stripe_bytes (quorum config.geometry) * s) ≡ true → (tree g).size ≤ stripe_bytes (quorum config.geometry) * s
  past_size s e = at (tree g).size (stripe_bytes (quorum config.geometry) * s) e
    where
      at : (x y : ℕ) → nat_le x y ≡ true → x ≤ y
      at x y e = grind (arith, nat_tests)

  file_stands : StandsForFile config records tree g
  file_stands = record {
    standing = (starts_linked config records bricks tree next g (λ a. a) positive start).standing;
    shapes = λ b e. let o = at_version config.geometry.n records g b (tree g).version e in let h = (start.stand g).heads b o.0 o.1 o.2 o.3 in ap shape_in o.2 ∙ same_shape o.0.head.size (tree g).size o.0.head.attr (tree g).attr h.size h.attr;
    value = value;
    closed = λ s e. record {
      codes = λ b h. let o = at_version config.geometry.n records g b (tree g).version h in ap (λ (x : Option Record). piece_in x s) o.2 ∙ code_there b o.0 s (value s) o.1 ((stands s (shut ((tree g).opener s) e)).codes b o.0 o.1 o.2 o.3);
      units = λ i u h. unit_there s i u (value s) (stands s (shut ((tree g).opener s) e)) h;
    };
    past = λ s e h. zero_value s (shut ((tree g).opener s) e) (λ i lt. zeros g s i (shut ((tree g).opener s) e) (past_size s h) lt);
    blank = λ e s. let none = start.elsewhere g (λ b lt. no_record config.geometry.n records g b lt (((starts_linked config records bricks tree next g (λ a. a) positive start).standing.none e).1 b)) in zero_value s (ap (λ (x : FlatFile). x.opener s) none) (λ i lt. ap (λ (x : FlatFile). x.byte (stripe_bytes (quorum config.geometry) * s + i)) none);
    unopened = λ s c e. no_one ((tree g).opener s) c e;
  }

  pub file_begins : FileBegins config records bricks tree g
  file_begins = record {
    stands = file_stands;
    pieces = λ b r lt is s. ap (λ (o : Option Record). piece_in o s) (sym (ap (λ (z : Records). z g) (start.opened b lt).kept) ∙ is);
  }

pub begin_laws : BeginLaws
begin_laws = record {
  begins = λ config records bricks tree next g start zeros. file_begins config records bricks tree next g start zeros;
  fresh_tree = fresh_tree;
  again = again;
}
