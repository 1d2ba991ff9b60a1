-- Fresh bricks stand for an empty root.
use Rattle.std.proofs.Common.{◌≡◌, ◌≢◌, ◌∙◌, inl, inr, is_some, Option, lit≤, ℕ, zero, suc, ◌/◌, ◌%◌, ◌<◌, ◌==◌, cond, Bool, true, false, refl, sym, ap, subst, lit<, arith, replicate, slice_index, List, [], Some, None}
use Rattle.std.proofs.lemmas.Bool.Decides.{nat_tests}
use Rattle.std.proofs.lemmas.List.{get_or-replicate, length-replicate}
use Rattle.ec_conduct.specs.Given.{quorum}
use Rattle.ec_attr.specs.Bricks.{count_below}
use Rattle.ec_attr.specs.Marks.{stripped}
use Rattle.ec_attr.specs.declared.config.Config.{Config}
use Rattle.ec_attr.specs.declared.geometry.Geometry.{Geometry}
use Rattle.ec_attr.specs.declared.kind.Child.{Child}
use Rattle.ec_field.proofs.Elements.{element-zeros, zero_is_chunk}
use Rattle.ec_field.proofs.Products.{product-zero_right}
use Rattle.ec_field.proofs.Sums.{sum_zeros}
use Rattle.ec_field.specs.Chunk.{element, zero_chunk, IsChunk}
use Rattle.ec_field.specs.Code.{IsCode, IsRow, IsStripe, chunk_at}
use Rattle.ec_field.specs.Field.{IsByte, product}
use Rattle.ec_store.specs.Records.{Record, Records, empty, headed, with_head}
use Rattle.ec_brick.specs.Opening.{first_root, rooted}
use Rattle.ec_conduct.specs.Data.{stripe_byte}
use Rattle.ec_stripe.specs.Span.{stripe_bytes}
use Rattle.ec_history.specs.Flat.{blank}
use Rattle.ec_history.specs.Holds.{Copies, HoldsCode, IsBounded, IsHeadOf, StandFor, Stands, is_at_version}
use Rattle.ec_history.specs.Laws.{HasRows, StartLaws}
use Rattle.ec_history.specs.Starts.{IsFresh, IsNextGfid, empty_root, fresh_records, root_tree}

zero_byte : (i : ℕ) → i < 512 → slice_index zero_chunk i ≡ 0
unfolding zero_chunk
zero_byte i l = get_or-replicate {A = ℕ} 512 i 0 0 l

zero_element : (e : ℕ) → e < 512 → element zero_chunk e ≡ 0
zero_element e l = element-zeros zero_chunk (λ p h. zero_byte p h) e l

-- a stripe of k chunks of zeros
abbrev zeros : ℕ → List (List ℕ)
zeros k = replicate k zero_chunk

zero_chunk_at : (k j : ℕ) → j < k → chunk_at (zeros k) j ≡ zero_chunk
zero_chunk_at k j l = get_or-replicate {A = List ℕ} k j zero_chunk [] l

zero_stripe : (k : ℕ) → IsStripe k (zeros k)
zero_stripe k = record { len = length-replicate {A = List ℕ} k zero_chunk; chunks = λ j l. subst IsChunk (sym (zero_chunk_at k j l)) zero_is_chunk }

zero_stripe_byte : (k i : ℕ) → i < stripe_bytes k → stripe_byte (zeros k) i ≡ 0
zero_stripe_byte k i l =
    let inside : i / 512 < k = omega (arith, l) in
    let below : i % 512 < 512 = omega arith in
    ap (λ c. slice_index c (i % 512)) (zero_chunk_at k (i / 512) inside) ∙ zero_byte (i % 512) below

zero_code : (k algorithm b : ℕ) (row : ℕ → ℕ) → ((j : ℕ) → j < k → IsByte (row j)) → IsRow k algorithm b row → IsCode k algorithm b (zeros k) zero_chunk
zero_code k algorithm b row bytes is_row = record {
  row = row;
  bytes = bytes;
  is_row = is_row;
  elements = λ e h. zero_element e h
      ∙ sym (sum_zeros k (λ j. product (row j) (element (chunk_at (zeros k) j) e))
      (λ j l. ap (product (row j)) (ap (λ c. element c e) (zero_chunk_at k j l) ∙ zero_element e h) ∙ product-zero_right (row j)));
}

none_pass : (n : ℕ) (p : ℕ → Bool) → ((b : ℕ) → p b ≡ false) → count_below n p ≡ 0
unfolding count_below
none_pass zero p h = refl
none_pass (suc n) p h = rw (h n, none_pass n p h) refl

-- some brick suffices to read
some_suffice : (g : Geometry) → 0 < quorum g
some_suffice g = let majority = g.majority in omega (arith, majority)

few : (g : Geometry) (p : ℕ → Bool) → ((b : ℕ) → p b ≡ false) → count_below g.n p < quorum g
few g p h = let none = none_pass g.n p h in let some = some_suffice g in omega (arith, none, some)

some_record : (a b : Record) → Some a ≡ Some b → a ≡ b
some_record a b e = cc

no_record : {X : Type 0} (r : Record) → None ≡ Some r → X
no_record r e = absurd (cc)

some_number : (a b : ℕ) → Some a ≡ Some b → a ≡ b
some_number a b e = cc

other_number : (v : ℕ) → v ≢ 0 → (0 == v) ≡ false
other_number v h = grind (arith, nat_tests)

-- of a gfid that no brick has
stands_nowhere : (config : Config) → Stands config (λ b. None) blank
stands_nowhere config = record {
  heads = λ b r l e v. no_record r e;
  content = record {
    stripes = λ s closed. record { stripe = zeros (quorum config.geometry); is_stripe = zero_stripe (quorum config.geometry); bytes = λ i v l e. zero_stripe_byte (quorum config.geometry) i l ∙ some_number 0 v e; codes = λ b r l e h. no_record r e };
    names = λ b r n l e h o. no_record r e;
  };
  alone = λ v u o. few config.geometry (λ b. is_at_version v None) (λ b. refl);
  promised = λ b r l e a. no_record r e;
  bounded = λ b r l e. no_record r e;
  kinds = λ b r l e. no_record r e;
}

abbrev root : Config → Record
root config = empty (first_root config)

stands_for_root : (config : Config) → HasRows config.geometry → Stands config (λ b. Some (root config)) empty_root
stands_for_root config rows = record {
  heads = λ b r l e v. subst (λ (x : Record). IsHeadOf config empty_root x.head) (some_record (root config) r e) (record { kind = refl; of_volume = refl; size = refl; attr = refl });
  content = record {
    stripes = λ s closed. record {
      stripe = zeros (quorum config.geometry);
      is_stripe = zero_stripe (quorum config.geometry);
      bytes = λ i v l e. zero_stripe_byte (quorum config.geometry) i l ∙ some_number 0 v e;
      codes = λ b r l e h. subst (λ (x : Record). HoldsCode config.geometry b x s (zeros (quorum config.geometry))) (some_record (root config) r e)
          (record { chunk = zero_chunk; piece = record { is_chunk = zero_is_chunk; bytes = λ i m. ap Some (sym (zero_byte i m)) }; code = (let row = rows b l in zero_code (quorum config.geometry) config.geometry.algorithm b row.0 row.1 row.2) });
    };
    names = λ b r n l e h o. subst (λ (x : Record). x.names n ≡ None) (some_record (root config) r e) refl;
  };
  alone = λ v u o. few config.geometry (λ b. is_at_version v (Some (root config))) (λ b. other_number v o);
  promised = λ b r l e a. absurd (subst (λ (x : Record). 0 < stripped x.head.version.content → ⊥) (some_record (root config) r e) (λ m. omega (arith, m)) a);
  bounded = λ b r l e. subst (λ (x : Record). IsBounded x.head) (some_record (root config) r e) (record { version = lit< tt; bits = lit< tt; dirty = lit< tt; version_meta = refl; dirty_meta = refl });
  kinds = λ b r l e. subst (λ (x : Record). Some x.head.kind ≡ empty_root.kind) (some_record (root config) r e) refl;
}

abbrev copies_of : Config → Bool → Copies
copies_of config u b = cond u (Some (root config)) None

stands_as : (config : Config) → HasRows config.geometry → (u : Bool) → Stands config (copies_of config u) (cond u empty_root blank)
stands_as config rows true = stands_for_root config rows
stands_as config rows false = stands_nowhere config

blank_as : (config : Config) (u : Bool) → ((b : ℕ) → b < config.geometry.n → cond u (Some (root config)) None ≡ None) → cond u empty_root blank ≡ blank
blank_as config true h = no_record (root config) (sym (h 0 (let majority = config.geometry.majority in omega (arith, majority))))
blank_as config false h = refl

-- no gfid is taken but the root's
abbrev at_root : Config → Bool → Option Record
at_root config u = cond u (Some (root config)) None

taken : (config : Config) (g : ℕ) (u : Bool) → (u ≡ true → g ≡ 1) → at_root config u ≢ None → g < 2
taken config g true e h = let one = e refl in omega (arith, one)
taken config g false e h = absurd (h refl)

no_child : (c : Child) → None ≡ Some c → ⊥
no_child c e = absurd (cc)

unnamed : (config : Config) (u : Bool) (r : Record) (n : List ℕ) (c : Child) → at_root config u ≡ Some r → r.names n ≡ Some c → ⊥
unnamed config true r n c e h = no_child c (subst (λ (x : Record). x.names n ≡ Some c) (sym (some_record (root config) r e)) h)
unnamed config false r n c e h = no_record r e

is_one : (g : ℕ) → (g == 1) ≡ true → g ≡ 1
is_one g e = grind (arith, nat_tests)

next_is_two : (config : Config) → IsNextGfid config.geometry.n (fresh_records config) 2
next_is_two config = record {
  above = λ b g l t. elim t [
    | inl h ↦ taken config g (g == 1) (is_one g) h
    | inr h ↦ absurd (unnamed config (h.1.0 == 1) h.1.1 h.1.2 h.1.3 h.1.4 h.1.6)
  ];
  least = inl refl;
  not_root = lit≤ tt;
}

fresh_stand : (config : Config) → HasRows config.geometry → StandFor config (fresh_records config) root_tree
fresh_stand config rows g = stands_as config rows (g == 1)

rooted_as : (config : Config) (u : Bool) (o p : Option Record) → o ≡ None → p ≡ None → cond u (Some (headed p (first_root config))) o ≡ at_root config u
rooted_as config true o p e f = rw f refl
rooted_as config false o p e f = e

opened_fresh : (config : Config) (n b g : ℕ) (stores : ℕ → Records) → IsFresh n stores → b < n → rooted config (stores b) g ≡ fresh_records config b g
opened_fresh config n b g stores fresh l = by (stores b 1) (fresh b 1 l)
  where
    by : (o : Option Record) → o ≡ None → cond (is_some o) (stores b) (with_head (stores b) 1 (first_root config)) g ≡ at_root config (g == 1)
    by None e = rooted_as config (g == 1) (stores b g) (stores b 1) (fresh b g l) (fresh b 1 l)
    by (Some r) e = no_record r (sym e)

pub beginning : StartLaws
beginning = record {
  fresh = fresh_stand;
  starts = λ config bricks rows opened. record { opened = opened; stand = fresh_stand config rows; elsewhere = λ g h. blank_as config (g == 1) h; next_gfid = next_is_two config };
  opened = opened_fresh;
}
