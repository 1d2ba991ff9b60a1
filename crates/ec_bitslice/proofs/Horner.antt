-- Horner's rule over the bits of coefficients.
use Rattle.std.proofs.Common.{◌≡◌, ℕ, ◌+◌, ◌-◌, ◌*◌, ◌/◌, ◌%◌, ◌^◌, ◌<◌, ◌≤◌, List, [], length, get_or, ◌⊎◌, inl, inr, refl, ap, sym, ◌∙◌, arith, lit<, add-one, zero-add}
use Rattle.std.specs.Prelude.{bit_xor, bit_and}
use Rattle.std.specs.Int.{bit_at}
use Rattle.std.specs.Int.Bits.{xor_shifted, xor_assoc, xor_zero_l, xor_zero_r}
use Rattle.std.proofs.lemmas.Bool.{cases_lt}
use Rattle.std.proofs.lemmas.List.{get_or_default}
use Rattle.std.proofs.lemmas.Nat.{shr_le, pow_pos}
use Rattle.std.proofs.lemmas.Nat.Bits.{shr_and_one, bit_at-zero}
use Rattle.std.proofs.Math.Nat.{zero-mul, one-mul, mod-lt, div-eq_of_lt, div-div-eq-div-mul, lt-div-mul-add, pow-suc}
use Rattle.ec_field.specs.Field.{sum_below, product, reduced, IsByte}
use Rattle.ec_field.specs.Chunk.{element}
use Rattle.ec_field.specs.Code.{chunk_at}
use Rattle.ec_field.proofs.Sums.{sum_ext, sum_xor, sum_zeros}
use Rattle.ec_field.proofs.Linear.{below_two, bit_cases}
use Rattle.ec_field.proofs.Tables.{agree_at}
use Rattle.ec_field.proofs.Products.{product-left, product-zero_left, product-sum_right, product_assoc, one_product}
use Rattle.ec_field.proofs.Elements.{element_is_byte}
use Rattle.ec_bitslice.specs.declared.column.Column.{Column}
use Rattle.ec_bitslice.specs.Column.{lane_element, HasElements, StoresColumn}
use Rattle.ec_bitslice.specs.Group.{bit_sum, horner}

pub elements-ext : (c : Column) (at : ℕ) (f g : ℕ → ℕ) → HasElements c at f → ((e : ℕ) → f e ≡ g e) → HasElements c at g
elements-ext c at f g h same = record { each = λ e from to. h.each e from to ∙ same e }

pub elements-plus : (a b c : Column) (at : ℕ) (f g : ℕ → ℕ) → ((x k : ℕ) → lane_element c x k ≡ bit_xor (lane_element a x k) (lane_element b x k))
    → HasElements a at f → HasElements b at g → HasElements c at (λ e. bit_xor (f e) (g e))
elements-plus a b c at f g sum p q = record {
  each = λ e from to. rw (sum (e / 8 - at) (e % 8), p.each e from to, q.each e from to) refl;
}

pub elements-doubled : (a c : Column) (at : ℕ) (f : ℕ → ℕ) → ((x k : ℕ) → lane_element c x k ≡ product 2 (lane_element a x k)) → HasElements a at f → HasElements c at (λ e. product 2 (f e))
elements-doubled a c at f twice p = record {
  each = λ e from to. rw (twice (e / 8 - at) (e % 8), p.each e from to) refl;
}

-- a chunk is added where its bit is set
pub plus_set : (sum part result : Column) (at : ℕ) (coefficient i j : ℕ) (chunks : List (List ℕ)) (chunk other : List ℕ)
    → (length chunks ≤ j → coefficient ≡ 0) → bit_and (coefficient / 2 ^ i) 1 ≡ 1
    → chunk ≡ get_or chunks j other → HasElements part at (element chunk)
    → ((x k : ℕ) → lane_element result x k ≡ bit_xor (lane_element sum x k) (lane_element part x k))
    → (f : ℕ → ℕ) → HasElements sum at f → HasElements result at (λ e. bit_xor (f e) (bit_at coefficient i * element (chunk_at chunks j) e))
plus_set sum part result at coefficient i j chunks chunk other absent set is has plus f h =
    let bit : bit_at coefficient i ≡ 1 = sym (shr_and_one coefficient i) ∙ set in
    let within : j < length chunks =
    elim (cases_lt j (length chunks)) [
      | inl l ↦ l
      | inr past ↦
          let none : bit_at coefficient i ≡ 0 = ap (λ n. bit_at n i) (absent (omega arith)) ∙ bit_at-zero i in
          absurd (omega (arith, none, bit))
    ] in
    let same : chunk ≡ chunk_at chunks j = is ∙ get_or_default chunks j other [] within in
    elements-ext result at (λ e. bit_xor (f e) (element chunk e)) (λ e. bit_xor (f e) (bit_at coefficient i * element (chunk_at chunks j) e))
    (elements-plus sum part result at f (element chunk) plus h has)
    (λ e. rw (bit, same, one-mul (element (chunk_at chunks j) e)) refl)

pub plus_clear : (sum : Column) (at : ℕ) (coefficient i : ℕ) (chunk : List ℕ) → (bit_and (coefficient / 2 ^ i) 1 ≡ 1 → ⊥)
    → (f : ℕ → ℕ) → HasElements sum at f → HasElements sum at (λ e. bit_xor (f e) (bit_at coefficient i * element chunk e))
plus_clear sum at coefficient i chunk clear f h =
    elim (bit_cases coefficient i) [
      | inl none ↦ elements-ext sum at f (λ e. bit_xor (f e) (bit_at coefficient i * element chunk e)) h (λ e. rw (none, zero-mul (element chunk e)) (sym (xor_zero_r (f e))))
      | inr one ↦ absurd (clear (shr_and_one coefficient i ∙ one))
    ]

-- four terms, one after the other
pub four_terms : (n : ℕ) (g : ℕ → ℕ) → bit_xor (bit_xor (bit_xor (bit_xor n (g 0)) (g 1)) (g 2)) (g 3) ≡ bit_xor n (sum_below 4 g)
unfolding sum_below
four_terms n g =
    rw (xor_zero_l (g 0), ← xor_assoc n (bit_xor (bit_xor (g 0) (g 1)) (g 2)) (g 3), ← xor_assoc n (bit_xor (g 0) (g 1)) (g 2), ← xor_assoc n (g 0) (g 1)) refl

pub plus_four : (result : Column) (at : ℕ) (coefficients : List ℕ) (chunks : List (List ℕ)) (i : ℕ) (f : ℕ → ℕ)
    → (let g : ℕ → ℕ → ℕ = λ j e. bit_at (get_or coefficients j 0) i * element (chunk_at chunks j) e in
    HasElements result at (λ e. bit_xor (bit_xor (bit_xor (bit_xor (f e) (g 0 e)) (g 1 e)) (g 2 e)) (g 3 e)))
    → HasElements result at (λ e. bit_xor (f e) (bit_sum coefficients chunks i e))
unfolding bit_sum
plus_four result at coefficients chunks i f h =
    let g : ℕ → ℕ → ℕ = λ j e. bit_at (get_or coefficients j 0) i * element (chunk_at chunks j) e in
    elements-ext result at (λ e. bit_xor (bit_xor (bit_xor (bit_xor (f e) (g 0 e)) (g 1 e)) (g 2 e)) (g 3 e)) (λ e. bit_xor (f e) (sum_below 4 (λ j. g j e))) h
    (λ e. four_terms (f e) (λ j. g j e))

twice_low : (n : ℕ) → n < 128 → product 2 n ≡ n * 2
unfolding product reduced sum_below
twice_low n h = agree_at 128 (product 2) (λ m. m * 2) refl n h

bit_times : (p c : ℕ) → (p ≡ 0) ⊎ (p ≡ 1) → IsByte c → product p c ≡ p * c
bit_times p c (inl e) h = rw (e, product-zero_left c) (sym (zero-mul c))
bit_times p c (inr e) h = rw (e, one_product c h) (sym (one-mul c))

-- a byte by its half and its lowest bit
by_half : (n c : ℕ) → IsByte n → IsByte c → product n c ≡ bit_xor (product 2 (product (n / 2) c)) (n % 2 * c)
by_half n c h l =
    let low : n % 2 < 2 = mod-lt n (omega arith) in
    let split : bit_xor (n / 2 * 2 ^ 1) (n % 2) ≡ n / 2 * 2 ^ 1 + n % 2 = xor_shifted (n / 2) 1 (n % 2) low in
    let whole : n / 2 * 2 + n % 2 ≡ n = omega arith in
    let half : n / 2 < 128 = omega arith in
    ap (λ m. product m c) (sym whole ∙ sym split)
    ∙ (product-left c).xor (n / 2 * 2 ^ 1) (n % 2)
    ∙ rw (← twice_low (n / 2) half, product_assoc 2 (n / 2) c (lit< tt) (omega arith) l, bit_times (n % 2) c (below_two (n % 2) low) l) refl

half_of : (a i : ℕ) → a / 2 ^ i / 2 ≡ a / 2 ^ (i + 1)
half_of a i = div-div-eq-div-mul a (2 ^ i) 2 ∙ ap (λ m. a / m) (sym (pow-suc 2 i)) ∙ ap (λ m. a / 2 ^ m) (sym (add-one i))

term : (a i c : ℕ) → IsByte a → IsByte c → product (a / 2 ^ i) c ≡ bit_xor (product 2 (product (a / 2 ^ (i + 1)) c)) (bit_at a i * c)
term a i c h l =
    let low : a / 2 ^ i ≤ a = shr_le a i in
    by_half (a / 2 ^ i) c (omega arith) l ∙ ap (λ m. bit_xor (product 2 (product m c)) (bit_at a i * c)) (half_of a i)

pub horner_step : (coefficients : List ℕ) (chunks : List (List ℕ)) (i e : ℕ) → ((j : ℕ) → IsByte (get_or coefficients j 0))
    → bit_xor (product 2 (horner coefficients chunks (i + 1) e)) (bit_sum coefficients chunks i e) ≡ horner coefficients chunks i e
unfolding horner bit_sum
horner_step coefficients chunks i e bytes =
    let a : ℕ → ℕ = λ j. get_or coefficients j 0 in
    let c : ℕ → ℕ = λ j. element (chunk_at chunks j) e in
    let first : ℕ → ℕ = λ j. product 2 (product (a j / 2 ^ (i + 1)) (c j)) in
    let second : ℕ → ℕ = λ j. bit_at (a j) i * c j in
    ap (λ m. bit_xor m (sum_below 4 second)) (product-sum_right 2 4 (λ j. product (a j / 2 ^ (i + 1)) (c j)))
    ∙ sym (sum_xor 4 first second)
    ∙ sum_ext 4 (λ j. bit_xor (first j) (second j)) (λ j. product (a j / 2 ^ i) (c j)) (λ j h. sym (term (a j) i (c j) (bytes j) (element_is_byte (chunk_at chunks j) e)))

-- where no coefficient has a bit from i on
pub horner_none : (coefficients : List ℕ) (chunks : List (List ℕ)) (i e : ℕ) → ((j : ℕ) → get_or coefficients j 0 < 2 ^ i) → horner coefficients chunks i e ≡ 0
unfolding horner
horner_none coefficients chunks i e low =
    sum_zeros 4 (λ j. product (get_or coefficients j 0 / 2 ^ i) (element (chunk_at chunks j) e))
    (λ j h. rw (div-eq_of_lt (low j)) (product-zero_left (element (chunk_at chunks j) e)))

pub step_none : (sum : Column) (at : ℕ) (coefficients : List ℕ) (chunks : List (List ℕ)) (largest i : ℕ)
    → ((j : ℕ) → get_or coefficients j 0 ≤ largest) → largest / 2 ^ i ≡ 0
    → HasElements sum at (horner coefficients chunks (i + 1)) → HasElements sum at (horner coefficients chunks i)
step_none sum at coefficients chunks largest i bounded none h =
    let near : largest < largest / 2 ^ i * 2 ^ i + 2 ^ i = lt-div-mul-add {a = largest} {b = 2 ^ i} (pow_pos i) in
    let small : largest < 2 ^ i = simp (none, zero-mul, zero-add) at near in
    let more : 2 ^ (i + 1) ≡ 2 ^ i * 2 = ap (λ m. 2 ^ m) (add-one i) ∙ pow-suc 2 i in
    elements-ext sum at (horner coefficients chunks (i + 1)) (horner coefficients chunks i) h
    (λ e. horner_none coefficients chunks (i + 1) e (λ j. let b = bounded j in omega (arith, b))
    ∙ sym (horner_none coefficients chunks i e (λ j. let b = bounded j in omega (arith, b))))

pub step_some : (sum doubled result : Column) (at : ℕ) (coefficients : List ℕ) (chunks : List (List ℕ)) (i : ℕ)
    → ((j : ℕ) → IsByte (get_or coefficients j 0))
    → HasElements sum at (horner coefficients chunks (i + 1))
    → ((x k : ℕ) → lane_element doubled x k ≡ product 2 (lane_element sum x k))
    → ((f : ℕ → ℕ) → HasElements doubled at f → HasElements result at (λ e. bit_xor (f e) (bit_sum coefficients chunks i e)))
    → HasElements result at (horner coefficients chunks i)
step_some sum doubled result at coefficients chunks i bytes h twice plus =
    let f : ℕ → ℕ = λ e. product 2 (horner coefficients chunks (i + 1) e) in
    elements-ext result at (λ e. bit_xor (f e) (bit_sum coefficients chunks i e)) (horner coefficients chunks i)
    (plus f (elements-doubled sum doubled at (horner coefficients chunks (i + 1)) twice h))
    (λ e. horner_step coefficients chunks i e bytes)

-- no byte has a bit from 8 on
pub starts : (first : Column) (at : ℕ) (coefficients : List ℕ) (chunks : List (List ℕ)) → ((j : ℕ) → IsByte (get_or coefficients j 0))
    → ((x k : ℕ) → lane_element first x k ≡ 0) → HasElements first at (horner coefficients chunks 8)
starts first at coefficients chunks bytes none = record {
  each = λ e from to. none (e / 8 - at) (e % 8) ∙ sym (horner_none coefficients chunks 8 e bytes);
}

-- The elements in the columns that begin below byte `at` of each plane are f e.
pub record PutBelow (at : ℕ) (f : ℕ → ℕ) (sum : List ℕ) : Type 0 where
  pub each : (e : ℕ) → e / 8 < at → element sum e ≡ f e

pub put_none : (f : ℕ → ℕ) (sum : List ℕ) → PutBelow 0 f sum
put_none f sum = record { each = λ e h. absurd (omega arith) }

pub put_more : (c : Column) (at : ℕ) (f : ℕ → ℕ) (old new : List ℕ) → HasElements c at f → StoresColumn c at old new → PutBelow at f old → PutBelow (at + 16) f new
put_more c at f old new has stores below = record {
  each = λ e h.
      elim (cases_lt (e / 8) at) [
        | inl before ↦ stores.below e before ∙ below.each e before
        | inr here ↦ stores.within e here h ∙ has.each e here h
      ];
}
