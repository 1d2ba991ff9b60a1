-- The elements of columns.
use Rattle.std.proofs.Common.{◌≡◌, ℕ, zero, suc, ◌+◌, ◌-◌, ◌*◌, ◌/◌, ◌%◌, ◌^◌, ◌<◌, ◌≤◌, List, [], ◌∷◌, length, get_or, inl, inr, refl, ap, sym, ◌∙◌, zero-add, arith, lit<, subst}
use Rattle.std.specs.Prelude.{bit_xor}
use Rattle.std.specs.Int.{bit_at}
use Rattle.std.proofs.lemmas.Bool.{cases_lt}
use Rattle.std.proofs.Math.Nat.{zero-mul}
use Rattle.std.proofs.lemmas.Nat.Bits.{bit_at-lt, bit_at-zero, bit_at_xor}
use Rattle.ec_field.specs.Field.{sum_below, product, reduced, IsByte}
use Rattle.ec_field.specs.Chunk.{byte_of, element, element_bit, IsChunk}
use Rattle.ec_field.proofs.Sums.{sum_ext, sum_xor, sum_zeros}
use Rattle.ec_field.proofs.Linear.{bit_times-linear}
use Rattle.ec_field.proofs.Tables.{agree_at}
use Rattle.ec_field.proofs.Bits.{bit_of_sum, bits_lt}
use Rattle.ec_bitslice.specs.declared.column.Column.{Column}
use Rattle.ec_bitslice.specs.Column.{plane, lane_element, HasElements, StoresLanes, StoresColumn}

-- what holds of each number below eight
pub below_eight : (P : ℕ → Type 0) → P 0 → P 1 → P 2 → P 3 → P 4 → P 5 → P 6 → P 7 → (i : ℕ) → i < 8 → P i
below_eight P p0 p1 p2 p3 p4 p5 p6 p7 zero h = p0
below_eight P p0 p1 p2 p3 p4 p5 p6 p7 (suc zero) h = p1
below_eight P p0 p1 p2 p3 p4 p5 p6 p7 (suc (suc zero)) h = p2
below_eight P p0 p1 p2 p3 p4 p5 p6 p7 (suc (suc (suc zero))) h = p3
below_eight P p0 p1 p2 p3 p4 p5 p6 p7 (suc (suc (suc (suc zero)))) h = p4
below_eight P p0 p1 p2 p3 p4 p5 p6 p7 (suc (suc (suc (suc (suc zero))))) h = p5
below_eight P p0 p1 p2 p3 p4 p5 p6 p7 (suc (suc (suc (suc (suc (suc zero)))))) h = p6
below_eight P p0 p1 p2 p3 p4 p5 p6 p7 (suc (suc (suc (suc (suc (suc (suc zero))))))) h = p7
below_eight P p0 p1 p2 p3 p4 p5 p6 p7 (suc (suc (suc (suc (suc (suc (suc (suc i)))))))) h = absurd (omega arith)

pub element-zero : (c : Column) (x k : ℕ)
    → get_or c.p0 x 0 ≡ 0
    → get_or c.p1 x 0 ≡ 0
    → get_or c.p2 x 0 ≡ 0
    → get_or c.p3 x 0 ≡ 0
    → get_or c.p4 x 0 ≡ 0
    → get_or c.p5 x 0 ≡ 0
    → get_or c.p6 x 0 ≡ 0
    → get_or c.p7 x 0 ≡ 0
    → lane_element c x k ≡ 0
unfolding lane_element
element-zero c x k e0 e1 e2 e3 e4 e5 e6 e7 =
    let none = below_eight (λ i. get_or (plane c i) x 0 ≡ 0) e0 e1 e2 e3 e4 e5 e6 e7 in
    sum_zeros 8 (λ i. bit_at (get_or (plane c i) x 0) k * 2 ^ i) (λ i h. rw (none i h, bit_at-zero k) (zero-mul (2 ^ i)))

pub element-plus : (a b c : Column) (x k : ℕ)
    → get_or c.p0 x 0 ≡ bit_xor (get_or a.p0 x 0) (get_or b.p0 x 0)
    → get_or c.p1 x 0 ≡ bit_xor (get_or a.p1 x 0) (get_or b.p1 x 0)
    → get_or c.p2 x 0 ≡ bit_xor (get_or a.p2 x 0) (get_or b.p2 x 0)
    → get_or c.p3 x 0 ≡ bit_xor (get_or a.p3 x 0) (get_or b.p3 x 0)
    → get_or c.p4 x 0 ≡ bit_xor (get_or a.p4 x 0) (get_or b.p4 x 0)
    → get_or c.p5 x 0 ≡ bit_xor (get_or a.p5 x 0) (get_or b.p5 x 0)
    → get_or c.p6 x 0 ≡ bit_xor (get_or a.p6 x 0) (get_or b.p6 x 0)
    → get_or c.p7 x 0 ≡ bit_xor (get_or a.p7 x 0) (get_or b.p7 x 0)
    → lane_element c x k ≡ bit_xor (lane_element a x k) (lane_element b x k)
unfolding lane_element
element-plus a b c x k e0 e1 e2 e3 e4 e5 e6 e7 =
    let each = below_eight (λ i. get_or (plane c i) x 0 ≡ bit_xor (get_or (plane a i) x 0) (get_or (plane b i) x 0)) e0 e1 e2 e3 e4 e5 e6 e7 in
    sum_ext 8 (λ i. bit_at (get_or (plane c i) x 0) k * 2 ^ i) (λ i. bit_xor (bit_at (get_or (plane a i) x 0) k * 2 ^ i) (bit_at (get_or (plane b i) x 0) k * 2 ^ i))
    (λ i h. rw (each i h) ((bit_times-linear k (2 ^ i)).xor (get_or (plane a i) x 0) (get_or (plane b i) x 0)))
    ∙ sum_xor 8 (λ i. bit_at (get_or (plane a i) x 0) k * 2 ^ i) (λ i. bit_at (get_or (plane b i) x 0) k * 2 ^ i)

-- bit i of twice a byte, from its bits
abbrev doubled_bit : (ℕ → ℕ) → ℕ → ℕ
doubled_bit bits i = get_or (bits 7 ∷ bits 0 ∷ (bits 1 + bits 7) % 2 ∷ (bits 2 + bits 7) % 2 ∷ (bits 3 + bits 7) % 2 ∷ bits 4 ∷ bits 5 ∷ bits 6 ∷ []) i 0

twice_of_byte : (n : ℕ) → IsByte n → product 2 n ≡ byte_of (doubled_bit (bit_at n))
unfolding product reduced sum_below
twice_of_byte n h = agree_at 256 (product 2) (λ m. byte_of (doubled_bit (bit_at m))) refl n h

doubled_bit-ext : (f g : ℕ → ℕ) → ((i : ℕ) → i < 8 → f i ≡ g i) → (i : ℕ) → i < 8 → doubled_bit f i ≡ doubled_bit g i
doubled_bit-ext f g e =
    let at : (i j : ℕ) → i < 8 → j < 8 → (f i + f j) % 2 ≡ (g i + g j) % 2 = λ i j h l. rw (e i h, e j l) refl in
    below_eight (λ i. doubled_bit f i ≡ doubled_bit g i) (e 7 (lit< tt)) (e 0 (lit< tt)) (at 1 7 (lit< tt) (lit< tt)) (at 2 7 (lit< tt) (lit< tt)) (at 3 7 (lit< tt) (lit< tt)) (e 4 (lit< tt)) (e 5 (lit< tt)) (e 6 (lit< tt))

byte_of-ext : (f g : ℕ → ℕ) → ((i : ℕ) → i < 8 → f i ≡ g i) → byte_of f ≡ byte_of g
byte_of-ext f g e = sum_ext 8 (λ i. f i * 2 ^ i) (λ i. g i * 2 ^ i) (λ i h. rw (e i h) refl)

twice_of_bits : (bits : ℕ → ℕ) → ((i : ℕ) → i < 8 → bits i < 2) → product 2 (byte_of bits) ≡ byte_of (doubled_bit bits)
twice_of_bits bits two =
    twice_of_byte (byte_of bits) (bits_lt 8 bits two)
    ∙ byte_of-ext (doubled_bit (bit_at (byte_of bits))) (doubled_bit bits) (doubled_bit-ext (bit_at (byte_of bits)) bits (bit_of_sum 8 bits two))

-- bit k of the byte at x of each plane
abbrev lane_bit : Column → ℕ → ℕ → ℕ → ℕ
lane_bit c x k i = bit_at (get_or (plane c i) x 0) k

pub element-doubled : (a c : Column) (x k : ℕ)
    → get_or c.p0 x 0 ≡ get_or a.p7 x 0
    → get_or c.p1 x 0 ≡ get_or a.p0 x 0
    → get_or c.p2 x 0 ≡ bit_xor (get_or a.p1 x 0) (get_or a.p7 x 0)
    → get_or c.p3 x 0 ≡ bit_xor (get_or a.p2 x 0) (get_or a.p7 x 0)
    → get_or c.p4 x 0 ≡ bit_xor (get_or a.p3 x 0) (get_or a.p7 x 0)
    → get_or c.p5 x 0 ≡ get_or a.p4 x 0
    → get_or c.p6 x 0 ≡ get_or a.p5 x 0
    → get_or c.p7 x 0 ≡ get_or a.p6 x 0
    → lane_element c x k ≡ product 2 (lane_element a x k)
unfolding lane_element
element-doubled a c x k e0 e1 e2 e3 e4 e5 e6 e7 =
    let moved : (m n : ℕ) → m ≡ n → bit_at m k ≡ bit_at n k = λ m n e. ap (λ v. bit_at v k) e in
    let summed : (m n l : ℕ) → m ≡ bit_xor n l → bit_at m k ≡ (bit_at n k + bit_at l k) % 2 = λ m n l e. ap (λ v. bit_at v k) e ∙ bit_at_xor n l k in
    byte_of-ext (lane_bit c x k) (doubled_bit (lane_bit a x k))
    (below_eight (λ i. lane_bit c x k i ≡ doubled_bit (lane_bit a x k) i)
    (moved _ _ e0) (moved _ _ e1) (summed _ _ _ e2) (summed _ _ _ e3) (summed _ _ _ e4) (moved _ _ e5) (moved _ _ e6) (moved _ _ e7))
    ∙ sym (twice_of_bits (lane_bit a x k) (λ i h. bit_at-lt (get_or (plane a i) x 0) k))

-- The bytes of a column, where those of the chunk begin at `at` in each plane.
pub record HasBytes (c : Column) (chunk : List ℕ) (at : ℕ) : Type 0 where
  pub each : (i : ℕ) → i < 8 → (x : ℕ) → x < 16 → get_or (plane c i) x 0 ≡ get_or chunk (64 * i + at + x) 0

place : (at i e : ℕ) → at ≤ e / 8 → 64 * i + at + (e / 8 - at) ≡ 64 * i + e / 8
place at i e h = omega arith

pub column_elements : (c : Column) (chunk : List ℕ) (at : ℕ) → HasBytes c chunk at → HasElements c at (element chunk)
unfolding lane_element element
column_elements c chunk at b = record {
  each = λ e from to.
      byte_of-ext (lane_bit c (e / 8 - at) (e % 8)) (element_bit chunk e)
      (λ i h. ap (λ v. bit_at v (e % 8)) (b.each i h (e / 8 - at) (omega arith) ∙ ap (λ n. get_or chunk n 0) (place at i e from)));
}

pub loaded : (c : Column) (chunk other : List ℕ) (at : ℕ) → chunk ≡ other
    → ((x : ℕ) → x < 16 → get_or c.p0 x 0 ≡ get_or chunk (at + x) 0)
    → ((x : ℕ) → x < 16 → get_or c.p1 x 0 ≡ get_or chunk (64 + at + x) 0)
    → ((x : ℕ) → x < 16 → get_or c.p2 x 0 ≡ get_or chunk (128 + at + x) 0)
    → ((x : ℕ) → x < 16 → get_or c.p3 x 0 ≡ get_or chunk (192 + at + x) 0)
    → ((x : ℕ) → x < 16 → get_or c.p4 x 0 ≡ get_or chunk (256 + at + x) 0)
    → ((x : ℕ) → x < 16 → get_or c.p5 x 0 ≡ get_or chunk (320 + at + x) 0)
    → ((x : ℕ) → x < 16 → get_or c.p6 x 0 ≡ get_or chunk (384 + at + x) 0)
    → ((x : ℕ) → x < 16 → get_or c.p7 x 0 ≡ get_or chunk (448 + at + x) 0)
    → HasElements c at (element other)
loaded c chunk other at is e0 e1 e2 e3 e4 e5 e6 e7 =
    subst (λ (xs : List ℕ). HasElements c at (element xs)) is (column_elements c chunk at (record {
      each = below_eight (λ i. (x : ℕ) → x < 16 → get_or (plane c i) x 0 ≡ get_or chunk (64 * i + at + x) 0)
          (λ x h. rw (zero-add at) (e0 x h)) e1 e2 e3 e4 e5 e6 e7;
    }))

-- The first j planes of a column are written, and what lies in other columns stays.
pub record StoresPlanes (j : ℕ) (c : Column) (at : ℕ) (old new : List ℕ) : Type 0 where
  pub len : length new ≡ length old
  pub within : (i : ℕ) → i < j → (x : ℕ) → x < 16 → get_or new (64 * i + at + x) 0 ≡ get_or (plane c i) x 0
  pub below : (n : ℕ) → n % 64 < at → get_or new n 0 ≡ get_or old n 0
  pub above : (n : ℕ) → at + 16 ≤ n % 64 → get_or new n 0 ≡ get_or old n 0

pub stores_none : (c : Column) (at : ℕ) (old : List ℕ) → StoresPlanes 0 c at old old
stores_none c at old = record {
  len = refl;
  within = λ i h. absurd (omega arith);
  below = λ n h. refl;
  above = λ n h. refl;
}

pub stores_more : (j : ℕ) (c : Column) (at from : ℕ) (old mid new : List ℕ) → at + 16 ≤ 64 → from ≡ 64 * j + at → StoresPlanes j c at old mid → StoresLanes (plane c j) from mid new → StoresPlanes (j + 1) c at old new
stores_more j c at from old mid new room is s l = record {
  len = l.len ∙ s.len;
  within = λ i h x k.
      elim (cases_lt i j) [
        | inl first ↦ l.below (64 * i + at + x) (omega arith) ∙ s.within i first x k
        | inr last ↦
            let same : i ≡ j = omega arith in
            rw (same, ← is) (l.within x k)
      ];
  below = λ n h.
      elim (cases_lt n from) [
        | inl before ↦ l.below n before ∙ s.below n h
        | inr after ↦ l.above n (omega arith) ∙ s.below n h
      ];
  above = λ n h.
      elim (cases_lt n from) [
        | inl before ↦ l.below n before ∙ s.above n h
        | inr after ↦ l.above n (omega arith) ∙ s.above n h
      ];
}

same_element : (old new : List ℕ) (e : ℕ) → ((i : ℕ) → i < 8 → get_or new (64 * i + e / 8) 0 ≡ get_or old (64 * i + e / 8) 0) → element new e ≡ element old e
unfolding element
same_element old new e same =
    byte_of-ext (element_bit new e) (element_bit old e) (λ i h. ap (λ v. bit_at v (e % 8)) (same i h))

pub stores_column : (c : Column) (at : ℕ) (old new : List ℕ) → at + 16 ≤ 64 → IsChunk new → StoresPlanes 8 c at old new → StoresColumn c at old new
stores_column c at old new room chunk s = record {
  len = s.len;
  within = λ e from to. sym ((column_elements c new at (record { each = λ i h x k. sym (s.within i h x k) })).each e from to);
  below = λ e h. same_element old new e (λ i l. s.below (64 * i + e / 8) (omega arith));
  above = λ e from to. same_element old new e (λ i l. s.above (64 * i + e / 8) (omega arith));
  chunk = chunk;
}
