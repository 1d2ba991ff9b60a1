-- Elements and their bits in planes.
use Rattle.std.proofs.Common.{◌≡◌, ℕ, zero, suc, ◌+◌, ◌*◌, ◌/◌, ◌%◌, ◌^◌, ◌<◌, List, [], ◌∷◌, map, length, get_or, set, Bool, false, cond, eqb, ◌⊎◌, inl, inr, refl, ap, sym, ◌∙◌, arith, subst, Fits, w8, get_or-set_other, get_or-set_same, length-set, ◌≢◌}
use Rattle.std.specs.Prelude.{bit_and, replicate}
use Rattle.std.specs.Int.{bit_at}
use Rattle.std.proofs.lemmas.Bool.{cases_lt, eq-eqb, ne_eqb, cond-true, cond-false}
use Rattle.std.proofs.lemmas.Grind.{same_number_lists}
use Rattle.std.proofs.lemmas.List.{length-map}
use Rattle.std.proofs.lemmas.Nat.{pow_pos}
use Rattle.std.proofs.lemmas.Nat.Bits.{and_pow, same_from_bits_below}
use Rattle.std.proofs.lemmas.Simd.{bitmask_splat, bit_mask_l, mask_l-lt, zip2_splat, length-zip2, length-replicate, map-map}
use Rattle.std.proofs.Math.Nat.{zero-mul, one-mul, mod-eq_of_lt}
use Rattle.std.proofs.Math.Pow.{pow-lt}
use lib.Lanes.{zip2, mask_l, top}
use Rattle.ec_field.specs.Chunk.{element, element_bit, IsChunk}
use Rattle.ec_field.proofs.Linear.{bit_cases}
use Rattle.ec_field.proofs.Elements.{bit_of_element, element_is_byte, same_chunk}
use Rattle.ec_bitslice.specs.Packing.{IsPacked}

-- the test of one bit
bit_test : (n i : ℕ) → (bit_at n i ≡ 0) ⊎ (bit_at n i ≡ 1) → cond (eqb (bit_and n (2 ^ i)) (2 ^ i)) 1 0 ≡ bit_at n i
bit_test n i (inl e) =
    let none : bit_and n (2 ^ i) ≡ 0 = and_pow n i ∙ ap (λ b. b * 2 ^ i) e ∙ zero-mul (2 ^ i) in
    let some : 0 < 2 ^ i = pow_pos i in
    let differs : bit_and n (2 ^ i) ≢ 2 ^ i = λ same. absurd (omega (arith, none, some, same)) in
    cond-false _ _ _ (ne_eqb (bit_and n (2 ^ i)) (2 ^ i) differs) ∙ sym e
bit_test n i (inr e) =
    let same : bit_and n (2 ^ i) ≡ 2 ^ i = and_pow n i ∙ ap (λ b. b * 2 ^ i) e ∙ one-mul (2 ^ i) in
    cond-true _ _ _ (eq-eqb (bit_and n (2 ^ i)) (2 ^ i) same) ∙ sym e

mapped_at : (p : ℕ → Bool) (v : List ℕ) (k : ℕ) → k < length v → get_or (map p v) k false ≡ p (get_or v k 0)
mapped_at p [] k h = absurd (omega arith)
mapped_at p (x ∷ v) zero h = refl
mapped_at p (x ∷ v) (suc k) h = mapped_at p v k (omega arith)

module _ (v : List ℕ) (i m r : ℕ) (long : length v ≡ 8) (is : m ≡ 2 ^ i)
    (mask : r ≡ mask_l (map (top 7) (zip2 (λ a b. cond (eqb a b) 255 0) (zip2 bit_and v (replicate 8 m)) (replicate 8 m))) % 2 ^ 64) where
  abbrev test : ℕ → Bool
  test x = eqb (bit_and x m) m

  tests : r ≡ mask_l (map test v)
  tests =
      let xs = zip2 bit_and v (replicate 8 m) in
      let eight : length xs ≡ 8 = length-zip2 bit_and v (replicate 8 m) (long ∙ sym (length-replicate 8 m)) ∙ long in
      mask ∙ bitmask_splat w8 eqb xs 8 m eight (omega arith)
      ∙ ap (λ l. mask_l (map (λ x. eqb x m) l)) (zip2_splat bit_and v 8 m long)
      ∙ ap mask_l (map-map (λ x. eqb x m) (λ x. bit_and x m) v)

  pub mask_fits : r < 2 ^ 8
  mask_fits =
      let low = mask_l-lt (map test v) in
      let eight : length (map test v) ≡ 8 = length-map v test ∙ long in
      subst (λ n. n < 2 ^ 8) (sym tests) (subst (λ n. mask_l (map test v) < 2 ^ n) eight low)

  pub mask_bit : (k : ℕ) → k < 8 → bit_at r k ≡ bit_at (get_or v k 0) i
  mask_bit k h =
      ap (λ n. bit_at n k) tests ∙ bit_mask_l (map test v) k
      ∙ ap (λ b. cond b 1 0) (mapped_at test v k (omega arith))
      ∙ ap (λ n. cond (eqb (bit_and (get_or v k 0) n) n) 1 0) is
      ∙ bit_test (get_or v k 0) i (bit_cases (get_or v k 0) i)

pub bit_value : (i : ℕ) → i < 8 → 1 * 2 ^ i % 2 ^ 8 ≡ 2 ^ i
bit_value i h = let less : 2 ^ i < 2 ^ 8 = pow-lt h in ap (λ n. n % 2 ^ 8) (one-mul (2 ^ i)) ∙ mod-eq_of_lt less

-- The first n bytes of the planes have the bits of the elements.
pub record HasPlanes (n : ℕ) (elements planes : List ℕ) : Type 0 where
  pub len : length planes ≡ 512
  pub each : (p : ℕ) → p < n → (k : ℕ) → k < 8 → bit_at (get_or planes p 0) k ≡ bit_at (get_or elements (8 * (p % 64) + k) 0) (p / 64)

pub planes_none : (elements planes : List ℕ) → length planes ≡ 512 → HasPlanes 0 elements planes
planes_none elements planes long = record { len = long; each = λ p h. absurd (omega arith) }

pub planes_more : (i byte value : ℕ) (elements planes : List ℕ) → i < 8 → byte < 64
    → ((k : ℕ) → k < 8 → bit_at value k ≡ bit_at (get_or elements (8 * byte + k) 0) i)
    → HasPlanes (64 * i + byte) elements planes → HasPlanes (64 * i + (byte + 1)) elements (set planes (64 * i + byte) value)
planes_more i byte value elements planes bit within bits h = record {
  len = length-set planes (64 * i + byte) value ∙ h.len;
  each = λ p l k m.
      elim (cases_lt p (64 * i + byte)) [
        | inl before ↦
            let other : p ≢ 64 * i + byte = λ same. absurd (omega arith) in
            ap (λ n. bit_at n k) (get_or-set_other planes (64 * i + byte) p value 0 other) ∙ h.each p before k m
        | inr here ↦
            let same : p ≡ 64 * i + byte = omega arith in
            let long = h.len in
            let room : 64 * i + byte < length planes = omega arith in
            let low : (64 * i + byte) % 64 ≡ byte = omega arith in
            let high : (64 * i + byte) / 64 ≡ i = omega arith in
            rw (same, get_or-set_same planes (64 * i + byte) value 0 room, low, high) (bits k m)
      ];
}

pub planes_row : (i : ℕ) (elements planes : List ℕ) → HasPlanes (64 * i + 64) elements planes → HasPlanes (64 * (i + 1)) elements planes
planes_row i elements planes h = record { len = h.len; each = λ p l k m. h.each p (omega arith) k m }

pub planes_packed : (elements planes chunk : List ℕ) → chunk ≡ planes → ((e : ℕ) → Fits w8 (get_or elements e 0)) → HasPlanes 512 elements planes → IsPacked elements chunk
planes_packed elements planes chunk is bytes h e l =
    same_from_bits_below 8 (element chunk e) (get_or elements e 0) (element_is_byte chunk e) (let b : Fits w8 (get_or elements e 0) = bytes e in b.fits)
    (λ i m.
    let low : (64 * i + e / 8) % 64 ≡ e / 8 = omega arith in
    let high : (64 * i + e / 8) / 64 ≡ i = omega arith in
    let place : 8 * (e / 8) + e % 8 ≡ e = omega arith in
    bit_of_element chunk e i m
    ∙ ap (λ c. element_bit c e i) is
    ∙ h.each (64 * i + e / 8) (omega arith) (e % 8) (omega arith)
    ∙ rw (low, high, place) refl)

pub same_packed : (elements a b : List ℕ) → IsChunk a → IsChunk b → IsPacked elements a → IsPacked elements b → a ≡ b
same_packed elements a b p q f g = same_chunk a b p q (λ e h. f e h ∙ sym (g e h))

pub same_unpacked : (chunk xs ys : List ℕ) → length xs ≡ 512 → length ys ≡ 512 → IsPacked xs chunk → IsPacked ys chunk → xs ≡ ys
same_unpacked chunk xs ys p q f g = same_number_lists xs ys (p ∙ sym q) (λ e h. sym (f e (omega arith)) ∙ g e (omega arith))

pub unpacked_more : (e place value : ℕ) (chunk out : List ℕ) → place ≡ e → e < length out → value ≡ element chunk e
    → ((n : ℕ) → n < e → element chunk n ≡ get_or out n 0) → (n : ℕ) → n < e + 1 → element chunk n ≡ get_or (set out place value) n 0
unpacked_more e place value chunk out at room is h n l =
    rw at
    (elim (cases_lt n e) [
      | inl before ↦
          let other : n ≢ e = λ same. absurd (omega arith) in
          h n before ∙ sym (get_or-set_other out e n value 0 other)
      | inr here ↦
          let same : n ≡ e = omega arith in
          rw (same, get_or-set_same out e value 0 room) (sym is)
    ])
