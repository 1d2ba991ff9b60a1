-- Chunks by their elements.
use Rattle.std.proofs.Common.{◌≡◌, ℕ, ◌+◌, ◌*◌, ◌/◌, ◌%◌, ◌^◌, ◌<◌, List, get_or, inl, inr, ap, sym, ◌∙◌, arith, lit<}
use Rattle.std.specs.Prelude.{replicate}
use Rattle.std.proofs.lemmas.Bool.{cases_lt}
use Rattle.std.proofs.lemmas.Grind.{same_number_lists}
use Rattle.std.proofs.Math.Nat.{zero-mul}
use Rattle.std.proofs.lemmas.List.{length-replicate, get_or-replicate, get_or_past}
use Rattle.std.specs.Prelude.{bit_xor}
use Rattle.std.specs.Int.{bit_at}
use Rattle.ec_field.specs.Field.{IsByte}
use Rattle.ec_field.specs.Chunk.{element_bit, element, zero_chunk, IsChunk}
use Rattle.ec_field.proofs.Sums.{sum_ext, sum_xor, sum_zeros}
use Rattle.ec_field.proofs.Linear.{bit_times-linear}
use Rattle.ec_field.proofs.Bits.{bit_of_sum, bits_lt}
use Rattle.std.proofs.lemmas.Nat.Bits.{bit_at-lt, bit_at-zero, same_from_bits_below}

-- bit i of element e lies in plane i
pub bit_of_element : (chunk : List ℕ) (e i : ℕ) → i < 8 → bit_at (element chunk e) i ≡ element_bit chunk e i
unfolding element
bit_of_element chunk e i h = bit_of_sum 8 (element_bit chunk e) (λ j l. bit_at-lt (get_or chunk (64 * j + e / 8) 0) (e % 8)) i h

pub element_is_byte : (chunk : List ℕ) (e : ℕ) → IsByte (element chunk e)
unfolding element
element_is_byte chunk e = bits_lt 8 (element_bit chunk e) (λ j l. bit_at-lt (get_or chunk (64 * j + e / 8) 0) (e % 8))

bit_times-xor : (a b i x : ℕ) → bit_at (bit_xor a b) i * x ≡ bit_xor (bit_at a i * x) (bit_at b i * x)
bit_times-xor a b i x = (bit_times-linear i x).xor a b

-- the element of planes that are sums
pub element-xor : (a b c : List ℕ) → ((p : ℕ) → p < 512 → get_or c p 0 ≡ bit_xor (get_or a p 0) (get_or b p 0))
    → (e : ℕ) → e < 512 → element c e ≡ bit_xor (element a e) (element b e)
unfolding element
element-xor a b c each e h =
    sum_ext 8 (λ i. element_bit c e i * 2 ^ i) (λ i. bit_xor (element_bit a e i * 2 ^ i) (element_bit b e i * 2 ^ i))
    (λ i l. rw (each (64 * i + e / 8) (omega arith))
    (bit_times-xor (get_or a (64 * i + e / 8) 0) (get_or b (64 * i + e / 8) 0) (e % 8) (2 ^ i)))
    ∙ sum_xor 8 (λ i. element_bit a e i * 2 ^ i) (λ i. element_bit b e i * 2 ^ i)

-- the element of zeros
pub element-zeros : (chunk : List ℕ) → ((p : ℕ) → p < 512 → get_or chunk p 0 ≡ 0) → (e : ℕ) → e < 512 → element chunk e ≡ 0
unfolding element
element-zeros chunk each e h =
    sum_zeros 8 (λ i. element_bit chunk e i * 2 ^ i)
    (λ i l. rw (each (64 * i + e / 8) (omega arith), bit_at-zero (e % 8)) (zero-mul (2 ^ i)))

same_byte : (a b : List ℕ) → IsChunk a → IsChunk b → ((e : ℕ) → e < 512 → element a e ≡ element b e) → (k : ℕ) → k < 512 → get_or a k 0 ≡ get_or b k 0
same_byte a b p q same k h =
    same_from_bits_below 8 (get_or a k 0) (get_or b k 0) (p.bytes k) (q.bytes k)
    (λ j l.
    let e : ℕ = 8 * (k % 64) + j in
    let plane : k / 64 < 8 = omega arith in
    let row : e / 8 ≡ k % 64 = omega arith in
    let column : e % 8 ≡ j = omega arith in
    let byte : 64 * (k / 64) + e / 8 ≡ k = omega arith in
    let read : (x : List ℕ) → bit_at (element x e) (k / 64) ≡ bit_at (get_or x k 0) j =
    λ x. bit_of_element x e (k / 64) plane ∙ ap (λ m. bit_at (get_or x m 0) (e % 8)) byte ∙ ap (bit_at (get_or x k 0)) column in
    sym (read a) ∙ ap (λ n. bit_at n (k / 64)) (same e (omega arith)) ∙ read b)

-- chunks with the same elements are equal
pub same_chunk : (a b : List ℕ) → IsChunk a → IsChunk b → ((e : ℕ) → e < 512 → element a e ≡ element b e) → a ≡ b
same_chunk a b p q same =
    same_number_lists a b (p.len ∙ sym q.len) (λ k h. same_byte a b p q same k (omega (arith, p.len)))

pub zero_at : (i : ℕ) → get_or zero_chunk i 0 < 2 ^ 8
unfolding zero_chunk
zero_at i =
    elim (cases_lt i 512) [
      | inl below ↦ rw (get_or-replicate {A = ℕ} 512 i 0 0 below) (lit< tt)
      | inr past ↦ rw (get_or_past {X = ℕ} (replicate 512 0) i 0 (rw (length-replicate {A = ℕ} 512 0) past)) (lit< tt)
    ]

pub zero_is_chunk : IsChunk zero_chunk
unfolding zero_chunk
zero_is_chunk = record { len = (let n : ℕ = 512 in length-replicate {A = ℕ} n 0); bytes = zero_at }
