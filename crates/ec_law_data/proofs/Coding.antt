-- The bytes of a code.
use Rattle.std.proofs.Common.{◌≡◌, ℕ, ◌+◌, ◌*◌, ◌/◌, ◌%◌, ◌^◌, ◌<◌, List, refl, sym, ◌∙◌, ap, arith}
use Rattle.std.specs.Prelude.{slice_index}
use Rattle.std.specs.Int.{bit_at}
use Rattle.std.proofs.Math.Nat.{zero-mul}
use Rattle.std.proofs.lemmas.List.{get_or-replicate}
use Rattle.std.proofs.lemmas.Nat.Bits.{bit_at-zero}
use Rattle.ec_field.specs.Chunk.{IsChunk, element, zero_chunk}
use Rattle.ec_field.specs.Code.{chunk_at, combined_element}
use Rattle.ec_field.specs.Field.{product}
use Rattle.ec_field.proofs.Bits.{byte_by_bits}
use Rattle.ec_field.proofs.Elements.{bit_of_element, element-zeros}
use Rattle.ec_field.proofs.Products.{product-zero_right}
use Rattle.ec_field.proofs.Sums.{sum_ext, sum_zeros}
use Rattle.ec_law_data.specs.Coding.{CodingLaws, by_rows, code_byte}
use Rattle.ec_law_data.specs.Forms.{CodesZeros, zero_stripe}

zero_byte : (i : ℕ) → i < 512 → slice_index zero_chunk i ≡ 0
unfolding zero_chunk
zero_byte i lt = get_or-replicate {A = ℕ} 512 i 0 0 lt

zero_element : (e : ℕ) → e < 512 → element zero_chunk e ≡ 0
zero_element e lt = element-zeros zero_chunk (λ p h. zero_byte p h) e lt

combined_zero : (k : ℕ) (row : ℕ → ℕ) (e : ℕ) → e < 512 → combined_element k row (zero_stripe k) e ≡ 0
combined_zero k row e lt = sum_zeros k (λ j. product (row j) (element (chunk_at (zero_stripe k) j) e)) (λ j l. ap (product (row j)) (ap (λ c. element c e) (get_or-replicate {A = List ℕ} k j zero_chunk _ l) ∙ zero_element e lt) ∙ product-zero_right (row j))

zeros : (k : ℕ) (rows : ℕ → ℕ → ℕ) → CodesZeros k (by_rows k rows)
zeros k rows b i lt = sum_zeros 8 (λ j. bit_at (combined_element k (rows b) (zero_stripe k) (8 * (i % 64) + j)) (i / 64) * 2 ^ j) (λ j h. ap (λ x. bit_at x (i / 64) * 2 ^ j) (combined_zero k (rows b) (8 * (i % 64) + j) (omega arith)) ∙ (ap (λ x. x * 2 ^ j) (bit_at-zero (i / 64)) ∙ zero-mul (2 ^ j)))

bit_there : (chunk : List ℕ) (i j : ℕ) → i < 512 → j < 8 → bit_at (element chunk (8 * (i % 64) + j)) (i / 64) ≡ bit_at (slice_index chunk i) j
bit_there chunk i j lt h =
    let column : (8 * (i % 64) + j) / 8 ≡ i % 64 = omega (arith, h) in
    let bit : (8 * (i % 64) + j) % 8 ≡ j = omega (arith, h) in
    let place : 64 * (i / 64) + i % 64 ≡ i = omega arith in
    bit_of_element chunk (8 * (i % 64) + j) (i / 64) (omega (arith, lt)) ∙ rw (column, bit, place) refl

bytes : (k : ℕ) (row : ℕ → ℕ) (stripe : List (List ℕ)) (chunk : List ℕ) → IsChunk chunk → ((e : ℕ) → e < 512 → element chunk e ≡ combined_element k row stripe e) → (i : ℕ) → i < 512 → slice_index chunk i ≡ code_byte k row stripe i
bytes k row stripe chunk is elements i lt =
    sym (byte_by_bits (slice_index chunk i) (is.bytes i))
    ∙ sum_ext 8 (λ j. bit_at (slice_index chunk i) j * 2 ^ j) (λ j. bit_at (combined_element k row stripe (8 * (i % 64) + j)) (i / 64) * 2 ^ j)
    (λ j h. ap (λ x. x * 2 ^ j) (sym (bit_there chunk i j lt h) ∙ ap (λ x. bit_at x (i / 64)) (elements (8 * (i % 64) + j) (omega (arith, h)))))

pub coding_laws : CodingLaws
coding_laws = record { zeros = zeros; bytes = bytes }
