-- The bytes of a chunk and its elements, each by the other.
use Rattle.std.proofs.Common.{◌≡◌, ℕ, ◌+◌, ◌*◌, ◌/◌, ◌%◌, ◌^◌, ◌<◌, List, refl, sym, ◌∙◌, ap, arith}
use Rattle.std.specs.Prelude.{slice_index}
use Rattle.std.specs.Int.{bit_at}
use Rattle.std.proofs.lemmas.Nat.Bits.{bit_at-lt, same_from_bits_below}
use Rattle.ec_field.specs.Field.{IsByte}
use Rattle.ec_field.specs.Chunk.{byte_of, element}
use Rattle.ec_field.specs.Code.{chunk_at, combined_element}
use Rattle.ec_field.proofs.Bits.{bit_of_sum, low_bits}
use Rattle.ec_field.proofs.Elements.{bit_of_element, element_is_byte}
use Rattle.ec_field.proofs.Sums.{sum_ext}
use Rattle.ec_matrix.proofs.Matrices.{ByteRow, row_times_is_byte}

-- byte i of the chunk that has these elements
abbrev pub byte_from : (ℕ → ℕ) → ℕ → ℕ
byte_from elements i = byte_of (λ j. bit_at (elements (8 * (i % 64) + j)) (i / 64))

bit_there : (chunk : List ℕ) (i j : ℕ) → i < 512 → j < 8 → bit_at (element chunk (8 * (i % 64) + j)) (i / 64) ≡ bit_at (slice_index chunk i) j
bit_there chunk i j lt h =
    let column : (8 * (i % 64) + j) / 8 ≡ i % 64 = omega (arith, h) in
    let bit : (8 * (i % 64) + j) % 8 ≡ j = omega (arith, h) in
    let place : 64 * (i / 64) + i % 64 ≡ i = omega arith in
    bit_of_element chunk (8 * (i % 64) + j) (i / 64) (omega (arith, lt)) ∙ rw (column, bit, place) refl

-- the low eight bits of a number of a chunk
pub low_byte : (chunk : List ℕ) (i : ℕ) → i < 512 → slice_index chunk i % 2 ^ 8 ≡ byte_from (element chunk) i
low_byte chunk i lt =
    sym (low_bits 8 (slice_index chunk i))
    ∙ sum_ext 8 (λ j. bit_at (slice_index chunk i) j * 2 ^ j) (λ j. bit_at (element chunk (8 * (i % 64) + j)) (i / 64) * 2 ^ j) (λ j h. ap (λ x. x * 2 ^ j) (sym (bit_there chunk i j lt h)))

pub same_byte_from : (c d : ℕ → ℕ) → ((e : ℕ) → e < 512 → c e ≡ d e) → (i : ℕ) → i < 512 → byte_from c i ≡ byte_from d i
same_byte_from c d same i lt =
    sum_ext 8 (λ j. bit_at (c (8 * (i % 64) + j)) (i / 64) * 2 ^ j) (λ j. bit_at (d (8 * (i % 64) + j)) (i / 64) * 2 ^ j) (λ j h. ap (λ x. bit_at x (i / 64) * 2 ^ j) (same (8 * (i % 64) + j) (omega (arith, h))))

-- the bits of the bytes of the elements are those of the elements
bit_back : (c : ℕ → ℕ) (e i : ℕ) → e < 512 → i < 8 → bit_at (byte_from c (64 * i + e / 8)) (e % 8) ≡ bit_at (c e) i
bit_back c e i l h =
    let row : (64 * i + e / 8) % 64 ≡ e / 8 = omega (arith, l) in
    let plane : (64 * i + e / 8) / 64 ≡ i = omega (arith, l) in
    let here : 8 * (e / 8) + e % 8 ≡ e = omega arith in
    bit_of_sum 8 (λ j. bit_at (c (8 * ((64 * i + e / 8) % 64) + j)) ((64 * i + e / 8) / 64)) (λ j p. bit_at-lt (c (8 * ((64 * i + e / 8) % 64) + j)) ((64 * i + e / 8) / 64)) (e % 8) (omega arith)
    ∙ rw (row, plane, here) refl

-- elements whose bytes are equal are equal
pub same_elements : (c d : ℕ → ℕ) → ((e : ℕ) → e < 512 → IsByte (c e)) → ((e : ℕ) → e < 512 → IsByte (d e)) → ((i : ℕ) → i < 512 → byte_from c i ≡ byte_from d i) → (e : ℕ) → e < 512 → c e ≡ d e
same_elements c d byte also same e l =
    same_from_bits_below 8 (c e) (d e) (byte e l) (also e l)
    (λ i h. sym (bit_back c e i l h) ∙ ap (λ x. bit_at x (e % 8)) (same (64 * i + e / 8) (omega (arith, l, h))) ∙ bit_back d e i l h)

-- a chunk that has the bytes of elements has these elements
pub elements_from : (chunk : List ℕ) (c : ℕ → ℕ) → ((e : ℕ) → e < 512 → IsByte (c e)) → ((i : ℕ) → i < 512 → slice_index chunk i ≡ byte_from c i) → (e : ℕ) → e < 512 → element chunk e ≡ c e
elements_from chunk c byte same e l =
    same_from_bits_below 8 (element chunk e) (c e) (element_is_byte chunk e) (byte e l)
    (λ i h. bit_of_element chunk e i h ∙ ap (λ x. bit_at x (e % 8)) (same (64 * i + e / 8) (omega (arith, l, h))) ∙ bit_back c e i l h)

-- what a row of bytes makes of a stripe is a byte
pub combined_is_byte : (k : ℕ) (row : ℕ → ℕ) (x : List (List ℕ)) (e : ℕ) → ByteRow k row → IsByte (combined_element k row x e)
combined_is_byte k row x e byte = row_times_is_byte k row (λ j. element (chunk_at x j) e) byte (λ j l. element_is_byte (chunk_at x j) e)
