-- Elements of chunks that are made byte by byte.
use Rattle.std.proofs.Common.{◌≡◌, ◌≢◌, ℕ, ◌+◌, ◌*◌, ◌/◌, ◌%◌, ◌^◌, ◌<◌, List, length, get_or, set, refl, ap, ◌∙◌, arith, below_more, get_or-set_other, get_or-set_same, ◌⊎◌, inl, inr, lit<, bit_and}
use Rattle.std.specs.Prelude.{slice_index}
use Rattle.std.specs.Int.{bit_at}
use Rattle.std.proofs.Math.Nat.{zero-mul, one-mul, mod-eq_of_lt}
use Rattle.std.proofs.Math.Pow.{pow-lt}
use Rattle.std.proofs.lemmas.Nat.Bits.{bit_at-lt, shr_and_one}
use Rattle.ec_field.specs.Field.{IsByte}
use Rattle.ec_field.specs.Chunk.{element, byte_of}
use Rattle.ec_field.proofs.Sums.{sum_ext}
use Rattle.ec_field.proofs.Linear.{bit_cases}
use Rattle.ec_field.proofs.Bits.{byte_by_bits, bit_of_sum}

-- the byte at a place of the chunk of these elements
abbrev pub plane_byte_at : List ℕ → ℕ → ℕ
plane_byte_at elements place = byte_of (λ j. bit_at (slice_index elements (8 * (place % 64) + j)) (place / 64))

plane_bit : (elements : List ℕ) (place i : ℕ) → i < 8 → bit_at (plane_byte_at elements place) i ≡ bit_at (slice_index elements (8 * (place % 64) + i)) (place / 64)
plane_bit elements place i h =
    bit_of_sum 8 (λ j. bit_at (slice_index elements (8 * (place % 64) + j)) (place / 64)) (λ j l. bit_at-lt (slice_index elements (8 * (place % 64) + j)) (place / 64)) i h

element_bit_here : (elements : List ℕ) (e i : ℕ) → e < 512 → i < 8 → bit_at (plane_byte_at elements (64 * i + e / 8)) (e % 8) ≡ bit_at (slice_index elements e) i
element_bit_here elements e i l h =
    let column : (64 * i + e / 8) % 64 ≡ e / 8 = omega arith in
    let plane : (64 * i + e / 8) / 64 ≡ i = omega arith in
    let whole : 8 * (e / 8) + e % 8 ≡ e = omega arith in
    plane_bit elements (64 * i + e / 8) (e % 8) (omega arith) ∙ rw (column, plane, whole) refl

-- a chunk whose bytes are those of elements has these elements
pub element_of_planes : (elements bytes : List ℕ) → ((i : ℕ) → IsByte (slice_index elements i)) → ((place : ℕ) → place < 512 → slice_index bytes place ≡ plane_byte_at elements place) → (e : ℕ) → e < 512 → element bytes e ≡ slice_index elements e
unfolding element
element_of_planes elements bytes small is e l =
    sum_ext 8 (λ i. bit_at (slice_index bytes (64 * i + e / 8)) (e % 8) * 2 ^ i) (λ i. bit_at (slice_index elements e) i * 2 ^ i)
    (λ i h. ap (λ b. b * 2 ^ i) (ap (λ b. bit_at b (e % 8)) (is (64 * i + e / 8) (omega arith)) ∙ element_bit_here elements e i l h))
    ∙ byte_by_bits (slice_index elements e) (small e)

-- one byte more is as it should be
pub one_more_byte : (f : ℕ → ℕ) (bytes : List ℕ) (place b : ℕ) → place < length bytes → ((k : ℕ) → k < place → get_or bytes k 0 ≡ f k) → b ≡ f place → (k : ℕ) → k < place + 1 → get_or (set bytes place b) k 0 ≡ f k
one_more_byte f bytes place b inside so here =
    below_more _ _
    (λ k h. let ne : k ≢ place = omega arith in rw get_or-set_other (so k h))
    (rw get_or-set_same here)

shifted_bit_lt : (b j : ℕ) → (b ≡ 0) ⊎ (b ≡ 1) → j < 8 → b * 2 ^ j < 2 ^ 8
shifted_bit_lt b j (inl e) h = rw (e, zero-mul (2 ^ j)) (lit< tt)
shifted_bit_lt b j (inr e) h = rw (e, one-mul (2 ^ j)) (pow-lt h)

-- one bit of a number, taken out and put at a place, as a byte computes it
pub moved_bit : (n from to : ℕ) → to < 8 → bit_and (n / 2 ^ from) 1 * 2 ^ to % 256 ≡ bit_at n from * 2 ^ to
moved_bit n from to h = rw (shr_and_one n from) (mod-eq_of_lt (shifted_bit_lt (bit_at n from) to (bit_cases n from) h))
