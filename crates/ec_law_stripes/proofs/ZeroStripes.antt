-- A stripe whose bytes are all 0 is the stripe of zeros, and the bytes of a stripe are bytes.
use Rattle.std.proofs.Common.{◌≡◌, ℕ, ◌+◌, ◌*◌, ◌/◌, ◌%◌, ◌^◌, ◌<◌, List, [], length, replicate, sym, ◌∙◌, subst, arith}
use Rattle.std.specs.Prelude.{slice_index}
use Rattle.std.proofs.lemmas.List.{ext_get_or, get_or-replicate, length-replicate}
use Rattle.ec_conduct.specs.Data.{stripe_byte}
use Rattle.ec_field.specs.Chunk.{zero_chunk}
use Rattle.ec_field.specs.Code.{IsStripe, chunk_at}
use Rattle.ec_stripe.specs.Span.{stripe_bytes}
use Rattle.ec_law_data.specs.Forms.{zero_stripe}

zero_chunk_is : (chunk : List ℕ) → length chunk ≡ 512 → ((i : ℕ) → i < 512 → slice_index chunk i ≡ 0) → chunk ≡ zero_chunk
unfolding zero_chunk
zero_chunk_is chunk len zeros = ext_get_or 0 chunk (replicate 512 0) (len ∙ sym (length-replicate {A = ℕ} 512 0)) (λ i lt. let l : i < 512 = omega (arith, lt, len) in zeros i l ∙ sym (get_or-replicate {A = ℕ} 512 i 0 0 l))

pub zero_stripe_is : (k : ℕ) (x : List (List ℕ)) → IsStripe k x → ((i : ℕ) → i < stripe_bytes k → stripe_byte x i ≡ 0) → x ≡ zero_stripe k
zero_stripe_is k x is zeros = ext_get_or [] x (zero_stripe k) (is.len ∙ sym (length-replicate {A = List ℕ} k zero_chunk)) (λ j lt. let l : j < k = (let e = is.len in omega (arith, lt, e)) in chunk j l ∙ sym (get_or-replicate {A = List ℕ} k j zero_chunk [] l))
  where
    chunk : (j : ℕ) → j < k → chunk_at x j ≡ zero_chunk
    chunk j l = zero_chunk_is (chunk_at x j) (is.chunks j l).len (λ i h.
        let here : (512 * j + i) / 512 ≡ j = omega (arith, h) in
        let there : (512 * j + i) % 512 ≡ i = omega (arith, h) in
        let below : 512 * j + i < stripe_bytes k = omega (arith, h, l) in
        subst (λ (q : ℕ). slice_index (chunk_at x j) q ≡ 0) there (subst (λ (p : ℕ). slice_index (chunk_at x p) ((512 * j + i) % 512) ≡ 0) here (zeros (512 * j + i) below)))

pub byte_small : (k : ℕ) (x : List (List ℕ)) (i : ℕ) → IsStripe k x → i < stripe_bytes k → stripe_byte x i < 2 ^ 8
byte_small k x i is lt = (is.chunks (i / 512) (omega (arith, lt))).bytes (i % 512)
