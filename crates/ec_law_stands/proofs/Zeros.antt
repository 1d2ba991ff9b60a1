-- A stripe of zeros, whose code is zeros.
use Rattle.std.proofs.Common.{◌≡◌, ℕ, ◌/◌, ◌%◌, ◌<◌, arith, List, [], slice_index, sym, ◌∙◌, ap, subst}
use Rattle.std.proofs.lemmas.List.{get_or-replicate, length-replicate}
use Rattle.ec_conduct.specs.Data.{stripe_byte}
use Rattle.ec_field.proofs.Elements.{element-zeros, zero_is_chunk}
use Rattle.ec_field.proofs.Products.{product-zero_right}
use Rattle.ec_field.proofs.Sums.{sum_zeros}
use Rattle.ec_field.specs.Chunk.{IsChunk, element, zero_chunk}
use Rattle.ec_field.specs.Code.{IsCode, IsStripe, chunk_at}
use Rattle.ec_field.specs.Field.{product}
use Rattle.ec_matrix.specs.Inverse.{IsByteRow}
use Rattle.ec_stripe.specs.Span.{stripe_bytes}
use Rattle.ec_law_data.specs.Forms.{zero_stripe}

pub zero_byte : (i : ℕ) → i < 512 → slice_index zero_chunk i ≡ 0
unfolding zero_chunk
zero_byte i l = get_or-replicate {A = ℕ} 512 i 0 0 l

zero_element : (e : ℕ) → e < 512 → element zero_chunk e ≡ 0
zero_element e l = element-zeros zero_chunk (λ p h. zero_byte p h) e l

zero_chunk_at : (k j : ℕ) → j < k → chunk_at (zero_stripe k) j ≡ zero_chunk
zero_chunk_at k j l = get_or-replicate {A = List ℕ} k j zero_chunk [] l

pub zero_is_stripe : (k : ℕ) → IsStripe k (zero_stripe k)
zero_is_stripe k = record { len = length-replicate {A = List ℕ} k zero_chunk; chunks = λ j l. subst IsChunk (sym (zero_chunk_at k j l)) zero_is_chunk }

pub zero_stripe_byte : (k i : ℕ) → i < stripe_bytes k → stripe_byte (zero_stripe k) i ≡ 0
zero_stripe_byte k i l =
    let inside : i / 512 < k = omega (arith, l) in
    let below : i % 512 < 512 = omega arith in
    ap (λ c. slice_index c (i % 512)) (zero_chunk_at k (i / 512) inside) ∙ zero_byte (i % 512) below

pub zero_code : (k algorithm b : ℕ) (row : ℕ → ℕ) → IsByteRow k algorithm b row → IsCode k algorithm b (zero_stripe k) zero_chunk
zero_code k algorithm b row is = record {
  row = row;
  bytes = is.bytes;
  is_row = is.is_row;
  elements = λ e h. zero_element e h
      ∙ sym (sum_zeros k (λ j. product (row j) (element (chunk_at (zero_stripe k) j) e))
      (λ j l. ap (product (row j)) (ap (λ c. element c e) (zero_chunk_at k j l) ∙ zero_element e h) ∙ product-zero_right (row j)));
}
