-- The code of a stripe of any numbers is that of their low eight bits, and what has its bytes is its chunk.
use Rattle.std.proofs.Common.{◌≡◌, ℕ, zero, suc, ◌+◌, ◌*◌, ◌/◌, ◌%◌, ◌^◌, ◌<◌, ◌≤◌, Bool, true, false, Option, None, List, [], ◌∷◌, ◌++◌, length, get_or, refl, sym, ◌∙◌, ap, subst, arith, length-append}
use Rattle.std.specs.Prelude.{nat_lt, slice_index}
use Rattle.std.specs.Int.{bit_at}
use Rattle.std.proofs.lemmas.Bool.Decides.{nat_tests}
use Rattle.std.proofs.Math.ListN.{get_or-append}
use Rattle.std.proofs.Math.Seq.{get_or-append_seam}
use Rattle.std.proofs.lemmas.List.{get_or_past}
use Rattle.std.proofs.lemmas.Nat.Bits.{bit_at-lt}
use Rattle.ec_conduct.specs.Data.{stripe_byte}
use Rattle.ec_field.specs.Chunk.{IsChunk, element, element_bit}
use Rattle.ec_field.specs.Code.{IsStripe, chunk_at, combined_element}
use Rattle.ec_field.specs.Field.{IsByte, product}
use Rattle.ec_field.proofs.Bits.{bit_of_sum, bits_lt, byte_by_bits, low_bits}
use Rattle.ec_field.proofs.Elements.{element_is_byte}
use Rattle.ec_field.proofs.Products.{product_is_byte}
use Rattle.ec_field.proofs.Sums.{sum_ext, sum_lt}
use Rattle.ec_law_data.specs.Coding.{code_byte}
use Rattle.ec_law_data.specs.Forms.{first_bytes, piece_of}

-- the first n values of a function
unfoldable pub firsts : {A : Type 0} → ℕ → (ℕ → A) → List A
firsts zero f = []
firsts (suc n) f = firsts n f ++ f n ∷ []

length_firsts : {A : Type 0} (n : ℕ) (f : ℕ → A) → length (firsts n f) ≡ n
unfolding firsts
length_firsts zero f = refl
length_firsts (suc n) f = length-append (firsts n f) (f n ∷ []) ∙ (ap (λ (x : ℕ). x + 1) (length_firsts n f) ∙ omega arith)

below_or_at : (i n : ℕ) → i < suc n → (t : Bool) → nat_lt i n ≡ t → t ≡ false → i ≡ n
below_or_at i n lt t e f = grind (arith, nat_tests)

is_below : (i n : ℕ) → nat_lt i n ≡ true → i < n
is_below i n e = grind (arith, nat_tests)

is_past : (i n : ℕ) → nat_lt i n ≡ false → n ≤ i
is_past i n e = grind (arith, nat_tests)

at_firsts : {A : Type 0} (n : ℕ) (f : ℕ → A) (d : A) (i : ℕ) → i < n → get_or (firsts n f) i d ≡ f i
unfolding firsts
at_firsts zero f d i lt = absurd (omega (arith, lt))
at_firsts (suc n) f d i lt = by (at_firsts n f d i) (nat_lt i n) refl
  where
    by : (i < n → get_or (firsts n f) i d ≡ f i) → (t : Bool) → nat_lt i n ≡ t → get_or (firsts n f ++ f n ∷ []) i d ≡ f i
    by h true e = get_or-append (firsts n f) (f n ∷ []) d i (subst (λ (x : ℕ). i < x) (sym (length_firsts n f)) (is_below i n e)) ∙ h (is_below i n e)
    by h false e =
        let same = below_or_at i n lt (nat_lt i n) refl e in
        ap (λ (x : ℕ). get_or (firsts n f ++ f n ∷ []) x d) (same ∙ sym (length_firsts n f)) ∙ (get_or-append_seam (firsts n f) (f n) [] d ∙ ap f (sym same))

same_firsts : (n : ℕ) (f : ℕ → Option ℕ) → first_bytes n f ≡ firsts n f
unfolding firsts first_bytes
same_firsts zero f = refl
same_firsts (suc n) f = ap (λ (x : List (Option ℕ)). x ++ f n ∷ []) (same_firsts n f)

at_bytes : (n : ℕ) (f : ℕ → Option ℕ) (i : ℕ) → i < n → get_or (first_bytes n f) i None ≡ f i
at_bytes n f i lt = ap (λ (x : List (Option ℕ)). get_or x i None) (same_firsts n f) ∙ at_firsts n f None i lt

-- pieces that are alike are so byte by byte
pub same_bytes : (f h : ℕ → Option ℕ) → piece_of f ≡ piece_of h → (i : ℕ) → i < 512 → f i ≡ h i
same_bytes f h e i lt = sym (at_bytes 512 f i lt) ∙ (ap (λ (x : List (Option ℕ)). get_or x i None) e ∙ at_bytes 512 h i lt)

-- 512 bytes
bytes_chunk : (f : ℕ → ℕ) → ((i : ℕ) → i < 512 → f i < 2 ^ 8) → IsChunk (firsts 512 f)
bytes_chunk f h = record { len = length_firsts 512 f; bytes = λ i. by i (nat_lt i 512) refl }
  where
    by : (i : ℕ) (t : Bool) → nat_lt i 512 ≡ t → get_or (firsts 512 f) i 0 < 2 ^ 8
    by i true e = subst (λ (x : ℕ). x < 2 ^ 8) (sym (at_firsts 512 f 0 i (is_below i 512 e))) (h i (is_below i 512 e))
    by i false e = subst (λ (x : ℕ). x < 2 ^ 8) (sym (get_or_past (firsts 512 f) i 0 (subst (λ (x : ℕ). x ≤ i) (sym (length_firsts 512 f)) (is_past i 512 e)))) (omega arith)

low_bit : (a i : ℕ) → i < 8 → bit_at (a % 2 ^ 8) i ≡ bit_at a i
low_bit a i lt = ap (λ (z : ℕ). bit_at z i) (sym (low_bits 8 a)) ∙ bit_of_sum 8 (bit_at a) (λ j l. bit_at-lt a j) i lt

-- ## The low bits of a stripe

unfoldable pub low_chunk : List (List ℕ) → ℕ → List ℕ
low_chunk x j = firsts 512 (λ i. slice_index (chunk_at x j) i % 2 ^ 8)

unfoldable pub low_stripe : ℕ → List (List ℕ) → List (List ℕ)
low_stripe k x = firsts k (low_chunk x)

module _ (k : ℕ) (x : List (List ℕ)) where
  chunk_there : (j : ℕ) → j < k → chunk_at (low_stripe k x) j ≡ low_chunk x j
  unfolding low_stripe
  chunk_there j lt = at_firsts k (low_chunk x) [] j lt

  byte_there : (j i : ℕ) → i < 512 → slice_index (low_chunk x j) i ≡ slice_index (chunk_at x j) i % 2 ^ 8
  unfolding low_chunk
  byte_there j i lt = at_firsts 512 (λ i. slice_index (chunk_at x j) i % 2 ^ 8) 0 i lt

  is_chunk : (j : ℕ) → IsChunk (low_chunk x j)
  unfolding low_chunk
  is_chunk j = bytes_chunk (λ i. slice_index (chunk_at x j) i % 2 ^ 8) (λ i lt. omega arith)

  low_length : length (low_stripe k x) ≡ k
  unfolding low_stripe
  low_length = length_firsts k (low_chunk x)

  pub low_is_stripe : IsStripe k (low_stripe k x)
  low_is_stripe = record { len = low_length; chunks = λ j lt. subst IsChunk (sym (chunk_there j lt)) (is_chunk j) }

  pub low_byte : (i : ℕ) → i < 512 * k → stripe_byte (low_stripe k x) i ≡ stripe_byte x i % 2 ^ 8
  low_byte i lt =
      let row : i / 512 < k = omega (arith, lt) in
      let column : i % 512 < 512 = omega arith in
      ap (λ (c : List ℕ). slice_index c (i % 512)) (chunk_there (i / 512) row) ∙ byte_there (i / 512) (i % 512) column

  low_element : (j e : ℕ) → j < k → e < 512 → element (chunk_at (low_stripe k x) j) e ≡ element (chunk_at x j) e
  unfolding element
  low_element j e lt h = sum_ext 8 (λ i. element_bit (chunk_at (low_stripe k x) j) e i * 2 ^ i) (λ i. element_bit (chunk_at x j) e i * 2 ^ i)
      (λ i l.
      let place : 64 * i + e / 8 < 512 = omega (arith, h, l) in
      let column : e % 8 < 8 = omega arith in
      ap (λ (z : ℕ). bit_at z (e % 8) * 2 ^ i) (ap (λ (c : List ℕ). slice_index c (64 * i + e / 8)) (chunk_there j lt) ∙ byte_there j (64 * i + e / 8) place)
      ∙ ap (λ (z : ℕ). z * 2 ^ i) (low_bit (slice_index (chunk_at x j) (64 * i + e / 8)) (e % 8) column))

  pub low_combined : (row : ℕ → ℕ) (e : ℕ) → e < 512 → combined_element k row (low_stripe k x) e ≡ combined_element k row x e
  low_combined row e h = sum_ext k (λ j. product (row j) (element (chunk_at (low_stripe k x) j) e)) (λ j. product (row j) (element (chunk_at x j) e)) (λ j lt. ap (product (row j)) (low_element j e lt h))

-- ## The chunk of a code

unfoldable pub code_chunk : ℕ → (ℕ → ℕ) → List (List ℕ) → List ℕ
code_chunk k row x = firsts 512 (code_byte k row x)

module _ (k : ℕ) (row : ℕ → ℕ) (x : List (List ℕ)) where
  pub code_there : (i : ℕ) → i < 512 → slice_index (code_chunk k row x) i ≡ code_byte k row x i
  unfolding code_chunk
  code_there i lt = at_firsts 512 (code_byte k row x) 0 i lt

  pub code_is_chunk : IsChunk (code_chunk k row x)
  unfolding code_chunk
  code_is_chunk = bytes_chunk (code_byte k row x) (λ i lt. bits_lt 8 (λ j. bit_at (combined_element k row x (8 * (i % 64) + j)) (i / 64)) (λ j l. bit_at-lt (combined_element k row x (8 * (i % 64) + j)) (i / 64)))

  combined_byte : ((j : ℕ) → j < k → IsByte (row j)) → (e : ℕ) → IsByte (combined_element k row x e)
  combined_byte bytes e = sum_lt 8 k (λ j. product (row j) (element (chunk_at x j) e)) (λ j lt. product_is_byte (row j) (element (chunk_at x j) e) (bytes j lt) (element_is_byte (chunk_at x j) e))

  pub code_elements : ((j : ℕ) → j < k → IsByte (row j)) → (e : ℕ) → e < 512 → element (code_chunk k row x) e ≡ combined_element k row x e
  unfolding element
  code_elements bytes e h =
      sum_ext 8 (λ i. element_bit (code_chunk k row x) e i * 2 ^ i) (λ i. bit_at (combined_element k row x e) i * 2 ^ i)
      (λ i l.
      let place : 64 * i + e / 8 < 512 = omega (arith, h, l) in
      let column : e % 8 < 8 = omega arith in
      let rows : (64 * i + e / 8) % 64 ≡ e / 8 = omega (arith, h) in
      let plane : (64 * i + e / 8) / 64 ≡ i = omega (arith, h) in
      let whole : 8 * (e / 8) + e % 8 ≡ e = omega arith in
      ap (λ (z : ℕ). z * 2 ^ i) (ap (λ (z : ℕ). bit_at z (e % 8)) (code_there (64 * i + e / 8) place)
      ∙ (bit_of_sum 8 (λ j. bit_at (combined_element k row x (8 * ((64 * i + e / 8) % 64) + j)) ((64 * i + e / 8) / 64)) (λ j m. bit_at-lt (combined_element k row x (8 * ((64 * i + e / 8) % 64) + j)) ((64 * i + e / 8) / 64)) (e % 8) column
      ∙ (ap (λ (z : ℕ). bit_at (combined_element k row x (8 * z + e % 8)) ((64 * i + e / 8) / 64)) rows
      ∙ (ap (λ (z : ℕ). bit_at (combined_element k row x z) ((64 * i + e / 8) / 64)) whole
      ∙ ap (λ (z : ℕ). bit_at (combined_element k row x e) z) plane)))))
      ∙ byte_by_bits (combined_element k row x e) (combined_byte bytes e)
