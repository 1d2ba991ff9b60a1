-- A matrix that is inverse to the rows of a set of bricks turns the pieces of these bricks into their stripe.
use Rattle.std.proofs.Common.{◌≡◌, ℕ, ◌<◌, ◌≤◌, ◌⊎◌, inl, inr, List, [], length, get_or, refl, subst, sym, ◌∙◌, arith}
use Rattle.std.proofs.lemmas.Bool.{cases_lt}
use Rattle.std.proofs.lemmas.List.{ext_get_or}
use Rattle.ec_field.specs.Field.{sum_below, product, kronecker}
use Rattle.ec_field.specs.Chunk.{element, IsChunk}
use Rattle.ec_field.specs.Code.{IsCode, IsStripe, chunk_at, combined_element}
use Rattle.ec_field.proofs.Elements.{element_is_byte, same_chunk}
use Rattle.ec_attr.specs.Bricks.{bricks}
use Rattle.ec_matrix.specs.Inverse.{IsByteRow, IsInverse, AreRows, cell}
use Rattle.ec_stripe.specs.Codes.{Purpose}
use Rattle.ec_matrix.proofs.Matrices.{identity_times, times_assoc, times_same}

-- the first n chunks are those rows of the matrix times the pieces, of which there are k
pub record AreDecoded (k n : ℕ) (cells pieces out : List (List ℕ)) : Type 0 where
  pub chunks : (m : ℕ) → m < n → IsChunk (chunk_at out m)
  pub elements : (m : ℕ) → m < n → (e : ℕ) → e < 512 → element (chunk_at out m) e ≡ combined_element k (cell cells m) pieces e

abbrev elements_at : List (List ℕ) → ℕ → ℕ → ℕ
elements_at chunks e j = element (chunk_at chunks j) e

-- each piece is the code of the decoded stripe at its brick
pub codes_of_decoded : (k algorithm bits : ℕ) (cells pieces out : List (List ℕ)) → IsInverse k algorithm bits cells → AreDecoded k k cells pieces out
    → (i : ℕ) → i < k → IsCode k algorithm (get_or (bricks bits) i 0) out (chunk_at pieces i)
codes_of_decoded k algorithm bits cells pieces out inverse decoded i l = record {
  row = inverse.rows i;
  bytes = (inverse.are_rows i l).bytes;
  is_row = (inverse.are_rows i l).is_row;
  elements = λ e h. sym
      (times_same k (inverse.rows i) (inverse.rows i) (elements_at out e) (λ j. sum_below k (λ m. product (cell cells j m) (elements_at pieces e m)))
      (λ j p. refl) (λ j p. decoded.elements j p e h)
      ∙ sym (times_assoc k (inverse.rows i) (cell cells) (elements_at pieces e) (inverse.are_rows i l).bytes inverse.bytes (λ m p. element_is_byte (chunk_at pieces m) e))
      ∙ times_same k (λ m. sum_below k (λ j. product (inverse.rows i j) (cell cells j m))) (kronecker i) (elements_at pieces e) (elements_at pieces e)
      (λ m p. inverse.right inverse.rows inverse.are_rows i m l p) (λ m p. refl)
      ∙ identity_times k i (elements_at pieces e) (λ m p. element_is_byte (chunk_at pieces m) e) l);
}

-- the pieces are codes of a stripe
abbrev Codes : ℕ → ℕ → ℕ → List (List ℕ) → List (List ℕ) → Type 0
Codes k algorithm bits stripe pieces = (i : ℕ) → i < k → IsCode k algorithm (get_or (bricks bits) i 0) stripe (chunk_at pieces i)

-- the row by which piece i is a code
abbrev row_of : (k algorithm bits : ℕ) (stripe pieces : List (List ℕ)) → Codes k algorithm bits stripe pieces → (i : ℕ) → (i < k) ⊎ (k ≤ i) → ℕ → ℕ
row_of k algorithm bits stripe pieces codes i (inl below) = (codes i below).row
row_of k algorithm bits stripe pieces codes i (inr past) = λ j. 0

row_of_is : (k algorithm bits : ℕ) (stripe pieces : List (List ℕ)) (codes : Codes k algorithm bits stripe pieces) (i : ℕ) (where_i : (i < k) ⊎ (k ≤ i)) → i < k
    → IsByteRow k algorithm (get_or (bricks bits) i 0) (row_of k algorithm bits stripe pieces codes i where_i)
row_of_is k algorithm bits stripe pieces codes i (inl below) l = record { bytes = (codes i below).bytes; is_row = (codes i below).is_row }
row_of_is k algorithm bits stripe pieces codes i (inr past) l = absurd (omega arith)

row_of_gives : (k algorithm bits : ℕ) (stripe pieces : List (List ℕ)) (codes : Codes k algorithm bits stripe pieces) (i : ℕ) (where_i : (i < k) ⊎ (k ≤ i)) → i < k
    → (e : ℕ) → e < 512 → element (chunk_at pieces i) e ≡ combined_element k (row_of k algorithm bits stripe pieces codes i where_i) stripe e
row_of_gives k algorithm bits stripe pieces codes i (inl below) l e h = (codes i below).elements e h
row_of_gives k algorithm bits stripe pieces codes i (inr past) l e h = absurd (omega arith)

-- an element of the decoded stripe is that of any stripe whose codes the pieces are
decoded_element : (k algorithm bits : ℕ) (cells pieces out stripe : List (List ℕ)) → IsInverse k algorithm bits cells → AreDecoded k k cells pieces out
    → Codes k algorithm bits stripe pieces → (m : ℕ) → m < k → (e : ℕ) → e < 512 → element (chunk_at out m) e ≡ element (chunk_at stripe m) e
decoded_element k algorithm bits cells pieces out stripe inverse decoded codes m l e h =
    let any : ℕ → ℕ → ℕ = λ i. row_of k algorithm bits stripe pieces codes i (cases_lt i k) in
    let are_rows : AreRows k algorithm bits any = λ i p. row_of_is k algorithm bits stripe pieces codes i (cases_lt i k) p in
    decoded.elements m l e h
    ∙ times_same k (cell cells m) (cell cells m) (elements_at pieces e) (λ i. sum_below k (λ j. product (any i j) (elements_at stripe e j)))
    (λ i p. refl) (λ i p. row_of_gives k algorithm bits stripe pieces codes i (cases_lt i k) p e h)
    ∙ sym (times_assoc k (cell cells m) any (elements_at stripe e) (λ i p. inverse.bytes m i l p) (λ i j p q. (are_rows i p).bytes j q) (λ j p. element_is_byte (chunk_at stripe j) e))
    ∙ times_same k (λ j. sum_below k (λ i. product (cell cells m i) (any i j))) (kronecker m) (elements_at stripe e) (elements_at stripe e)
    (λ j p. inverse.left any are_rows m j l p) (λ j p. refl)
    ∙ identity_times k m (elements_at stripe e) (λ j p. element_is_byte (chunk_at stripe j) e) l

-- and so it is that stripe
pub only_decoded : (k algorithm bits : ℕ) (cells pieces out stripe : List (List ℕ)) → length out ≡ k → IsInverse k algorithm bits cells → AreDecoded k k cells pieces out
    → IsStripe k stripe → Codes k algorithm bits stripe pieces → out ≡ stripe
only_decoded k algorithm bits cells pieces out stripe len inverse decoded is_stripe codes =
    ext_get_or [] out stripe (len ∙ sym is_stripe.len)
    (λ m p. let l : m < k = omega arith in
    same_chunk (chunk_at out m) (chunk_at stripe m) (decoded.chunks m l) (is_stripe.chunks m l)
    (λ e h. decoded_element k algorithm bits cells pieces out stripe inverse decoded codes m l e h))

-- what a decoder keeps, said of what it was made for
pub inverse_for : (purpose : Purpose) (k algorithm bits : ℕ) (cells : List (List ℕ)) → record { algorithm = algorithm; bits = bits } ≡ purpose → k ≡ length (bricks purpose.bits)
    → IsInverse (length (bricks bits)) algorithm bits cells → IsInverse k purpose.algorithm purpose.bits cells
inverse_for purpose k algorithm bits cells view same inverse =
    subst (λ (p : Purpose). k ≡ length (bricks p.bits) → IsInverse k p.algorithm p.bits cells) view
    (λ (e : k ≡ length (bricks bits)). subst (λ (n : ℕ). IsInverse n algorithm bits cells) (sym e) inverse) same
