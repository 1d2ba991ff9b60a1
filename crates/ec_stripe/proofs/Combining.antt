-- Sums of chunks by rows of coefficients.
use Rattle.std.proofs.Common.{◌≡◌, ℕ, ◌<◌, ◌≤◌, List, length, take, get_or, refl, subst}
use Rattle.std.proofs.lemmas.List.{length-take-le, get_or-take}
use Rattle.ec_field.specs.Field.{product}
use Rattle.ec_field.specs.Chunk.{element}
use Rattle.ec_field.specs.Code.{IsCode, chunk_at, combined_element}
use Rattle.ec_field.proofs.Sums.{sum_ext}
use Rattle.ec_matrix.specs.Inverse.{IsByteRow}

-- the coefficients past the chunks do not count
pub first_entries : (n e : ℕ) (coefficients : List ℕ) (chunks : List (List ℕ)) → n ≤ length coefficients
    → combined_element (length (take n coefficients)) (λ j. get_or (take n coefficients) j 0) chunks e ≡ combined_element n (λ j. get_or coefficients j 0) chunks e
first_entries n e coefficients chunks h =
    rw (length-take-le n coefficients h)
    (sum_ext n (λ j. product (get_or (take n coefficients) j 0) (element (chunk_at chunks j) e)) (λ j. product (get_or coefficients j 0) (element (chunk_at chunks j) e))
    (λ j l. rw (get_or-take n coefficients j 0 l) refl))

-- a chunk that is the sum of a stripe by the row of a brick is its code there
pub code_by_row : (k n algorithm b : ℕ) (row : ℕ → ℕ) (stripe : List (List ℕ)) (chunk : List ℕ) → k ≡ n → IsByteRow k algorithm b row
    → ((e : ℕ) → e < 512 → element chunk e ≡ combined_element n row stripe e) → IsCode n algorithm b stripe chunk
code_by_row k n algorithm b row stripe chunk same is elements =
    let here : IsByteRow n algorithm b row = subst (λ m. IsByteRow m algorithm b row) same is in
    record { row = row; bytes = here.bytes; is_row = here.is_row; elements = elements }
