-- A stripe is known by its codes at K bricks.
use Rattle.std.proofs.Common.{◌≡◌, ℕ, ◌/◌, ◌%◌, ◌^◌, ◌<◌, ◌≤◌, List, sym, ◌∙◌, arith}
use Rattle.std.proofs.Math.Nat.{mod-eq_of_lt}
use Rattle.ec_conduct.specs.Data.{stripe_byte}
use Rattle.ec_field.specs.Chunk.{element}
use Rattle.ec_field.specs.Code.{IsCode, IsStripe, chunk_at, combined_element}
use Rattle.ec_law_data.specs.Coding.{by_rows}
use Rattle.ec_law_reads.proofs.Bytes.{combined_is_byte, elements_from, low_byte, same_byte_from, same_elements}
use Rattle.ec_law_reads.proofs.Rows.{is_row_at, only_row_at, same_combined, same_element}
use Rattle.ec_law_reads.specs.Rows.{AreRows, row_at}
use Rattle.ec_law_reads.specs.Stripes.{AtSomeBricks, HaveOneCode, HaveOnePiece, HaveSameBytes, HaveSameLowBytes, StripeLaws}
use Rattle.ec_matrix.specs.Inverse.{IsByteRow}
use Rattle.ec_stripe.specs.Span.{stripe_bytes}

abbrev HaveSameElements : ℕ → List (List ℕ) → List (List ℕ) → Type 0
HaveSameElements k x y = (m e : ℕ) → m < k → e < 512 → element (chunk_at x m) e ≡ element (chunk_at y m) e

low_bytes : (k : ℕ) (x y : List (List ℕ)) → HaveSameElements k x y → HaveSameLowBytes k x y
low_bytes k x y same i l =
    let m : i / 512 < k = omega (arith, l) in
    let p : i % 512 < 512 = omega arith in
    low_byte (chunk_at x (i / 512)) (i % 512) p
    ∙ same_byte_from (element (chunk_at x (i / 512))) (element (chunk_at y (i / 512))) (λ e h. same (i / 512) e m h) (i % 512) p
    ∙ sym (low_byte (chunk_at y (i / 512)) (i % 512) p)

pub of_chunks : (k : ℕ) (x : List (List ℕ)) → IsStripe k x → (i : ℕ) → i < stripe_bytes k → stripe_byte x i % 2 ^ 8 ≡ stripe_byte x i
of_chunks k x is i l = mod-eq_of_lt ((is.chunks (i / 512) (omega (arith, l))).bytes (i % 512))

whole_bytes : (k : ℕ) (x y : List (List ℕ)) → IsStripe k x → IsStripe k y → HaveSameLowBytes k x y → HaveSameBytes k x y
whole_bytes k x y is also same i l = sym (of_chunks k x is i l) ∙ same i l ∙ of_chunks k y also i l

-- the elements of a code are what any row of the brick makes of the stripe
by_row : (k algorithm b : ℕ) (row : ℕ → ℕ) (x : List (List ℕ)) (chunk : List ℕ) → k ≤ 16 → b < 31 → IsByteRow k algorithm b row → IsCode k algorithm b x chunk → (e : ℕ) → e < 512 → element chunk e ≡ combined_element k row x e
by_row k algorithm b row x chunk few l is code e h =
    code.elements e h ∙ same_combined k algorithm b code.row row x e few l (record { bytes = code.bytes; is_row = code.is_row }) is

codes : (n k algorithm : ℕ) (x y : List (List ℕ)) → n ≤ 31 → k ≤ 16 → IsStripe k x → IsStripe k y → AtSomeBricks n k (λ b. HaveOneCode k algorithm b x y) → HaveSameBytes k x y
codes n k algorithm x y few less is also at =
    let row : (b : ℕ) → b < n → IsByteRow k algorithm b (row_at k algorithm b) = λ b l. is_row_at k algorithm b less (omega (arith, l)) in
    whole_bytes k x y is also (low_bytes k x y (λ m e l h. same_element n k algorithm (row_at k algorithm) x y at.0 e few less row at.1
    (λ b p q. let c : HaveOneCode k algorithm b x y = at.2 b p q in
    let low : b < 31 = omega (arith, p) in
    sym (by_row k algorithm b (row_at k algorithm b) x c.0 less low (row b p) c.1 e h) ∙ by_row k algorithm b (row_at k algorithm b) y c.0 less low (row b p) c.2 e h) m l))

pieces : (n k algorithm : ℕ) (rows : ℕ → ℕ → ℕ) (x y : List (List ℕ)) → n ≤ 31 → k ≤ 16 → AreRows n k algorithm rows → IsStripe k x → IsStripe k y
    → AtSomeBricks n k (λ b. (i : ℕ) → i < 512 → by_rows k rows x b i ≡ by_rows k rows y b i) → HaveSameBytes k x y
pieces n k algorithm rows x y few less are is also at =
    whole_bytes k x y is also (low_bytes k x y (λ m e l h. same_element n k algorithm rows x y at.0 e few less are at.1
    (λ b p q. same_elements (combined_element k (rows b) x) (combined_element k (rows b) y) (λ c s. combined_is_byte k (rows b) x c (are b p).bytes) (λ c s. combined_is_byte k (rows b) y c (are b p).bytes) (at.2 b p q) e h) m l))

decoded : (n k algorithm : ℕ) (rows : ℕ → ℕ → ℕ) (x y : List (List ℕ)) → n ≤ 31 → k ≤ 16 → AreRows n k algorithm rows → AtSomeBricks n k (λ b. HaveOnePiece k algorithm b rows x y) → HaveSameLowBytes k x y
decoded n k algorithm rows x y few less are at =
    low_bytes k x y (λ m e l h. same_element n k algorithm rows x y at.0 e few less are at.1
    (λ b p q. let c : HaveOnePiece k algorithm b rows x y = at.2 b p q in
    sym (by_row k algorithm b (rows b) x c.chunk less (omega (arith, p)) (are b p) c.code e h)
    ∙ elements_from c.chunk (combined_element k (rows b) y) (λ f s. combined_is_byte k (rows b) y f (are b p).bytes) c.bytes e h) m l)

pub stripe_laws : StripeLaws
stripe_laws = record { row = is_row_at; one_row = only_row_at; codes = codes; pieces = pieces; decoded = decoded }
