-- Columns of sums of products, four chunks after four.
use Rattle.std.proofs.Common.{◌≡◌, ℕ, ◌+◌, ◌-◌, ◌*◌, ◌<◌, ◌≤◌, List, length, get_or, take, drop, refl, ap, ◌∙◌, arith}
use Rattle.std.specs.Prelude.{bit_xor}
use Rattle.ec_field.specs.Code.{combined_element}
use Rattle.ec_bitslice.specs.declared.column.Column.{Column}
use Rattle.ec_bitslice.specs.Column.{lane_element, HasElements}
use Rattle.ec_bitslice.specs.Group.{horner}
use Rattle.ec_bitslice.proofs.Horner.{elements-ext, elements-plus}
use Rattle.ec_bitslice.proofs.Sums.{group_sum, group_more, combined_past, rest_after}

pub column_starts : (c : Column) (at : ℕ) (coefficients all : List ℕ) (group chunks : List (List ℕ)) → ((j : ℕ) → j < 4 → get_or coefficients j 0 ≡ get_or all j 0) → group ≡ chunks
    → HasElements c at (horner coefficients group 0) → HasElements c at (combined_element 4 (λ j. get_or all j 0) chunks)
column_starts c at coefficients all group chunks same is h =
    elements-ext c at (horner coefficients group 0) (combined_element 4 (λ j. get_or all j 0) chunks) h (λ e. group_sum coefficients all group chunks e same is)

pub column_more : (old part new : Column) (at four n : ℕ) (coefficients all : List ℕ) (group chunks : List (List ℕ))
    → n ≡ 4 * four
    → ((j : ℕ) → j < 4 → get_or coefficients j 0 ≡ get_or (take (length all - n) (drop n all)) j 0) → group ≡ take (length chunks - n) (drop n chunks)
    → ((x k : ℕ) → lane_element new x k ≡ bit_xor (lane_element old x k) (lane_element part x k))
    → HasElements old at (combined_element n (λ j. get_or all j 0) chunks) → HasElements part at (horner coefficients group 0)
    → HasElements new at (combined_element (4 * (four + 1)) (λ j. get_or all j 0) chunks)
column_more old part new at four n coefficients all group chunks count same is plus before own =
    let f : ℕ → ℕ = combined_element n (λ j. get_or all j 0) chunks in
    let g : ℕ → ℕ = horner coefficients group 0 in
    let first : (j : ℕ) → j < 4 → get_or coefficients j 0 ≡ get_or (drop n all) j 0 = λ j l. same j l ∙ ap (λ xs. get_or xs j 0) (rest_after n all) in
    let more : n + 4 ≡ 4 * (four + 1) = omega arith in
    elements-ext new at (λ e. bit_xor (f e) (g e)) (combined_element (4 * (four + 1)) (λ j. get_or all j 0) chunks)
    (elements-plus old part new at f g plus before own)
    (λ e. group_more coefficients all group chunks e n (f e) (bit_xor (f e) (g e)) first (is ∙ rest_after n chunks) refl refl
    ∙ ap (λ m. combined_element m (λ j. get_or all j 0) chunks e) more)

pub column_ends : (c : Column) (at n : ℕ) (all : List ℕ) (chunks : List (List ℕ)) → length all ≤ n
    → HasElements c at (combined_element n (λ j. get_or all j 0) chunks) → HasElements c at (combined_element (length all) (λ j. get_or all j 0) chunks)
column_ends c at n all chunks past h =
    elements-ext c at (combined_element n (λ j. get_or all j 0) chunks) (combined_element (length all) (λ j. get_or all j 0) chunks) h (λ e. combined_past all chunks e n past)
