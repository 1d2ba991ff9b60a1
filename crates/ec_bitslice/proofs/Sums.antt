-- Sums of products of lists of coefficients and chunks.
use Rattle.std.proofs.Common.{◌≡◌, ℕ, zero, suc, ◌+◌, ◌-◌, ◌/◌, ◌<◌, ◌≤◌, List, [], ◌∷◌, length, get_or, take, drop, refl, ap, ap₂, sym, ◌∙◌, arith, add-zero}
use Rattle.std.specs.Prelude.{bit_xor}
use Rattle.std.specs.Int.Bits.{xor_zero_l, xor_zero_r}
use Rattle.std.proofs.lemmas.List.{get_or_past, get_or-drop, length-drop}
use Rattle.std.proofs.Math.Seq.{take-length}
use Rattle.ec_field.specs.Field.{sum_below, product}
use Rattle.ec_field.specs.Chunk.{element}
use Rattle.ec_field.specs.Code.{chunk_at, combined_element}
use Rattle.ec_field.proofs.Sums.{sum_ext}
use Rattle.ec_field.proofs.Products.{product-zero_left}
use Rattle.ec_bitslice.specs.Group.{horner}
use Rattle.ec_bitslice.proofs.Horner.{four_terms}

-- the sum of a group from bit 0 on, where its coefficients are the first four of others
horner_whole : (coefficients others : List ℕ) (chunks : List (List ℕ)) (e : ℕ) → ((j : ℕ) → j < 4 → get_or coefficients j 0 ≡ get_or others j 0)
    → horner coefficients chunks 0 e ≡ combined_element 4 (λ j. get_or others j 0) chunks e
unfolding horner
horner_whole coefficients others chunks e same =
    sum_ext 4 (λ j. product (get_or coefficients j 0 / 1) (element (chunk_at chunks j) e)) (λ j. product (get_or others j 0) (element (chunk_at chunks j) e))
    (λ j h. let one : get_or coefficients j 0 / 1 ≡ get_or coefficients j 0 = omega arith in ap (λ m. product m (element (chunk_at chunks j) e)) (one ∙ same j h))

pub group_sum : (coefficients others : List ℕ) (group chunks : List (List ℕ)) (e : ℕ) → ((j : ℕ) → j < 4 → get_or coefficients j 0 ≡ get_or others j 0) → group ≡ chunks
    → horner coefficients group 0 e ≡ combined_element 4 (λ j. get_or others j 0) chunks e
group_sum coefficients others group chunks e same is = rw is (horner_whole coefficients others chunks e same)

-- the term of a chunk that is not there
term_past : (coefficients : List ℕ) (chunks : List (List ℕ)) (e j : ℕ) → length coefficients ≤ j → product (get_or coefficients j 0) (element (chunk_at chunks j) e) ≡ 0
term_past coefficients chunks e j past = rw (get_or_past coefficients j 0 past) (product-zero_left (element (chunk_at chunks j) e))

sum_past : (k m : ℕ) (f : ℕ → ℕ) → ((j : ℕ) → k ≤ j → f j ≡ 0) → sum_below (k + m) f ≡ sum_below k f
unfolding sum_below
sum_past k zero f none = ap (λ n. sum_below n f) (add-zero k)
sum_past k (suc m) f none =
    let more : k + suc m ≡ suc (k + m) = omega arith in
    rw (more, none (k + m) (omega arith), xor_zero_r (sum_below (k + m) f)) (sum_past k m f none)

-- a sum over all groups, the last of which may have fewer chunks
pub combined_past : (coefficients : List ℕ) (chunks : List (List ℕ)) (e n : ℕ) → length coefficients ≤ n
    → combined_element n (λ j. get_or coefficients j 0) chunks e ≡ combined_element (length coefficients) (λ j. get_or coefficients j 0) chunks e
combined_past coefficients chunks e n h =
    let k = length coefficients in
    let whole : k + (n - k) ≡ n = omega arith in
    let f : ℕ → ℕ = λ j. product (get_or coefficients j 0) (element (chunk_at chunks j) e) in
    ap (λ m. sum_below m f) (sym whole) ∙ sum_past k (n - k) f (λ j past. term_past coefficients chunks e j past)

four_more : (n : ℕ) (f : ℕ → ℕ) → bit_xor (sum_below n f) (sum_below 4 (λ j. f (n + j))) ≡ sum_below (n + 4) f
unfolding sum_below
four_more n f =
    let last : n + 4 ≡ suc (suc (suc (suc n))) = omega arith in
    let e0 : n + 0 ≡ n = omega arith in
    let e1 : n + 1 ≡ suc n = omega arith in
    let e2 : n + 2 ≡ suc (suc n) = omega arith in
    let e3 : n + 3 ≡ suc (suc (suc n)) = omega arith in
    sym (four_terms (sum_below n f) (λ j. f (n + j))) ∙ rw (last, e0, e1, e2, e3) refl

-- one group more
pub combined_more : (coefficients : List ℕ) (chunks : List (List ℕ)) (e n : ℕ)
    → bit_xor (combined_element n (λ j. get_or coefficients j 0) chunks e) (combined_element 4 (λ j. get_or (drop n coefficients) j 0) (drop n chunks) e)
    ≡ combined_element (n + 4) (λ j. get_or coefficients j 0) chunks e
combined_more coefficients chunks e n =
    let f : ℕ → ℕ = λ j. product (get_or coefficients j 0) (element (chunk_at chunks j) e) in
    ap (bit_xor (sum_below n f))
    (sum_ext 4 (λ j. product (get_or (drop n coefficients) j 0) (element (chunk_at (drop n chunks) j) e)) (λ j. f (n + j))
    (λ j h. rw (get_or-drop n coefficients j 0, get_or-drop n chunks j []) refl))
    ∙ four_more n f

single : (a : ℕ) (chunk : List ℕ) (e : ℕ) → combined_element 4 (λ j. get_or (a ∷ []) j 0) (chunk ∷ []) e ≡ product a (element chunk e)
unfolding sum_below
single a chunk e =
    let none = product-zero_left (element [] e) in
    rw (none, xor_zero_l (product a (element chunk e)), xor_zero_r (product a (element chunk e)), xor_zero_r (product a (element chunk e)), xor_zero_r (product a (element chunk e))) refl

pub group_single : (coefficients : List ℕ) (group : List (List ℕ)) (a : ℕ) (chunk : List ℕ) (e : ℕ) → ((j : ℕ) → j < 4 → get_or coefficients j 0 ≡ get_or (a ∷ []) j 0) → group ≡ chunk ∷ []
    → horner coefficients group 0 e ≡ product a (element chunk e)
group_single coefficients group a chunk e same is = group_sum coefficients (a ∷ []) group (chunk ∷ []) e same is ∙ single a chunk e

pub group_more : (coefficients all : List ℕ) (group chunks : List (List ℕ)) (e n old new : ℕ) → ((j : ℕ) → j < 4 → get_or coefficients j 0 ≡ get_or (drop n all) j 0) → group ≡ drop n chunks
    → old ≡ combined_element n (λ j. get_or all j 0) chunks e → new ≡ bit_xor old (horner coefficients group 0 e)
    → new ≡ combined_element (n + 4) (λ j. get_or all j 0) chunks e
group_more coefficients all group chunks e n old new same is before sum =
    sum ∙ ap₂ bit_xor before (group_sum coefficients (drop n all) group (drop n chunks) e same is) ∙ combined_more all chunks e n

-- what `&xs[n..]` is
pub rest_after : {A : Type 0} (n : ℕ) (xs : List A) → take (length xs - n) (drop n xs) ≡ drop n xs
rest_after n xs = ap (λ k. take k (drop n xs)) (sym (length-drop n xs)) ∙ take-length (drop n xs)

-- one chunk alone
pub alone : (a : ℕ) (chunk : List ℕ) (chunks : List (List ℕ)) (e : ℕ) → chunks ≡ chunk ∷ [] → combined_element 1 (λ j. get_or (a ∷ []) j 0) chunks e ≡ product a (element chunk e)
unfolding sum_below
alone a chunk chunks e is = rw (is, xor_zero_l (product a (element chunk e))) refl
