-- The name of a file that the generated script makes is one that a directory can have.
use Rattle.std.proofs.Common.{◌%◌, ◌≡◌, ℕ, ◌+◌, ◌^◌, ◌≤◌, ◌<◌, true, false, List, [], ◌∷◌, ◌++◌, length, codes, refl, arith}
use Rattle.std.specs.Fmt.{decimal}
use Rattle.std.specs.List.{list_all}
use Rattle.std.proofs.lemmas.Bool.{and_from}
use Rattle.std.proofs.lemmas.Bool.Decides.{nat_tests}
use Rattle.std.proofs.lemmas.Fmt.{decimal_by_steps_wide, length-decimal-le_wide}
use Rattle.std.proofs.lemmas.List.Folds.{list_all-append}
use Rattle.ec_attr.specs.Name.{is_dots, is_name, may_stand}

digit_stands : (d : ℕ) → d < 10 → may_stand (48 + d) ≡ true
digit_stands d l = grind (arith, nat_tests)

digits_stand : (n : ℕ) → n < 2 ^ 97 → list_all may_stand (decimal n) ≡ true
digits_stand n l = decimal_by_steps_wide (λ m ds. list_all may_stand ds ≡ true)
    (λ m k. and_from (may_stand (48 + m)) true (digit_stands m k) refl)
    (λ m ds k h. rw list_all-append (and_from (list_all may_stand ds) (list_all may_stand ((48 + m % 10) ∷ [])) h (and_from (may_stand (48 + m % 10)) true (digit_stands (m % 10) (omega arith)) refl)))
    n (omega arith)

not_dots : (ds : List ℕ) → is_dots (103 ∷ ds) ≡ false
not_dots [] = refl
not_dots (a ∷ []) = refl
not_dots (a ∷ b ∷ ds) = refl

named : (ds : List ℕ) → length ds ≤ 30 → list_all may_stand ds ≡ true → is_name (103 ∷ ds) ≡ true
named ds short stand = let dots = not_dots ds in grind (arith, nat_tests)

pub is_file_name : (n : ℕ) → n < 2 ^ 97 → is_name (codes "g" ++ decimal n) ≡ true
is_file_name n l =
    let short : length (decimal n) ≤ 30 = length-decimal-le_wide 30 n (omega arith) (omega arith) (omega arith) in
    named (decimal n) short (digits_stand n l)

pub never_refused : (bytes : List ℕ) (n : ℕ) → bytes ≡ codes "g" ++ decimal n → n < 2 ^ 97 → is_name bytes ≡ false → ⊥
never_refused bytes n e l f = let t : is_name bytes ≡ true = rw e (is_file_name n l) in cc
