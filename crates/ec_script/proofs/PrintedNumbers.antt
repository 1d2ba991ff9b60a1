-- Numbers that are printed are read again.
use Rattle.std.proofs.Common.{◌≡◌, ℕ, ◌+◌, ◌-◌, ◌/◌, ◌%◌, ◌^◌, ◌<◌, ◌≤◌, true, List, [], ◌∷◌, ◌++◌, length, Some, refl, ap, ◌∙◌, arith, length-append}
use Rattle.std.specs.Prelude.{decimal}
use Rattle.std.specs.List.{list_all}
use Rattle.std.specs.Option.{option_map}
use Rattle.std.specs.Char.{is_ascii_digit}
use Rattle.std.proofs.lemmas.Bool.{and_from, le-leb}
use Rattle.std.proofs.lemmas.Bool.Decides.{nat_tests}
use Rattle.std.proofs.lemmas.Fmt.{decimal_by_steps_wide, length-decimal-le_wide}
use Rattle.std.proofs.lemmas.List.Folds.{list_all-append}
use Rattle.ec_attr.specs.declared.gfid.Gfid.{Gfid}
use Rattle.ec_wire.specs.Words.{gfid_word}
use Rattle.ec_script.specs.Numbers.{brick, client, decimal_after, gfid, mode, number, numeral, owner}
use Rattle.ec_script.specs.Printed.{IsBrick, IsClient, IsId, IsNumber}
use Rattle.ec_script.proofs.NumberLemmas.{value_push}
use Rattle.ec_script.proofs.PrintedWords.{IsWord, all_weaker, is_plain}

-- digits that say a number
pub record Says (n : ℕ) (ds : List ℕ) : Type 0 where
  pub some : 0 < length ds
  pub digits : list_all is_ascii_digit ds ≡ true
  pub value : decimal_after 0 ds ≡ n

digit : (k : ℕ) → k < 10 → is_ascii_digit (48 + k) ≡ true
digit k l = grind (arith, nat_tests)

one_digit : (n : ℕ) → n < 10 → Says n ((48 + n) ∷ [])
one_digit n l = record { some = omega arith; digits = and_from (is_ascii_digit (48 + n)) true (digit n l) refl; value = omega arith }

more_digits : (n : ℕ) (ds : List ℕ) → 10 ≤ n → Says (n / 10) ds → Says n (ds ++ ((48 + n % 10) ∷ []))
more_digits n ds l s = record {
  some = omega (arith, length-append ds ((48 + n % 10) ∷ []));
  digits = rw list_all-append (and_from (list_all is_ascii_digit ds) (list_all is_ascii_digit ((48 + n % 10) ∷ [])) s.digits (and_from (is_ascii_digit (48 + n % 10)) true (digit (n % 10) (omega arith)) refl));
  value = value_push ds 0 (48 + n % 10) ∙ omega (arith, s.value);
}

pub decimal_says : (n : ℕ) → n < 10 ^ 64 → Says n (decimal n)
decimal_says n l = decimal_by_steps_wide Says one_digit more_digits n l

digit_plain : (b : ℕ) → is_ascii_digit b ≡ true → is_plain b ≡ true
digit_plain b e = grind (arith, nat_tests)

pub decimal_word : (n : ℕ) → n < 10 ^ 64 → IsWord (decimal n)
decimal_word n l = let s = decimal_says n l in record { some = s.some; plain = all_weaker is_ascii_digit is_plain digit_plain (decimal n) s.digits }

numeral_again : (most low high n : ℕ) → n < 10 ^ 64 → length (decimal n) ≤ most → low ≤ n → n ≤ high → numeral most low high (decimal n) ≡ Some n
unfolding numeral
numeral_again most low high n l short above below =
    let s = decimal_says n l in
    rw (s.value, s.digits, le-leb 1 (length (decimal n)) s.some, le-leb (length (decimal n)) most short, le-leb low n above, le-leb n high below) refl

pub number_again : (n : ℕ) → IsNumber n → number (decimal n) ≡ Some n
number_again n l = numeral_again 20 0 (2 ^ 64 - 1) n (omega arith) (length-decimal-le_wide 20 n (omega arith) (omega arith) (omega arith)) (omega arith) (omega arith)

pub gfid_again : (g : Gfid) → IsId g → gfid (gfid_word g) ≡ Some g
gfid_again g l = ap (option_map (λ n. record { 0 = n })) (numeral_again 39 1 (2 ^ 128 - 1) g.0 (omega (arith, l.1)) (length-decimal-le_wide 39 g.0 (omega arith) (omega (arith, l.1)) (omega (arith, l.1))) l.0 (omega (arith, l.1)))

pub client_again : (c : ℕ) → IsClient c → client (decimal c) ≡ Some c
client_again c l = numeral_again 20 1 16 c (omega (arith, l.1)) (length-decimal-le_wide 20 c (omega arith) (omega (arith, l.1)) (omega (arith, l.1))) l.0 l.1

pub brick_again : (b : ℕ) → IsBrick b → brick (decimal b) ≡ Some b
brick_again b l = numeral_again 20 0 30 b (omega (arith, l)) (length-decimal-le_wide 20 b (omega arith) (omega (arith, l)) (omega (arith, l))) (omega arith) l

pub mode_again : (n : ℕ) → n ≤ 4095 → mode (decimal n) ≡ Some n
mode_again n l = numeral_again 20 0 4095 n (omega (arith, l)) (length-decimal-le_wide 20 n (omega arith) (omega (arith, l)) (omega (arith, l))) (omega arith) l

pub owner_again : (n : ℕ) → n < 2 ^ 32 → owner (decimal n) ≡ Some n
owner_again n l = numeral_again 20 0 (2 ^ 32 - 1) n (omega (arith, l)) (length-decimal-le_wide 20 n (omega arith) (omega (arith, l)) (omega (arith, l))) (omega arith) (omega (arith, l))
