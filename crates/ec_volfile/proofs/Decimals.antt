-- Numbers that are printed and read.
use Rattle.std.proofs.Common.{◌≡◌, ◌≢◌, ◌<◌, ◌≤◌, ◌^◌, ℕ, ◌+◌, ◌-◌, ◌*◌, ◌/◌, ◌%◌, min, Bool, true, false, ◌&&◌, List, [], ◌∷◌, ◌++◌, length, Some, None, refl, ap, ◌∙◌, arith, nat_lt}
use Rattle.std.specs.Prelude.{decimal, nat_le, option_map}
use Rattle.std.specs.List.{list_all}
use Rattle.std.specs.Char.{is_ascii_digit}
use Rattle.std.proofs.lemmas.Fmt.{decimal_by_steps, length-decimal-le, decimal_nonempty}
use Rattle.std.proofs.lemmas.Bool.{lt-ltb, le-leb, and_parts}
use Rattle.std.proofs.lemmas.Bool.Decides.{nat_tests}
use Rattle.std.proofs.Math.Nat.{min-eq_left}
use Rattle.ec_volfile.specs.Lines.{is_blank}
use Rattle.ec_volfile.specs.Numbers.{decimal_after, is_numeric, number_of}
use Rattle.ec_volfile.specs.Options.{cache_of, window_of, window_from}
use Rattle.ec_volfile.proofs.WordLemmas.{at_true}
use Rattle.ec_volfile.proofs.ReadLaws.{IsClean}

both : (a b : Bool) → a ≡ true → b ≡ true → (a && b) ≡ true
both a b e f = ap (λ (t : Bool). t && b) e ∙ f

-- a digit more
digit : (k : ℕ) → k < 10 → is_ascii_digit (48 + k) ≡ true
digit k l = grind (arith, nat_tests)

all_push : (ds : List ℕ) (d : ℕ) → list_all is_ascii_digit ds ≡ true → is_ascii_digit d ≡ true → list_all is_ascii_digit (ds ++ d ∷ []) ≡ true
all_push [] d e f = both (is_ascii_digit d) true f refl
all_push (x ∷ ds) d e f =
    let p = and_parts (is_ascii_digit x) (list_all is_ascii_digit ds) e in
    both (is_ascii_digit x) (list_all is_ascii_digit (ds ++ d ∷ [])) p.0 (all_push ds d p.1 f)

value_push : (ds : List ℕ) (n d : ℕ) → decimal_after n (ds ++ d ∷ []) ≡ decimal_after n ds * 10 + (d - 48)
value_push [] n d = refl
value_push (x ∷ ds) n d = value_push ds (n * 10 + (x - 48)) d

record Says (n : ℕ) (ds : List ℕ) : Type 0 where
  digits : list_all is_ascii_digit ds ≡ true
  value : decimal_after 0 ds ≡ n

decimal-says : (n : ℕ) → n < 2 ^ 64 → Says n (decimal n)
decimal-says n l = decimal_by_steps Says one more n l where
  one : (n : ℕ) → n < 10 → Says n ((48 + n) ∷ [])
  one n l = record { digits = both (is_ascii_digit (48 + n)) true (digit n l) refl; value = omega arith }

  more : (n : ℕ) (ds : List ℕ) → 10 ≤ n → Says (n / 10) ds → Says n (ds ++ ((48 + n % 10) ∷ []))
  more n ds l s = record {
    digits = all_push ds (48 + n % 10) s.digits (digit (n % 10) (omega arith));
    value = value_push ds 0 (48 + n % 10) ∙ omega (arith, s.value);
  }

-- a number is read again
pub number_of-decimal : (n : ℕ) → n < 2 ^ 32 → number_of (decimal n) ≡ Some n
unfolding number_of
number_of-decimal n l =
    let s = decimal-says n (omega arith) in
    let some : 1 ≤ length (decimal n) = decimal_nonempty n (omega arith) in
    let short : length (decimal n) ≤ 10 = length-decimal-le 10 n (omega arith) (omega arith) (omega arith) in
    let numeric : is_numeric (decimal n) ≡ true = both (nat_le 1 (length (decimal n)) && nat_le (length (decimal n)) 10) (list_all is_ascii_digit (decimal n)) (both (nat_le 1 (length (decimal n))) (nat_le (length (decimal n)) 10) (le-leb 1 (length (decimal n)) some) (le-leb (length (decimal n)) 10 short)) s.digits in
    at_true (is_numeric (decimal n) && nat_lt (decimal_after 0 (decimal n)) (2 ^ 32)) (Some (decimal_after 0 (decimal n))) None (both (is_numeric (decimal n)) (nat_lt (decimal_after 0 (decimal n)) (2 ^ 32)) numeric (lt-ltb (decimal_after 0 (decimal n)) (2 ^ 32) (omega (arith, s.value))))
    ∙ ap Some s.value

pub cache_of-decimal : (n : ℕ) → n ≤ 10 → cache_of (decimal n) ≡ Some n
unfolding cache_of
cache_of-decimal n l = ap (option_map (λ n. min n 10)) (number_of-decimal n (omega arith)) ∙ ap Some (min-eq_left l)

pub window_of-decimal : (n : ℕ) → 1 ≤ n → n ≤ 1024 → window_of (decimal n) ≡ Some n
unfolding window_of
window_of-decimal n l h = ap window_from (number_of-decimal n (omega arith)) ∙ at_true (nat_le 1 n && nat_le n 1024) (Some n) None (both (nat_le 1 n) (nat_le n 1024) (le-leb 1 n l) (le-leb n 1024 h))

-- digits are no blanks and no newlines
digit-clean : (b : ℕ) → is_ascii_digit b ≡ true → (is_blank b ≡ false) × (b ≢ 10)
digit-clean b e = (grind (arith, nat_tests), grind (arith, nat_tests))

digits-clean : (ds : List ℕ) → list_all is_ascii_digit ds ≡ true → IsClean ds
digits-clean [] e = tt
digits-clean (d ∷ ds) e =
    let p = and_parts (is_ascii_digit d) (list_all is_ascii_digit ds) e in
    (digit-clean d p.0, digits-clean ds p.1)

pub decimal-clean : (n : ℕ) → n < 2 ^ 64 → IsClean (decimal n)
decimal-clean n l = digits-clean (decimal n) (decimal-says n l).digits

pub decimal-some : (n : ℕ) → n < 2 ^ 64 → 0 < length (decimal n)
decimal-some n l = decimal_nonempty n l
