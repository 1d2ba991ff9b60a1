-- Decimal digits.
use Rattle.std.proofs.Common.{◌≡◌, ℕ, ◌+◌, ◌-◌, ◌*◌, ◌^◌, ◌<◌, ◌≤◌, true, List, [], ◌∷◌, ◌++◌, length, take, get_or, Some, None, refl, sym, ap, ◌∙◌, arith, lit<}
use Rattle.std.specs.Prelude.{nat_lt, if◌then◌else◌}
use Rattle.std.specs.List.{list_all}
use Rattle.std.specs.Char.{is_ascii_digit}
use Rattle.std.proofs.lemmas.Bool.{and_parts, lt-ltb, le-ltb}
use Rattle.std.proofs.lemmas.Bool.Decides.{nat_tests}
use Rattle.std.proofs.lemmas.List.{take_all}
use Rattle.std.proofs.lemmas.List.Elements.{All-get_or}
use Rattle.std.proofs.lemmas.List.Folds.{list_all_more}
use Rattle.std.proofs.lemmas.List.Sums.{AllPass-from_list_all}
use Rattle.std.proofs.Math.Nat.{pow-le-pow_right}
use Rattle.std.proofs.lemmas.List.{take_more}
use Rattle.ec_script.specs.Numbers.{decimal_after}

-- digits that more digits may follow
pub room : (v i : ℕ) → v < 10 ^ i → i < 38 → v * 10 + 9 < 2 ^ 128
room v i h l =
    let most : 10 ^ i ≤ 10 ^ 37 = pow-le-pow_right (lit< tt) {i = i} {j = 37} (omega (arith, l)) in
    omega (arith, h, most)

pub digit_small : (b : ℕ) → is_ascii_digit b ≡ true → (48 ≤ b) × (b ≤ 57)
digit_small b e = (grind (arith, nat_tests), grind (arith, nat_tests))

pub value_push : (ds : List ℕ) (n d : ℕ) → decimal_after n (ds ++ d ∷ []) ≡ decimal_after n ds * 10 + (d - 48)
value_push [] n d = refl
value_push (x ∷ ds) n d = value_push ds (n * 10 + (x - 48)) d

last_split : (s : List ℕ) (i : ℕ) → i + 1 ≡ length s → s ≡ take i s ++ get_or s i 0 ∷ []
last_split s i e = sym (take_all (i + 1) s (omega (arith, e))) ∙ take_more s i 0 (omega (arith, e))

-- what the digits before the last say, and the last
pub value_last : (w : List ℕ) (i : ℕ) → i + 1 ≡ length w → decimal_after 0 w ≡ decimal_after 0 (take i w) * 10 + (get_or w i 0 - 48)
value_last w i e = ap (decimal_after 0) (last_split w i e) ∙ value_push (take i w) 0 (get_or w i 0)

pub digits_last : (w : List ℕ) (i : ℕ) → i + 1 ≡ length w → list_all is_ascii_digit w ≡ true → (list_all is_ascii_digit (take i w) ≡ true) × (is_ascii_digit (get_or w i 0) ≡ true)
digits_last w i e h =
    and_parts (list_all is_ascii_digit (take i w)) (is_ascii_digit (get_or w i 0))
    (sym (list_all_more is_ascii_digit w i 0 (omega (arith, e))) ∙ ap (list_all is_ascii_digit) (take_all (i + 1) w (omega (arith, e))) ∙ h)

pub below : (v : ℕ) → v < 2 ^ 128 → Some v ≡ (if nat_lt v (2 ^ 128) then Some v else None)
below v l = rw (lt-ltb v (2 ^ 128) l) refl

pub beyond : (v : ℕ) → 2 ^ 128 ≤ v → None ≡ (if nat_lt v (2 ^ 128) then Some v else None)
beyond v l = rw (le-ltb v (2 ^ 128) l) refl

-- a digit of digits
pub digit_at : (w : List ℕ) (i : ℕ) → list_all is_ascii_digit w ≡ true → i < length w → (48 ≤ get_or w i 0) × (get_or w i 0 ≤ 57)
digit_at w i h l = digit_small (get_or w i 0) (All-get_or (λ b. is_ascii_digit b ≡ true) w i 0 l (AllPass-from_list_all is_ascii_digit w h))
