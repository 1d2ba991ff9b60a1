-- Numbers in decimal digits.
use Rattle.std.specs.Prelude.{ℕ, ◌+◌, ◌-◌, ◌*◌, ◌^◌, Bool, ◌&&◌, List, [], ◌∷◌, length, Option, Some, None, nat_le, nat_lt, if◌then◌else◌}
use Rattle.std.specs.List.{list_all}
use Rattle.std.specs.Char.{is_ascii_digit}

-- what decimal digits say after a number
abbrev pub decimal_after : ℕ → List ℕ → ℕ
decimal_after n [] = n
decimal_after n (b ∷ bs) = decimal_after (n * 10 + (b - 48)) bs

-- from 1 to 10 digits
abbrev pub is_numeric : List ℕ → Bool
is_numeric word = nat_le 1 (length word) && nat_le (length word) 10 && list_all is_ascii_digit word

-- the number that a word is: 1 to 10 decimal digits, at most 2^32 - 1
unfoldable pub number_of : List ℕ → Option ℕ
number_of word = if is_numeric word && nat_lt (decimal_after 0 word) (2 ^ 32) then Some (decimal_after 0 word) else None
