-- Numbers in decimal digits. Zeros may stand before them, as far as the digits go.
use Rattle.std.specs.Prelude.{ℕ, ◌+◌, ◌-◌, ◌*◌, ◌^◌, Bool, ◌&&◌, List, [], ◌∷◌, length, Option, Some, None, option_map, nat_le, if◌then◌else◌}
use Rattle.std.specs.List.{list_all}
use Rattle.std.specs.Char.{is_ascii_digit}
use Rattle.ec_attr.specs.declared.gfid.Gfid.{Gfid}

-- what decimal digits say after a number
abbrev pub decimal_after : ℕ → List ℕ → ℕ
decimal_after n [] = n
decimal_after n (b ∷ bs) = decimal_after (n * 10 + (b - 48)) bs

-- from one digit to this many
abbrev pub is_numeric : ℕ → List ℕ → Bool
is_numeric most word = nat_le 1 (length word) && nat_le (length word) most && list_all is_ascii_digit word

-- the number from low to high that a word of so many digits is
unfoldable pub numeral : ℕ → ℕ → ℕ → List ℕ → Option ℕ
numeral most low high word = if is_numeric most word && nat_le low (decimal_after 0 word) && nat_le (decimal_after 0 word) high then Some (decimal_after 0 word) else None

abbrev pub number : List ℕ → Option ℕ
number word = numeral 20 0 (2 ^ 64 - 1) word

-- the id of a file or directory
abbrev pub gfid : List ℕ → Option Gfid
gfid word = option_map (λ n. record { 0 = n }) (numeral 39 1 (2 ^ 128 - 1) word)

abbrev pub client : List ℕ → Option ℕ
client word = numeral 20 1 16 word

abbrev pub brick : List ℕ → Option ℕ
brick word = numeral 20 0 30 word

-- the permission bits of an attribute, and its owner and group
abbrev pub mode : List ℕ → Option ℕ
mode word = numeral 20 0 4095 word

abbrev pub owner : List ℕ → Option ℕ
owner word = numeral 20 0 (2 ^ 32 - 1) word
