-- Bytes in hexadecimal digits: names, and the data of a write.
use Rattle.std.specs.Prelude.{◌≡◌, ℕ, ◌+◌, ◌%◌, ◌^◌, ◌<◌, ◌≤◌, Bool, true, false, ◌&&◌, ◌||◌, not, List, [], ◌∷◌, ◌++◌, length, take, drop, codes, bytes_eq, nat_eq, nat_le, nat_lt, replicate, slice_index, Option, Some, None, Result, Ok, Err, if◌then◌else◌}
use Rattle.std.specs.List.{position_or_len, slice_split}
use Rattle.std.specs.Result.{result_unwrap_or}
use Rattle.hex.specs.Hex.{decode_of, is_hex_digit}
use Rattle.ec_attr.specs.Name.{is_name}
use Rattle.ec_script.specs.Numbers.{number}
use Rattle.ec_script.specs.Results.{◌>>=◌}
use Rattle.ec_script.specs.Words.{Placed}
use Rattle.ec_script.specs.declared.fault.LineFault.{LineFault}
use Rattle.ec_script.specs.declared.fault.LineFault.TheVariants.{BadHex, BadName, BadNumber, Bulky}

-- the bytes that digits of either case say, two digits a byte
abbrev pub digits_bytes : List ℕ → List ℕ
digits_bytes text = result_unwrap_or (decode_of text) []

-- Digits that begin at a place, two a byte and one byte at least. The first byte that is no digit is the fault, and
-- where each is one the end, if a digit lacks there.
unfoldable pub digits : ℕ → List ℕ → Result (List ℕ) LineFault
digits at text =
    let bad = position_or_len (λ b. not (is_hex_digit b)) text in
    if nat_lt bad (length text) then Err (BadHex (at + bad))
    else if nat_eq (length text) 0 || nat_eq (length text % 2) 1 then Err (BadHex (at + length text))
    else Ok (digits_bytes text)

-- the name that digits say
abbrev pub name_of : Placed → Result (List ℕ) LineFault
name_of w = digits w.place w.text >>= λ bytes. if is_name bytes then Ok bytes else Err BadName

-- two digits and a star
abbrev pub is_repeated : List ℕ → Bool
is_repeated part = nat_le 3 (length part) && is_hex_digit (slice_index part 0) && is_hex_digit (slice_index part 1) && nat_eq (slice_index part 2) 42

-- the byte of two digits, as often as a number says
abbrev pub repeated : Option ℕ → List ℕ → Result (List ℕ) LineFault
repeated None byte = Err BadNumber
repeated (Some times) byte = Ok (replicate times (slice_index byte 0))

-- a part that begins at a place: two digits, a star and a number, or digits
unfoldable pub part_bytes : ℕ → List ℕ → Result (List ℕ) LineFault
part_bytes at part = if is_repeated part then repeated (number (drop 3 part)) (digits_bytes (take 2 part)) else digits at part

-- parts with a byte between two, the first at a place
unfoldable pub parts_bytes : ℕ → List (List ℕ) → Result (List ℕ) LineFault
parts_bytes at [] = Ok []
parts_bytes at (part ∷ parts) = part_bytes at part >>= λ bytes. parts_bytes (at + (length part + 1)) parts >>= λ more. Ok (bytes ++ more)

-- the most bytes of data
abbrev pub most_data : ℕ
most_data = 2 ^ 21

abbrev pub not_bulky : List ℕ → Result (List ℕ) LineFault
not_bulky bytes = if nat_lt most_data (length bytes) then Err Bulky else Ok bytes

-- the bytes of parts that are joined by +
abbrev pub joined_bytes : ℕ → List ℕ → Result (List ℕ) LineFault
joined_bytes at text = parts_bytes at (slice_split (λ b. nat_eq b 43) text) >>= not_bulky

-- a hyphen for no bytes, or parts joined by +
unfoldable pub written_bytes : Placed → Result (List ℕ) LineFault
written_bytes w = if bytes_eq w.text (codes "-") then Ok [] else joined_bytes w.place w.text

-- What was gathered of all bytes so far: the bytes themselves, or that they are too many.
abbrev pub Holds : Bool → List ℕ → List ℕ → Type 0
Holds true bytes all = most_data < length all
Holds false bytes all = (bytes ≡ all) × (length all ≤ most_data)

-- more bytes were gathered, whatever was before
abbrev pub Gathers : Bool → List ℕ → Bool → List ℕ → List ℕ → Type 0
Gathers bulky old still new more = (all : List ℕ) → Holds bulky old all → Holds still new (all ++ more)
