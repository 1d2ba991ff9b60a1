-- Bricks of a read, and messages by the client and the brick between which they are.
use Rattle.std.specs.Prelude.{ℕ, ◌+◌, ◌^◌, List, [], ◌∷◌, take, drop, Option, Some, None, option_and_then, option_map, nat_eq, nat_le, if◌then◌else◌}
use Rattle.std.specs.List.{position_or_len, slice_split}
use Rattle.ec_wire.specs.declared.event.Which.{Which}
use Rattle.ec_wire.specs.declared.event.Which.TheVariants.{Number, ToBrick, ToClient}
use Rattle.ec_script.specs.Numbers.{number, client, brick}

-- a brick, where it is none below `least`
abbrev pub brick_from : ℕ → List ℕ → Option ℕ
brick_from least word = option_and_then (λ b. if nat_le least b then Some b else None) (brick word)

-- the bits of bricks, none below `least` and each above the one before it
unfoldable pub rising_bits : ℕ → List (List ℕ) → Option ℕ
rising_bits least [] = Some 0
rising_bits least (part ∷ parts) = option_and_then (λ b. option_map (λ bits. 2 ^ b + bits) (rising_bits (b + 1) parts)) (brick_from least part)

-- rising bricks divided by commas
abbrev pub via_bits : List ℕ → Option ℕ
via_bits word = rising_bits 0 (slice_split (λ b. nat_eq b 44) word)

-- what stands before the first such byte, and what stands behind it
abbrev pub before : ℕ → List ℕ → List ℕ
before mark word = take (position_or_len (λ b. nat_eq b mark) word) word

abbrev pub behind : ℕ → List ℕ → List ℕ
behind mark word = drop (position_or_len (λ b. nat_eq b mark) word + 1) word

-- what follows a letter that a text begins with
abbrev pub after_letter : ℕ → List ℕ → Option (List ℕ)
after_letter letter [] = None
after_letter letter (b ∷ bs) = if nat_eq b letter then Some bs else None

-- the two texts behind these letters on both sides of a hyphen
abbrev pub both_sides : Option (List ℕ) → Option (List ℕ) → Option (List ℕ × List ℕ)
both_sides (Some x) (Some y) = Some (x, y)
both_sides _ _ = None

abbrev pub sides : ℕ → ℕ → List ℕ → Option (List ℕ × List ℕ)
sides left right word = both_sides (after_letter left (before 45 word)) (after_letter right (behind 45 word))

abbrev pub to_brick : List ℕ × List ℕ → Option Which
to_brick s = option_and_then (λ c. option_map (λ b. ToBrick c b) (brick s.1)) (client s.0)

abbrev pub to_client : List ℕ × List ℕ → Option Which
to_client s = option_and_then (λ b. option_map (λ c. ToClient c b) (client s.1)) (brick s.0)

-- `cC-bB`, `bB-cC` or a number
abbrev pub by_client : Option (List ℕ × List ℕ) → Option Which → Option Which
by_client (Some s) other = to_brick s
by_client None other = other

abbrev pub by_brick : Option (List ℕ × List ℕ) → Option Which → Option Which
by_brick (Some s) other = to_client s
by_brick None other = other

unfoldable pub message : List ℕ → Option Which
message word = by_client (sides 99 98 word) (by_brick (sides 98 99 word) (option_map (λ n. Number n) (number word)))
