-- Calls that are counted from 1 on. Those past number 2^64 - 2 have no number; the count then stands at 2^64 - 1.
use Rattle.std.specs.Prelude.{ℕ, ◌+◌, ◌-◌, ◌^◌, ◌&&◌, Bool, false, min, nat_eq, nat_lt, Option, None, Some}

-- the count with one call more; a count of faults rises in the same way
abbrev pub next_count : ℕ → ℕ
next_count count = min (count + 1) (2 ^ 64 - 1)

-- whether the number names the call that comes after so many
abbrev pub names_call : ℕ → ℕ → Bool
names_call number calls = nat_eq number (next_count calls) && nat_lt number (2 ^ 64 - 1)

abbrev pub is_call : Option ℕ → ℕ → Bool
is_call None calls = false
is_call (Some number) calls = names_call number calls
