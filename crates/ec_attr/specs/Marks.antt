-- The mark of a content version: its bit 62, set while a heal rebuilds the record.
use Rattle.std.specs.Prelude.{ℕ, ◌+◌, ◌-◌, ◌^◌, ◌/◌, ◌%◌, Bool, ◌==◌, if◌then◌else◌}

abbrev pub is_marked : ℕ → Bool
is_marked v = v / 2 ^ 62 % 2 == 1

-- the version without the mark, and with it
abbrev pub stripped : ℕ → ℕ
stripped v = if is_marked v then v - 2 ^ 62 else v

abbrev pub marked : ℕ → ℕ
marked v = if is_marked v then v else v + 2 ^ 62
