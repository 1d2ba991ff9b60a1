-- Where the bytes of a write lie among the stripes of its file, and which stripes it has to read.
use Rattle.std.specs.Prelude.{ℕ, ◌+◌, ◌-◌, ◌*◌, ◌/◌, ◌%◌, ◌^◌, Bool, cond, ◌&&◌, ◌||◌, nat_le, nat_lt, min, Option, Some, None, List, [], length, slice_index}
use Rattle.ec_conduct.specs.Changes.{stripes_of}
use Rattle.ec_stripe.specs.Span.{stripe_bytes}
use Rattle.ec_wire.specs.declared.op.Op.{Op}
use Rattle.ec_wire.specs.declared.op.Op.TheVariants.{Write}

-- where a write begins, and its bytes
abbrev pub off_of : Op → ℕ
off_of (Write g off bytes) = off
off_of op = 0

abbrev pub data_of : Op → List ℕ
data_of (Write g off bytes) = bytes
data_of op = []

-- the end as a number of 64 bits, the greatest one for an end past it
abbrev pub told_end : ℕ → ℕ → ℕ
told_end off len = min (off + len) (2 ^ 64 - 1)

-- the stripe of the first byte
abbrev pub first_stripe : ℕ → ℕ → ℕ
first_stripe k off = off / stripe_bytes k

-- Places are counted from the first byte of that stripe on: the range begins at `head_of`, and ends before `reach`.
abbrev pub head_of : ℕ → ℕ → ℕ
head_of k off = off % stripe_bytes k

abbrev pub reach : ℕ → ℕ → ℕ → ℕ
reach k off len = head_of k off + len

-- how many stripes the range touches
abbrev pub count_stripes : ℕ → ℕ → ℕ → ℕ
count_stripes k off len = stripes_of k (reach k off len)

-- how many bytes the file had from that stripe on
abbrev pub kept_bytes : ℕ → ℕ → ℕ → ℕ
kept_bytes k off size = size - stripe_bytes k * first_stripe k off

-- The first stripe is read where the range doesn't cover it whole and the file had bytes in it,
abbrev pub reads_first : ℕ → ℕ → ℕ → ℕ → Bool
reads_first k off len size = (nat_lt 0 (head_of k off) || nat_lt (reach k off len) (stripe_bytes k)) && nat_lt 0 (kept_bytes k off size)

-- and so is the last one, where it is another.
abbrev pub reads_last : ℕ → ℕ → ℕ → ℕ → Bool
reads_last k off len size =
    nat_lt 1 (count_stripes k off len) && nat_lt (reach k off len) (stripe_bytes k * count_stripes k off len)
    && nat_lt (stripe_bytes k * (count_stripes k off len - 1)) (kept_bytes k off size)

-- the stripe that is read after the first one, and the one that is read first
abbrev pub second_read : ℕ → ℕ → ℕ → ℕ → Option ℕ
second_read k off len size = cond (reads_last k off len size) (Some (first_stripe k off + (count_stripes k off len - 1))) None

abbrev pub first_read : ℕ → ℕ → ℕ → ℕ → Option ℕ
first_read k off len size = cond (reads_first k off len size) (Some (first_stripe k off)) (second_read k off len size)

-- The byte at a place: one of the call's, else what was there below the old size, else zero.
abbrev pub new_byte : ℕ → ℕ → List ℕ → ℕ → ℕ → ℕ → ℕ
new_byte k off bytes size old at =
    cond (nat_le (head_of k off) at && nat_lt at (reach k off (length bytes))) (slice_index bytes (at - head_of k off)) (cond (nat_lt at (kept_bytes k off size)) old 0)
