use Rattle.std.proofs.Common.{◌≡◌, ℕ, ◌+◌, ◌-◌, length, slice_index, cond, nat_lt, nat_le, ◌&&◌}
use Rattle.ec_store.proofs.chunks.overlaid.Given as goal

abbrev pub invariant-loop-i : goal.invariant-loop-i
invariant-loop-i l =
    (length l.new ≡ 512)
    × ((j : ℕ) → slice_index l.new j ≡ cond (nat_lt j l.i && nat_le l.at (l.base + j) && nat_lt (l.base + j) l.end) (slice_index l.bytes (l.base + j - l.at)) (slice_index l.fn.chunk j))
