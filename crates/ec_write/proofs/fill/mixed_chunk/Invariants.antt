use Rattle.std.proofs.Common.{◌≡◌, ℕ, ◌+◌, ◌<◌, length}
use Rattle.std.specs.Prelude.{slice_index}
use Rattle.ec_write.specs.Range.{new_byte}
use Rattle.ec_write.proofs.fill.mixed_chunk.Given as goal

abbrev pub invariant-loop-q : goal.invariant-loop-q
invariant-loop-q l = record {
  len : length l.chunk ≡ 512;
  each : (i : ℕ) → i < l.q → slice_index l.chunk i ≡ new_byte l.k l.off l.bytes l.size (slice_index l.old i) (l.from + i);
}
