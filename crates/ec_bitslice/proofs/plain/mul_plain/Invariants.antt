use Rattle.std.proofs.Common.{◌≡◌, ℕ, ◌<◌, ◌≤◌, length, get_or}
use Rattle.ec_field.specs.Field.{product}
use Rattle.ec_field.specs.Chunk.{element}
use Rattle.ec_bitslice.proofs.plain.mul_plain.Given as goal

abbrev pub invariant-loop-e : goal.invariant-loop-e
invariant-loop-e l = record {
  len : length l.elements ≡ 512;
  done : (k : ℕ) → k < l.e → get_or l.elements k 0 ≡ product l.a (element l.c k);
  left : (k : ℕ) → l.e ≤ k → k < 512 → get_or l.elements k 0 ≡ element l.c k;
}
