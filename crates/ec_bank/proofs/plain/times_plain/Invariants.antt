use Rattle.std.proofs.Common.{◌≡◌, ◌<◌, ℕ, get_or, length}
use Rattle.ec_field.specs.Field.{product}
use Rattle.ec_field.specs.Chunk.{element}
use Rattle.ec_bank.proofs.plain.times_plain.Given as goal

abbrev pub invariant-loop-e : goal.invariant-loop-e
invariant-loop-e l = record {
  len : length l.elements ≡ 512;
  products : (k : ℕ) → k < l.e → get_or l.elements k 0 ≡ product l.a (element l.c k);
}
