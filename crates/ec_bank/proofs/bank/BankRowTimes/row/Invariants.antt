use Rattle.std.proofs.Common.{◌≡◌, ◌<◌, ℕ, get_or}
use Rattle.ec_field.specs.Chunk.{element, IsChunk}
use Rattle.ec_field.specs.Code.{combined_element}
use Rattle.ec_bank.proofs.bank.BankRowTimes.row.Given as goal

abbrev pub invariant-loop-j : goal.invariant-loop-j
invariant-loop-j g l = record {
  chunk : IsChunk l.sum;
  elements : (e : ℕ) → e < 512 → element l.sum e ≡ combined_element l.j (λ j. get_or l.coeffs j 0) l.chunks e;
}
