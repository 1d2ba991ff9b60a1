-- A chunk of zeros.
use Rattle.std.proofs.Common.{rules, ◌≡◌, ℕ, replicate, slice_index}
use Rattle.std.proofs.lemmas.Grind.{common_steps}
use Rattle.ec_field.specs.Chunk.{zero_chunk}

replicated : (n i : ℕ) → slice_index (replicate n 0) i ≡ 0
replicated n i = search (rules, common_steps)

pub zero_at : (i : ℕ) → slice_index zero_chunk i ≡ 0
unfolding zero_chunk
zero_at i = replicated 512 i
