use Rattle.std.proofs.Common.{ℕ, ◌<◌}
use Rattle.ec_field.specs.Chunk.{IsChunk}
use Rattle.ec_field.specs.Code.{chunk_at}
use Rattle.ec_cluster.proofs.chunks.are_chunks.Given as goal

abbrev pub invariant-loop-chunk : goal.invariant-loop-chunk
invariant-loop-chunk l = (i : ℕ) → i < l.chunk-index → IsChunk (chunk_at l.chunk-items i)
