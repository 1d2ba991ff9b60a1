use Rattle.std.proofs.Common.{refl}
use Rattle.ec_field.proofs.Elements.{zero_is_chunk}
use Rattle.ec_field.specs.Chunk.{zero_chunk}
use Rattle.ec_field.proofs.chunk.Chunk.zero.Goals as goal

pub invariant_of-result : goal.invariant_of-result
unfolding zero_chunk
invariant_of-result c = zero_is_chunk

pub returns : goal.returns
unfolding zero_chunk
returns c = record { value = refl; chunk = zero_is_chunk }
