use Rattle.std.proofs.Common.{arith, length-set, ◌∙◌}
use Rattle.ec_field.proofs.Planes.{one_more_byte, element_of_planes, plane_byte_at}
use Rattle.ec_field.proofs.chunk.Chunk.from_elements.Goals as goal

pub loop-place-preserved : goal.loop-place-preserved
loop-place-preserved c = record {
  len = length-set _ _ _ ∙ c.loop-place.invariant.len;
  planes = one_more_byte (plane_byte_at c.args.elements.now) _ _ _ (omega arith) c.loop-place.invariant.planes c.plane_byte.ensures;
}

pub returns-clause-elements : goal.returns-clause-elements
returns-clause-elements c = element_of_planes c.args.elements.now c.from_array.result c.fits-elements (λ place h. rw c.from_array.ensures.value (c.loop-place.invariant.planes place (omega arith)))
