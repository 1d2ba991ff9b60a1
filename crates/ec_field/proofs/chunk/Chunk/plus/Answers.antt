use Rattle.std.proofs.Common.{bit_xor, get_or, arith, length-set, ◌∙◌, refl}
use Rattle.ec_field.proofs.Planes.{one_more_byte}
use Rattle.ec_field.proofs.Elements.{element-xor}
use Rattle.ec_field.proofs.chunk.Chunk.plus.Goals as goal

pub loop-place-preserved : goal.loop-place-preserved
loop-place-preserved c = record {
  len = length-set _ _ _ ∙ c.loop-place.invariant.len;
  sums = one_more_byte (λ k. bit_xor (get_or c.args.self.now k 0) (get_or c.args.other.now k 0)) _ _ _ (omega arith) c.loop-place.invariant.sums (rw (c.bytes-ours.ensures.value, c.bytes-theirs.ensures.value) refl);
}

pub returns-clause-elements : goal.returns-clause-elements
returns-clause-elements c = element-xor c.args.self.now c.args.other.now c.from_array.result (λ place h. rw c.from_array.ensures.value (c.loop-place.invariant.sums place (omega arith)))
