use Rattle.std.proofs.Common.{◌*◌, get_or}
use Rattle.ec_field.specs.Code.{combined_element}
use Rattle.ec_bitslice.specs.Column.{HasElements}
use Rattle.ec_bitslice.proofs.kernels.add_others.Given as goal

abbrev pub invariant-loop-four : goal.invariant-loop-four
invariant-loop-four l = record {
  a : HasElements l.a 0 (combined_element (4 * l.four) (λ j. get_or l.coeffs j 0) l.chunks);
  b : HasElements l.b 16 (combined_element (4 * l.four) (λ j. get_or l.coeffs j 0) l.chunks);
  c : HasElements l.c 32 (combined_element (4 * l.four) (λ j. get_or l.coeffs j 0) l.chunks);
  d : HasElements l.d 48 (combined_element (4 * l.four) (λ j. get_or l.coeffs j 0) l.chunks);
}
