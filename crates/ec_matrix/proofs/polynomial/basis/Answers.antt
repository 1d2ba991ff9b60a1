use Rattle.std.proofs.Common.{◌∙◌, ap, arith}
use Rattle.ec_field.specs.Field.{product, power}
use Rattle.ec_matrix.proofs.Steps.{written, long, unwritten, scaled_basis, entry}
use Rattle.ec_matrix.proofs.polynomial.basis.Goals as goal

pub loop-j-preserved : goal.loop-j-preserved
loop-j-preserved c = record {
  len = long c.loop-j.basis 16 c.loop-j.j c.mul.result c.loop-j.invariant.len;
  done = written c.loop-j.basis c.loop-j.j c.mul.result (λ i. product c.pow-scale.result (entry c.quotient-basis.result i)) (omega arith) c.loop-j.invariant.done
      (c.mul.ensures ∙ ap (product c.pow-scale.result) (c.loop-j.invariant.left c.loop-j.j (omega arith)));
  left = unwritten c.loop-j.basis c.loop-j.j c.mul.result (entry c.quotient-basis.result) c.loop-j.invariant.left;
}

pub returns : goal.returns
returns c = scaled_basis c.args.k c.args.r c.pow-scale.result (entry c.args.coefficients.now) c.quotient-basis.result c.loop-j.basis c.quotient-basis.ensures (c.pow-scale.ensures ∙ ap (λ x. power x 254) c.value.ensures) (λ i l. c.loop-j.invariant.done i (omega (arith, c.from-j-end.ensures)))
