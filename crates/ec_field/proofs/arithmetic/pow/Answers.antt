use Rattle.std.proofs.Common.{◌≡◌, ◌%◌, ◌∙◌, ap, sym, arith, lit<}
use Rattle.ec_field.specs.Field.{product, power}
use Rattle.ec_field.proofs.Products.{one_product, product_one}
use Rattle.ec_field.proofs.Powers.{power_is_byte, power-zero}
use Rattle.ec_field.proofs.Steps.{power_step_odd, power_step_even}
use Rattle.ec_field.proofs.arithmetic.pow.Goals as goal
use Rattle.ec_field.proofs.arithmetic.pow.Goals.{then-left-eq1, else-left-eq1}

pub loop-left-init : goal.loop-left-init
loop-left-init c = record {
  result_byte = lit< tt;
  base_byte = omega arith;
  value = one_product (power c.args.a c.args.n) (power_is_byte c.args.a c.args.n (omega arith));
}

pub loop-left-preserved : goal.loop-left-preserved
loop-left-preserved c = record {
  result_byte = elim c.if-left-eq1.branch [ then-left-eq1 w ↦ rw w.result-is w.mul-result.type_inv | else-left-eq1 w ↦ rw w.result-is c.loop-left.invariant.result_byte ];
  base_byte = c.mul-base.type_inv;
  value = rw c.mul-base.ensures (elim c.if-left-eq1.branch [
    | then-left-eq1 w ↦
        rw (w.result-is, w.mul-result.ensures)
        (power_step_odd c.loop-left.result c.loop-left.base c.loop-left.left c.loop-left.invariant.result_byte c.loop-left.invariant.base_byte w.if-left-eq1.true
        ∙ c.loop-left.invariant.value)
    | else-left-eq1 w ↦
        let even : c.loop-left.left % 2 ≡ 0 = omega arith in
        rw w.result-is
        (power_step_even c.loop-left.result c.loop-left.base c.loop-left.left c.loop-left.invariant.base_byte even
        ∙ c.loop-left.invariant.value)
  ]);
}

pub returns : goal.returns
returns c =
    let none : c.loop-left.left ≡ 0 = omega arith in
    sym (ap (λ n. product c.loop-left.result (power c.loop-left.base n)) none
    ∙ ap (product c.loop-left.result) (power-zero c.loop-left.base)
    ∙ product_one c.loop-left.result c.loop-left.invariant.result_byte)
    ∙ c.loop-left.invariant.value
