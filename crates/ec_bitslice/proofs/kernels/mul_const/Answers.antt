use Rattle.std.proofs.Common.{◌∙◌}
use Rattle.ec_bitslice.proofs.Sums.{alone}
use Rattle.ec_bitslice.proofs.kernels.mul_const.Goals as goal

pub returns-clause-product : goal.returns-clause-product
returns-clause-product c = λ e h. c.dot.ensures.sum e h ∙ alone c.args.a c.args.c.now c.from_ref.result.now e c.from_ref.ensures.value
