use Rattle.std.proofs.Common.{length, arith, get_or}
use Rattle.ec_stripe.proofs.Combining.{code_by_row}
use Rattle.ec_stripe.proofs.code.encode.Goals as goal

pub returns-clause-code : goal.returns-clause-code
returns-clause-code g c =
    code_by_row c.k.result (length c.args.stripe.now) c.args.g.now.algorithm c.args.b (λ j. get_or c.row.result j 0) c.args.stripe.now c.times_row.result
    (omega arith) c.row.ensures.row c.times_row.ensures.elements
