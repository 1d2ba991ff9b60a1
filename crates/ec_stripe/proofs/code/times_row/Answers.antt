use Rattle.std.proofs.Common.{length, ◌∙◌, arith}
use Rattle.ec_stripe.proofs.Combining.{first_entries}
use Rattle.ec_stripe.proofs.code.times_row.Goals as goal

pub returns-clause-elements : goal.returns-clause-elements
returns-clause-elements g c = λ e h.
    c.row.ensures.elements e h ∙ first_entries (length c.args.chunks.now) e c.args.coefficients.now c.args.chunks.now (omega arith)
