use Rattle.std.proofs.Common.{◌∙◌, ap, sym, false}
use Rattle.ec_index.specs.Members.{with_member}
use Rattle.ec_brick.proofs.Sets.{taken_back}
use Rattle.ec_brick.proofs.put.put.Goals as goal

pub returns-in-Err-clause-kept : goal.returns-in-Err-clause-kept
returns-in-Err-clause-kept g c = c.drop_from-in-Err.ensures ∙ ap (λ s. with_member s c.args.g.0 false) c.in_ok-add.ensures.ok ∙ taken_back _ c.args.g.0 (sym c.if-has.ensures)
