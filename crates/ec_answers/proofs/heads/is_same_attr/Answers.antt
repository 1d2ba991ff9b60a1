use Rattle.ec_answers.proofs.Agreement.{attrs_tested}
use Rattle.ec_answers.proofs.heads.is_same_attr.Goals as goal

pub returns : goal.returns
returns c = attrs_tested c.args.a.now c.args.b.now c.same_attr.result c.same_attr.ensures.0 c.same_attr.ensures.1
