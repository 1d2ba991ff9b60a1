use Rattle.ec_answers.proofs.Agreement.{configs_tested}
use Rattle.ec_answers.proofs.heads.is_same_config.Goals as goal

pub returns : goal.returns
returns c = configs_tested c.args.a.now c.args.b.now c.same_config.result c.same_config.ensures.0 c.same_config.ensures.1
