use Rattle.ec_answers.proofs.GoodGroups.{laws}
use Rattle.ec_answers.proofs.laws.good_group_laws.Goals as goal

pub returns : goal.returns
returns c = laws
