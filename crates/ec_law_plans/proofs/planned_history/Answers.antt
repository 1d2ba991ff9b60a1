use Rattle.ec_law_plans.proofs.Histories.{plans_are_history}
use Rattle.ec_law_plans.proofs.planned_history.Goals as goal

pub returns : goal.returns
returns c = plans_are_history
