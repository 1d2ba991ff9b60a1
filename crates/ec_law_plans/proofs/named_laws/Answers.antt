use Rattle.ec_law_plans.proofs.Named.{named_logs}
use Rattle.ec_law_plans.proofs.named_laws.Goals as goal

pub returns : goal.returns
returns c = named_logs
