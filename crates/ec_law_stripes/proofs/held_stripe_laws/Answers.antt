use Rattle.ec_law_stripes.proofs.held_stripe_laws.Goals as goal
use Rattle.ec_law_stripes.proofs.HoldLogs.{held_logs}

pub returns : goal.returns
returns c = held_logs
