use Rattle.ec_law_stripes.proofs.striped_laws.Goals as goal
use Rattle.ec_law_stripes.proofs.StripeLogs.{striped_logs}

pub returns : goal.returns
returns c = striped_logs
