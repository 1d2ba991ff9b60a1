use Rattle.ec_law_moments.proofs.sink_laws.Goals as goal
use Rattle.ec_law_moments.proofs.Laws.{sink_laws}

pub returns : goal.returns
returns g c form = sink_laws form
