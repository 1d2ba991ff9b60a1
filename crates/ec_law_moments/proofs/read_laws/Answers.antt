use Rattle.ec_law_moments.proofs.read_laws.Goals as goal
use Rattle.ec_law_moments.proofs.Laws.{laws}

pub returns : goal.returns
returns g c form = laws form
