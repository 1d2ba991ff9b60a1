use Rattle.ec_conduct.proofs.Conduct.{laws}
use Rattle.ec_conduct.proofs.laws.conduct_laws.Goals as goal

pub returns : goal.returns
returns c = laws c.brick_laws.ensures
