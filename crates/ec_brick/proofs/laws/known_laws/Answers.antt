use Rattle.ec_brick.proofs.StepsKnown.{laws}
use Rattle.ec_brick.proofs.laws.known_laws.Goals as goal

pub returns : goal.returns
returns c = laws
