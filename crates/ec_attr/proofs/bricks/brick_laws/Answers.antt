use Rattle.ec_attr.proofs.Sets.{laws}
use Rattle.ec_attr.proofs.bricks.brick_laws.Goals as goal

pub returns : goal.returns
returns c = laws
