use Rattle.ec_law_settled.proofs.Worlds.{world_laws}
use Rattle.ec_law_settled.proofs.world_settled_laws.Goals as goal

pub returns : goal.returns
returns c = world_laws _ _ c.call_ask_laws.ensures c.settled_laws.ensures
