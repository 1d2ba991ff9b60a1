use Rattle.ec_law_calls.proofs.Worlds.{world_laws}
use Rattle.ec_law_calls.proofs.world_laws.Goals as goal

pub returns : goal.returns
returns c = world_laws _ _ c.call_laws.ensures
