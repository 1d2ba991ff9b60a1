use Rattle.ec_law_settled.proofs.LookingWorlds.{look_laws}
use Rattle.ec_law_settled.proofs.world_look_laws.Goals as goal

pub returns : goal.returns
returns c = look_laws _ _ c.call_look_laws.ensures c.world_unchanged_laws.ensures
