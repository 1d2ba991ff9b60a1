use Rattle.ec_law_plans.proofs.Worlds.{name_laws}
use Rattle.ec_law_plans.proofs.name_laws.Goals as goal

pub returns : goal.returns
returns c = name_laws _ _ c.call_laws.ensures c.call_name_laws.ensures c.world_laws.ensures c.world_data_laws.ensures c.named_laws.ensures
