use Rattle.ec_law_stripes.proofs.Worlds.{world_laws}
use Rattle.ec_law_stripes.proofs.world_held_laws.Goals as goal

pub returns : goal.returns
returns c = world_laws _ _ c.call_laws.ensures c.call_final_laws.ensures c.call_built_laws.ensures c.world_laws.ensures c.world_data_laws.ensures c.world_stripe_laws.ensures c.world_head_laws.ensures c.held_stripe_laws.ensures
