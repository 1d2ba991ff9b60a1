use Rattle.ec_law_stands.proofs.Worlds.{world_stands}
use Rattle.ec_law_stands.proofs.world_stand_laws.Goals as goal

pub returns : goal.returns
returns c = world_stands _ _ c.world_laws.ensures c.world_flat_laws.ensures c.world_head_laws.ensures c.restart_laws.ensures c.call_built_laws.ensures c.world_name_laws.ensures c.flat_name_laws.ensures c.world_size_laws.ensures c.begin_laws.ensures c.world_held_laws.ensures
