use Rattle.ec_law_sizes.proofs.Worlds.{world_sizes}
use Rattle.ec_law_sizes.proofs.world_size_laws.Goals as goal

pub returns : goal.returns
returns c = world_sizes _ _ c.world_laws.ensures c.world_flat_laws.ensures c.world_head_laws.ensures c.record_size_laws.ensures
