use Rattle.ec_law_heads.proofs.Worlds.{world_heads}
use Rattle.ec_law_heads.proofs.world_head_laws.Goals as goal

pub returns : goal.returns
returns c = world_heads _ _ c.call_kind_laws.ensures c.world_laws.ensures c.world_flat_laws.ensures c.head_laws.ensures
