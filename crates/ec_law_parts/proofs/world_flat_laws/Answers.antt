use Rattle.ec_law_parts.proofs.Worlds.{flat_laws}
use Rattle.ec_law_parts.proofs.world_flat_laws.Goals as goal

pub returns : goal.returns
returns c = flat_laws _ _ c.call_part_laws.ensures c.world_laws.ensures c.flat_laws.ensures
