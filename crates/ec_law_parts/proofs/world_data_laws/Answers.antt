use Rattle.ec_law_parts.proofs.Worlds.{data_laws}
use Rattle.ec_law_parts.proofs.world_data_laws.Goals as goal

pub returns : goal.returns
returns c = data_laws _ _ c.call_part_laws.ensures
