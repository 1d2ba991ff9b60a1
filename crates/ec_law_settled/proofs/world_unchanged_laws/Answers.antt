use Rattle.ec_law_settled.proofs.Worlds.{world_unchanged}
use Rattle.ec_law_settled.proofs.world_unchanged_laws.Goals as goal

pub returns : goal.returns
returns c = world_unchanged _ _ c.call_ask_laws.ensures c.unchanged_laws.ensures
