use Rattle.ec_law_grants.proofs.Worlds.{grant_laws}
use Rattle.ec_law_grants.proofs.world_grant_laws.Goals as goal

pub returns : goal.returns
returns c = grant_laws _ _ c.world_laws.ensures
