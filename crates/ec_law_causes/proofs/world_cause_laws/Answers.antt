use Rattle.ec_law_causes.proofs.Worlds.{cause_laws}
use Rattle.ec_law_causes.proofs.world_cause_laws.Goals as goal

pub returns : goal.returns
returns c = cause_laws _ _ c.call_cause_laws.ensures
