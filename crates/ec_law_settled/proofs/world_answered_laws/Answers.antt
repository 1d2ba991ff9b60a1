use Rattle.ec_law_settled.proofs.Answered.{answered_laws}
use Rattle.ec_law_settled.proofs.world_answered_laws.Goals as goal

pub returns : goal.returns
returns c = answered_laws _ _ c.call_wait_laws.ensures c.world_settled_laws.ensures
