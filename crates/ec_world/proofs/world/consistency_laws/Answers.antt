use Rattle.ec_world.proofs.Consistency.{consistency_laws}
use Rattle.ec_world.proofs.world.consistency_laws.Goals as goal

pub returns : goal.returns
returns c = consistency_laws _ _ c.world_laws.ensures c.answer_laws.ensures c.commit_laws.ensures c.world_flat_laws.ensures c.world_head_laws.ensures c.world_name_laws.ensures c.world_cause_laws.ensures c.world_size_laws.ensures c.world_held_laws.ensures c.world_stand_laws.ensures c.world_answered_laws.ensures
