use Rattle.ec_law_answers.proofs.Answering.{answer_laws}
use Rattle.ec_law_answers.proofs.answer_laws.Goals as goal

pub returns : goal.returns
returns c = answer_laws _ _ c.world_laws.ensures
