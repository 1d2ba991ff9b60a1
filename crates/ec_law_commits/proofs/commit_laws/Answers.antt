use Rattle.ec_law_commits.proofs.Committing.{commit_laws}
use Rattle.ec_law_commits.proofs.commit_laws.Goals as goal

pub returns : goal.returns
returns c = commit_laws _ _ c.world_laws.ensures c.answer_laws.ensures
