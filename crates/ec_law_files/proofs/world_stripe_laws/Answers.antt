use Rattle.ec_law_files.proofs.Worlds.{stripe_laws}
use Rattle.ec_law_files.proofs.world_stripe_laws.Goals as goal

pub returns : goal.returns
returns c = stripe_laws _ _ c.call_stripe_laws.ensures
