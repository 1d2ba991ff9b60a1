use Rattle.ec_txn.proofs.ReadAgain.{law}
use Rattle.ec_txn.proofs.reading.reading_law.Goals as goal

pub returns : goal.returns
returns c = law
