use Rattle.ec_locks.proofs.Laws.{laws}
use Rattle.ec_locks.proofs.table.lock_laws.Goals as goal

pub returns : goal.returns
returns c = laws
