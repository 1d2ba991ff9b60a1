use Rattle.ec_law_pieces.proofs.file_laws.Goals as goal
use Rattle.ec_law_pieces.proofs.Laws.{laws}

-- src/lib.rt:14:1
pub returns : goal.returns
returns g c form = laws form
