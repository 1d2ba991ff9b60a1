use Rattle.ec_law_index.proofs.file_index_laws.Goals as goal
use Rattle.ec_law_index.proofs.Files.{laws}

-- src/lib.rt:30:1
pub returns : goal.returns
returns g c form = laws form
