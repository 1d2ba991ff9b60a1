use Rattle.ec_volfile.proofs.FileLaws.{laws}
use Rattle.ec_volfile.proofs.laws.volume_file_laws.Goals as goal

pub returns : goal.returns
returns c = laws
