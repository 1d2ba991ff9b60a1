use Rattle.ec_law_stripes.proofs.byte_laws.Goals as goal
use Rattle.ec_law_stripes.proofs.Bytes.{byte_laws}

pub returns : goal.returns
returns c = byte_laws
