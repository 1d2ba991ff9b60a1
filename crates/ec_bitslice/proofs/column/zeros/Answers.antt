use Rattle.ec_bitslice.proofs.Lanes.{lane-zeros}
use Rattle.ec_bitslice.proofs.column.zeros.Goals as goal

pub returns : goal.returns
returns c = lane-zeros 16
