use Rattle.ec_bitslice.proofs.Columns.{element-zero}
use Rattle.ec_bitslice.proofs.column.Column.zero.Goals as goal

pub returns : goal.returns
returns c = λ x k. let e = c.zeros-zero.ensures x in element-zero _ x k e e e e e e e e
