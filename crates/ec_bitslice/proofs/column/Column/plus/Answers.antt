use Rattle.ec_bitslice.proofs.Columns.{element-plus}
use Rattle.ec_bitslice.proofs.column.Column.plus.Goals as goal

pub returns : goal.returns
returns c = λ x k. element-plus c.args.self c.args.other _ x k (c.sum.ensures x) (c.sum-2.ensures x) (c.sum-3.ensures x) (c.sum-4.ensures x) (c.sum-5.ensures x) (c.sum-6.ensures x) (c.sum-7.ensures x) (c.sum-8.ensures x)
