use Rattle.std.proofs.Common.{refl}
use Rattle.ec_bitslice.proofs.Columns.{element-doubled}
use Rattle.ec_bitslice.proofs.column.Column.doubled.Goals as goal

pub returns : goal.returns
returns c = λ x k. element-doubled c.args.self _ x k refl refl (c.sum.ensures x) (c.sum-2.ensures x) (c.sum-3.ensures x) refl refl refl
