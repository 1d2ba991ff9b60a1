use Rattle.ec_bitslice.proofs.Horner.{plus_four}
use Rattle.ec_bitslice.proofs.group.Group.plus_bit.Goals as goal

pub returns : goal.returns
returns c = λ f h.
    let group = c.args.self.now in
    plus_four c.plus_if.result c.args.at group.coefficients c.args.chunks.now c.args.i f
    (c.plus_if.ensures _ (c.plus_if-sum-3.ensures _ (c.plus_if-sum-2.ensures _ (c.plus_if-sum.ensures f h))))
