use Rattle.std.proofs.Common.{ap, length, arith, get_or}
use Rattle.ec_field.specs.Code.{chunk_at}
use Rattle.ec_bitslice.proofs.Horner.{plus_set, plus_clear}
use Rattle.ec_bitslice.proofs.group.Group.plus_if.Goals as goal

pub returns-else-self-j-eq1 : goal.returns-else-self-j-eq1
returns-else-self-j-eq1 c = plus_clear c.args.sum c.args.at (get_or c.args.self.now.coefficients c.args.j 0) c.args.i (chunk_at c.args.chunks.now c.args.j) c.if-self-j-eq1.false

pub returns-then-self-j-eq1 : goal.returns-then-self-j-eq1
returns-then-self-j-eq1 c =
    let group = c.args.self.now in
    plus_set c.args.sum c.load.result c.plus.result c.args.at (get_or group.coefficients c.args.j 0) c.args.i c.args.j c.args.chunks.now c.index-chunks-j.result c.index-chunks-j.result
    (λ p. group.present c.args.j (let e = ap length c.requires.same in omega (arith, e))) c.if-self-j-eq1.true c.index-chunks-j.is c.load.ensures c.plus.ensures
