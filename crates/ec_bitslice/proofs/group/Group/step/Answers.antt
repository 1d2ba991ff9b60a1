use Rattle.std.proofs.Common.{◌≤◌, arith, get_or}
use Rattle.ec_field.specs.Field.{IsByte}
use Rattle.ec_bitslice.proofs.Horner.{step_none, step_some}
use Rattle.ec_bitslice.proofs.group.Group.step.Goals as goal

pub returns-then-self-i-eq0 : goal.returns-then-self-i-eq0
returns-then-self-i-eq0 c =
    let group = c.args.self.now in
    step_none c.args.sum c.args.at group.coefficients c.args.chunks.now group.largest c.args.i group.bounded c.if-self-i-eq0.true c.requires.above

pub returns-else-self-i-eq0 : goal.returns-else-self-i-eq0
returns-else-self-i-eq0 c =
    let group = c.args.self.now in
    step_some c.args.sum c.doubled.result c.plus_bit.result c.args.at group.coefficients c.args.chunks.now c.args.i
    (λ j. let b : get_or group.coefficients j 0 ≤ group.largest = group.bounded j in let l : IsByte group.largest = group.byte in omega (arith, b, l))
    c.requires.above c.doubled.ensures c.plus_bit.ensures
