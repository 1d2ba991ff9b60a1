use Rattle.std.proofs.Common.{◌≤◌, arith, get_or}
use Rattle.ec_field.specs.Field.{IsByte}
use Rattle.ec_bitslice.proofs.Horner.{starts}
use Rattle.ec_bitslice.proofs.group.Group.combined.Goals as goal

pub step-sum-requires-clause-above : goal.step-sum-requires-clause-above
step-sum-requires-clause-above c =
    let group = c.args.self.now in
    starts c.zero.result c.args.at group.coefficients group.chunks.now
    (λ j. let b : get_or group.coefficients j 0 ≤ group.largest = group.bounded j in let l : IsByte group.largest = group.byte in omega (arith, b, l))
    c.zero.ensures
