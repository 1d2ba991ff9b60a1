use Rattle.std.proofs.Common.{◌+◌, ◌*◌, ◌^◌, get_or, refl}
use Rattle.std.specs.Int.{bit_at}
use Rattle.ec_field.proofs.Sums.{sum_more}
use Rattle.ec_field.proofs.Planes.{moved_bit}
use Rattle.ec_field.proofs.build.plane_byte.Goals as goal

pub loop-j-preserved : goal.loop-j-preserved
loop-j-preserved c =
    rw (
      moved_bit (get_or c.args.elements.now (8 * c.args.column + c.loop-j.j) 0) c.args.plane c.loop-j.j c.loop-j-test.true,
      sum_more c.loop-j.j (λ j. bit_at (get_or c.args.elements.now (8 * c.args.column + j) 0) c.args.plane * 2 ^ j),
      c.loop-j.invariant,
    ) refl
