use Rattle.std.proofs.Common.{◌≡◌, ◌+◌, ◌*◌, ◌^◌, get_or}
use Rattle.std.specs.Int.{bit_at}
use Rattle.ec_field.specs.Field.{sum_below}
use Rattle.ec_field.proofs.build.plane_byte.Given as goal

abbrev pub invariant-loop-j : goal.invariant-loop-j
invariant-loop-j l = l.byte ≡ sum_below l.j (λ j. bit_at (get_or l.elements (8 * l.column + j) 0) l.plane * 2 ^ j)
