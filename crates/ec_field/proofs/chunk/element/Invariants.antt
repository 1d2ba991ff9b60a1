use Rattle.std.proofs.Common.{◌≡◌}
use Rattle.ec_field.specs.Field.{sum_below}
use Rattle.ec_field.specs.Chunk.{element_bit}
use Rattle.std.proofs.Common.{◌*◌, ◌^◌}
use Rattle.ec_field.proofs.chunk.element.Given as goal

abbrev pub invariant-loop-i : goal.invariant-loop-i
invariant-loop-i l = l.value ≡ sum_below l.i (λ i. element_bit l.c-inside.bytes l.e i * 2 ^ i)
