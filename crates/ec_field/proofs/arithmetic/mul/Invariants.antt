use Rattle.std.proofs.Common.{◌≡◌}
use Rattle.ec_field.specs.Field.{sum_below, partial_product, reduced, carryless}
use Rattle.ec_field.proofs.arithmetic.mul.Given as goal

abbrev pub invariant-loop-i : goal.invariant-loop-i
invariant-loop-i l = l.p ≡ sum_below l.i (partial_product l.a l.b)

abbrev pub invariant-loop-i-2 : goal.invariant-loop-i-2
invariant-loop-i-2 l = reduced l.i l.p ≡ reduced 7 (carryless l.a l.b)
