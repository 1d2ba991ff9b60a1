use Rattle.std.proofs.Common.{◌≡◌}
use Rattle.ec_field.specs.Field.{product, power, IsByte}
use Rattle.ec_field.proofs.arithmetic.pow.Given as goal

abbrev pub invariant-loop-left : goal.invariant-loop-left
invariant-loop-left l = record {
  result_byte : IsByte l.result;
  base_byte : IsByte l.base;
  value : product l.result (power l.base l.left) ≡ power l.fn.a l.fn.n;
}

abbrev pub decreases-loop-left : goal.decreases-loop-left
decreases-loop-left l = l.left
