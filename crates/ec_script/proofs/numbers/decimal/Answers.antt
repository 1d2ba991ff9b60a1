use Rattle.std.proofs.Common.{arith}
use Rattle.ec_script.proofs.NumberLemmas.{room, digit_at}
use Rattle.ec_script.proofs.numbers.decimal.Goals as goal

pub overflow_mul-value : goal.overflow_mul-value
overflow_mul-value c = omega (arith, room c.loop-digit.value c.loop-digit.digit-index c.loop-digit.invariant.1 (omega (arith, c.requires.short, c.loop-digit-test.true)))

pub overflow_add-value : goal.overflow_add-value
overflow_add-value c =
    omega (
      arith,
      room c.loop-digit.value c.loop-digit.digit-index c.loop-digit.invariant.1 (omega (arith, c.requires.short, c.loop-digit-test.true)),
      digit_at c.args.word.now c.loop-digit.digit-index c.requires.digits c.loop-digit-test.true,
      c.from.ensures,
    )
