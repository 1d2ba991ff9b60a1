use Rattle.std.proofs.Common.{◌≡◌, ◌<◌, ◌^◌, drop}
use Rattle.ec_script.specs.Numbers.{decimal_after}
use Rattle.ec_script.proofs.numbers.decimal.Given as goal

abbrev pub invariant-loop-digit : goal.invariant-loop-digit
invariant-loop-digit l = (decimal_after l.value (drop l.digit-index l.word) ≡ decimal_after 0 l.word) × (l.value < 10 ^ l.digit-index)
