use Rattle.std.proofs.Common.{◌≡◌, ◌-◌, ◌+◌, ◌*◌, Some, length, arith, ap, ◌∙◌}
use Rattle.ec_script.specs.Numbers.{decimal_after}
use Rattle.ec_script.proofs.NumberLemmas.{digit_at, value_last, digits_last, below, beyond}
use Rattle.ec_script.proofs.numbers.value_of.Goals as goal

pub decimal-tens-requires-clause-digits : goal.decimal-tens-requires-clause-digits
decimal-tens-requires-clause-digits c = (digits_last c.args.word.now (length c.args.word.now - 1) (omega (arith, c.in-len1-up.len_at_least)) c.requires.digits).0

pub returns-then-tens-digit : goal.returns-then-tens-digit
returns-then-tens-digit c =
    let v = value_last c.args.word.now (length c.args.word.now - 1) (omega (arith, c.in-len1-up.len_at_least)) in
    let same : c.decimal-tens.result * 10 + c.from-digit.result ≡ decimal_after 0 c.args.word.now = omega (arith, v, c.decimal-tens.ensures, c.from-digit.ensures) in
    ap (λ n. Some n) same ∙ below (decimal_after 0 c.args.word.now) (omega (arith, same, c.if-tens-digit.true, c.from-digit.ensures, digit_at c.args.word.now (length c.args.word.now - 1) c.requires.digits (omega (arith, c.in-len1-up.len_at_least))))

pub returns-else-tens-digit : goal.returns-else-tens-digit
returns-else-tens-digit c =
    let v = value_last c.args.word.now (length c.args.word.now - 1) (omega (arith, c.in-len1-up.len_at_least)) in
    beyond (decimal_after 0 c.args.word.now) (omega (arith, v, c.decimal-tens.ensures, c.from-digit.ensures, c.if-tens-digit.false))
