use Rattle.std.proofs.Common.{◌≤◌, sym, ◌∙◌, length, arith, not}
use Rattle.std.proofs.lemmas.Bool.{eqb-false}
use Rattle.hex.specs.Hex.{is_hex_digit}
use Rattle.ec_script.proofs.WordLemmas.{position_le}
use Rattle.ec_script.proofs.DataLemmas.{digits_ok}
use Rattle.ec_script.proofs.data.check_digits.Goals as goal

pub returns-clause-ok : goal.returns-clause-ok
returns-clause-ok c =
    let least = position_le (λ b. not (is_hex_digit b)) c.args.text.now in
    let most : length c.args.text.now ≤ c.first_other-other.result = omega (arith, c.if-other-text.false) in (
      digits_ok c.args.place c.args.text.now (omega (arith, most, c.first_other-other.ensures)) (eqb-false (length c.args.text.now) 0 (sym c.is_empty.ensures ∙ c.if-is_empty.false)) c.if-text-eq1.false,
      omega (arith, c.if-text-eq1.false),
      omega (arith, least, most, c.first_other-other.ensures),
    )
