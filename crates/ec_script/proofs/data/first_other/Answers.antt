use Rattle.std.proofs.Common.{arith, sym, ap, not, ◌∙◌}
use Rattle.hex.specs.Hex.{is_hex_digit}
use Rattle.ec_script.proofs.WordLemmas.{found_at, found_nowhere}
use Rattle.ec_script.proofs.data.first_other.Goals as goal

pub returns-then-not-is_digit : goal.returns-then-not-is_digit
returns-then-not-is_digit c =
    found_at (λ b. not (is_hex_digit b)) c.args.text.now c.loop-i.i (omega arith) c.loop-i.invariant (ap not (sym c.is_digit.ensures ∙ c.if-not-is_digit.true))

pub returns : goal.returns
returns c = found_nowhere (λ b. not (is_hex_digit b)) c.args.text.now c.loop-i.i (omega arith) c.loop-i.invariant
