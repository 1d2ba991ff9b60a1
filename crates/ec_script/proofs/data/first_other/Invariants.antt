use Rattle.std.proofs.Common.{◌≡◌, ℕ, ◌<◌, false, get_or, not}
use Rattle.hex.specs.Hex.{is_hex_digit}
use Rattle.ec_script.proofs.data.first_other.Given as goal

abbrev pub invariant-loop-i : goal.invariant-loop-i
invariant-loop-i l = (k : ℕ) → k < l.i → not (is_hex_digit (get_or l.text k 0)) ≡ false
