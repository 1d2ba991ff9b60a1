use Rattle.std.proofs.Common.{◌≡◌, ℕ, ◌<◌, false}
use Rattle.ec_attr.specs.Bricks.{is_in}
use Rattle.ec_answers.specs.Choice.{left_of, up_from}
use Rattle.ec_answers.proofs.choice.choose.Given as goal

abbrev pub invariant-loop-i : goal.invariant-loop-i
invariant-loop-i l = (j : ℕ) → j < l.i → left_of (is_in l.among) (is_in l.tried) (up_from l.start j) ≡ false
