use Rattle.std.proofs.Common.{◌≡◌, ◌<◌, ◌^◌, drop}
use Rattle.ec_volfile.specs.Numbers.{decimal_after}
use Rattle.ec_volfile.proofs.number.decimal.Given as goal

abbrev pub invariant-loop-b : goal.invariant-loop-b
invariant-loop-b l = (decimal_after l.n (drop l.b-index l.word) ≡ decimal_after 0 l.word) × (l.n < 10 ^ l.b-index)
