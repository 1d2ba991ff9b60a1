use Rattle.std.proofs.Common.{◌≡◌, replicate}
use Rattle.ec_script.proofs.rounds.repeated.Given as goal

abbrev pub invariant-loop : goal.invariant-loop
invariant-loop l = l.bytes ≡ replicate l.counter l.byte
