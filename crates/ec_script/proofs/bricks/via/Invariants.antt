use Rattle.std.proofs.Common.{◌≡◌, ◌≤◌, ◌<◌, ◌^◌}
use Rattle.std.specs.Prelude.{nat_eq}
use Rattle.std.specs.Option.{option_map}
use Rattle.ec_script.specs.Bricks.{via_bits, rising_bits}
use Rattle.ec_script.specs.Words.{pieces, rest_len}
use Rattle.ec_script.proofs.BrickLemmas.{with_bits}
use Rattle.ec_script.proofs.bricks.via.Given as goal

-- The bricks so far are below the least one that may follow.
abbrev pub invariant-loop-rest : goal.invariant-loop-rest
invariant-loop-rest l = record {
  parts : via_bits l.word ≡ with_bits l.set (rising_bits l.least (pieces (λ b. nat_eq b 44) (option_map (λ rest. rest.now) l.rest)));
  below : l.set < 2 ^ l.least;
  most : l.least ≤ 31;
}

abbrev pub decreases-loop-rest : goal.decreases-loop-rest
decreases-loop-rest l = rest_len (option_map (λ rest. rest.now) l.rest)
