use Rattle.std.proofs.Common.{◌≡◌, false}
use Rattle.ec_script.specs.Generator.{left}
use Rattle.ec_script.proofs.generator.Generator.next.Given as goal

abbrev pub invariant-loop-self : goal.invariant-loop-self
invariant-loop-self l = record {
  same : left l.self-inside.rest ≡ left l.initial.self-inside.rest;
  files : l.self-inside.rest.creates ≡ 0;
  settled : l.self-inside.rest.settles ≡ false;
}

abbrev pub decreases-loop-self : goal.decreases-loop-self
decreases-loop-self l = l.self-inside.rest.rounds
