use Rattle.std.proofs.Common.{◌≡◌, drop}
use Rattle.ec_wire.specs.Phases.{phase_among}
use Rattle.ec_wire.proofs.phase.phase_among.Given as goal

abbrev pub invariant-loop-phase : goal.invariant-loop-phase
invariant-loop-phase l = phase_among (drop l.phase-index l.phases) l.word ≡ phase_among l.phases l.word
