use Rattle.std.proofs.Common.{◌∙◌, sym, subst, Option}
use Rattle.std.specs.Prelude.{IfSome, ◌≡◌}
use Rattle.ec_wire.specs.declared.phase.Phase.{Phase}
use Rattle.ec_wire.specs.Phases.{phase_word, phases}
use Rattle.ec_wire.proofs.Phases.{among-word, found, not_found}
use Rattle.ec_wire.proofs.phase.phase_of.Goals as goal

pub returns-clause-word : goal.returns-clause-word
returns-clause-word c = subst (λ (o : Option Phase). IfSome o (λ p. phase_word p ≡ c.args.word.now)) (sym c.phase_among.ensures) (among-word phases c.args.word.now)

pub returns-clause-reads_back : goal.returns-clause-reads_back
returns-clause-reads_back c p e = c.phase_among.ensures ∙ found c.args.word.now p e

pub returns-clause-none : goal.returns-clause-none
returns-clause-none c h p e = not_found c.args.word.now (sym c.phase_among.ensures ∙ h) p e
