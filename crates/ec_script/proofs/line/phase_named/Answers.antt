use Rattle.ec_script.proofs.PhaseLemmas.{named_by}
use Rattle.ec_script.proofs.line.phase_named.Goals as goal

pub returns : goal.returns
returns c = named_by c.phase_of.result c.args.word.now c.phase_of.ensures.word c.phase_of.ensures.none
