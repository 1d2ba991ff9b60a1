use Rattle.ec_history.proofs.Examples.{beside_a_heal, cut_short, scrubbed}
use Rattle.ec_history.proofs.laws.worked_examples.Goals as goal

-- src/laws.rt:31:1
pub returns-clause-cut_short : goal.returns-clause-cut_short
returns-clause-cut_short c = cut_short

-- src/laws.rt:31:1
pub returns-clause-beside_a_heal : goal.returns-clause-beside_a_heal
returns-clause-beside_a_heal c = beside_a_heal

-- src/laws.rt:31:1
pub returns-clause-scrubbed : goal.returns-clause-scrubbed
returns-clause-scrubbed c = scrubbed
