use Rattle.ec_answers.proofs.Steps.{none_given}
use Rattle.ec_answers.proofs.tests.answers.Goals as goal

pub loop-b-init : goal.loop-b-init
loop-b-init c = λ b l. none_given 31 b
