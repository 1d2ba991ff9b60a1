use Rattle.ec_brick.specs.State.{state}
use Rattle.ec_brick.proofs.Locking.{ask_meets}
use Rattle.ec_brick.proofs.brick.Brick.ask.Goals as goal

pub returns-clause-step : goal.returns-clause-step
returns-clause-step c = λ m. rw (c.effects_of.ensures, c.granted_reply.ensures) (ask_meets (state c.args.self.now m) _ c.ask.new.self c.in_ok-asked.asked c.in_ok-asked.ensures.ok c.in_ok-asked.ensures.answer)
