use Rattle.ec_world.specs.Resting.{IsFree}
use Rattle.ec_world.proofs.Waiting.{one_more}
use Rattle.ec_world.proofs.settling.stuck_brick.Goals as goal

pub loop-brick-preserved : goal.loop-brick-preserved
loop-brick-preserved g c = one_more (λ b. IsFree g.C.Conduct.stands c.args.cluster.now c.args.clients.now c.args.client b) c.loop-brick.brick c.loop-brick.invariant (c.stuck_at.ensures.free c.in-None.is)
