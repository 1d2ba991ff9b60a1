use Rattle.std.proofs.Common.{inl, inr, sym}
use Rattle.ec_world.specs.Resting.{IsFreeOf}
use Rattle.ec_world.proofs.Waiting.{one_more}
use Rattle.ec_world.proofs.settling.first_stuck.Goals as goal
use Rattle.ec_world.proofs.settling.first_stuck.Goals.{then-not-is_dead+in-None, else-not-is_dead}

pub loop-client-preserved : goal.loop-client-preserved
loop-client-preserved g c = one_more (λ j. IsFreeOf g.C.Conduct.stands c.args.cluster.now c.args.clients.now j) c.loop-client.client c.loop-client.invariant (elim c.if-not-is_dead.branch [ then-not-is_dead+in-None w ↦ inr (w.stuck_brick.ensures.free w.in-None.is) | else-not-is_dead w ↦ inl (sym w.if-not-is_dead.ensures) ])
