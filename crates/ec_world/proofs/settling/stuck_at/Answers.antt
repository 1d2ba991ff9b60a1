use Rattle.std.proofs.Common.{subst, sym}
use Rattle.ec_clients.specs.Views.{running_at}
use Rattle.ec_world.specs.Refusals.{IsAwaitedBy}
use Rattle.ec_world.proofs.Permitting.{waiting_of}
use Rattle.ec_world.proofs.settling.stuck_at.Goals as goal

pub returns-else-queued-clause-stuck : goal.returns-else-queued-clause-stuck
returns-else-queued-clause-stuck g c = record { waiting = waiting_of g.C.Conduct.stands c.args.clients.now c.args.client c.args.brick c.in-Some.no (subst (IsAwaitedBy g.C.Conduct.stands (running_at c.args.clients.now c.args.client) c.args.brick) c.in-Some.is c.awaited.ensures); out_of_queue = sym c.if-queued.ensures }
