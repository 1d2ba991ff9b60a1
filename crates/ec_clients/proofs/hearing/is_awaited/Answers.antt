use Rattle.std.proofs.Common.{sym}
use Rattle.ec_clients.proofs.Hearings.{awaited}
use Rattle.ec_clients.proofs.hearing.is_awaited.Goals as goal

pub returns-in-Some-awaits-clause-yes : goal.returns-in-Some-awaits-clause-yes
returns-in-Some-awaits-clause-yes g c t = awaited g.C.Conduct.stands c.args.clients.now c.args.client c.args.call c.args.brick c.args.re c.in-Some.running.now c.in-Some-awaits.number (sym c.in-Some.ensures) c.if-running-call.true c.in-Some-awaits.ensures t
