use Rattle.std.proofs.Common.{None}
use Rattle.ec_cluster.specs.Steps.{IsBegun}
use Rattle.ec_cluster.specs.Views.{log_of}
use Rattle.ec_clients.specs.Calls.{tabled}
use Rattle.ec_clients.specs.Steps.{Seen}
use Rattle.ec_clients.proofs.Goings.{breaks_now}
use Rattle.ec_clients.proofs.Idling.{dies_goes}
use Rattle.ec_clients.proofs.calling.die.Goals as goal

pub returns-in-Ok-clause-ok : goal.returns-in-Ok-clause-ok
returns-in-Ok-clause-ok g c = dies_goes g.C.Conduct.stands (tabled g.C.Conduct.begins g.C.Conduct.goes) c.args.cluster.now c.note.new.self c.args.clients.now c.bury.new.self c.args.client c.in-Ok.ensures.ok c.bury.ensures.same c.bury.ensures.dead c.requires.lives

pub returns-in-Err-clause-err : goal.returns-in-Err-clause-err
returns-in-Err-clause-err g c = breaks_now c.args.clients.now.options.geometry (IsBegun (λ e. ⊥)) tt (Seen g.C.Conduct.stands (tabled g.C.Conduct.begins g.C.Conduct.goes) c.args.cluster.now c.args.clients.now None) c.args.cluster.now c.note.new.self (λ i. log_of (c.in-Err.ensures.err i))
