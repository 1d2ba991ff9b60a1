-- The Granted of the first waiters are sent.
use Rattle.std.proofs.Common.{drop, take}
use Rattle.ec_cluster.proofs.cluster.Cluster.grant.Given as goal
use Rattle.ec_cluster.specs.Inner.{Granting}

abbrev pub invariant-loop-waiter : goal.invariant-loop-waiter
invariant-loop-waiter l = Granting l.initial.self l.self l.brick (take l.waiter-index l.waiter-items) (drop l.waiter-index l.waiter-items)
