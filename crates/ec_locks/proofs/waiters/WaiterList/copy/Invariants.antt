use Rattle.std.proofs.Common.{◌≡◌, take}
use Rattle.ec_locks.proofs.waiters.WaiterList.copy.Given as goal

abbrev pub invariant-loop-w : goal.invariant-loop-w
invariant-loop-w l = l.waiters.items ≡ take l.w-index l.self
