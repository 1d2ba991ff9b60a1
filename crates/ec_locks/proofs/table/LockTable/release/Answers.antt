use Rattle.std.proofs.Common.{rules, sym, ◌≡◌, false}
use Rattle.ec_locks.proofs.Queues.{all_stay}
use Rattle.ec_locks.specs.Table.{has}
use Rattle.ec_locks.proofs.table.LockTable.release.Goals as goal

pub returns-then-not-has_ask-clause-ok : goal.returns-then-not-has_ask-clause-ok
returns-then-not-has_ask-clause-ok c = let h : has c.args.self.now c.args.number ≡ false = search rules in sym (all_stay c.args.number c.args.self.now h)
