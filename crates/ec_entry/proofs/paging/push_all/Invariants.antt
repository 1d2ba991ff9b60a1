use Rattle.std.proofs.Common.{◌≡◌, ◌++◌}
use Rattle.ec_entry.proofs.paging.push_all.Given as goal

abbrev pub invariant-loop-name : goal.invariant-loop-name
invariant-loop-name l = l.list ++ l.name-iterator ≡ l.initial.list ++ l.names.entries
