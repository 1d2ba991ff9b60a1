use Rattle.std.proofs.Common.{◌≡◌, ◌++◌, drop}
use Rattle.ec_volfile.specs.Printed.{spaced_names}
use Rattle.ec_volfile.proofs.printer.put_names.Given as goal

abbrev pub invariant-loop-name : goal.invariant-loop-name
invariant-loop-name l = l.text ++ spaced_names (drop l.name-index l.name-items) ≡ l.fn.text ++ spaced_names l.names
