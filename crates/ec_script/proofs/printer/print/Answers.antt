use Rattle.std.specs.Prelude.{string_bytes}
use Rattle.ec_script.proofs.PrintedLines.{meaning}
use Rattle.ec_script.proofs.printer.print.Goals as goal

pub returns-clause-meaning : goal.returns-clause-meaning
returns-clause-meaning c = meaning string_bytes c.text_of.result c.args.e.now c.text_of.ensures
