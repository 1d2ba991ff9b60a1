use Rattle.std.proofs.Common.{string_bytes}
use Rattle.ec_report.specs.Info.{IsInfoOf}
use Rattle.ec_report.proofs.info.info_text.Given as goal

abbrev pub invariant-loop-b : goal.invariant-loop-b
invariant-loop-b l = IsInfoOf l.b l.bricks (string_bytes l.text)
