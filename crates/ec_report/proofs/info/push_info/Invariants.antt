use Rattle.std.proofs.Common.{◌≡◌, ◌++◌, drop, string_bytes}
use Rattle.ec_report.specs.Info.{info_lines}
use Rattle.ec_report.proofs.info.push_info.Given as goal

abbrev pub invariant-loop-g : goal.invariant-loop-g
invariant-loop-g l = string_bytes l.text ++ info_lines l.b (drop l.g-index l.gfids) ≡ string_bytes l.fn.text ++ info_lines l.b l.gfids
