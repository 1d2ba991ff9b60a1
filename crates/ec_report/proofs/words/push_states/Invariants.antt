use Rattle.std.proofs.Common.{◌≡◌, ◌++◌, drop, map, string_bytes}
use Rattle.ec_wire.specs.Words.{behind}
use Rattle.ec_report.specs.Lines.{state_word}
use Rattle.ec_report.proofs.words.push_states.Given as goal

abbrev pub invariant-loop-head : goal.invariant-loop-head
invariant-loop-head l = string_bytes l.text ++ behind 32 (map state_word (drop l.head-index l.heads)) ≡ string_bytes l.fn.text ++ behind 32 (map state_word l.heads)
