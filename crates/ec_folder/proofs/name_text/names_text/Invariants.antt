use Rattle.std.proofs.Common.{◌≡◌, map, string_bytes}
use Rattle.std.specs.Map.Iter.{deref_pair}
use Rattle.ec_folder.specs.Texts.{names_lines}
use Rattle.ec_folder.proofs.name_text.names_text.Given as goal

abbrev pub invariant-loop-name : goal.invariant-loop-name
invariant-loop-name l = string_bytes l.text ≡ names_lines (map deref_pair l.yielded)
