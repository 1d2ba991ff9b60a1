use Rattle.std.proofs.Common.{◌≡◌, ◌<◌, ◌≤◌, ◌+◌, ◌++◌, length}
use Rattle.std.specs.Prelude.{map, IfSome}
use Rattle.std.specs.Option.{option_map}
use Rattle.ec_script.specs.Words.{is_blank, pieces, words, placed, seen, rest_len}
use Rattle.ec_script.proofs.words.words.Given as goal

-- The words so far, and those of the rest.
abbrev pub invariant-loop-rest : goal.invariant-loop-rest
invariant-loop-rest l = record {
  parts : words l.line ≡ map seen l.found.items ++ placed l.place (pieces is_blank (option_map (λ rest. rest.now) l.rest));
  few : length l.found.items < 9;
  inside : IfSome l.rest (λ rest. l.place + length rest.now ≤ length l.line);
}

abbrev pub decreases-loop-rest : goal.decreases-loop-rest
decreases-loop-rest l = rest_len (option_map (λ rest. rest.now) l.rest)
