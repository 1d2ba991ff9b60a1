use Rattle.std.proofs.Common.{◌≡◌, ◌++◌, drop, map, string_bytes}
use Rattle.ec_wire.specs.Answers.{listed_word}
use Rattle.ec_wire.specs.Words.{behind}
use Rattle.ec_wire.proofs.answers_text.push_listing.Given as goal

abbrev pub invariant-loop-name : goal.invariant-loop-name
invariant-loop-name l = string_bytes l.text ++ behind 32 (map listed_word (drop l.name-index l.name-items)) ≡ string_bytes l.fn.text ++ behind 32 (map listed_word l.list)
