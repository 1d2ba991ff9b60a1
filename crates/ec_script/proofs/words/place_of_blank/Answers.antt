use Rattle.std.proofs.Common.{arith, sym, ◌∙◌}
use Rattle.ec_script.specs.Words.{is_blank}
use Rattle.ec_script.proofs.WordLemmas.{found_at, found_nowhere}
use Rattle.ec_script.proofs.words.place_of_blank.Goals as goal

pub returns-then-is_blank : goal.returns-then-is_blank
returns-then-is_blank c =
    found_at is_blank c.args.bytes.now c.loop-i.i (omega arith) c.loop-i.invariant (sym c.is_blank.ensures ∙ c.if-is_blank.true)

pub returns : goal.returns
returns c = found_nowhere is_blank c.args.bytes.now c.loop-i.i (omega arith) c.loop-i.invariant
