use Rattle.std.specs.Prelude.{nat_eq}
use Rattle.std.proofs.Common.{get_or, arith}
use Rattle.std.proofs.lemmas.Bool.{eq-eqb}
use Rattle.ec_play.proofs.SplitLemmas.{found_at, found_nowhere}
use Rattle.ec_play.proofs.split.place_of.Goals as goal

pub returns-then-b-byte : goal.returns-then-b-byte
returns-then-b-byte c =
    found_at (λ b. nat_eq b c.args.byte) c.args.bytes.now c.loop-i.i (omega arith) c.loop-i.invariant
    (eq-eqb (get_or c.args.bytes.now c.loop-i.i 0) c.args.byte c.if-b-byte.true)

pub returns : goal.returns
returns c = found_nowhere (λ b. nat_eq b c.args.byte) c.args.bytes.now c.loop-i.i (omega arith) c.loop-i.invariant
