use Rattle.std.proofs.Common.{◌∙◌, arith}
use Rattle.ec_bitslice.proofs.PlaneBits.{same_unpacked, unpacked_more}
use Rattle.ec_bitslice.proofs.packing.unpack.Goals as goal

pub returns-clause-elements : goal.returns-clause-elements
returns-clause-elements c = λ e h. c.loop-e.invariant e (omega arith)

pub returns-clause-inverse : goal.returns-clause-inverse
returns-clause-inverse c = λ elements long packed.
    same_unpacked c.args.c.now c.loop-e.out elements (c.loop-e.auto.out ∙ c.requires) long (returns-clause-elements c) packed

pub loop-e-init : goal.loop-e-init
loop-e-init c = λ n h. absurd (omega arith)

pub loop-e-preserved : goal.loop-e-preserved
loop-e-preserved c =
    unpacked_more c.loop-e.e c.from.result c.element.result c.args.c.now c.loop-e.out c.from.ensures (omega arith) c.element.ensures c.loop-e.invariant
