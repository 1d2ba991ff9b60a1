use Rattle.std.proofs.Common.{◌≡◌, ◌*◌, ◌^◌, ◌∙◌, ap, sym, arith}
use Rattle.ec_field.specs.Field.{sum_below}
use Rattle.ec_field.specs.Chunk.{element_bit, element}
use Rattle.ec_field.proofs.Steps.{element_step, element_is}
use Rattle.ec_field.proofs.Sums.{sum_none}
use Rattle.ec_field.proofs.chunk.element.Goals as goal

pub loop-i-init : goal.loop-i-init
loop-i-init c = sym (sum_none _)

pub loop-i-preserved : goal.loop-i-preserved
loop-i-preserved c = rw c.from-byte.ensures (element_step c.c.inside.bytes c.loop-i.value c.args.e c.loop-i.i (omega arith) c.loop-i.invariant)

pub returns : goal.returns
returns c =
    let all : c.loop-i.i ≡ 8 = omega arith in
    c.loop-i.invariant
    ∙ ap (λ n. sum_below n (λ i. element_bit c.c.inside.bytes c.args.e i * 2 ^ i)) all
    ∙ sym (element_is c.c.inside.bytes c.args.e)
    ∙ ap (λ bytes. element bytes c.args.e) c.c.view_is
