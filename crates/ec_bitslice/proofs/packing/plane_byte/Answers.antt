use Rattle.std.proofs.Common.{◌*◌, ◌%◌, ◌^◌, refl, ap, ◌∙◌}
use Rattle.std.specs.Int.{bit_at}
use Rattle.std.proofs.lemmas.Simd.{length-chunk, get_or-chunk}
use lib.Lanes.{chunk}
use Rattle.ec_bitslice.proofs.PlaneBits.{mask_fits, mask_bit, bit_value}
use Rattle.ec_bitslice.proofs.packing.plane_byte.Goals as goal

pub overflow_cast-result : goal.overflow_cast-result
overflow_cast-result c =
    let v = chunk c.args.from 8 c.args.elements.now in
    record { fits = mask_fits v c.args.i (1 * 2 ^ c.args.i % 2 ^ 8) _ (length-chunk c.args.from 8 c.args.elements.now c.requires.room) (bit_value c.args.i c.requires.bit) refl }

pub returns : goal.returns
returns c = λ k h.
    let v = chunk c.args.from 8 c.args.elements.now in
    mask_bit v c.args.i (1 * 2 ^ c.args.i % 2 ^ 8) _ (length-chunk c.args.from 8 c.args.elements.now c.requires.room) (bit_value c.args.i c.requires.bit) refl k h
    ∙ ap (λ n. bit_at n c.args.i) (get_or-chunk c.args.from 8 c.args.elements.now k 0 h)
