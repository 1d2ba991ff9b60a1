use Rattle.std.proofs.Common.{bit_xor, refl, sym, ◌∙◌}
use Rattle.ec_bitslice.proofs.Lanes.{lane-zip2}
use Rattle.ec_bitslice.proofs.column.sum.Goals as goal

pub returns : goal.returns
returns c = lane-zip2 bit_xor refl c.args.a c.args.b (c.fits-a.0 ∙ sym c.fits-b.0)
