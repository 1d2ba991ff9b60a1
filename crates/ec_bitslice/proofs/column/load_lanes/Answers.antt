use Rattle.std.proofs.lemmas.Simd.{get_or-chunk}
use Rattle.ec_bitslice.proofs.column.load_lanes.Goals as goal

pub returns : goal.returns
returns c = λ x h. get_or-chunk c.args.at 16 c.args.bytes.now x 0 h
