use Rattle.ec_bitslice.proofs.Columns.{loaded}
use Rattle.ec_bitslice.proofs.column.Column.load.Goals as goal

pub returns : goal.returns
returns c =
    loaded _ c.bytes-bytes.result.now c.args.chunk.now c.args.at c.bytes-bytes.ensures.value
    c.load_lanes.ensures c.load_lanes-2.ensures c.load_lanes-3.ensures c.load_lanes-4.ensures c.load_lanes-5.ensures c.load_lanes-6.ensures c.load_lanes-7.ensures c.load_lanes-8.ensures
