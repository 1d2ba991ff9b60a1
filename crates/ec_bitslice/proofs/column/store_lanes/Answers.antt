use Rattle.ec_bitslice.proofs.Lanes.{stores_chunk}
use Rattle.ec_bitslice.proofs.column.store_lanes.Goals as goal

pub returns : goal.returns
returns c = stores_chunk c.args.lanes c.args.at c.args.chunk.now c.store.new.self c.fits-lanes.0 c.requires c.store.ensures.value c.store.ensures.chunk
