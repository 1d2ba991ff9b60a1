use Rattle.ec_field.proofs.Lanes.{put_is_chunk}
use Rattle.ec_field.proofs.chunk.Chunk.store.Goals as goal

pub invariant_of-self : goal.invariant_of-self
invariant_of-self c = put_is_chunk c.args.at c.self.inside.bytes c.args.lanes c.put.new.bytes c.fits-lanes.0 c.fits-lanes.1 c.requires c.self.invariant c.put.ensures

pub returns-clause-chunk : goal.returns-clause-chunk
returns-clause-chunk c = put_is_chunk c.args.at c.self.inside.bytes c.args.lanes c.put.new.bytes c.fits-lanes.0 c.fits-lanes.1 c.requires c.self.invariant c.put.ensures
