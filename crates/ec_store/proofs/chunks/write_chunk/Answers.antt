use Rattle.ec_store.proofs.RecordMaps.{bytes_through}
use Rattle.ec_store.proofs.chunks.write_chunk.Goals as goal

pub returns-in-Some-clause-bytes : goal.returns-in-Some-clause-bytes
returns-in-Some-clause-bytes c = bytes_through c.args.chunks.now (c.get_mut.follows.lender c.overlay.new.chunk) c.args.s c.in-Some.chunk.now c.overlay.new.chunk c.args.at c.args.bytes.now c.in-Some.ensures.value (c.get_mut.follows.holds c.overlay.new.chunk) c.overlay.ensures.bytes
