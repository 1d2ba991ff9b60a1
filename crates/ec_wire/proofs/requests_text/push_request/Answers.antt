use Rattle.std.proofs.Common.{sym}
use Rattle.ec_wire.proofs.requests_text.push_request.Goals as goal

pub returns-in-ReadChunks : goal.returns-in-ReadChunks
returns-in-ReadChunks c = rw (c.in-ReadChunks.is, sym c.from.ensures) c.push_chunks.ensures

pub returns-in-WriteChunks : goal.returns-in-WriteChunks
returns-in-WriteChunks c = rw (c.in-WriteChunks.is, sym c.len.ensures) c.push_chunks-in-WriteChunks.ensures

pub returns-in-NamesAfter : goal.returns-in-NamesAfter
returns-in-NamesAfter c = rw c.in-NamesAfter.is c.push_past.ensures

pub returns-in-GfidsAfter : goal.returns-in-GfidsAfter
returns-in-GfidsAfter c = rw c.in-GfidsAfter.is c.push_gfids_past.ensures
