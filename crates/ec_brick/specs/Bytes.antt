-- How many bytes a request writes.
use Rattle.std.specs.Prelude.{ℕ, Option, Some, None, length}
use Rattle.ec_wire.specs.declared.request.Request.{Request}
use Rattle.ec_wire.specs.declared.request.Request.TheVariants.{WriteChunks}
use Rattle.ec_brick.specs.Work.{bytes_of}

-- the bytes of its chunks, or none where it isn't a WriteChunks
abbrev pub bytes_in : Request → Option ℕ
bytes_in (WriteChunks g n first chunks) = Some (length (bytes_of chunks))
bytes_in q = None
