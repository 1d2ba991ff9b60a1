-- What is asked of the requests of a log, beside the conduct: the types of the code say it of what it sends.
use Rattle.std.specs.Prelude.{◌≡◌, ◌<◌, ℕ, length}
use Rattle.ec_attr.specs.declared.kind.Kind.TheVariants.{File}
use Rattle.ec_wire.specs.declared.op.Op.{Op}
use Rattle.ec_wire.specs.declared.op.Op.TheVariants.{Write}
use Rattle.ec_wire.specs.declared.request.Request.{Request}
use Rattle.ec_wire.specs.declared.request.Request.TheVariants.{Make}

-- gfid g is made as a file, where the request makes it
abbrev pub MakesFile : ℕ → Request → Type 0
MakesFile g (Make x n child) = child.gfid.0 ≡ g → child.kind ≡ File
MakesFile g q = Unit {0}

-- A write has bytes to write. A call that has none ends without a PreOp.
abbrev pub WritesSome : Op → Type 0
WritesSome (Write h off bytes) = 0 < length bytes
WritesSome op = Unit {0}
