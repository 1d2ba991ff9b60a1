-- Requests that change the record of the gfid that they name.
use Rattle.std.specs.Prelude.{Bool, true, false, List}
use Rattle.std.specs.List.{list_any}
use Rattle.ec_conduct.specs.Own.{Own, Sends}
use Rattle.ec_wire.specs.declared.request.Request.{Request}
use Rattle.ec_wire.specs.declared.request.Request.TheVariants.{PreOp, WriteChunks, SetLength, PostOp, Clear, NameSet, NamesPut, Mark, Unmark}

-- A Make, Made or Unmake changes the record of a child, and names the directory.
abbrev pub alters : Request → Bool
alters (PreOp g grant version dirty) = true
alters (WriteChunks g grant first chunks) = true
alters (SetLength g grant keep length) = true
alters (PostOp g grant old new size attr) = true
alters (Clear g grant version) = true
alters (NameSet g grant name child) = true
alters (NamesPut g grant start upto list) = true
alters (Mark g grant heal head) = true
alters (Unmark g grant version dirty) = true
alters r = false

abbrev pub sends_alteration : Own → Bool
sends_alteration (Sends b i r) = alters r
sends_alteration e = false

-- a call sent such a request
abbrev pub has_altered : List Own → Bool
has_altered es = list_any sends_alteration es
