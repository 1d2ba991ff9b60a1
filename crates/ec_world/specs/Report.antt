-- What `info` tells of the records of bricks.
use Rattle.std.specs.Prelude.{◌≡◌, ℕ, zero, suc, true, Some, List, [], ◌++◌, slice_get}
use Rattle.ec_attr.specs.declared.gfid.Gfid.{Gfid}
use Rattle.ec_brick.specs.Index.{dirty_of}
use Rattle.ec_report.specs.Info.{info_lines}
use Rattle.ec_report.specs.Records.{IsListOf}
use Rattle.ec_store.specs.Records.{Records}

-- a line for each record of the first n bricks whose dirty number isn't 0, bricks rising, and of a brick gfids rising
abbrev pub IsInfo : ℕ → List Records → List ℕ → Type 0
IsInfo zero records text = text ≡ []
IsInfo (suc n) records text =
    (front : List ℕ) × (r : Records) × (gfids : List Gfid) × IsInfo n records front × (slice_get records n ≡ Some r)
    × IsListOf (λ g. dirty_of r g ≡ true) gfids × (text ≡ front ++ info_lines n gfids)
