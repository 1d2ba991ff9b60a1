-- What logs make of the flat files.
use Rattle.std.specs.Prelude.{◌≡◌, refl, List, [], ◌∷◌, ◌++◌}
use Rattle.ec_attr.specs.declared.geometry.Geometry.{Geometry}
use Rattle.ec_wire.specs.declared.entry.Entry.{Entry}
use Rattle.ec_history.specs.Run.{Net, after, run}
use Rattle.ec_history.specs.Story.{Story, story, told}

pub joins : (geometry : Geometry) (es fs : List Entry) (m : Net) (t : Story) → story geometry (es ++ fs) m t ≡ story geometry fs (run es m) (story geometry es m t)
joins geometry [] fs m t = refl
joins geometry (e ∷ es) fs m t = joins geometry es fs (after m e) (told geometry m t e)
