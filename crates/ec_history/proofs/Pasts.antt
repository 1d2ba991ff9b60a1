-- Logs with all that comes of them.
use Rattle.std.specs.Prelude.{◌≡◌, refl, List, [], ◌∷◌, ◌++◌}
use Rattle.ec_attr.specs.declared.geometry.Geometry.{Geometry}
use Rattle.ec_wire.specs.declared.entry.Entry.{Entry}
use Rattle.ec_history.specs.Moments.{Past, past, past_after}
use Rattle.ec_history.specs.Run.{run}
use Rattle.ec_history.specs.Story.{story}

pub joins : (geometry : Geometry) (es fs : List Entry) (p : Past) → past geometry (es ++ fs) p ≡ past geometry fs (past geometry es p)
joins geometry [] fs p = refl
joins geometry (e ∷ es) fs p = joins geometry es fs (past_after geometry p e)

pub nets : (geometry : Geometry) (es : List Entry) (p : Past) → (past geometry es p).net ≡ run es p.net
nets geometry [] p = refl
nets geometry (e ∷ es) p = nets geometry es (past_after geometry p e)

pub stories : (geometry : Geometry) (es : List Entry) (p : Past) → (past geometry es p).story ≡ story geometry es p.net p.story
stories geometry [] p = refl
stories geometry (e ∷ es) p = stories geometry es (past_after geometry p e)
