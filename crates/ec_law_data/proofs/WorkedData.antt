-- The worked log, computed.
use Rattle.std.specs.Prelude.{refl}
use Rattle.ec_attr.specs.Bricks.{count_below}
use Rattle.ec_law_data.specs.WorkedData.{NameAsDeeds}

pub name_as_deeds : NameAsDeeds
unfolding count_below
name_as_deeds = record { whole = refl; open_to = refl; before = refl; shut = refl; version = refl; known = refl; held = refl; left = refl }
