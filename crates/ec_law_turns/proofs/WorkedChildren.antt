-- The worked logs, computed.
use Rattle.std.specs.Prelude.{refl}
use Rattle.ec_attr.specs.Bricks.{count_below}
use Rattle.ec_law_turns.specs.WorkedChildren.{ChildAsActs}

pub child_as_acts : ChildAsActs
unfolding count_below
child_as_acts = record { whole = refl; too_late = refl; apart = refl }
