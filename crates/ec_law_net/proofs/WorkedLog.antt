-- The worked log, computed.
use Rattle.std.specs.Prelude.{refl}
use Rattle.ec_attr.specs.Bricks.{count_below}
use Rattle.ec_law_net.specs.WorkedLog.{WriteAsActs}

pub write_as_acts : WriteAsActs
unfolding count_below
write_as_acts = record { locked = refl; let_in = refl; alone = refl }
