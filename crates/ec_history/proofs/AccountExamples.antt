-- The own entries of calls compute.
use Rattle.std.specs.Prelude.{refl}
use Rattle.ec_attr.specs.Bricks as Bricks
use Rattle.ec_history.specs.AccountExamples.{OwnEntries}

pub own_entries : OwnEntries
unfolding Bricks.count_below
own_entries = record { taken_over = refl; released_before = refl; of_a_stat = refl; of_a_late_grant = refl }
