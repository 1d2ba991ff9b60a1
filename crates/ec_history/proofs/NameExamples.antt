-- The worked examples of names compute.
use Rattle.std.specs.Prelude.{refl}
use Rattle.ec_attr.specs.Bricks as Bricks
use Rattle.ec_history.specs.NameExamples.{Attributes, MadeFile, Moves, Names}

pub names : Names
unfolding Bricks.count_below
names = record { opens = refl; no_other = refl; leads = refl; new_open = refl; leads_on = refl; old_gone = refl; gone = refl }

pub made_file : MadeFile
unfolding Bricks.count_below
made_file = record { kind = refl; attr = refl; version = refl; next = refl }

pub attributes : Attributes
unfolding Bricks.count_below
attributes = record { set = refl; kept = refl }

pub moves : Moves
unfolding Bricks.count_below
moves = record { new_name = refl; not_yet_gone = refl; gone = refl; stays = refl }
