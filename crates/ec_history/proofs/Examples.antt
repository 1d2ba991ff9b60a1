-- The worked examples compute.
use Rattle.std.specs.Prelude.{refl}
use Rattle.ec_attr.specs.Bricks as Bricks
use Rattle.ec_history.specs.Examples.{Behind, BesideAHeal, CutShort, HalfPosted, Scrubbed, TornWrite, Truncation}

pub half_posted : HalfPosted
unfolding Bricks.count_below
half_posted = record { open_to_one = refl; open_to_both = refl; committed = refl }

pub cut_short : CutShort
unfolding Bricks.count_below
cut_short = record { first_open = refl; both_open = refl; none_further = refl; closed = refl; open_again = refl; other_closed = refl; read = refl; opened_by_both = refl; set = refl; carried = refl; past_the_size = refl; left = refl }

pub beside_a_heal : BesideAHeal
unfolding Bricks.count_below
beside_a_heal = record { copy_opens_none = refl; trim_opens_none = refl; open_at_the_sink = refl; not_yet = refl; committed = refl; carried = refl; touched = refl }

pub torn_write : TornWrite
unfolding Bricks.count_below
torn_write = record { opens = refl; closes = refl; unread = refl; not_granted = refl; failed = refl; failed_unread = refl; refused = refl }

pub behind : Behind
unfolding Bricks.count_below
behind = record { opens_none = refl }

pub truncation : Truncation
unfolding Bricks.count_below
truncation = record { opens_its_own = refl; opens_no_later = refl; opens_from = refl; opens_all_later = refl; keeps = refl; zeros = refl; zeros_later = refl }

pub scrubbed : Scrubbed
unfolding Bricks.count_below
scrubbed = record { free = refl; others = refl; carried = refl }
