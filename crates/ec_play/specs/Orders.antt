-- What the lines of a script order.
use Rattle.std.specs.Prelude.{ℕ, ◌+◌, nat_lt, List, [], ◌∷◌, ◌++◌, Option, Some, None, Result, Ok, Err, option_and_then, if◌then◌else◌}
use Rattle.ec_script.specs.Lines.{line_event}
use Rattle.ec_script.specs.declared.fault.LineFault.{LineFault}
use Rattle.ec_script.specs.declared.fault.LineFault.TheVariants.{TooMany}
use Rattle.ec_wire.specs.declared.event.Event.{Event}
use Rattle.ec_play.specs.declared.reader.TheConstants.{MOST_LINES}

-- what line number `number` orders, or its fault
abbrev pub line_order : ℕ → List ℕ → Result (Option Event) LineFault
line_order number line = if nat_lt MOST_LINES number then Err TooMany else line_event line

-- the events so far and that of a line; none where the line has a fault
abbrev pub with_order : List Event → Result (Option Event) LineFault → Option (List Event)
with_order events (Err fault) = None
with_order events (Ok None) = Some events
with_order events (Ok (Some event)) = Some (events ++ event ∷ [])

-- the events so far and those of the lines from this number on; none where a line has a fault
unfoldable pub orders : List (List ℕ) → List Event → ℕ → Option (List Event)
orders [] events number = Some events
orders (line ∷ lines) events number = option_and_then (λ after. orders lines after (number + 1)) (with_order events (line_order number line))
