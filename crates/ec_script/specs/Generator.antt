-- The generated script: four files are made, and then rounds follow, each of which draws four numbers.
use Rattle.std.specs.Prelude.{◌≡◌, ℕ, zero, suc, ◌+◌, ◌-◌, ◌*◌, ◌/◌, ◌%◌, ◌^◌, Bool, false, ◌==◌, ◌&&◌, ◌||◌, not, nat_lt, if◌then◌else◌, Option, Some, None, List, [], ◌∷◌, ◌++◌, codes, decimal, replicate}
use Rattle.ec_attr.specs.Bricks.{count_below, is_in}
use Rattle.ec_attr.specs.declared.geometry.Geometry.{Geometry}
use Rattle.ec_attr.specs.declared.gfid.Gfid.{Gfid}
use Rattle.ec_script.specs.declared.draws.Draws.{Draws}
use Rattle.ec_script.specs.declared.remaining.Remaining.{Remaining}
use Rattle.ec_wire.specs.declared.event.Event.{Event}
use Rattle.ec_wire.specs.declared.event.Event.TheVariants.{Call, Stop, Return, Settle}
use Rattle.ec_wire.specs.declared.op.Op.{Op}
use Rattle.ec_wire.specs.declared.op.Op.TheVariants.{Write, Truncate, Read, Stat, Create, Heal}

-- A draw takes the sequence to its next state and gives the upper 31 bits of that.

unfoldable pub stepped : ℕ → ℕ
stepped x = (x * 6364136223846793005 + 1442695040888963407) % 2 ^ 64

abbrev pub drawn : ℕ → ℕ
drawn x = x / 2 ^ 33

-- the four draws of a round from this state, and the state after them
unfoldable pub draws : ℕ → Draws
draws x = record {
  a = drawn (stepped x);
  b = drawn (stepped (stepped x));
  c = drawn (stepped (stepped (stepped x)));
  d = drawn (stepped (stepped (stepped (stepped x))));
}

unfoldable pub state_after : ℕ → ℕ
state_after x = stepped (stepped (stepped (stepped x)))

-- a call and the steps until it is answered
abbrev pub settled : ℕ → Op → List Event
settled client op = Call client op ∷ Settle ∷ []

-- the name of the file that gets this gfid: `g` and its decimal digits
abbrev pub file_name : ℕ → List ℕ
file_name gfid = codes "g" ++ decimal gfid

-- client 1 makes n files in the root directory, with gfids from this one on
unfoldable pub creations : ℕ → ℕ → List Event
creations zero gfid = []
creations (suc n) gfid = settled 1 (Create (record { 0 = 1 }) (file_name gfid)) ++ creations n (gfid + 1)

-- The client, the file and the kind of a round, `first` being the gfid of the first file.

abbrev pub client_of : Draws → ℕ
client_of r = 1 + r.a % 3

abbrev pub file_of : ℕ → Draws → Gfid
file_of first r = record { 0 = first + r.b % 4 }

abbrev pub kind_of : Draws → ℕ
kind_of r = r.a / 4 % 16

-- the call of a round whose kind isn't 14
abbrev pub call_of : ℕ → Draws → Op
call_of first r =
    if nat_lt (kind_of r) 8 then Write (file_of first r) (r.c % 65536) (replicate (1 + r.d % 4096) (r.d % 256)) else
    if nat_lt (kind_of r) 12 then Read (file_of first r) (r.c % 65536) (1 + r.d % 4096) None else
    if kind_of r == 12 then Truncate (file_of first r) (r.c % 65536) else
    if kind_of r == 13 then Stat (file_of first r) else Heal (file_of first r)

-- how many bricks are up where these are stopped
abbrev pub up : Geometry → (ℕ → Bool) → ℕ
up g stopped = g.n - count_below 31 stopped

-- a brick returns where it is stopped, and else stops where more bricks are up than suffice to read
abbrev pub turns : Geometry → (ℕ → Bool) → ℕ → List Event
turns g stopped b =
    if stopped b then Return b ∷ [] else
    if nat_lt (g.n - g.r) (up g stopped) then Stop b ∷ [] else []

-- what a round orders
abbrev pub round_events : Geometry → ℕ → (ℕ → Bool) → Draws → List Event
round_events g first stopped r =
    if kind_of r == 14 then turns g stopped (r.c % g.n) else settled (client_of r) (call_of first r)

-- which bricks are stopped after an event, and after events
abbrev pub stopped_by : Event → (ℕ → Bool) → ℕ → Bool
stopped_by (Stop b) stopped c = (c == b) || stopped c
stopped_by (Return b) stopped c = not (c == b) && stopped c
stopped_by _ stopped c = stopped c

abbrev pub stopped_after : List Event → (ℕ → Bool) → ℕ → Bool
stopped_after [] stopped c = stopped c
stopped_after (e ∷ es) stopped c = stopped_after es (stopped_by e stopped) c

-- so many rounds from this state on, with these bricks stopped
unfoldable pub rounds : Geometry → ℕ → ℕ → ℕ → (ℕ → Bool) → List Event
rounds g first zero x stopped = []
rounds g first (suc n) x stopped =
    round_events g first stopped (draws x)
    ++ rounds g first n (state_after x) (stopped_after (round_events g first stopped (draws x)) stopped)

abbrev pub none_stopped : ℕ → Bool
none_stopped b = false

-- the script of a start and a count of rounds, where `first` is the next gfid
unfoldable pub events : ℕ → ℕ → Geometry → ℕ → List Event
events start count g first = creations 4 first ++ rounds g first count start none_stopped

-- what is left of it: a `settle` that is due, files that are still to be made, and rounds
unfoldable pub left : Remaining → List Event
left r =
    (if r.settles then Settle ∷ [] else [])
    ++ creations r.creates (r.first + (4 - r.creates))
    ++ rounds r.geometry r.first r.rounds r.state (is_in r.stopped)

-- the next event of a list and those after it, or none where the list is at its end
abbrev pub Gives : List Event → List Event → Option Event → Type 0
Gives before after None = (before ≡ []) × (after ≡ [])
Gives before after (Some e) = before ≡ e ∷ after
