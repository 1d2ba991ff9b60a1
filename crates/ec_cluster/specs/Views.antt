-- What is seen of a cluster.
use Rattle.std.specs.Prelude.{ℕ, Bool, true, false, not, ◌&&◌, Option, Some, None, List, [], length, slice_get}
use Rattle.ec_brick.specs.State.{asks_of, is_up}
use Rattle.ec_brick.specs.declared.brick.Brick.{Brick}
use Rattle.ec_locks.specs.declared.ask.Ask.{Ask}
use Rattle.ec_wire.specs.Flight.{in_flight, next_number}
use Rattle.ec_wire.specs.Lanes.{is_to_brick}
use Rattle.ec_wire.specs.declared.entry.Entry.{Entry}
use Rattle.ec_wire.specs.declared.entry.Entry.TheVariants.{Called, GivenUp, Died, Yielded, Answered}
use Rattle.ec_wire.specs.declared.message.Message.{Message}
use Rattle.ec_cluster.specs.declared.cluster.Cluster.{Cluster}

abbrev pub bricks_of : Cluster → List Brick
bricks_of c = c.bricks.items

-- how many bricks there are
abbrev pub size_of : Cluster → ℕ
size_of c = length c.bricks.items

abbrev pub log_of : Cluster → List Entry
log_of c = c.log

-- the message of this number, where it is in flight, and the number of the next message
abbrev pub flight : Cluster → ℕ → Option Message
flight c = in_flight c.wire

abbrev pub next_of : Cluster → ℕ
next_of c = next_number c.wire

-- where the log has each message, from number 1 on
abbrev pub places_of : Cluster → List ℕ
places_of c = c.places.items

abbrev pub is_brick_up : Option Brick → Bool
is_brick_up None = false
is_brick_up (Some k) = is_up k

abbrev pub is_up_at : Cluster → ℕ → Bool
is_up_at c b = is_brick_up (slice_get (bricks_of c) b)

abbrev pub brick_asks : Option Brick → List Ask
brick_asks None = []
brick_asks (Some k) = asks_of k

-- the asks of a brick's lock table
abbrev pub asks_at : Cluster → ℕ → List Ask
asks_at c b = brick_asks (slice_get (bricks_of c) b)

abbrev pub goes_to_up : Cluster → Option Message → Bool
goes_to_up c None = false
goes_to_up c (Some m) = is_to_brick m.body && is_up_at c m.brick

-- the message is a request in flight, and its brick is up
abbrev pub can_execute : Cluster → ℕ → Bool
can_execute c i = goes_to_up c (flight c i)

abbrev pub goes_to_client : Option Message → Bool
goes_to_client None = false
goes_to_client (Some m) = not (is_to_brick m.body)

-- the message is a reply in flight
abbrev pub can_hear : Cluster → ℕ → Bool
can_hear c i = goes_to_client (flight c i)

-- the entries that are of calls and clients alone
abbrev pub is_of_clients : Entry → Bool
is_of_clients (Called call client op) = true
is_of_clients (GivenUp client brick number) = true
is_of_clients (Died client) = true
is_of_clients (Yielded client) = true
is_of_clients (Answered call answer) = true
is_of_clients e = false
