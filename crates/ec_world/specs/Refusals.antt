-- Why an event is refused: the first of its causes that applies.
use Rattle.std.specs.Prelude.{◌≡◌, ℕ, ◌+◌, ◌<◌, ◌≤◌, Bool, true, false, cond, nat_eq, nat_lt, is_some, List, length, MatchOption, Option, Some, None}
use Rattle.ec_attr.specs.Bricks.{bricks, bricks_below, is_in}
use Rattle.ec_attr.specs.declared.geometry.Geometry.{Geometry}
use Rattle.ec_clients.specs.Views.{is_dead_at, running_at}
use Rattle.ec_clients.specs.declared.clients.Clients.{Clients}
use Rattle.ec_clients.specs.declared.clients.Running.{Running}
use Rattle.ec_cluster.specs.Tears.{bytes_at}
use Rattle.ec_cluster.specs.Views.{flight, is_up_at, size_of}
use Rattle.ec_cluster.specs.declared.cluster.Cluster.{Cluster}
use Rattle.ec_conduct.specs.Given.{Given}
use Rattle.ec_conduct.specs.Opened.{account}
use Rattle.ec_conduct.specs.Own.{Own}
use Rattle.ec_txn.specs.Steps.{number_of}
use Rattle.ec_txn.specs.declared.ctx.Ctx.{Ctx}
use Rattle.ec_wire.specs.Lanes.{is_going}
use Rattle.ec_wire.specs.Places.{IsLowest}
use Rattle.ec_wire.specs.declared.event.Event.{Event}
use Rattle.ec_wire.specs.declared.event.Event.TheVariants.{Call, Deliver, Lose, GiveUp, Stop, Return, Cut, Die, Tear, Yield, Settle, Until, Replace}
use Rattle.ec_wire.specs.declared.event.Which.{Which}
use Rattle.ec_wire.specs.declared.event.Which.TheVariants.{Number, ToBrick, ToClient}
use Rattle.ec_wire.specs.declared.message.Body.{Body}
use Rattle.ec_wire.specs.declared.message.Body.TheVariants.{ToBrick as AskBody, ToClient as ReplyBody}
use Rattle.ec_wire.specs.declared.message.Message.{Message}
use Rattle.ec_wire.specs.declared.op.Op.{Op}
use Rattle.ec_wire.specs.declared.op.Op.TheVariants.{Read}
use Rattle.ec_world.specs.declared.refused.Refused.{Refused}
use Rattle.ec_world.specs.declared.refused.Refused.TheVariants.{NoMessage, NoneBetween, Busy, Idle, Dead, Down, Up, NoBrick, NotAsked, NotTearable, TooMany, NotKeeping, Unbuilt}

-- the number of the message in flight that a script names, None where there is none
abbrev pub IsFound : Cluster → Which → Option ℕ → Type 0
IsFound s (Number n) o = o ≡ cond (is_some (flight s n)) (Some n) None
IsFound s (ToBrick client brick) o = IsLowest (λ i. is_going client brick true (flight s i)) o
IsFound s (ToClient client brick) o = IsLowest (λ i. is_going client brick false (flight s i)) o

abbrev pub missing : Which → Refused
missing (Number n) = NoMessage n
missing (ToBrick client brick) = NoneBetween client brick
missing (ToClient client brick) = NoneBetween client brick

abbrev pub lose_refusal : Which → Option ℕ → Option Refused
lose_refusal which None = Some (missing which)
lose_refusal which (Some n) = None

-- a request comes to a brick that is up, a reply to a client that lives
abbrev pub body_refusal : {C : Type 0} → Cluster → Clients C → Message → Body → Option Refused
body_refusal s c msg (AskBody q) = cond (is_up_at s msg.brick) None (Some (Down msg.brick))
body_refusal s c msg (ReplyBody re reply) = cond (is_dead_at c msg.client) (Some (Dead msg.client)) None

abbrev pub message_refusal : {C : Type 0} → Cluster → Clients C → Option Message → Option Refused
message_refusal s c None = None
message_refusal s c (Some msg) = body_refusal s c msg msg.body

abbrev pub deliver_refusal : {C : Type 0} → Cluster → Clients C → Which → Option ℕ → Option Refused
deliver_refusal s c which None = Some (missing which)
deliver_refusal s c which (Some n) = message_refusal s c (flight s n)

abbrev pub stop_refusal : Cluster → ℕ → Option Refused
stop_refusal s b = cond (nat_lt b (size_of s)) (cond (is_up_at s b) None (Some (Down b))) (Some (NoBrick b))

abbrev pub return_refusal : Cluster → ℕ → Option Refused
return_refusal s b = cond (nat_lt b (size_of s)) (cond (is_up_at s b) (Some (Up b)) None) (Some (NoBrick b))

abbrev pub die_refusal : {C : Type 0} → Clients C → ℕ → Option Refused
die_refusal c j = cond (is_dead_at c j) (Some (Dead j)) None

-- no client keeps grants
abbrev pub yield_refusal : {C : Type 0} → Clients C → ℕ → Option Refused
yield_refusal c j = cond (is_dead_at c j) (Some (Dead j)) (Some (NotKeeping j))

-- the lowest brick of a set that isn't below n
abbrev pub IsFirstFrom : ℕ → ℕ → Option ℕ → Type 0
IsFirstFrom bits n first = MatchOption first (bricks bits ≡ bricks_below n (is_in bits)) (λ b. (n ≤ b) × (b < 31) × (is_in bits b ≡ true) × (bricks_below b (is_in bits) ≡ bricks_below n (is_in bits)))

-- with it a set is refused, or with 31 where it has another count of bricks than suffice to read
abbrev pub wrong_brick : Option ℕ → Bool → Option ℕ
wrong_brick None true = None
wrong_brick None false = Some 31
wrong_brick (Some b) fits = Some b

-- the brick with which the bricks that a read names are refused, None where they aren't
abbrev pub IsWrongVia : Geometry → Op → Option ℕ → Type 0
IsWrongVia g (Read gfid off len (Some bits)) o = (first : Option ℕ) × IsFirstFrom bits g.n first × (o ≡ wrong_brick first (nat_eq (length (bricks bits) + g.r) g.n))
IsWrongVia g op o = o ≡ None

abbrev pub no_brick : Option ℕ → Option Refused
no_brick None = None
no_brick (Some b) = Some (NoBrick b)

abbrev pub busy : {C : Type 0} → Option (Running C) → Option ℕ → Option Refused
busy None wrong = no_brick wrong
busy (Some r) wrong = Some (Busy r.number)

abbrev pub call_refusal : {C : Type 0} → Clients C → ℕ → Option ℕ → Option Refused
call_refusal c j wrong = cond (is_dead_at c j) (Some (Dead j)) (busy (running_at c j) wrong)

-- a client that is dead, or runs no call
abbrev pub idle : {C : Type 0} → Option (Running C) → ℕ → Option Refused
idle None j = Some (Idle j)
idle (Some r) j = None

abbrev pub until_refusal : {C : Type 0} → Clients C → ℕ → Option Refused
until_refusal c j = cond (is_dead_at c j) (Some (Dead j)) (idle (running_at c j) j)

-- the number of the request to brick b that a client's call waits for, None where it runs none or waits for none
abbrev pub IsAwaitedBy : {C : Type 0} → (Ctx → Given → C → List Own → Type 0) → Option (Running C) → ℕ → Option ℕ → Type 0
IsAwaitedBy stands None b a = a ≡ None
IsAwaitedBy stands (Some r) b a = (x : Ctx) (given : Given) (es : List Own) → stands x given r.call es → a ≡ number_of ((account given es).waits b)

abbrev pub asked : Option ℕ → ℕ → ℕ → Option Refused
asked None j b = Some (NotAsked j b)
asked (Some n) j b = None

abbrev pub give_up_refusal : {C : Type 0} → Cluster → Clients C → ℕ → ℕ → Option ℕ → Option Refused
give_up_refusal s c j b a = cond (nat_lt b (size_of s)) (cond (is_dead_at c j) (Some (Dead j)) (asked a j b)) (Some (NoBrick b))

-- a write goes to a brick that is up, and has as many bytes
abbrev pub brick_of : Option Message → ℕ
brick_of None = 0
brick_of (Some m) = m.brick

abbrev pub bytes_refusal : ℕ → Option ℕ → Bool → ℕ → ℕ → Option Refused
bytes_refusal n None up b bytes = Some (NotTearable n)
bytes_refusal n (Some most) up b bytes = cond up (cond (nat_lt most bytes) (Some (TooMany bytes)) None) (Some (Down b))

abbrev pub tear_refusal : Cluster → Which → Option ℕ → ℕ → Option Refused
tear_refusal s which None bytes = Some (missing which)
tear_refusal s which (Some n) bytes = bytes_refusal n (bytes_at s n) (is_up_at s (brick_of (flight s n))) (brick_of (flight s n)) bytes

-- What refuses an event, None where nothing does. A replacement isn't built.
abbrev pub IsRefusal : {C : Type 0} → (Ctx → Given → C → List Own → Type 0) → Cluster → Clients C → Event → Option Refused → Type 0
IsRefusal stands s c (Call j op) o = (wrong : Option ℕ) × IsWrongVia c.options.geometry op wrong × (o ≡ call_refusal c j wrong)
IsRefusal stands s c (Deliver which) o = (named : Option ℕ) × IsFound s which named × (o ≡ deliver_refusal s c which named)
IsRefusal stands s c (Lose which) o = (named : Option ℕ) × IsFound s which named × (o ≡ lose_refusal which named)
IsRefusal stands s c (GiveUp j b) o = (a : Option ℕ) × IsAwaitedBy stands (running_at c j) b a × (o ≡ give_up_refusal s c j b a)
IsRefusal stands s c (Stop b) o = o ≡ stop_refusal s b
IsRefusal stands s c (Return b) o = o ≡ return_refusal s b
IsRefusal stands s c (Cut j (Some b)) o = o ≡ stop_refusal s b
IsRefusal stands s c (Cut j None) o = o ≡ None
IsRefusal stands s c (Die j) o = o ≡ die_refusal c j
IsRefusal stands s c (Tear which bytes) o = (named : Option ℕ) × IsFound s which named × (o ≡ tear_refusal s which named bytes)
IsRefusal stands s c (Yield j) o = o ≡ yield_refusal c j
IsRefusal stands s c Settle o = o ≡ None
IsRefusal stands s c (Until j phase) o = o ≡ until_refusal c j
IsRefusal stands s c (Replace b) o = o ≡ Some Unbuilt
