-- What a script orders: the entries other than Sent and Answered that its events name, in order.
use Rattle.std.specs.Prelude.{◌≡◌, ℕ, ◌<◌, Bool, true, false, Some, None, List, [], ◌∷◌, ◌++◌, map}
use Rattle.std.specs.List.{flat_map, list_all}
use Rattle.ec_attr.specs.Bricks.{bricks_below}
use Rattle.ec_locks.specs.Table.{queued, waited}
use Rattle.ec_wire.specs.Lanes.{is_to_brick}
use Rattle.ec_wire.specs.declared.entry.Entry.{Entry}
use Rattle.ec_wire.specs.declared.entry.Entry.TheVariants.{Called, Sent, Executed, Heard, Lost, GivenUp, Stopped, Returned, Cut as CutOff, Died, Yielded, Torn, Answered, Replaced}
use Rattle.ec_wire.specs.declared.event.Event.{Event}
use Rattle.ec_wire.specs.declared.event.Event.TheVariants.{Call, Deliver, Lose, GiveUp, Stop, Return, Cut, Die, Tear, Yield, Settle, Until, Replace}
use Rattle.ec_wire.specs.declared.event.Which.{Which}
use Rattle.ec_wire.specs.declared.event.Which.TheVariants.{Number, ToBrick, ToClient}
use Rattle.ec_wire.specs.declared.message.Body.{Body}
use Rattle.ec_wire.specs.declared.message.Body.TheVariants.{ToBrick as AskBody, ToClient as ReplyBody}
use Rattle.ec_wire.specs.declared.message.Message.{Message}
use Rattle.ec_history.specs.IsRun.{IsCalling}
use Rattle.ec_history.specs.Run.{Net, run}

-- the entries that follow from what an event names
abbrev pub is_of_course : Entry → Bool
is_of_course (Sent msg) = true
is_of_course (Answered call answer) = true
is_of_course e = false

-- an entry that is named, with those that follow from it
pub record Step : Type 0 where
  pub named : Entry
  pub follow : List Entry

abbrev pub entries_of : List Step → List Entry
entries_of steps = flat_map (λ s. s.named ∷ s.follow) steps

abbrev pub AllFollow : Step → Type 0
AllFollow s = list_all is_of_course s.follow ≡ true

-- the least number of which this holds
pub record IsLeast (holds : ℕ → Type 0) (i : ℕ) : Type 0 where
  pub itself : holds i
  pub least : (j : ℕ) → j < i → holds j → ⊥

-- a message in flight between a client and a brick, to the brick or from it
pub record FliesBetween (m : Net) (client brick : ℕ) (to_brick : Bool) (i : ℕ) : Type 0 where
  pub message : Message
  pub said : m.said i ≡ Some message
  pub flying : m.flying i ≡ true
  pub of_client : message.client ≡ client
  pub of_brick : message.brick ≡ brick
  pub way : is_to_brick message.body ≡ to_brick

-- a message as a script names it
abbrev pub IsNamed : Net → Which → ℕ → Type 0
IsNamed m (Number j) i = i ≡ j
IsNamed m (ToBrick client brick) i = IsLeast (FliesBetween m client brick true) i
IsNamed m (ToClient client brick) i = IsLeast (FliesBetween m client brick false) i

-- a client without an unanswered call
abbrev pub IsIdle : Net → ℕ → Type 0
IsIdle m client = (a : ℕ) → IsCalling m a client → ⊥

-- Rule 1 of settling: the lowest message in flight is lost where it goes to a brick that is stopped or a client that is
-- dead, else delivered.
abbrev pub IsNext : Net → ℕ → Type 0
IsNext m i = IsLeast (λ j. m.flying j ≡ true) i

abbrev pub GoesNowhere : Net → Message → Body → Type 0
GoesNowhere m msg (AskBody q) = (m.brick msg.brick).up ≡ false
GoesNowhere m msg (ReplyBody re reply) = m.dead msg.client ≡ true

abbrev pub NoneFly : Net → Type 0
NoneFly m = (i : ℕ) → m.flying i ≡ false

-- Rule 2: the lowest living client that waits for a brick in whose lock queue its ask doesn't stand gives up the lowest
-- such brick.
pub record IsStuck (m : Net) (client brick : ℕ) : Type 0 where
  pub call : ℕ
  pub number : ℕ
  pub calling : IsCalling m call client
  pub waits : m.awaits call brick ≡ Some number
  pub out_of_queue : queued (m.brick brick).asks number ≡ false

abbrev pub IsStuckSomewhere : Net → ℕ → Type 0
IsStuckSomewhere m client = (brick : ℕ) × IsStuck m client brick

abbrev pub NobodyStuck : Net → Type 0
NobodyStuck m = (client : ℕ) → IsStuckSomewhere m client → ⊥

-- Rule 3: the lowest living client yields for whose kept grants somebody waits. A client keeps a grant that a call of its
-- has heard and not released, while it has no unanswered call.
pub record IsWaitedFor (m : Net) (client : ℕ) : Type 0 where
  pub message : Message
  pub said : m.said message.no ≡ Some message
  pub of_client : message.client ≡ client
  pub granted : m.granted message.no ≡ true
  pub kept : m.let_go message.no ≡ false
  pub idle : IsIdle m client
  pub lives : m.dead client ≡ false
  pub waited_for : waited (m.brick message.brick).asks message.no ≡ true

-- what settling names next
abbrev pub IsSettling : Net → Entry → Type 0
IsSettling m (Executed i version failed) = IsNext m i
IsSettling m (Heard i) = IsNext m i
IsSettling m (Lost i) = IsNext m i × ((msg : Message) → m.said i ≡ Some msg → GoesNowhere m msg msg.body)
IsSettling m (GivenUp client brick i) = NoneFly m × IsLeast (IsStuckSomewhere m) client × IsLeast (IsStuck m client) brick
IsSettling m (Yielded client) = NoneFly m × NobodyStuck m × IsLeast (IsWaitedFor m) client
IsSettling m e = ⊥

pub record IsSettled (m : Net) : Type 0 where
  pub none_fly : NoneFly m
  pub none_stuck : NobodyStuck m
  pub none_waited : (client : ℕ) → IsWaitedFor m client → ⊥

-- the first steps of settling
abbrev pub Settles : Net → List Step → Type 0
Settles m [] = Unit {0}
Settles m (s ∷ steps) = IsSettling m s.named × AllFollow s × Settles (run (s.named ∷ s.follow) m) steps

-- each brick that is up ends the client's locks, bricks rising
abbrev pub CutsAll : ℕ → Net → ℕ → List Step → Type 0
CutsAll n m client steps = map (λ s. s.named) steps ≡ map (CutOff client) (bricks_below n (λ b. (m.brick b).up))

-- what an event names where it is one step
abbrev pub Names : Net → Event → Entry → Type 0
Names m (Call client op) (Called call who what) = (who ≡ client) × (what ≡ op) × IsIdle m client
Names m (Deliver which) (Executed i version failed) = IsNamed m which i
Names m (Deliver which) (Heard i) = IsNamed m which i
Names m (Lose which) (Lost i) = IsNamed m which i
Names m (GiveUp client brick) (GivenUp who at i) = (who ≡ client) × (at ≡ brick)
Names m (Stop brick) (Stopped b) = b ≡ brick
Names m (Return brick) (Returned b) = b ≡ brick
Names m (Cut client (Some brick)) (CutOff who b) = (who ≡ client) × (b ≡ brick)
Names m (Die client) (Died who) = who ≡ client
Names m (Tear which bytes) (Torn i count version) = IsNamed m which i × (count ≡ bytes)
Names m (Yield client) (Yielded who) = who ≡ client
Names m (Replace brick) (Replaced b removed all) = b ≡ brick
Names m event e = ⊥

abbrev pub IsOneStep : Net → Event → List Step → Type 0
IsOneStep m event (s ∷ []) = Names m event s.named × AllFollow s
IsOneStep m event steps = ⊥

abbrev pub AllFollowAll : List Step → Type 0
AllFollowAll [] = Unit {0}
AllFollowAll (s ∷ steps) = AllFollow s × AllFollowAll steps

-- the steps of an event; an `until` takes some number of first steps of settling
abbrev pub IsOfEvent : ℕ → Net → Event → List Step → Type 0
IsOfEvent n m Settle steps = Settles m steps × IsSettled (run (entries_of steps) m)
IsOfEvent n m (Until client phase) steps = Settles m steps
IsOfEvent n m (Cut client None) steps = CutsAll n m client steps × AllFollowAll steps
IsOfEvent n m event steps = IsOneStep m event steps

-- the steps of the events of a script, one event after the other
abbrev pub IsOfScript : ℕ → Net → List Event → List (List Step) → Type 0
IsOfScript n m [] [] = Unit {0}
IsOfScript n m (event ∷ events) (steps ∷ more) = IsOfEvent n m event steps × IsOfScript n (run (entries_of steps) m) events more
IsOfScript n m events steps = ⊥

-- a log is of a script
pub record IsLogOf (n : ℕ) (m : Net) (events : List Event) (log : List Entry) : Type 0 where
  pub steps : List (List Step)
  pub entries : log ≡ flat_map entries_of steps
  pub of_script : IsOfScript n m events steps

-- the first steps of an event, which may have more
abbrev pub BeginsEvent : ℕ → Net → Event → List Step → Type 0
BeginsEvent n m Settle steps = Settles m steps
BeginsEvent n m event steps = IsOfEvent n m event steps

-- A log of a run that ended for want of memory: the last event may end after any of its entries.
pub record IsCutLogOf (n : ℕ) (m : Net) (events : List Event) (last : Event) (log : List Entry) : Type 0 where
  pub steps : List (List Step)
  pub of_script : IsOfScript n m events steps
  pub more : List Step
  pub of_last : BeginsEvent n (run (flat_map entries_of steps) m) last more
  pub rest : List Entry
  pub entries : log ++ rest ≡ flat_map entries_of steps ++ entries_of more
