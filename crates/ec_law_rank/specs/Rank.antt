-- A rank of what may still happen without a new call, and how much each entry of a log lowers it.
use Rattle.std.specs.Prelude.{◌≡◌, ℕ, ◌+◌, ◌*◌, ◌-◌, ◌≤◌, Bool, false, Option, Some, None, List, [], ◌∷◌, ◌++◌, length}
use Rattle.ec_attr.specs.Bricks.{count_below}
use Rattle.ec_brick.specs.State.{State}
use Rattle.ec_history.specs.IsRun.{IsRun}
use Rattle.ec_history.specs.Run.{Net, fresh, is_number, run}
use Rattle.ec_history.specs.Script.{Settles, Step, entries_of}
use Rattle.ec_wire.specs.declared.entry.Entry.{Entry}
use Rattle.ec_wire.specs.declared.entry.Entry.TheVariants.{Called, Sent, Executed, Heard, Lost, GivenUp, Stopped, Returned, Cut, Died, Yielded, Torn, Answered, Replaced}
use Rattle.ec_wire.specs.declared.message.Message.{Message}

-- the message's call waits for it at its brick
abbrev pub is_waited_in : (ℕ → ℕ → Option ℕ) → ℕ → Option Message → Bool
is_waited_in awaits i None = false
is_waited_in awaits i (Some msg) = is_number i (awaits msg.call msg.brick)

abbrev pub is_waited : Net → ℕ → Bool
is_waited m i = is_waited_in m.awaits i (m.said i)

-- Where numbers of messages end at `most`: three for each that may still be sent, one for each in flight, and one for each
-- that is waited for.
abbrev pub rank : ℕ → Net → ℕ
rank most m = 3 * (most - m.next) + (count_below m.next m.flying + count_below m.next (is_waited m))

-- how much an entry lowers it at least
abbrev pub weight : Entry → ℕ
weight (Called call client op) = 0
weight (Sent msg) = 1
weight (Executed i version failed) = 1
weight (Heard i) = 1
weight (Lost i) = 1
weight (GivenUp client brick i) = 1
weight (Stopped b) = 0
weight (Returned b) = 0
weight (Cut client b) = 0
weight (Died client) = 0
weight (Yielded client) = 0
weight (Torn i bytes version) = 1
weight (Answered call answer) = 0
weight (Replaced b removed all) = 0

abbrev pub weights : List Entry → ℕ
weights [] = 0
weights (e ∷ es) = weight e + weights es

-- a yield lets go of something
abbrev pub LetsGo : Entry → List Entry → Type 0
LetsGo (Yielded client) follow = 1 ≤ weights follow
LetsGo e follow = Unit {0}

abbrev pub AllLetGo : List Step → Type 0
AllLetGo [] = Unit {0}
AllLetGo (s ∷ steps) = LetsGo s.named s.follow × AllLetGo steps

-- What holds of each log that is a run from fresh clients on, over whatever bricks, in which no message has a number of `most`
-- or above.
pub record RankLaws : Type 0 where
  pub lowers : (n most : ℕ) (bricks : ℕ → State) (earlier es : List Entry) → IsRun n (earlier ++ es) (fresh bricks) → (run (earlier ++ es) (fresh bricks)).next ≤ most
      → rank most (run (earlier ++ es) (fresh bricks)) + weights es ≤ rank most (run earlier (fresh bricks))
  pub settling : (n most : ℕ) (bricks : ℕ → State) (earlier : List Entry) (steps : List Step) → IsRun n (earlier ++ entries_of steps) (fresh bricks) → (run (earlier ++ entries_of steps) (fresh bricks)).next ≤ most
      → Settles (run earlier (fresh bricks)) steps → AllLetGo steps
      → rank most (run (earlier ++ entries_of steps) (fresh bricks)) + length steps ≤ rank most (run earlier (fresh bricks))
