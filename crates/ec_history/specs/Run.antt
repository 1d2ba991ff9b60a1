-- A log read entry by entry: what each message was and which are in flight, the bricks by the brick's table, and which
-- calls and clients there are. So the state of all bricks after a log follows from the log and the bricks at its start.
use Rattle.std.specs.Prelude.{ℕ, ◌+◌, Bool, true, false, cond, ◌==◌, ◌&&◌, nat_lt, is_some, Option, Some, None, List, [], ◌∷◌, ◌++◌, map}
use Rattle.ec_attr.specs.Bricks.{count_below}
use Rattle.ec_locks.specs.declared.waiters.Waiter.{Waiter}
use Rattle.ec_store.specs.Put.{put}
use Rattle.ec_store.specs.Records.{Records}
use Rattle.ec_wire.specs.declared.entry.Entry.{Entry}
use Rattle.ec_wire.specs.declared.entry.Entry.TheVariants.{Called, Sent, Executed, Heard, Lost, GivenUp, Stopped, Returned, Cut, Died, Yielded, Torn, Answered, Replaced}
use Rattle.ec_wire.specs.declared.message.Body.{Body}
use Rattle.ec_wire.specs.declared.message.Body.TheVariants.{ToBrick, ToClient}
use Rattle.ec_wire.specs.declared.message.Message.{Message}
use Rattle.ec_wire.specs.declared.op.Op.{Op}
use Rattle.ec_wire.specs.declared.reply.Reply.{Reply}
use Rattle.ec_wire.specs.declared.reply.Reply.TheVariants.{Granted}
use Rattle.ec_wire.specs.declared.request.Request.{Request}
use Rattle.ec_wire.specs.declared.request.Request.TheVariants.{Release}
use Rattle.ec_brick.specs.Meets.{failing_at}
use Rattle.ec_brick.specs.Replies.{Says, Nothing, Is}
use Rattle.ec_brick.specs.State.{State}
use Rattle.ec_brick.specs.Step.{Failing, Fine, Out, cut_off, started, step, stopped, torn}

-- who called for what
pub record Asker : Type 0 where
  pub client : ℕ
  pub op : Op

-- a reply that is still to be sent: to whom, to which request, and what it has to say
pub record Owed : Type 0 where
  pub call : ℕ
  pub client : ℕ
  pub brick : ℕ
  pub re : ℕ
  pub says : Says

-- What has come of a log so far. Messages and calls are numbered from 1; `next` is the next message's number and `calls`
-- the last call's. `owed` are the replies that the event of the last entry still has to send, in their order. `awaits`
-- is, by call and brick, the request that the call waits for. Of an Ask, by its number, `granted` is whether its call
-- heard the grant while it waited for it, and `let_go` whether a Release of it was sent.
pub record Net : Type 0 where
  pub next : ℕ
  pub said : ℕ → Option Message
  pub flying : ℕ → Bool
  pub owed : List Owed
  pub brick : ℕ → State
  pub calls : ℕ
  pub asker : ℕ → Option Asker
  pub answered : ℕ → Bool
  pub dead : ℕ → Bool
  pub awaits : ℕ → ℕ → Option ℕ
  pub granted : ℕ → Bool
  pub let_go : ℕ → Bool

-- no entry yet, over these bricks
abbrev pub fresh : (ℕ → State) → Net
fresh bricks = record { next = 1; said = λ i. None; flying = λ i. false; owed = []; brick = bricks; calls = 0; asker = λ a. None; answered = λ a. false; dead = λ c. false; awaits = λ a b. None; granted = λ i. false; let_go = λ i. false }

abbrev pub put2 : {X : Type 0} → (ℕ → ℕ → X) → ℕ → ℕ → X → ℕ → ℕ → X
put2 f i j x a b = cond ((a == i) && (b == j)) x (f a b)

-- each request but a Release is waited for
abbrev pub awaits_after : (ℕ → ℕ → Option ℕ) → Message → Body → ℕ → ℕ → Option ℕ
awaits_after awaits m (ToBrick (Release g n)) = awaits
awaits_after awaits m (ToBrick q) = put2 awaits m.call m.brick (Some m.no)
awaits_after awaits m (ToClient re reply) = awaits

abbrev pub let_go_after : (ℕ → Bool) → Body → ℕ → Bool
let_go_after let_go (ToBrick (Release g n)) = put let_go n true
let_go_after let_go body = let_go

-- the replies owed after one is sent
abbrev pub owed_after : List Owed → Body → List Owed
owed_after owed (ToBrick q) = owed
owed_after [] (ToClient re reply) = []
owed_after (o ∷ owed) (ToClient re reply) = owed

-- a message is in flight from where it is sent
abbrev pub sent : Net → Message → Net
sent m msg = record m {
  next = m.next + 1;
  said = put m.said msg.no (Some msg);
  flying = put m.flying msg.no true;
  owed = owed_after m.owed msg.body;
  awaits = awaits_after m.awaits msg msg.body;
  let_go = let_go_after m.let_go msg.body;
}

abbrev pub landed : Net → ℕ → Net
landed m i = record m { flying = put m.flying i false }

-- the reply of an execution, if there is one
abbrev pub own_owed : Message → Says → List Owed
own_owed msg Nothing = []
own_owed msg says = record { call = msg.call; client = msg.client; brick = msg.brick; re = msg.no; says = says } ∷ []

abbrev pub call_of : Option Message → ℕ
call_of None = 0
call_of (Some msg) = msg.call

-- the Granted of a waiter that is let in, which is of the call of its Ask
abbrev pub granted_owed : Net → ℕ → Waiter → Owed
granted_owed m b w = record { call = call_of (m.said w.number); client = w.client; brick = b; re = w.number; says = Is Granted }

abbrev pub let_in_owed : Net → ℕ → Out → List Owed
let_in_owed m b out = map (granted_owed m b) out.lets_in

-- in the work where a version was read, else before it
abbrev pub failing : Bool → Option ℕ → Failing
failing false version = Fine
failing true version = failing_at version

-- what the brick makes of request `msg`
abbrev pub out_of : Net → Message → Request → Option ℕ → Bool → Out
out_of m msg q version failed = step (m.brick msg.brick) (failing failed version) msg.client msg.no q

abbrev pub executed_as : Net → Message → Out → Net
executed_as m msg out = record (landed m msg.no) {
  owed = own_owed msg out.says ++ let_in_owed m msg.brick out;
  brick = put m.brick msg.brick out.brick;
}

abbrev pub executed_by : Net → Message → Body → Option ℕ → Bool → Net
executed_by m msg (ToBrick q) version failed = executed_as m msg (out_of m msg q version failed)
executed_by m msg (ToClient re reply) version failed = m

abbrev pub executed : Net → Option Message → Option ℕ → Bool → Net
executed m None version failed = m
executed m (Some msg) version failed = executed_by m msg msg.body version failed

abbrev pub is_number : ℕ → Option ℕ → Bool
is_number i None = false
is_number i (Some j) = j == i

abbrev pub granted_after : (ℕ → Bool) → Bool → ℕ → Reply → ℕ → Bool
granted_after granted true re Granted = put granted re true
granted_after granted waits re reply = granted

-- a call stops waiting for a brick where it hears the reply that it waits for
abbrev pub heard_by : Net → Message → Body → Net
heard_by m msg (ToBrick q) = m
heard_by m msg (ToClient re reply) = record (landed m msg.no) { awaits = λ a b. cond ((a == msg.call) && (b == msg.brick) && is_number re (m.awaits a b)) None (m.awaits a b); granted = granted_after m.granted (is_number re (m.awaits msg.call msg.brick)) re reply }

abbrev pub heard : Net → Option Message → Net
heard m None = m
heard m (Some msg) = heard_by m msg msg.body

-- The bytes of a torn write count as unset, since the log doesn't tell whether the store failed; where no version was
-- read nothing was written.
abbrev pub torn_out : Net → Message → Request → ℕ → Option ℕ → Out
torn_out m msg q count version = torn (m.brick msg.brick) (failing_at version) q count

abbrev pub torn_by : Net → Message → Body → ℕ → Option ℕ → Net
torn_by m msg (ToBrick q) count version = record (landed m msg.no) { brick = put m.brick msg.brick (torn_out m msg q count version).brick }
torn_by m msg (ToClient re reply) count version = m

abbrev pub torn_off : Net → Option Message → ℕ → Option ℕ → Net
torn_off m None count version = m
torn_off m (Some msg) count version = torn_by m msg msg.body count version

-- the lowest `removed` records are gone, or all
abbrev pub wiped : ℕ → Bool → Records → Records
wiped removed true records g = None
wiped removed false records g = cond (nat_lt (count_below g (λ x. is_some (records x))) removed) None (records g)

-- one brick is another
abbrev pub with_brick : Net → ℕ → State → Net
with_brick m b s = record m { brick = put m.brick b s }

-- What an entry makes of it.
abbrev pub after : Net → Entry → Net
after m (Called call client op) = record m { calls = call; asker = put m.asker call (Some (record { client = client; op = op })) }
after m (Sent msg) = sent m msg
after m (Executed i version failed) = executed m (m.said i) version failed
after m (Heard i) = heard m (m.said i)
after m (Lost i) = landed m i
after m (GivenUp client brick i) = record m { awaits = put2 m.awaits (call_of (m.said i)) brick None }
after m (Stopped b) = with_brick m b (stopped (m.brick b))
after m (Returned b) = with_brick m b (started (m.brick b))
after m (Cut client b) = record (with_brick m b (cut_off (m.brick b) client).brick) { owed = let_in_owed m b (cut_off (m.brick b) client) }
after m (Died client) = record m { dead = put m.dead client true }
after m (Yielded client) = m
after m (Torn i bytes version) = torn_off m (m.said i) bytes version
after m (Answered call answer) = record m { answered = put m.answered call true }
after m (Replaced b removed all) = with_brick m b (record (m.brick b) { records = wiped removed all (m.brick b).records })

-- after all of these, the first one first
abbrev pub run : List Entry → Net → Net
run [] m = m
run (e ∷ es) m = run es (after m e)
