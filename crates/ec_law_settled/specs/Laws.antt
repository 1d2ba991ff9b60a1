-- What holds of the entries of each settled call.
use Rattle.std.specs.Prelude.{◌≡◌, ℕ, ◌<◌, Bool, true, false, Option, None, List, ◌∷◌, ◌++◌}
use Rattle.ec_brick.specs.State.{State}
use Rattle.ec_wire.specs.declared.entry.Entry.{Entry}
use Rattle.ec_wire.specs.declared.entry.Entry.TheVariants.{Sent, Executed, Heard}
use Rattle.ec_wire.specs.declared.message.Body.TheVariants.{ToBrick, ToClient}
use Rattle.ec_wire.specs.declared.message.Message.{Message}
use Rattle.ec_wire.specs.declared.op.Op.{Op}
use Rattle.ec_wire.specs.declared.reply.Reply.{Reply}
use Rattle.ec_wire.specs.declared.request.Request.{Request}
use Rattle.ec_history.specs.IsRun.{IsRun}
use Rattle.ec_history.specs.Run.{Net, fresh, run}
use Rattle.ec_history.specs.Script.{Step, entries_of}
use Rattle.ec_law_settled.specs.Calm.{AllSend, AsksOnce, IsCalmEntry}
use Rattle.ec_law_settled.specs.Settled.{Has, IsSettledCall}

-- A law of the entries of each settled call of each log, by the net before them, where clients send nothing for calls that are
-- answered, and no call asks a brick for a lock twice.
abbrev pub OfEverySettledCall : (ℕ → Net → ℕ → List Entry → Type 0) → Type 0
OfEverySettledCall law =
    (n : ℕ) (bricks : ℕ → State) (earlier : List Entry) (call client : ℕ) (op : Op) (called : Step) (steps : List Step)
    → IsRun n (earlier ++ entries_of (called ∷ steps)) (fresh bricks)
    → IsSettledCall n (run earlier (fresh bricks)) call client op called steps
    → AllSend (entries_of (called ∷ steps)) (run earlier (fresh bricks))
    → AsksOnce (run (earlier ++ entries_of (called ∷ steps)) (fresh bricks))
    → law n (run earlier (fresh bricks)) call (entries_of (called ∷ steps))

-- each entry is a calm one
abbrev pub GoesCalmly : ℕ → Net → ℕ → List Entry → Type 0
GoesCalmly n m call es = (front rest : List Entry) (e : Entry) → es ≡ front ++ e ∷ rest → IsCalmEntry (run front m) e

-- at each moment the same bricks are up, and the same clients are dead
abbrev pub StayUp : ℕ → Net → ℕ → List Entry → Type 0
StayUp n m call es = (front rest : List Entry) (b : ℕ) → es ≡ front ++ rest → ((run front m).brick b).up ≡ (m.brick b).up

abbrev pub StayDead : ℕ → Net → ℕ → List Entry → Type 0
StayDead n m call es = (front rest : List Entry) (client : ℕ) → es ≡ front ++ rest → (run front m).dead client ≡ m.dead client

-- Where the call isn't answered in the end, it waits for nobody.
abbrev pub WaitsForNobody : ℕ → Net → ℕ → List Entry → Type 0
WaitsForNobody n m call es = (run es m).answered call ≡ false → (b : ℕ) → b < n → (run es m).awaits call b ≡ None

-- Each request that was sent to a brick that is up was executed, and each reply was heard.
abbrev pub IsExecuted : ℕ → Entry → Type 0
IsExecuted i e = (version : Option ℕ) × (failed : Bool) × (e ≡ Executed i version failed)

abbrev pub AreDelivered : ℕ → Net → ℕ → List Entry → Type 0
AreDelivered n m call es = (front rest : List Entry) (msg : Message) (q : Request) → es ≡ front ++ Sent msg ∷ rest → msg.body ≡ ToBrick q → (m.brick msg.brick).up ≡ true → Has (IsExecuted msg.no) rest

abbrev pub AreHeard : ℕ → Net → ℕ → List Entry → Type 0
AreHeard n m call es = (front rest : List Entry) (msg : Message) (re : ℕ) (reply : Reply) → es ≡ front ++ Sent msg ∷ rest → msg.body ≡ ToClient re reply → Has (λ e. e ≡ Heard msg.no) rest

-- all of these, of whichever calls
pub record SettledLaws (Of : (ℕ → Net → ℕ → List Entry → Type 0) → Type 0) : Type 0 where
  pub calm : Of GoesCalmly
  pub up : Of StayUp
  pub dead : Of StayDead
  pub waits : Of WaitsForNobody
  pub delivered : Of AreDelivered
  pub heard : Of AreHeard
