-- What may come next in a run.
use Rattle.std.proofs.Common.{◌≡◌, ◌∙◌, ℕ, Bool, true, false, refl, sym, subst, Option, Some, List, [], ◌∷◌}
use Rattle.ec_wire.specs.declared.entry.Entry.{Entry}
use Rattle.ec_wire.specs.declared.entry.Entry.TheVariants.{Called, Sent, Executed, Heard, Lost, GivenUp, Stopped, Returned, Cut, Died, Yielded, Torn, Answered, Replaced}
use Rattle.ec_wire.specs.declared.message.Body.{Body}
use Rattle.ec_wire.specs.declared.message.Body.TheVariants.{ToBrick, ToClient}
use Rattle.ec_wire.specs.declared.message.Message.{Message}
use Rattle.ec_wire.specs.declared.request.Request.{Request}
use Rattle.ec_history.specs.IsRun.{May, MaySay}
use Rattle.ec_history.specs.Laws.{MayLaws, is_reply}
use Rattle.ec_history.specs.Run.{Net, Owed}

differ : (u : Bool) → u ≡ false → u ≡ true → ⊥
differ u a b = absurd (cc)

some_message : (a b : Message) → Some a ≡ Some b → a ≡ b
some_message a b e = cc

no_owed : (X : Type 0) (m : Net) (o : Owed) (os : List Owed) → m.owed ≡ o ∷ os → m.owed ≡ [] → X
no_owed X m o os e f = absurd (cc)

stopped : (n i : ℕ) (m : Net) (msg : Message) (version : Option ℕ) (failed : Bool) → m.said i ≡ Some msg → (m.brick msg.brick).up ≡ false → May n m (Executed i version failed) → ⊥
stopped n i m msg version failed said down x =
    let same : x.message ≡ msg = some_message x.message msg (sym x.at.said ∙ said) in
    differ (m.brick msg.brick).up down (subst (λ (g : Message). (m.brick g.brick).up ≡ true) same x.at.up)

deaf : (n i : ℕ) (m : Net) (msg : Message) → m.said i ≡ Some msg → m.dead msg.client ≡ true → May n m (Heard i) → ⊥
deaf n i m msg said dead x =
    let same : x.message ≡ msg = some_message x.message msg (sym x.said ∙ said) in
    differ (m.dead msg.client) (subst (λ (g : Message). m.dead g.client ≡ false) same x.lives) dead

mute : (n : ℕ) (m : Net) (msg : Message) (q : Request) → msg.body ≡ ToBrick q → m.dead msg.client ≡ true → May n m (Sent msg) → ⊥
mute n m msg q body dead x =
    let says : MaySay n m msg (ToBrick q) = subst (λ b. MaySay n m msg b) body x.1 in
    differ (m.dead msg.client) says.lives dead

owed_body : (n : ℕ) (m : Net) (msg : Message) (o : Owed) (os : List Owed) (body : Body) → m.owed ≡ o ∷ os → msg.body ≡ body → MaySay n m msg body → is_reply (Sent msg) ≡ true
owed_body n m msg o os (ToBrick q) e b x = no_owed _ m o os e x.nothing_owed
owed_body n m msg o os (ToClient re reply) e b x = rw b refl

owed : (n : ℕ) (m : Net) (e : Entry) (o : Owed) (os : List Owed) → m.owed ≡ o ∷ os → May n m e → is_reply e ≡ true
owed n m (Called call client op) o os e x = no_owed _ m o os e x.2
owed n m (Sent msg) o os e x = owed_body n m msg o os msg.body e refl x.1
owed n m (Executed i version failed) o os e x = no_owed _ m o os e x.at.nothing_owed
owed n m (Heard i) o os e x = no_owed _ m o os e x.nothing_owed
owed n m (Lost i) o os e x = no_owed _ m o os e x.1
owed n m (GivenUp client brick i) o os e x = no_owed _ m o os e x.nothing_owed
owed n m (Stopped b) o os e x = no_owed _ m o os e x.2
owed n m (Returned b) o os e x = no_owed _ m o os e x.2
owed n m (Cut client b) o os e x = no_owed _ m o os e x.2
owed n m (Died client) o os e x = no_owed _ m o os e x.1
owed n m (Yielded client) o os e x = no_owed _ m o os e x.1
owed n m (Torn i bytes version) o os e x = no_owed _ m o os e x.at.nothing_owed
owed n m (Answered call answer) o os e x = no_owed _ m o os e x.2
owed n m (Replaced b removed all) o os e x = no_owed _ m o os e x.3

pub may : MayLaws
may = record {
  messages = λ n m msg x. x.0;
  calls = λ n call client m op x. x.0;
  none_executed = λ n i m version failed down x. differ (m.flying i) down x.at.flying;
  none_heard = λ n i m down x. differ (m.flying i) down x.flying;
  none_lost = λ n i m down x. differ (m.flying i) down x.0;
  none_torn = λ n i bytes m version down x. differ (m.flying i) down x.at.flying;
  stopped = stopped;
  deaf = deaf;
  mute = mute;
  owed = owed;
  once = λ n a m answer done x. differ (m.answered a) x.1.unanswered done;
}
