-- Each entry of a settled call, after the call.
use Rattle.std.proofs.Common.{◌≡◌, ◌⊎◌, inl, inr, ℕ, Bool, true, false, Option, Some, None, refl, sym, ap, ◌∙◌}
use Rattle.ec_brick.specs.State.{State}
use Rattle.ec_history.specs.IsRun.{May}
use Rattle.ec_history.specs.Run.{Net, after, executed, executed_by, heard, heard_by}
use Rattle.ec_history.specs.Script.{IsWaitedFor}
use Rattle.ec_wire.specs.declared.entry.Entry.{Entry}
use Rattle.ec_wire.specs.declared.entry.Entry.TheVariants.{Called, Sent, Executed, Heard, Lost, GivenUp, Stopped, Returned, Cut, Died, Yielded, Torn, Answered, Replaced}
use Rattle.ec_wire.specs.declared.message.Body.{Body}
use Rattle.ec_wire.specs.declared.message.Body.TheVariants.{ToBrick, ToClient}
use Rattle.ec_wire.specs.declared.message.Message.{Message}
use Rattle.ec_law_settled.specs.Calm.{AsksOnce, IsCalmEntry, SendsIn}
use Rattle.ec_law_settled.specs.Laws.{IsExecuted}
use Rattle.ec_law_settled.proofs.Calm.{IsCalm, MayCome}
use Rattle.ec_law_settled.proofs.Counted.{IsCounted, said_stays}
use Rattle.ec_law_settled.proofs.Executes.{after_executed, at_once, differ, executed_calm, number, same_up}
use Rattle.ec_law_settled.proofs.Moves.{after_heard, answered_calm, given_up_calm, heard_calm, lost_calm, lost_to_stopped, none_waited, stuck_stopped}
use Rattle.ec_law_settled.proofs.Places.{put_at, put_true_stays}
use Rattle.ec_law_settled.proofs.Sends.{sent_calm}

executed_by_dead : (m : Net) (msg : Message) (body : Body) (version : Option ℕ) (failed : Bool) → (executed_by m msg body version failed).dead ≡ m.dead
executed_by_dead m msg (ToBrick q) version failed = refl
executed_by_dead m msg (ToClient re reply) version failed = refl

executed_dead : (m : Net) (o : Option Message) (version : Option ℕ) (failed : Bool) → (executed m o version failed).dead ≡ m.dead
executed_dead m None version failed = refl
executed_dead m (Some msg) version failed = executed_by_dead m msg msg.body version failed

executed_by_said : (m : Net) (msg : Message) (body : Body) (version : Option ℕ) (failed : Bool) → (executed_by m msg body version failed).said ≡ m.said
executed_by_said m msg (ToBrick q) version failed = refl
executed_by_said m msg (ToClient re reply) version failed = refl

executed_said : (m : Net) (o : Option Message) (version : Option ℕ) (failed : Bool) → (executed m o version failed).said ≡ m.said
executed_said m None version failed = refl
executed_said m (Some msg) version failed = executed_by_said m msg msg.body version failed

-- what hearing leaves
record Leaves (m k : Net) : Type 0 where
  dead : k.dead ≡ m.dead
  brick : k.brick ≡ m.brick
  said : k.said ≡ m.said

heard_by_leaves : (m : Net) (msg : Message) (body : Body) → Leaves m (heard_by m msg body)
heard_by_leaves m msg (ToBrick q) = record { dead = refl; brick = refl; said = refl }
heard_by_leaves m msg (ToClient re reply) = record { dead = refl; brick = refl; said = refl }

heard_leaves : (m : Net) (o : Option Message) → Leaves m (heard m o)
heard_leaves m None = record { dead = refl; brick = refl; said = refl }
heard_leaves m (Some msg) = heard_by_leaves m msg msg.body

-- a message lands by this entry
abbrev pub Lands : ℕ → Entry → Type 0
Lands j e = IsExecuted j e ⊎ ((e ≡ Heard j) ⊎ (e ≡ Lost j))

module _ (n call client : ℕ) (m : Net) (counted : IsCounted n m) (h : IsCalm n m call client) (once : AsksOnce m) where
  pub calm_after : (e : Entry) → May n m e → MayCome m e → SendsIn m e → IsCalm n (after m e) call client
  calm_after (Called a c op) may come sends = absurd come
  calm_after (Sent msg) may come sends = sent_calm n call client m counted h msg may.0 may.1 sends
  calm_after (Executed i version failed) may come sends = executed_calm n call client m counted h once i version failed may
  calm_after (Heard i) may come sends = heard_calm n call client m counted h i may
  calm_after (Lost i) may come sends = lost_calm n call client m counted h i may.0 may.1 come.1
  calm_after (GivenUp who brick i) may come sends = given_up_calm n call client m counted h who brick i
  calm_after (Stopped b) may come sends = absurd come
  calm_after (Returned b) may come sends = absurd come
  calm_after (Cut c b) may come sends = absurd come
  calm_after (Died c) may come sends = absurd come
  calm_after (Yielded c) may come sends = h
  calm_after (Torn i bytes version) may come sends = absurd come
  calm_after (Answered a answer) may come sends = answered_calm n call client m counted h a answer
  calm_after (Replaced b removed all) may come sends = absurd come

  -- nobody waits for a grant, so nobody yields
  not_waited : (who : ℕ) → IsWaitedFor m who → ⊥
  not_waited who w = differ (_) ⊥ w.waited_for (none_waited m.said m.flying call w.message.brick (m.brick w.message.brick).asks (h.asks w.message.brick (counted.brick w.message.no w.message w.said)) w.message.no)

  pub entry_is : (e : Entry) → May n m e → MayCome m e → IsCalmEntry m e
  entry_is (Called a c op) may come = tt
  entry_is (Sent msg) may come = tt
  entry_is (Executed i version failed) may come = at_once n call client m counted h once i version failed may
  entry_is (Heard i) may come = tt
  entry_is (Lost i) may come = lost_to_stopped n call client m counted h i may.0 may.1 come.1
  entry_is (GivenUp who brick i) may come = stuck_stopped n call client m counted h who brick may.nothing_owed come.0 come.2.itself
  entry_is (Stopped b) may come = absurd come
  entry_is (Returned b) may come = absurd come
  entry_is (Cut c b) may come = absurd come
  entry_is (Died c) may come = absurd come
  entry_is (Yielded c) may come = not_waited c come.2.itself
  entry_is (Torn i bytes version) may come = absurd come
  entry_is (Answered a answer) may come = tt
  entry_is (Replaced b removed all) may come = absurd come

  pub still_up : (e : Entry) → May n m e → MayCome m e → (b : ℕ) → ((after m e).brick b).up ≡ (m.brick b).up
  still_up (Called a c op) may come b = refl
  still_up (Sent msg) may come b = refl
  still_up (Executed i version failed) may come b = ap (λ (k : Net). (k.brick b).up) (after_executed n call client m counted h once i version failed may) ∙ same_up n call client m counted h once i version failed may b
  still_up (Heard i) may come b = ap (λ (f : ℕ → State). (f b).up) (heard_leaves m (m.said i)).brick
  still_up (Lost i) may come b = refl
  still_up (GivenUp who brick i) may come b = refl
  still_up (Stopped d) may come b = absurd come
  still_up (Returned d) may come b = absurd come
  still_up (Cut c d) may come b = absurd come
  still_up (Died c) may come b = absurd come
  still_up (Yielded c) may come b = refl
  still_up (Torn i bytes version) may come b = absurd come
  still_up (Answered a answer) may come b = refl
  still_up (Replaced d removed all) may come b = absurd come

  pub still_dead : (e : Entry) → May n m e → MayCome m e → (c : ℕ) → (after m e).dead c ≡ m.dead c
  still_dead (Called a d op) may come c = refl
  still_dead (Sent msg) may come c = refl
  still_dead (Executed i version failed) may come c = ap (λ (f : ℕ → Bool). f c) (executed_dead m (m.said i) version failed)
  still_dead (Heard i) may come c = ap (λ (f : ℕ → Bool). f c) (heard_leaves m (m.said i)).dead
  still_dead (Lost i) may come c = refl
  still_dead (GivenUp who brick i) may come c = refl
  still_dead (Stopped d) may come c = absurd come
  still_dead (Returned d) may come c = absurd come
  still_dead (Cut d b) may come c = absurd come
  still_dead (Died d) may come c = absurd come
  still_dead (Yielded d) may come c = refl
  still_dead (Torn i bytes version) may come c = absurd come
  still_dead (Answered a answer) may come c = refl
  still_dead (Replaced d removed all) may come c = absurd come

  pub still_said : (e : Entry) → May n m e → MayCome m e → (j : ℕ) (x : Message) → m.said j ≡ Some x → (after m e).said j ≡ Some x
  still_said (Called a c op) may come j x e = e
  still_said (Sent msg) may come j x e = said_stays n m msg may.0 counted j x e
  still_said (Executed i version failed) may come j x e = ap (λ (f : ℕ → Option Message). f j) (executed_said m (m.said i) version failed) ∙ e
  still_said (Heard i) may come j x e = ap (λ (f : ℕ → Option Message). f j) (heard_leaves m (m.said i)).said ∙ e
  still_said (Lost i) may come j x e = e
  still_said (GivenUp who brick i) may come j x e = e
  still_said (Stopped b) may come j x e = absurd come
  still_said (Returned b) may come j x e = absurd come
  still_said (Cut c b) may come j x e = absurd come
  still_said (Died c) may come j x e = absurd come
  still_said (Yielded c) may come j x e = e
  still_said (Torn i bytes version) may come j x e = absurd come
  still_said (Answered a answer) may come j x e = e
  still_said (Replaced b removed all) may come j x e = absurd come

  -- a message flies on, or lands by the entry
  pub flight : (e : Entry) → May n m e → MayCome m e → (j : ℕ) → m.flying j ≡ true → ((after m e).flying j ≡ true) ⊎ Lands j e
  flight (Called a c op) may come j f = inl f
  flight (Sent msg) may come j f = inl (put_true_stays m.flying msg.no j f)
  flight (Executed i version failed) may come j f = elim (put_at m.flying may.message.no false j) [
    | inl w ↦ inr (inl (version, failed, ap (λ (z : ℕ). Executed z version failed) (sym (number n call client m counted h once i version failed may) ∙ sym w.0)))
    | inr w ↦ inl (ap (λ (k : Net). k.flying j) (after_executed n call client m counted h once i version failed may) ∙ (w.1 ∙ f))
  ]
  flight (Heard i) may come j f = elim (put_at m.flying may.message.no false j) [
    | inl w ↦ inr (inr (inl (ap Heard (sym (counted.number i may.message may.said).0 ∙ sym w.0))))
    | inr w ↦ inl (ap (λ (k : Net). k.flying j) (after_heard n call client m counted h i may) ∙ (w.1 ∙ f))
  ]
  flight (Lost i) may come j f = elim (put_at m.flying i false j) [ inl w ↦ inr (inr (inr (ap Lost (sym w.0)))) | inr w ↦ inl (w.1 ∙ f) ]
  flight (GivenUp who brick i) may come j f = inl f
  flight (Stopped b) may come j f = absurd come
  flight (Returned b) may come j f = absurd come
  flight (Cut c b) may come j f = absurd come
  flight (Died c) may come j f = absurd come
  flight (Yielded c) may come j f = inl f
  flight (Torn i bytes version) may come j f = absurd come
  flight (Answered a answer) may come j f = inl f
  flight (Replaced b removed all) may come j f = absurd come
