-- A request that is executed in a settled call.
use Rattle.std.proofs.Common.{◌≡◌, inl, inr, ℕ, ◌<◌, Bool, true, false, Option, Some, List, [], ◌∷◌, ◌++◌, map, refl, sym, ap, subst, ◌∙◌}
use Rattle.ec_brick.proofs.Steps.{step_up}
use Rattle.ec_brick.specs.Replies.{Says, Nothing}
use Rattle.ec_brick.specs.State.{State}
use Rattle.ec_brick.specs.Step.{Out}
use Rattle.ec_conduct.specs.Conduct.{is_release}
use Rattle.ec_history.specs.IsRun.{MayExecute}
use Rattle.ec_history.specs.Run.{Net, after, executed, executed_as, executed_by, failing, granted_owed, out_of, own_owed}
use Rattle.ec_locks.specs.declared.ask.Ask.{Ask as Asking}
use Rattle.ec_locks.specs.declared.waiters.Waiter.{Waiter}
use Rattle.ec_store.specs.Put.{put}
use Rattle.ec_wire.specs.declared.entry.Entry.TheVariants.{Executed}
use Rattle.ec_wire.specs.declared.message.Body.{Body}
use Rattle.ec_wire.specs.declared.message.Body.TheVariants.{ToBrick, ToClient}
use Rattle.ec_wire.specs.declared.message.Message.{Message}
use Rattle.ec_wire.specs.declared.request.Request.{Request}
use Rattle.ec_wire.specs.declared.request.Request.TheVariants.{Ask, Release}
use Rattle.ec_law_settled.specs.Calm.{AsksLock, AsksOnce, GrantsAtOnce, is_ask}
use Rattle.ec_law_settled.proofs.Bricks.{AreFew, Outcome, Speaks, granted_first, is_ask_of, step_keeps_up, step_outcome}
use Rattle.ec_law_settled.proofs.Calm.{AreOwed, AreOwn, Awaited, Coming, Down, Going, IsAmong, IsCalm, IsOwnBody, OnItsWay, Owing}
use Rattle.ec_law_settled.proofs.Counted.{IsCounted, some_message}
use Rattle.ec_law_settled.proofs.Places.{put_at, put_false, put_false_stays, put_here}
use Rattle.ec_law_settled.proofs.Sends.{among_none, own_moves}

some_request : (p q : Request) → ToBrick p ≡ ToBrick q → p ≡ q
some_request p q e = cc

pub no_reply : (q : Request) (re : ℕ) (reply : _) (X : Type 0) → ToBrick q ≡ ToClient re reply → X
no_reply q re reply X e = absurd (cc)

pub differ : (t : Bool) (X : Type 0) → t ≡ true → t ≡ false → X
differ t X a b = absurd (cc)

pub few : (said : ℕ → Option Message) (flying : ℕ → Bool) (call b : ℕ) (asks : List Asking) → AreOwn said flying call b asks → AreFew asks
few said flying call b [] own = tt
few said flying call b (a ∷ []) own = tt
few said flying call b (a ∷ c ∷ asks) own = absurd own

ask_speaks : (q : Request) → is_ask_of q ≡ true → is_release q ≡ false
ask_speaks (Ask g domain kind) e = refl
ask_speaks q e = absurd (cc)

ask_body : (q : Request) → is_ask_of q ≡ true → is_ask (ToBrick q) ≡ true
ask_body (Ask g domain kind) e = refl
ask_body q e = absurd (cc)

module _ (n call client : ℕ) (m : Net) (counted : IsCounted n m) (h : IsCalm n m call client) (once : AsksOnce m) (i : ℕ) (version : Option ℕ) (failed : Bool) (may : MayExecute m i version failed) where
  abbrev out : Out
  out = out_of m may.message may.request version failed

  abbrev now : Net
  now = executed_as m may.message (out_of m may.message may.request version failed)

  by_body : (body : Body) → body ≡ ToBrick may.request → executed_by m may.message body version failed ≡ now
  by_body (ToBrick p) e = ap (λ (r : Request). executed_as m may.message (out_of m may.message r version failed)) (some_request p may.request e)
  by_body (ToClient re reply) e = absurd (cc)

  pub after_executed : after m (Executed i version failed) ≡ now
  after_executed = ap (λ (o : Option Message). executed m o version failed) may.at.said ∙ by_body may.message.body may.at.body

  pub number : may.message.no ≡ i
  number = (counted.number i may.message may.at.said).0

  below : may.message.brick < n
  below = counted.brick i may.message may.at.said

  -- another message of its number is it
  pub same_message : (j : ℕ) (y : Message) → j ≡ may.message.no → m.said j ≡ Some y → y ≡ may.message
  same_message j y e said = some_message y may.message (sym said ∙ (ap m.said (e ∙ number) ∙ may.at.said))

  own_of : (r : Request) → is_release r ≡ false → IsOwnBody call client may.message (ToBrick r) → (may.message.call ≡ call) × (may.message.client ≡ client)
  own_of (Release g c) e o = absurd (cc)
  own_of r e o = o

  pub own : is_release may.request ≡ false → (may.message.call ≡ call) × (may.message.client ≡ client)
  own e = own_of may.request e (subst (λ (z : Body). IsOwnBody call client may.message z) may.at.body (h.flies i may.message may.at.said may.at.flying))

  mine : is_ask_of may.request ≡ true → AsksLock m.said call may.message.brick i
  mine e = record { message = may.message; is = may.at.said; of_call = (own (ask_speaks may.request e)).0; of_brick = refl; asks = subst (λ (z : Body). is_ask z ≡ true) (sym may.at.body) (ask_body may.request e) }

  none_by : (asks : List Asking) → AreOwn m.said m.flying call may.message.brick asks → is_ask_of may.request ≡ true → asks ≡ []
  none_by [] o e = refl
  none_by (a ∷ []) o e =
      let same : a.number ≡ i = once call may.message.brick a.number i o.asks (mine e) in
      differ (m.flying i) _ may.at.flying (subst (λ (z : ℕ). m.flying z ≡ false) same o.landed)
  none_by (a ∷ c ∷ asks) o e = absurd o

  -- where a lock is asked for, none stands at the brick
  none_yet : is_ask_of may.request ≡ true → (m.brick may.message.brick).asks ≡ []
  none_yet e = none_by (m.brick may.message.brick).asks (h.asks may.message.brick below) e

  outcome : Outcome (m.brick may.message.brick) may.message.no may.request out
  outcome = step_outcome (m.brick may.message.brick) (failing failed version) may.message.client may.message.no may.request may.at.up (few m.said m.flying call may.message.brick (m.brick may.message.brick).asks (h.asks may.message.brick below)) none_yet

  -- ## What is owed

  owed_is : now.owed ≡ own_owed may.message out.says ++ []
  owed_is = ap (λ (ws : List Waiter). own_owed may.message out.says ++ map (granted_owed m may.message.brick) ws) outcome.nobody

  spoken : (t : Bool) → is_release may.request ≡ t → Speaks out.says → (may.message.call ≡ call) × (may.message.client ≡ client)
  spoken false e s = own e
  spoken true e s = absurd (subst Speaks (outcome.quiet e) s)

  owed_by : (says : Says) → (Speaks says → (may.message.call ≡ call) × (may.message.client ≡ client)) → AreOwed call client (own_owed may.message says ++ [])
  owed_by Nothing f = tt
  owed_by says f = ((f tt).0, (f tt).1, tt)

  owed_own : AreOwed call client now.owed
  owed_own = subst (AreOwed call client) (sym owed_is) (owed_by out.says (spoken (is_release may.request) refl))

  among_by : (b j : ℕ) (says : Says) → Speaks says → may.message.call ≡ call → may.message.brick ≡ b → may.message.no ≡ j → IsAmong call b j (own_owed may.message says ++ [])
  among_by b j Nothing s c d e = absurd s
  among_by b j says s c d e = inl (c, d, e)

  -- ## Locks

  lands : (b : ℕ) (asks : List Asking) → AreOwn m.said m.flying call b asks → AreOwn m.said (put m.flying may.message.no false) call b asks
  lands b asks o = own_moves m.said m.said m.flying (put m.flying may.message.no false) call b (λ j y e. e) (λ j y e f. put_false_stays m.flying may.message.no j f) asks o

  asks_here : AreOwn m.said (put m.flying may.message.no false) call may.message.brick out.brick.asks
  asks_here = elim outcome.asks [
    | inl e ↦ subst (AreOwn m.said (put m.flying may.message.no false) call may.message.brick) (sym e) (lands may.message.brick (m.brick may.message.brick).asks (h.asks may.message.brick below))
    | inr v ↦ elim v [
      | inl e ↦ subst (AreOwn m.said (put m.flying may.message.no false) call may.message.brick) (sym e) tt
      | inr w ↦ subst (AreOwn m.said (put m.flying may.message.no false) call may.message.brick) (sym w.3) (record {
        asks = subst (λ (z : ℕ). AsksLock m.said call may.message.brick z) (sym (w.2 ∙ number)) (mine w.1);
        landed = put_here m.flying may.message.no false w.0.number w.2;
      })
    ]
  ]

  asks_now : (b : ℕ) → b < n → AreOwn m.said (put m.flying may.message.no false) call b (put m.brick may.message.brick out.brick b).asks
  asks_now b lt = elim (put_at m.brick may.message.brick out.brick b) [
    | inl w ↦ subst (λ (s : State). AreOwn m.said (put m.flying may.message.no false) call b s.asks) (sym w.1) (subst (λ (z : ℕ). AreOwn m.said (put m.flying may.message.no false) call z out.brick.asks) (sym w.0) asks_here)
    | inr w ↦ subst (λ (s : State). AreOwn m.said (put m.flying may.message.no false) call b s.asks) (sym w.1) (lands b (m.brick b).asks (h.asks b lt))
  ]

  still_up : out.brick.up ≡ true
  still_up = step_keeps_up (m.brick may.message.brick) (failing failed version) may.message.client may.message.no may.request may.at.up ∙ may.at.up

  -- the same bricks are up
  pub same_up : (b : ℕ) → (put m.brick may.message.brick out.brick b).up ≡ (m.brick b).up
  same_up b = elim (put_at m.brick may.message.brick out.brick b) [
    | inl w ↦ ap (λ (s : State). s.up) w.1 ∙ (still_up ∙ sym (ap (λ (z : ℕ). (m.brick z).up) w.0 ∙ may.at.up))
    | inr w ↦ ap (λ (s : State). s.up) w.1
  ]

  unasked_now : (b : ℕ) → b < n → (put m.brick may.message.brick out.brick b).up ≡ false → (put m.brick may.message.brick out.brick b).asks ≡ []
  unasked_now b lt down = elim (put_at m.brick may.message.brick out.brick b) [
    | inl w ↦ differ out.brick.up _ still_up (sym (ap (λ (s : State). s.up) w.1) ∙ down)
    | inr w ↦ ap (λ (s : State). s.asks) w.1 ∙ h.unasked b lt (sym (ap (λ (s : State). s.up) w.1) ∙ down)
  ]

  -- ## What is waited for

  going : (b j : ℕ) (w : Awaited m call b j) → j ≡ may.message.no → IsAmong call b j now.owed
  going b j w e =
      let it : w.message ≡ may.message = same_message j w.message e w.is in
      let asked : w.request ≡ may.request = some_request w.request may.request (sym w.body ∙ (ap (λ (z : Message). z.body) it ∙ may.at.body)) in
      let speaks : is_release may.request ≡ false = ap is_release (sym asked) ∙ w.speaks in
      subst (IsAmong call b j) (sym owed_is) (among_by b j out.says (outcome.says speaks) (ap (λ (z : Message). z.call) (sym it) ∙ w.of_call) (ap (λ (z : Message). z.brick) (sym it) ∙ w.of_brick) (sym e))

  way_executed : (b j : ℕ) (w : Awaited m call b j) → OnItsWay m.said m.flying m.owed m.brick call b j
      → OnItsWay m.said (put m.flying may.message.no false) now.owed (put m.brick may.message.brick out.brick) call b j
  way_executed b j w (Going e) = elim (put_at m.flying may.message.no false j) [ inl v ↦ Owing (going b j w v.0) | inr v ↦ Going (v.1 ∙ e) ]
  way_executed b j w (Owing o) = absurd (among_none call b j m.owed may.at.nothing_owed o)
  way_executed b j w (Coming r y reply said flies body of_call of_brick) = elim (put_at m.flying may.message.no false r) [
    | inl v ↦ no_reply may.request j reply _ (sym may.at.body ∙ (ap (λ (z : Message). z.body) (sym (same_message r y v.0 said)) ∙ body))
    | inr v ↦ Coming r y reply said (v.1 ∙ flies) body of_call of_brick
  ]
  way_executed b j w (Down e) = Down (same_up b ∙ e)

  waits_now : (b j : ℕ) → m.awaits call b ≡ Some j → Awaited now call b j
  waits_now b j e = let a = h.waits b j e in record { message = a.message; request = a.request; is = a.is; body = a.body; speaks = a.speaks; of_call = a.of_call; of_brick = a.of_brick; way = way_executed b j a a.way }

  calm_as : IsCalm n now call client
  calm_as = record {
    lives = h.lives;
    asker = h.asker;
    made = h.made;
    of_client = h.of_client;
    only = λ a c z. h.only a c (record { asker = z.asker; made = z.made; of_client = z.of_client; unanswered = z.unanswered; lives = z.lives });
    flies = λ j y e f. h.flies j y e (put_false m.flying may.message.no j f).1;
    owed = owed_own;
    asks = asks_now;
    unasked = unasked_now;
    waits = waits_now;
  }

  pub executed_calm : IsCalm n (after m (Executed i version failed)) call client
  executed_calm = subst (λ (z : Net). IsCalm n z call client) (sym after_executed) calm_as

  -- a lock is granted at once
  pub at_once : GrantsAtOnce m i version failed
  at_once msg g domain kind said body =
      let it : msg ≡ may.message = some_message msg may.message (sym said ∙ may.at.said) in
      let asked : Ask g domain kind ≡ may.request = some_request (Ask g domain kind) may.request (sym body ∙ (ap (λ (z : Message). z.body) it ∙ may.at.body)) in
      let none : (m.brick msg.brick).asks ≡ [] = ap (λ (z : Message). (m.brick z.brick).asks) it ∙ none_yet (ap is_ask_of (sym asked)) in
      let up : (m.brick msg.brick).up ≡ true = ap (λ (z : Message). (m.brick z.brick).up) it ∙ may.at.up in
      ap (λ (o : Out). o.says) (step_up (m.brick msg.brick) (failing failed version) msg.client msg.no (Ask g domain kind) up) ∙ granted_first (m.brick msg.brick) (record { number = msg.no; client = msg.client; gfid = g; domain = domain; kind = kind }) none
