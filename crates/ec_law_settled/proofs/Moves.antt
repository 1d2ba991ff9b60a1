-- Other entries of a settled call: a reply is heard, a message lost, a brick given up, and the call answered.
use Rattle.std.proofs.Common.{◌≡◌, inl, inr, ℕ, ◌+◌, ◌≤◌, Bool, true, false, ◌==◌, ◌&&◌, Option, Some, List, [], ◌∷◌, refl, sym, ap, subst, ◌∙◌, arith}
use Rattle.ec_history.specs.IsRun.{IsCalling, MayHear}
use Rattle.ec_history.specs.Run.{Net, after, call_of, heard, heard_by, is_number}
use Rattle.ec_history.specs.Script.{GoesNowhere, IsStuck, NoneFly}
use Rattle.ec_locks.specs.Table.{queued, waited}
use Rattle.ec_locks.specs.declared.ask.Ask.{Ask as Asking}
use Rattle.ec_store.specs.Put.{put}
use Rattle.ec_wire.specs.declared.answer.Answer.{Answer}
use Rattle.ec_wire.specs.declared.entry.Entry.TheVariants.{Called, Heard, Lost, GivenUp, Answered}
use Rattle.ec_wire.specs.declared.message.Body.{Body}
use Rattle.ec_wire.specs.declared.message.Body.TheVariants.{ToBrick, ToClient}
use Rattle.ec_wire.specs.declared.message.Message.{Message}
use Rattle.ec_wire.specs.declared.op.Op.{Op}
use Rattle.ec_wire.specs.declared.reply.Reply.{Reply}
use Rattle.ec_law_settled.specs.Calm.{GoesToStopped}
use Rattle.ec_law_settled.specs.Settled.{IsQuiet}
use Rattle.ec_law_settled.proofs.Bricks.{few_queued, few_waited}
use Rattle.ec_law_settled.proofs.Calm.{AreOwed, AreOwn, Awaited, Coming, Down, Going, IsCalm, IsOwnBody, OnItsWay, Owing}
use Rattle.ec_law_settled.proofs.Counted.{IsCounted, put2_none, some_message, unless}
use Rattle.ec_law_settled.proofs.Executes.{differ, no_reply}
use Rattle.ec_law_settled.proofs.Places.{put_at, put_false, put_false_stays, put_here, same}
use Rattle.ec_law_settled.proofs.Sends.{among_none, own_moves}

-- nobody waits in a table of the call's asks
pub none_queued : (said : ℕ → Option Message) (flying : ℕ → Bool) (call b : ℕ) (asks : List Asking) → AreOwn said flying call b asks → (i : ℕ) → queued asks i ≡ false
none_queued said flying call b [] own i = refl
none_queued said flying call b (a ∷ []) own i = few_queued a i
none_queued said flying call b (a ∷ c ∷ asks) own i = absurd own

pub none_waited : (said : ℕ → Option Message) (flying : ℕ → Bool) (call b : ℕ) (asks : List Asking) → AreOwn said flying call b asks → (i : ℕ) → waited asks i ≡ false
none_waited said flying call b [] own i = refl
none_waited said flying call b (a ∷ []) own i = few_waited a i
none_waited said flying call b (a ∷ c ∷ asks) own i = absurd own

all_three : (t u v : Bool) → t ≡ true → u ≡ true → v ≡ true → (t && u && v) ≡ false → ⊥
all_three t u v a b c e = absurd (cc)

same_reply : (i j : ℕ) (r s : Reply) → ToClient i r ≡ ToClient j s → i ≡ j
same_reply i j r s e = cc

module _ (n call client : ℕ) (m : Net) (counted : IsCounted n m) (h : IsCalm n m call client) where
  -- ## A reply is heard

  module _ (i : ℕ) (may : MayHear m i) where
    abbrev now : Net
    now = heard_by m may.message (ToClient may.re may.reply)

    pub after_heard : after m (Heard i) ≡ now
    after_heard = ap (heard m) may.said ∙ ap (heard_by m may.message) may.body

    number : may.message.no ≡ i
    number = (counted.number i may.message may.said).0

    same_message : (j : ℕ) (y : Message) → j ≡ may.message.no → m.said j ≡ Some y → y ≡ may.message
    same_message j y e said = some_message y may.message (sym said ∙ (ap m.said (e ∙ number) ∙ may.said))

    way_heard : (b j : ℕ) (w : Awaited m call b j) → ((call == may.message.call) && (b == may.message.brick) && is_number may.re (m.awaits call b)) ≡ false → m.awaits call b ≡ Some j
        → OnItsWay m.said m.flying m.owed m.brick call b j → OnItsWay m.said (put m.flying may.message.no false) m.owed m.brick call b j
    way_heard b j w un e (Going f) = elim (put_at m.flying may.message.no false j) [
      | inl v ↦ no_reply w.request may.re may.reply _ (sym w.body ∙ (ap (λ (z : Message). z.body) (same_message j w.message v.0 w.is) ∙ may.body))
      | inr v ↦ Going (v.1 ∙ f)
    ]
    way_heard b j w un e (Owing o) = absurd (among_none call b j m.owed may.nothing_owed o)
    way_heard b j w un e (Coming r y reply said flies body of_call of_brick) = elim (put_at m.flying may.message.no false r) [
      | inl v ↦ absurd (over (same_message r y v.0 said))
      | inr v ↦ Coming r y reply said (v.1 ∙ flies) body of_call of_brick
    ]
      where
        over : y ≡ may.message → ⊥
        over it =
            let re : j ≡ may.re = same_reply j may.re reply may.reply (sym body ∙ (ap (λ (z : Message). z.body) it ∙ may.body)) in
            all_three (call == may.message.call) (b == may.message.brick) (is_number may.re (m.awaits call b))
            (same call may.message.call (sym of_call ∙ ap (λ (z : Message). z.call) it))
            (same b may.message.brick (sym of_brick ∙ ap (λ (z : Message). z.brick) it))
            (ap (is_number may.re) e ∙ same j may.re re) un
    way_heard b j w un e (Down d) = Down d

    waits_heard : (b j : ℕ) → now.awaits call b ≡ Some j → Awaited now call b j
    waits_heard b j e =
        let u = unless ((call == may.message.call) && (b == may.message.brick) && is_number may.re (m.awaits call b)) (m.awaits call b) j e in
        let a = h.waits b j u.1 in
        record { message = a.message; request = a.request; is = a.is; body = a.body; speaks = a.speaks; of_call = a.of_call; of_brick = a.of_brick; way = way_heard b j a u.0 u.1 a.way }

    calm_heard : IsCalm n now call client
    calm_heard = record {
      lives = h.lives;
      asker = h.asker;
      made = h.made;
      of_client = h.of_client;
      only = λ a c z. h.only a c (record { asker = z.asker; made = z.made; of_client = z.of_client; unanswered = z.unanswered; lives = z.lives });
      flies = λ j y e f. h.flies j y e (put_false m.flying may.message.no j f).1;
      owed = h.owed;
      asks = λ b lt. own_moves m.said m.said m.flying now.flying call b (λ j y e. e) (λ j y e f. put_false_stays m.flying may.message.no j f) (m.brick b).asks (h.asks b lt);
      unasked = h.unasked;
      waits = waits_heard;
    }

    pub heard_calm : IsCalm n (after m (Heard i)) call client
    heard_calm = subst (λ (z : Net). IsCalm n z call client) (sym after_heard) calm_heard

  -- ## A message is lost

  module _ (i : ℕ) (flies : m.flying i ≡ true) (nothing_owed : m.owed ≡ []) (nowhere : (msg : Message) → m.said i ≡ Some msg → GoesNowhere m msg msg.body) where
    abbrev msg : Message
    msg = (counted.flies i flies).0

    said : m.said i ≡ Some msg
    said = (counted.flies i flies).1

    goes : (body : Body) → msg.body ≡ body → GoesNowhere m msg body → IsOwnBody call client msg body → GoesToStopped m i
    goes (ToBrick q) e lost own = record { message = msg; request = q; said = said; body = e; stopped = lost }
    goes (ToClient re reply) e lost own = differ (m.dead msg.client) _ lost (ap m.dead own.1 ∙ h.lives)

    pub lost_to_stopped : GoesToStopped m i
    lost_to_stopped = goes msg.body refl (nowhere msg said) (h.flies i msg said flies)

    way_lost : (b j : ℕ) (w : Awaited m call b j) → OnItsWay m.said m.flying m.owed m.brick call b j → OnItsWay m.said (put m.flying i false) m.owed m.brick call b j
    way_lost b j w (Going f) = elim (put_at m.flying i false j) [
      | inl v ↦ let it : lost_to_stopped.message ≡ w.message = some_message lost_to_stopped.message w.message (sym lost_to_stopped.said ∙ (ap m.said (sym v.0) ∙ w.is)) in
          Down (ap (λ (z : ℕ). (m.brick z).up) (sym w.of_brick ∙ ap (λ (z : Message). z.brick) (sym it)) ∙ lost_to_stopped.stopped)
      | inr v ↦ Going (v.1 ∙ f)
    ]
    way_lost b j w (Owing o) = absurd (among_none call b j m.owed nothing_owed o)
    way_lost b j w (Coming r y reply is f body of_call of_brick) = elim (put_at m.flying i false r) [
      | inl v ↦ let it : lost_to_stopped.message ≡ y = some_message lost_to_stopped.message y (sym lost_to_stopped.said ∙ (ap m.said (sym v.0) ∙ is)) in
          no_reply lost_to_stopped.request j reply _ (sym lost_to_stopped.body ∙ (ap (λ (z : Message). z.body) it ∙ body))
      | inr v ↦ Coming r y reply is (v.1 ∙ f) body of_call of_brick
    ]
    way_lost b j w (Down d) = Down d

    waits_lost : (b j : ℕ) → m.awaits call b ≡ Some j → Awaited (after m (Lost i)) call b j
    waits_lost b j e = let a = h.waits b j e in record { message = a.message; request = a.request; is = a.is; body = a.body; speaks = a.speaks; of_call = a.of_call; of_brick = a.of_brick; way = way_lost b j a a.way }

    pub lost_calm : IsCalm n (after m (Lost i)) call client
    lost_calm = record {
      lives = h.lives;
      asker = h.asker;
      made = h.made;
      of_client = h.of_client;
      only = λ a c z. h.only a c (record { asker = z.asker; made = z.made; of_client = z.of_client; unanswered = z.unanswered; lives = z.lives });
      flies = λ j y e f. h.flies j y e (put_false m.flying i j f).1;
      owed = h.owed;
      asks = λ b lt. own_moves m.said m.said m.flying (put m.flying i false) call b (λ j y e. e) (λ j y e f. put_false_stays m.flying i j f) (m.brick b).asks (h.asks b lt);
      unasked = h.unasked;
      waits = waits_lost;
    }

  -- ## A brick is given up

  -- only a stopped one is waited for in vain
  pub stuck_stopped : (who b : ℕ) → m.owed ≡ [] → NoneFly m → IsStuck m who b → (m.brick b).up ≡ false
  stuck_stopped who b nothing_owed none_fly stuck = by (h.waits b stuck.number waits).way
    where
      waits : m.awaits call b ≡ Some stuck.number
      waits = ap (λ (a : ℕ). m.awaits a b) (sym (h.only stuck.call who stuck.calling)) ∙ stuck.waits

      by : OnItsWay m.said m.flying m.owed m.brick call b stuck.number → (m.brick b).up ≡ false
      by (Going f) = differ (m.flying stuck.number) _ f (none_fly stuck.number)
      by (Owing o) = absurd (among_none call b stuck.number m.owed nothing_owed o)
      by (Coming r y reply is f body of_call of_brick) = differ (m.flying r) _ f (none_fly r)
      by (Down d) = d

  pub given_up_calm : (who brick i : ℕ) → IsCalm n (after m (GivenUp who brick i)) call client
  given_up_calm who brick i = record {
    lives = h.lives;
    asker = h.asker;
    made = h.made;
    of_client = h.of_client;
    only = λ a c z. h.only a c (record { asker = z.asker; made = z.made; of_client = z.of_client; unanswered = z.unanswered; lives = z.lives });
    flies = h.flies;
    owed = h.owed;
    asks = h.asks;
    unasked = h.unasked;
    waits = λ b j e. h.waits b j (put2_none m.awaits (call_of (m.said i)) brick call b j e);
  }

  -- ## A call is answered

  pub answered_calm : (a : ℕ) (answer : Answer) → IsCalm n (after m (Answered a answer)) call client
  answered_calm a answer = record {
    lives = h.lives;
    asker = h.asker;
    made = h.made;
    of_client = h.of_client;
    only = λ c d z. h.only c d (record { asker = z.asker; made = z.made; of_client = z.of_client; unanswered = before c z.unanswered; lives = z.lives });
    flies = h.flies;
    owed = h.owed;
    asks = h.asks;
    unasked = h.unasked;
    waits = h.waits;
  }
    where
      before : (c : ℕ) → put m.answered a true c ≡ false → m.answered c ≡ false
      before c e = elim (put_at m.answered a true c) [ inl w ↦ differ true _ refl (sym w.1 ∙ e) | inr w ↦ sym w.1 ∙ e ]

-- ## The call is made

module _ (n call client : ℕ) (op : Op) (m : Net) (counted : IsCounted n m) (quiet : IsQuiet n m) (number : call ≡ m.calls + 1) (lives : m.dead client ≡ false) (nothing_owed : m.owed ≡ []) where
  not_older : (a : ℕ) → a ≤ m.calls → a ≡ call → ⊥
  not_older a le e = absurd (omega (arith, le, e, number))

  only_it : (a c : ℕ) → IsCalling (after m (Called call client op)) a c → a ≡ call
  only_it a c z = elim (put_at m.asker call (Some (record { client = client; op = op })) a) [
    | inl w ↦ w.0
    | inr w ↦ absurd (quiet.idle c a (record { asker = z.asker; made = sym w.1 ∙ z.made; of_client = z.of_client; unanswered = z.unanswered; lives = z.lives }))
  ]

  pub called_calm : IsCalm n (after m (Called call client op)) call client
  called_calm = record {
    lives = lives;
    asker = record { client = client; op = op };
    made = put_here m.asker call (Some (record { client = client; op = op })) call refl;
    of_client = refl;
    only = only_it;
    flies = λ i x e f. differ (m.flying i) _ f (quiet.none_fly i);
    owed = subst (AreOwed call client) (sym nothing_owed) tt;
    asks = λ b lt. subst (AreOwn m.said m.flying call b) (sym (quiet.unlocked b lt)) tt;
    unasked = λ b lt down. quiet.unlocked b lt;
    waits = λ b i e. absurd (not_older call (counted.waits call b i e) refl);
  }
