-- A message that is sent in a settled call.
use Rattle.std.proofs.Common.{◌≡◌, inl, inr, ℕ, ◌<◌, Bool, true, false, Option, Some, List, [], ◌∷◌, refl, sym, ap, subst, ◌∙◌, arith}
use Rattle.ec_conduct.specs.Conduct.{is_release}
use Rattle.ec_history.specs.IsRun.{IsFirstOwed, MayAsk, MaySay}
use Rattle.ec_history.specs.Run.{Asker, Net, Owed, owed_after, sent}
use Rattle.ec_locks.specs.declared.ask.Ask.{Ask as Asking}
use Rattle.ec_wire.specs.declared.message.Body.{Body}
use Rattle.ec_wire.specs.declared.message.Body.TheVariants.{ToBrick, ToClient}
use Rattle.ec_wire.specs.declared.message.Message.{Message}
use Rattle.ec_wire.specs.declared.reply.Reply.{Reply}
use Rattle.ec_wire.specs.declared.request.Request.{Request}
use Rattle.ec_wire.specs.declared.request.Request.TheVariants.{Release}
use Rattle.ec_law_settled.specs.Calm.{SendsOnly}
use Rattle.ec_law_settled.proofs.Calm.{AreOwed, AreOwn, Awaited, Coming, Down, Going, IsAmong, IsCalm, IsOwnBody, OnItsWay, Owing}
use Rattle.ec_law_settled.proofs.Counted.{IsCounted, awaits_is, said_before, said_stays}
use Rattle.ec_law_settled.proofs.Places.{put_here, put_there, put_true_stays}

pub some_asker : (a b : Asker) → Some a ≡ Some b → a ≡ b
some_asker a b e = cc

pub among_none : (call b i : ℕ) (os : List Owed) → os ≡ [] → IsAmong call b i os → ⊥
among_none call b i [] e o = o
among_none call b i (x ∷ os) e o = absurd (cc)

-- asks stay where messages do, and land
pub own_moves : (said then : ℕ → Option Message) (flying now : ℕ → Bool) (call b : ℕ) → ((i : ℕ) (x : Message) → said i ≡ Some x → then i ≡ Some x) → ((i : ℕ) (x : Message) → said i ≡ Some x → flying i ≡ false → now i ≡ false)
    → (asks : List Asking) → AreOwn said flying call b asks → AreOwn then now call b asks
own_moves said then flying now call b stays lands [] own = tt
own_moves said then flying now call b stays lands (a ∷ []) own = record {
  asks = record { message = own.asks.message; is = stays a.number own.asks.message own.asks.is; of_call = own.asks.of_call; of_brick = own.asks.of_brick; asks = own.asks.asks };
  landed = lands a.number own.asks.message own.asks.is own.landed;
}
own_moves said then flying now call b stays lands (a ∷ c ∷ asks) own = absurd own

module _ (n call client : ℕ) (m : Net) (counted : IsCounted n m) (h : IsCalm n m call client) (msg : Message) (is : msg.no ≡ m.next) where
  own_call : (q : Request) → MayAsk n m msg q → m.answered msg.call ≡ false → msg.call ≡ call
  own_call q x s = h.only msg.call msg.client (record { asker = x.asker; made = x.made; of_client = x.of_client; unanswered = s; lives = x.lives })

  unanswered : (q : Request) → is_release q ≡ false → SendsOnly m msg (ToBrick q) → m.answered msg.call ≡ false
  unanswered (Release g k) e s = absurd (cc)
  unanswered q e s = s

  client_is : (q : Request) → MayAsk n m msg q → msg.call ≡ call → msg.client ≡ client
  client_is q x of =
      let here : m.asker call ≡ Some x.asker = ap m.asker (sym of) ∙ x.made in
      let same : x.asker ≡ h.asker = some_asker x.asker h.asker (sym here ∙ h.made) in
      sym x.of_client ∙ ap (λ (a : Asker). a.client) same ∙ h.of_client

  first_own : (os : List Owed) (re : ℕ) (reply : Reply) → AreOwed call client os → IsFirstOwed os msg re reply → (msg.call ≡ call) × (msg.client ≡ client)
  first_own [] re reply own x = absurd x
  first_own (o ∷ os) re reply own x = (x.call ∙ own.0, x.client ∙ own.1)

  own_body : (body : Body) → MaySay n m msg body → SendsOnly m msg body → IsOwnBody call client msg body
  own_body (ToBrick (Release g k)) x s = tt
  own_body (ToBrick q) x s = let own = own_call q x (unanswered q refl s) in (own, client_is q x own)
  own_body (ToClient re reply) x s = first_own m.owed re reply h.owed x

  owed_left : (body : Body) (os : List Owed) → AreOwed call client os → AreOwed call client (owed_after os body)
  owed_left (ToBrick q) os own = own
  owed_left (ToClient re reply) [] own = tt
  owed_left (ToClient re reply) (o ∷ os) own = own.2

  stays : (i : ℕ) (x : Message) → m.said i ≡ Some x → (sent m msg).said i ≡ Some x
  stays = said_stays n m msg is counted

  landed_stays : (i : ℕ) (x : Message) → m.said i ≡ Some x → m.flying i ≡ false → (sent m msg).flying i ≡ false
  landed_stays i x said e = put_there m.flying msg.no true i (other_number i x said) ∙ e
    where
      other_number : (i : ℕ) (x : Message) → m.said i ≡ Some x → i ≡ msg.no → ⊥
      other_number i x said e = let below : i < m.next = (counted.number i x said).1 in absurd (omega (arith, below, e, is))

  module _ (may : MaySay n m msg msg.body) (sends : SendsOnly m msg msg.body) where
    flies_sent : (i : ℕ) (x : Message) → (sent m msg).said i ≡ Some x → (sent m msg).flying i ≡ true → IsOwnBody call client x x.body
    flies_sent i x said flies = elim (said_before n m msg is counted i x said) [
      | inl w ↦ subst (λ (z : Message). IsOwnBody call client z z.body) w.1 (own_body msg.body may sends)
      | inr w ↦ h.flies i x w.1 (sym (put_there m.flying msg.no true i w.0) ∙ flies)
    ]

    -- the first reply that is owed is sent, and others are owed still
    first : (b i re : ℕ) (reply : Reply) (os : List Owed) → msg.body ≡ ToClient re reply → IsFirstOwed os msg re reply → IsAmong call b i os
        → OnItsWay (sent m msg).said (sent m msg).flying (owed_after os (ToClient re reply)) m.brick call b i
    first b i re reply [] e x o = absurd o
    first b i re reply (o ∷ os) e x (inl w) = Coming msg.no msg reply (put_here m.said msg.no (Some msg) msg.no refl) (put_here m.flying msg.no true msg.no refl) (e ∙ ap (λ (z : ℕ). ToClient z reply) (x.to ∙ w.2)) (x.call ∙ w.0) (x.brick ∙ w.1)
    first b i re reply (o ∷ os) e x (inr w) = Owing w

    owing : (b i : ℕ) (body : Body) → msg.body ≡ body → MaySay n m msg body → IsAmong call b i m.owed → OnItsWay (sent m msg).said (sent m msg).flying (owed_after m.owed body) m.brick call b i
    owing b i (ToBrick q) e x o = absurd (among_none call b i m.owed x.nothing_owed o)
    owing b i (ToClient re reply) e x o = first b i re reply m.owed e x o

    way_sent : (b i : ℕ) → OnItsWay m.said m.flying m.owed m.brick call b i → OnItsWay (sent m msg).said (sent m msg).flying (sent m msg).owed m.brick call b i
    way_sent b i (Going e) = Going (put_true_stays m.flying msg.no i e)
    way_sent b i (Owing o) = owing b i msg.body refl may o
    way_sent b i (Coming j x reply said flies body of_call of_brick) = Coming j x reply (stays j x said) (put_true_stays m.flying msg.no j flies) body of_call of_brick
    way_sent b i (Down e) = Down e

    waits_sent : (b i : ℕ) → (sent m msg).awaits call b ≡ Some i → Awaited (sent m msg) call b i
    waits_sent b i e = elim (awaits_is m.awaits msg msg.body call b i e) [
      | inl w ↦ record { message = msg; request = w.request; is = put_here m.said msg.no (Some msg) i w.number; body = w.body_is; speaks = w.speaks; of_call = sym w.of_call; of_brick = sym w.of_brick; way = Going (put_here m.flying msg.no true i w.number) }
      | inr w ↦ let a = h.waits b i w in record { message = a.message; request = a.request; is = stays i a.message a.is; body = a.body; speaks = a.speaks; of_call = a.of_call; of_brick = a.of_brick; way = way_sent b i a.way }
    ]

    pub sent_calm : IsCalm n (sent m msg) call client
    sent_calm = record {
      lives = h.lives;
      asker = h.asker;
      made = h.made;
      of_client = h.of_client;
      only = λ a c x. h.only a c (record { asker = x.asker; made = x.made; of_client = x.of_client; unanswered = x.unanswered; lives = x.lives });
      flies = flies_sent;
      owed = owed_left msg.body m.owed h.owed;
      asks = λ b lt. own_moves m.said (sent m msg).said m.flying (sent m msg).flying call b stays landed_stays (m.brick b).asks (h.asks b lt);
      unasked = h.unasked;
      waits = waits_sent;
    }
