-- Steps that change nothing of the calls: what bricks do, replies that no call waits for, and clients that die.
use Rattle.std.proofs.Common.{◌≡◌, ◌⊎◌, inl, inr, ⊎_elim, ℕ, ◌+◌, ◌<◌, ◌≤◌, Bool, true, false, Option, Some, None, List, [], ◌∷◌, ◌++◌, ◌==◌, length, refl, sym, ◌∙◌, ap, subst, arith, eqb-true}
use Rattle.std.specs.Prelude.{slice_get}
use Rattle.ec_attr.specs.declared.geometry.Geometry.{Geometry}
use Rattle.ec_store.specs.Put.{put}
use Rattle.ec_cluster.specs.Entries.{granted_entries, reply_entries}
use Rattle.ec_locks.specs.declared.waiters.Waiter.{Waiter}
use Rattle.ec_cluster.specs.Said.{said_after, said_in, said_with}
use Rattle.ec_cluster.specs.Sound.{IsFlying, IsReplyTo, IsSound}
use Rattle.ec_cluster.specs.Steps.{Advances as ClusterAdvances, IsAllowed, Lives}
use Rattle.ec_cluster.specs.Views.{bricks_of, log_of, next_of, size_of}
use Rattle.ec_cluster.specs.declared.cluster.Cluster.{Cluster}
use Rattle.ec_conduct.specs.Account.{Wait}
use Rattle.ec_conduct.specs.Given.{Given}
use Rattle.ec_conduct.specs.Opened.{account}
use Rattle.ec_conduct.specs.Own.{Own}
use Rattle.ec_history.specs.Accounts.{hears}
use Rattle.ec_history.specs.Run.{Asker, heard, is_number}
use Rattle.ec_txn.specs.Steps.{number_of}
use Rattle.ec_txn.specs.declared.ctx.Ctx.{Ctx}
use Rattle.ec_wire.specs.declared.entry.Entry.{Entry}
use Rattle.ec_wire.specs.declared.entry.Entry.TheVariants.{Answered, Called, Cut, Died, Executed, GivenUp, Heard, Lost, Replaced, Returned, Sent, Stopped, Torn, Yielded}
use Rattle.ec_wire.specs.declared.message.Message.{Message}
use Rattle.ec_wire.specs.declared.reply.Reply.{Reply}
use Rattle.ec_clients.specs.Calls.{IsMade, IsRunning, OfClients, begun_with, ctx_of, request_message}
use Rattle.ec_clients.specs.Come.{Come, come, come_after}
use Rattle.ec_clients.specs.Frames.{AreFrom, AreOfBricks, Grows, IsFrom}
use Rattle.ec_clients.specs.Hearing.{IsIdle, IsReplyAt, reply_message}
use Rattle.ec_clients.specs.Ledger.{Ledger, ledger}
use Rattle.ec_clients.specs.Steps.{Goes, Seen}
use Rattle.ec_clients.specs.Views.{is_dead_at, joined, running_at, slots_of}
use Rattle.ec_clients.specs.declared.clients.Clients.{Clients}
use Rattle.ec_clients.specs.declared.clients.Running.{Running}
use Rattle.ec_clients.proofs.Entries.{heard_idle}
use Rattle.ec_clients.proofs.Frames.{brick_entry, said_is}
use Rattle.ec_clients.proofs.Goings.{said_append}
use Rattle.ec_clients.proofs.Moves.{SameBut, calls_grow, calls_same}
use Rattle.ec_clients.proofs.Places.{put_is, slots_same, some_is}

nat_cases : (i n : ℕ) → (i < n) ⊎ (n ≤ i)
nat_cases i n = grind arith

module _ {C : Type 0} (stands : Ctx → Given → C → List Own → Type 0) (by_table : Ctx → Given → List Own → Type 0) where
  -- the clients are as they were, while messages were sent
  pub clients_grow : (c : Clients C) (out : Option ℕ) (said more : ℕ → Option Message) (l : Ledger) → OfClients stands by_table c out said l → Grows said more → OfClients stands by_table c out more l
  clients_grow c out said more l k grows = record {
    count = k.count;
    gfid = k.gfid;
    dead = k.dead;
    released = k.released;
    calls = calls_grow c.options said more l k.calls grows;
    slots = k.slots;
  }

  pub clients_same : (c d : Clients C) (out : Option ℕ) (said more : ℕ → Option Message) (l k : Ledger) → OfClients stands by_table c out said l → Grows said more → SameBut l k → ((j : ℕ) → k.dead j ≡ is_dead_at (record c { dead = d.dead }) j) → OfClients stands by_table (record c { dead = d.dead }) out more k
  clients_same c d out said more l k h grows same now = record {
    count = same.calls ∙ h.count;
    gfid = same.gfid ∙ h.gfid;
    dead = now;
    released = λ i. same.let_go i ∙ h.released i;
    calls = calls_same c.options said more l k h.calls grows same;
    slots = slots_same stands by_table c.options (slots_of c) out l k h.slots same.asker same.given same.answered same.own;
  }

  -- a client dies
  module _ (s t : Cluster) (c d : Clients C) (j : ℕ) (adv : ClusterAdvances (IsAllowed (size_of s) (Died j)) s t (Died j ∷ [])) (same : d ≡ record c { dead = d.dead }) (now : (x : ℕ) → is_dead_at d x ≡ put (is_dead_at c) j true x) (lives : is_dead_at c j ≡ false) where
    said_then : said_in (log_of t) ≡ said_in (log_of s)
    said_then = ap said_in adv.log ∙ said_append (λ i. None) (log_of s) (Died j ∷ [])

    dies_seen : (p : Come) → Seen stands by_table s c None p → Seen stands by_table t d None (come_after c.options.geometry p (Died j))
    dies_seen p h = subst (λ (z : Clients C). Seen stands by_table t z None (come_after c.options.geometry p (Died j))) (sym same) (record {
      said = h.said ∙ sym said_then;
      clients = subst (λ (f : ℕ → Option Message). OfClients stands by_table (record c { dead = d.dead }) None f (ledger (come_after c.options.geometry p (Died j)))) (sym said_then)
          (clients_same c d None (said_in (log_of s)) (said_in (log_of s)) (ledger p) (ledger (come_after c.options.geometry p (Died j))) h.clients (λ i m e. e)
          (record { calls = refl; asker = refl; answered = refl; gfid = refl; given = refl; kept = refl; cache = refl; own = refl; let_go = λ i. refl; awaits = λ x b un. refl; unmade = λ x none b e. e })
          (λ x. (λ i. put (λ y. h.clients.dead y i) j true x) ∙ sym (now x)));
    })

    pub dies_goes : Goes c.options.geometry (Seen stands by_table s c None) (Seen stands by_table t d None) s t (Died j ∷ [])
    dies_goes = record {
      log = adv.log;
      size = adv.size;
      sound = adv.sound;
      leads = λ p h. dies_seen p h;
      runs = λ records p h m. adv.runs records p.net m (h.clients.dead j ∙ lives, m.owes);
    }

-- What bricks do

pub all_said : (g : Geometry) (es : List Entry) (p : Come) → (come g es p).net.said ≡ said_after p.net.said es
all_said g [] p = refl
all_said g (e ∷ es) p = all_said g es (come_after g p e) ∙ (λ i. said_after (said_is g p e i) es)

all_same : (g : Geometry) (es : List Entry) (p : Come) → AreOfBricks es → ledger (come g es p) ≡ ledger p
all_same g [] p h = refl
all_same g (e ∷ es) p h = all_same g es (come_after g p e) h.1 ∙ brick_entry g p e h.0

one_grows : (n : ℕ) (f more : ℕ → Option Message) (e : Entry) → IsFrom n e → ((i : ℕ) (m : Message) → f i ≡ Some m → (i < n) × (more i ≡ Some m)) → (i : ℕ) (m : Message) → f i ≡ Some m → (i < n) × (said_with more e i ≡ Some m)
one_grows n f more (Sent msg) from h i m e = ((h i m e).0, ⊎_elim (λ q. absurd (let lt = (h i m e).0 in let x = q.0 in omega arith)) (λ q. q.1 ∙ (h i m e).1) (put_is more msg.no (Some msg) i))
one_grows n f more (Executed a b c) from h i m e = h i m e
one_grows n f more (Called a b c) from h i m e = h i m e
one_grows n f more (Heard a) from h i m e = h i m e
one_grows n f more (Lost a) from h i m e = h i m e
one_grows n f more (GivenUp a b c) from h i m e = h i m e
one_grows n f more (Stopped a) from h i m e = h i m e
one_grows n f more (Returned a) from h i m e = h i m e
one_grows n f more (Cut a b) from h i m e = h i m e
one_grows n f more (Died a) from h i m e = h i m e
one_grows n f more (Yielded a) from h i m e = h i m e
one_grows n f more (Torn a b c) from h i m e = h i m e
one_grows n f more (Answered a b) from h i m e = h i m e
one_grows n f more (Replaced a b c) from h i m e = h i m e

all_grow : (n : ℕ) (f more : ℕ → Option Message) (es : List Entry) → AreFrom n es → ((i : ℕ) (m : Message) → f i ≡ Some m → (i < n) × (more i ≡ Some m)) → (i : ℕ) (m : Message) → f i ≡ Some m → said_after more es i ≡ Some m
all_grow n f more [] from h i m e = (h i m e).1
all_grow n f more (x ∷ es) from h i m e = all_grow n f (said_with more x) es from.1 (one_grows n f more x from.0 h) i m e

pub below_next : (s : Cluster) → IsSound s → (i : ℕ) (m : Message) → said_in (log_of s) i ≡ Some m → i < next_of s
below_next s sound i m e = test (nat_cases i (next_of s))
  where
    test : (i < next_of s) ⊎ (next_of s ≤ i) → i < next_of s
    test (inl lt) = lt
    test (inr ge) = absurd (let bad : None ≡ Some m = sym (sound.placed.none_later i ge) ∙ e in cc)

pub bricks_seen : {C : Type 0} (stands : Ctx → Given → C → List Own → Type 0) (by_table : Ctx → Given → List Own → Type 0) (s t : Cluster) (c : Clients C) (es : List Entry) → IsSound s → log_of t ≡ log_of s ++ es → AreOfBricks es → AreFrom (next_of s) es → (p : Come) → Seen stands by_table s c None p → Seen stands by_table t c None (come c.options.geometry es p)
bricks_seen stands by_table s t c es sound log bricks from p h =
    let then : said_in (log_of t) ≡ said_after (said_in (log_of s)) es = ap said_in log ∙ said_append (λ i. None) (log_of s) es in
    record {
      said = all_said c.options.geometry es p ∙ ((λ i. said_after (h.said i) es) ∙ sym then);
      clients = subst (λ (f : ℕ → Option Message). OfClients stands by_table c None f (ledger (come c.options.geometry es p))) (sym then)
          (subst (OfClients stands by_table c None (said_after (said_in (log_of s)) es)) (sym (all_same c.options.geometry es p bricks))
          (clients_grow stands by_table c None (said_in (log_of s)) (said_after (said_in (log_of s)) es) (ledger p) h.clients (all_grow (next_of s) (said_in (log_of s)) (said_in (log_of s)) es from (λ i m e. (below_next s sound i m e, e)))));
    }

pub granted_are : (said : ℕ → Option Message) (b i : ℕ) (ws : List Waiter) → AreOfBricks (granted_entries said b i ws)
granted_are said b i [] = tt
granted_are said b i (w ∷ ws) = (refl, granted_are said b (i + 1) ws)

pub granted_from : (n : ℕ) (said : ℕ → Option Message) (b i : ℕ) (ws : List Waiter) → n ≤ i → AreFrom n (granted_entries said b i ws)
granted_from n said b i [] le = tt
granted_from n said b i (w ∷ ws) le = (le, granted_from n said b (i + 1) ws (omega arith))

pub replies_are : (said : ℕ → Option Message) (q : Message) (i : ℕ) (reply : Option Reply) (ws : List Waiter) → AreOfBricks (reply_entries said q i reply ws)
replies_are said q i None ws = granted_are said q.brick i ws
replies_are said q i (Some y) ws = (refl, granted_are said q.brick (i + 1) ws)

pub replies_from : (n : ℕ) (said : ℕ → Option Message) (q : Message) (i : ℕ) (reply : Option Reply) (ws : List Waiter) → n ≤ i → AreFrom n (reply_entries said q i reply ws)
replies_from n said q i None ws le = granted_from n said q.brick i ws le
replies_from n said q i (Some y) ws le = (le, granted_from n said q.brick (i + 1) ws (omega arith))

-- A reply that no call waits for is heard.
module _ {C : Type 0} (stands : Ctx → Given → C → List Own → Type 0) (by_table : Ctx → Given → List Own → Type 0) (s t : Cluster) (c : Clients C) (i a j b re : ℕ) (there : IsReplyAt s i a j b re) (idle : IsIdle stands c a j b re) (sound : IsSound s) (adv : ClusterAdvances (Lives j) s t (Heard i ∷ [])) (lives : is_dead_at c j ≡ false) where
  abbrev reply : Reply
  reply = there.reply

  abbrev msg : Message
  msg = reply_message i a j b re there.reply

  said_after_it : said_in (log_of t) ≡ said_in (log_of s)
  said_after_it = ap said_in adv.log ∙ said_append (λ x. None) (log_of s) (Heard i ∷ [])

  module _ (p : Come) (h : Seen stands by_table s c None p) where
    no_number : (o : Option ℕ) → (o ≡ Some re → ⊥) → is_number re o ≡ false
    no_number None ne = refl
    no_number (Some x) ne = test (x == re) refl
      where
        test : (u : Bool) → (x == re) ≡ u → u ≡ false
        test true e = absurd (ne (ap Some (eqb-true x re e)))
        test false e = refl

    -- a call that isn't answered and waits for it runs in its client's slot
    not_waiting : (asker : Asker) → p.net.asker a ≡ Some asker → p.net.answered a ≡ false → p.net.awaits a b ≡ Some re → ⊥
    not_waiting asker made un waits =
        let k : OfClients stands by_table c None (said_in (log_of s)) (ledger p) = h.clients in
        let is_made : IsMade c.options (said_in (log_of s)) (ledger p) a asker = k.calls.made a asker made in
        let slot = k.slots.unanswered a asker made un (λ f. absurd (cc)) in
        let r : Running C = slot.0 in
        let is : IsRunning stands c.options (ledger p) asker.client r = (k.slots.runs asker.client r slot.1).0 in
        let same : number_of ((account (begun_with c.options asker.op is_made.child) (p.books.own a)).waits b) ≡ Some re = sym ((is_made.waits un).same b) ∙ waits in
        absurd (wrong asker made un waits is_made r slot.1 slot.2 is same)
      where
        some_wait : (o : Option Wait) → number_of o ≡ Some re → (w : Wait) × (o ≡ Some w) × (w.number ≡ re)
        some_wait None e = absurd (cc)
        some_wait (Some w) e = (w, refl, some_is w.number re e)

        wrong : (asker : Asker) → p.net.asker a ≡ Some asker → p.net.answered a ≡ false → p.net.awaits a b ≡ Some re → (is_made : IsMade c.options (said_in (log_of s)) (ledger p) a asker) → (r : Running C) → slice_get (slots_of c) asker.client ≡ Some (Some r) → r.number ≡ a → IsRunning stands c.options (ledger p) asker.client r → number_of ((account (begun_with c.options asker.op is_made.child) (p.books.own a)).waits b) ≡ Some re → ⊥
        wrong asker made un waits is_made r at num is same =
            let w = some_wait ((account (begun_with c.options asker.op is_made.child) (p.books.own a)).waits b) same in
            let sent : said_in (log_of s) re ≡ Some (request_message re a asker.client b w.0.request) = subst (λ (n : ℕ). said_in (log_of s) n ≡ Some (request_message n a asker.client b w.0.request)) w.2 ((is_made.waits un).sent b w.0 w.1) in
            let f : IsFlying (length (bricks_of s)) (said_in (log_of s)) i msg = sound.flies i msg there.flies in
            let y : IsReplyTo (said_in (log_of s)) msg re there.reply = f.fit in
            let client : j ≡ asker.client = y.client ∙ ap (λ (m : Message). m.client) (some_is _ _ (sym y.sent ∙ sent)) in
            let run : running_at c j ≡ Some r = ap joined (ap (slice_get (slots_of c)) client ∙ at) in
            let same_asker : Some is.asker ≡ Some asker = sym is.made ∙ (ap p.net.asker num ∙ made) in
            let same_given : begun_with c.options is.asker.op is.child ≡ begun_with c.options asker.op is_made.child = some_is _ _ (sym is.begun ∙ (ap p.books.given num ∙ is_made.begun)) in
            idle r run num (ctx_of c.options r.number asker.client is.child) (begun_with c.options is.asker.op is.child) (p.books.own r.number) is.meets
            ((λ k. number_of ((account (same_given k) (p.books.own (num k))).waits b)) ∙ same)

    is_idle : (is_number re (p.net.awaits a b) ≡ false) ⊎ (p.net.answered a ≡ true)
    is_idle = by (p.net.answered a) refl
      where
        by : (u : Bool) → p.net.answered a ≡ u → (is_number re (p.net.awaits a b) ≡ false) ⊎ (p.net.answered a ≡ true)
        by true e = inr e
        by false e = inl (no_number (p.net.awaits a b) (made (p.net.asker a) refl e))
          where
            made : (o : Option Asker) → p.net.asker a ≡ o → p.net.answered a ≡ false → p.net.awaits a b ≡ Some re → ⊥
            made None f un w = absurd (let bad : None ≡ Some re = sym ((h.clients.calls.later a f).awaits b) ∙ w in cc)
            made (Some asker) f un w = not_waiting asker f un w

    said_no : p.net.said i ≡ Some msg
    said_no = (λ k. h.said k i) ∙ (sound.flies i msg there.flies).sent

    heard_here : Seen stands by_table t c None (record { net = heard p.net (Some msg); story = p.story; books = hears p.net p.books (Some msg) })
    heard_here = record {
      said = h.said ∙ sym said_after_it;
      clients = subst (λ (f : ℕ → Option Message). OfClients stands by_table c None f (ledger (record { net = heard p.net (Some msg); story = p.story; books = hears p.net p.books (Some msg) }))) (sym said_after_it)
          (clients_same stands by_table c c None (said_in (log_of s)) (said_in (log_of s)) (ledger p) (ledger (record { net = heard p.net (Some msg); story = p.story; books = hears p.net p.books (Some msg) })) h.clients (λ x m e. e) (heard_idle c.options.geometry p i a j b re there.reply is_idle) h.clients.dead);
    }

    pub idle_seen : Seen stands by_table t c None (come_after c.options.geometry p (Heard i))
    idle_seen = subst (λ (o : Option Message). Seen stands by_table t c None (record { net = heard p.net o; story = p.story; books = hears p.net p.books o })) (sym said_no) heard_here

  pub idle_goes : Goes c.options.geometry (Seen stands by_table s c None) (Seen stands by_table t c None) s t (Heard i ∷ [])
  idle_goes = record {
    log = adv.log;
    size = adv.size;
    sound = adv.sound;
    leads = λ p h. idle_seen p h;
    runs = λ records p h m. adv.runs records p.net m (h.clients.dead j ∙ lives);
  }
