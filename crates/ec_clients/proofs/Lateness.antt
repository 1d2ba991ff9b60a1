-- A Granted that comes late is answered by a Release once more.
use Rattle.std.proofs.Common.{◌≡◌, ⊎_elim, ℕ, ◌<◌, Bool, true, false, cond, Option, Some, None, List, [], ◌∷◌, length, refl, sym, ◌∙◌, ap, subst, arith}
use Rattle.ec_attr.specs.declared.gfid.Gfid.{Gfid}
use Rattle.ec_store.specs.Put.{put}
use Rattle.ec_cluster.specs.Said.{said_in}
use Rattle.ec_cluster.specs.Sound.{IsFlying, IsReplyTo, IsSound}
use Rattle.ec_cluster.specs.Steps.{Advances as ClusterAdvances, IsBegun, IsOfClient, Lives}
use Rattle.ec_cluster.specs.Views.{bricks_of, log_of, next_of, size_of}
use Rattle.ec_cluster.specs.declared.cluster.Cluster.{Cluster}
use Rattle.ec_conduct.specs.Given.{Given}
use Rattle.ec_conduct.specs.Own.{Own, Sends}
use Rattle.ec_history.specs.Accounts.{own_of, under_kept}
use Rattle.ec_txn.specs.declared.ctx.Ctx.{Ctx}
use Rattle.ec_wire.specs.declared.entry.Entry.{Entry}
use Rattle.ec_wire.specs.declared.entry.Entry.TheVariants.{Heard, Sent}
use Rattle.ec_wire.specs.declared.message.Body.{Body}
use Rattle.ec_wire.specs.declared.message.Body.TheVariants.{ToBrick, ToClient}
use Rattle.ec_wire.specs.declared.message.Message.{Message}
use Rattle.ec_wire.specs.declared.request.Request.TheVariants.{Release}
use Rattle.ec_clients.specs.Calls.{OfClients, request_message}
use Rattle.ec_clients.specs.Come.{Come, come_after}
use Rattle.ec_clients.specs.Frames.{Grows}
use Rattle.ec_clients.specs.Hearing.{IsIdle, IsReplyAt, reply_message}
use Rattle.ec_clients.specs.Late.{late_by, late_gfid}
use Rattle.ec_clients.specs.Ledger.{ledger}
use Rattle.ec_clients.specs.Owned.{IsOwned, Sees}
use Rattle.ec_clients.specs.Steps.{AreOfCourse, Breaks, Goes, Seen}
use Rattle.ec_clients.specs.Views.{is_dead_at, is_released}
use Rattle.ec_clients.specs.declared.clients.Clients.{Clients}
use Rattle.ec_clients.proofs.Booking.{sees_come}
use Rattle.ec_clients.proofs.Goings.{goes_off, goes_on, said_append}
use Rattle.ec_clients.proofs.Idling.{below_next, clients_same, idle_goes}
use Rattle.ec_clients.proofs.Moves.{SameBut}
use Rattle.ec_clients.proofs.Owning.{heard_asker}
use Rattle.ec_clients.proofs.Places.{put_is}

module _ {C : Type 0} (stands : Ctx → Given → C → List Own → Type 0) (by_table : Ctx → Given → List Own → Type 0) where
  -- the Release
  module _ (t u : Cluster) (c : Clients C) (a j b re : ℕ) (g : Gfid) (sound : IsSound t) (adv : ClusterAdvances (IsOfClient a j) t u (Sent (request_message (next_of t) a j b (Release g re)) ∷ [])) (released : is_released c re ≡ true) where
    abbrev msg : Message
    msg = request_message (next_of t) a j b (Release g re)

    said_now : said_in (log_of u) ≡ put (said_in (log_of t)) (next_of t) (Some msg)
    said_now = ap said_in adv.log ∙ said_append (λ i. None) (log_of t) (Sent msg ∷ [])

    grows_by : Grows (said_in (log_of t)) (put (said_in (log_of t)) (next_of t) (Some msg))
    grows_by i m e = ⊎_elim (λ p. absurd (let lt = below_next t sound i m e in let x = p.0 in omega arith)) (λ p. p.1 ∙ e) (put_is (said_in (log_of t)) (next_of t) (Some msg) i)

    again_same : (p : Come) → Seen stands by_table t c None p → SameBut (ledger p) (ledger (come_after c.options.geometry p (Sent msg)))
    again_same p h = record {
      calls = refl;
      asker = refl;
      answered = refl;
      gfid = refl;
      given = own_given (h.clients.released re ∙ released);
      kept = own_kept (h.clients.released re ∙ released);
      cache = own_cache (h.clients.released re ∙ released);
      own = own_is (h.clients.released re ∙ released);
      let_go = λ i. ⊎_elim (λ q. q.1 ∙ sym (ap p.net.let_go q.0 ∙ (h.clients.released re ∙ released))) (λ q. q.1) (put_is p.net.let_go re true i);
      awaits = λ x y un. refl;
      unmade = λ x none y e. e;
    }
      where
        own_is : p.net.let_go re ≡ true → (ledger (come_after c.options.geometry p (Sent msg))).own ≡ p.books.own
        own_is e = (λ i. (own_of p.books (cond (e i) None (cond (p.net.answered a) (under_kept p.books (p.books.running j)) (Some a))) (Sends b (next_of t) (Release g re))).own)

        own_given : p.net.let_go re ≡ true → (ledger (come_after c.options.geometry p (Sent msg))).given ≡ p.books.given
        own_given e = (λ i. (own_of p.books (cond (e i) None (cond (p.net.answered a) (under_kept p.books (p.books.running j)) (Some a))) (Sends b (next_of t) (Release g re))).given)

        own_kept : p.net.let_go re ≡ true → (ledger (come_after c.options.geometry p (Sent msg))).kept ≡ p.books.kept
        own_kept e = (λ i. (own_of p.books (cond (e i) None (cond (p.net.answered a) (under_kept p.books (p.books.running j)) (Some a))) (Sends b (next_of t) (Release g re))).kept)

        own_cache : p.net.let_go re ≡ true → (ledger (come_after c.options.geometry p (Sent msg))).cache ≡ p.books.cache
        own_cache e = (λ i. (own_of p.books (cond (e i) None (cond (p.net.answered a) (under_kept p.books (p.books.running j)) (Some a))) (Sends b (next_of t) (Release g re))).cache)

    again_seen : (p : Come) → Seen stands by_table t c None p → Seen stands by_table u c None (come_after c.options.geometry p (Sent msg))
    again_seen p h = record {
      said = (λ i. put (h.said i) (next_of t) (Some msg)) ∙ sym said_now;
      clients = subst (λ (f : ℕ → Option Message). OfClients stands by_table c None f (ledger (come_after c.options.geometry p (Sent msg)))) (sym said_now)
          (clients_same stands by_table c c None (said_in (log_of t)) (put (said_in (log_of t)) (next_of t) (Some msg)) (ledger p) (ledger (come_after c.options.geometry p (Sent msg))) h.clients grows_by (again_same p h) h.clients.dead);
    }

    -- where this is known of the call
    abbrev pub Knows : Come → Type 0
    Knows p = Sees stands by_table t c p × IsOwned p.net.asker a j

    pub again_goes : b < size_of t → is_dead_at c j ≡ false → Goes c.options.geometry Knows (Sees stands by_table u c) t u (Sent msg ∷ [])
    again_goes below lives = record {
      log = adv.log;
      size = adv.size;
      sound = adv.sound;
      leads = λ p h. sees_come stands by_table t u c c c.options.geometry (Sent msg ∷ []) p adv.size (λ q e. h.1, tt) (below, tt) (again_seen p h.0.seen) h.0;
      runs = λ records p h m. adv.runs records p.net m (record { asker = h.1.asker; made = h.1.made; of_client = h.1.of_client; lives = h.0.seen.clients.dead j ∙ lives });
    }

  -- the reply, and then the Release
  module _ (s t : Cluster) (c : Clients C) (i a j b re : ℕ) (there : IsReplyAt s i a j b re) (idle : IsIdle stands c a j b re) (sound : IsSound s) (adv : ClusterAdvances (Lives j) s t (Heard i ∷ [])) (lives : is_dead_at c j ≡ false) where
    one : Goes c.options.geometry (Seen stands by_table s c None) (Seen stands by_table t c None) s t (Heard i ∷ [])
    one = idle_goes stands by_table s t c i a j b re there idle sound adv lives

    -- the call of the ask is that of the reply
    owner : (p : Come) → Sees stands by_table s c p → IsOwned p.net.asker a j
    owner p h =
        let f : IsFlying (length (bricks_of s)) (said_in (log_of s)) i (reply_message i a j b re there.reply) = sound.flies i (reply_message i a j b re there.reply) there.flies in
        let y : IsReplyTo (said_in (log_of s)) (reply_message i a j b re there.reply) re there.reply = f.fit in
        let o : IsOwned p.net.asker y.asked.call y.asked.client = h.owned re y.asked y.request ((λ k. h.seen.said k re) ∙ y.sent) y.body in
        subst (λ (x : ℕ). IsOwned p.net.asker x j) (sym y.call) (subst (λ (x : ℕ). IsOwned p.net.asker y.asked.call x) (sym y.client) o)

    pub heard_goes : Goes c.options.geometry (Sees stands by_table s c) (λ p. Sees stands by_table t c p × IsOwned p.net.asker a j) s t (Heard i ∷ [])
    heard_goes = record {
      log = one.log;
      size = one.size;
      sound = one.sound;
      leads = λ p h. (sees_come stands by_table s t c c c.options.geometry (Heard i ∷ []) p adv.size (tt, tt) (tt, tt) (one.leads p h.seen) h, subst (λ (f : ℕ → _). IsOwned f a j) (sym (heard_asker p.net (p.net.said i))) (owner p h));
      runs = λ records p h m. one.runs records p h.seen m;
    }

    pub late_none : Goes c.options.geometry (Sees stands by_table s c) (Sees stands by_table t c) s t (Heard i ∷ [])
    late_none = record {
      log = one.log;
      size = one.size;
      sound = one.sound;
      leads = λ p h. (heard_goes.leads p h).0;
      runs = λ records p h m. one.runs records p h.seen m;
    }

    next_same : next_of t ≡ next_of s → (g : Gfid) → Sent (request_message (next_of t) a j b (Release g re)) ∷ [] ≡ Sent (request_message (next_of s) a j b (Release g re)) ∷ []
    next_same e g = λ k. Sent (request_message (e k) a j b (Release g re)) ∷ []

    pub late_some : (u : Cluster) (g : Gfid) → next_of t ≡ next_of s → is_released c re ≡ true → ClusterAdvances (IsOfClient a j) t u (Sent (request_message (next_of t) a j b (Release g re)) ∷ []) → Goes c.options.geometry (Sees stands by_table s c) (Sees stands by_table u c) s u (Heard i ∷ Sent (request_message (next_of s) a j b (Release g re)) ∷ [])
    late_some u g next released more = subst (λ (es : List Entry). Goes c.options.geometry (Sees stands by_table s c) (Sees stands by_table u c) s u (Heard i ∷ es)) (next_same next g)
        (goes_on c.options.geometry (Sees stands by_table s c) (λ p. Sees stands by_table t c p × IsOwned p.net.asker a j) (Sees stands by_table u c) s t u (Heard i ∷ []) (Sent (request_message (next_of t) a j b (Release g re)) ∷ []) heard_goes (again_goes t u c a j b re g adv.sound more released (subst (λ (n : ℕ). b < n) (sym adv.size) (sound.flies i (reply_message i a j b re there.reply) there.flies).brick) lives))

    pub late_off : (u : Cluster) → Breaks c.options.geometry AreOfCourse (λ p. Sees stands by_table t c p × IsOwned p.net.asker a j) t u → Breaks c.options.geometry (IsBegun (λ e. e ≡ Heard i)) (Sees stands by_table s c) s u
    late_off u g = goes_off c.options.geometry (Sees stands by_table s c) (λ p. Sees stands by_table t c p × IsOwned p.net.asker a j) s t u (Heard i ∷ []) AreOfCourse (IsBegun (λ e. e ≡ Heard i)) (λ fs k. (refl, k)) heard_goes g

-- only a released ask has such a gfid
pub is_late : (released : Bool) (asked : Option Message) (m : Message) (g : Gfid) → late_gfid released asked (Some m) ≡ Some g → released ≡ true
is_late true asked m g e = refl
is_late false asked m g e = by m.body e
  where
    by : (y : Body) → late_by false asked y ≡ Some g → false ≡ true
    by (ToBrick q) h = absurd (cc)
    by (ToClient re reply) h = absurd (cc)
