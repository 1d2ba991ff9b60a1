-- A call hears the reply that it waits for.
use Rattle.std.proofs.Common.{◌≡◌, ◌≢◌, ℕ, zero, suc, ◌<◌, true, false, Option, Some, None, List, [], ◌∷◌, ◌++◌, length, refl, sym, ◌∙◌, ap, subst, arith, eqb-true}
use Rattle.std.specs.Prelude.{All, nat_eq, slice_get}
use Rattle.ec_brick.specs.Fit.{IsFit, IsFitReply}
use Rattle.ec_cluster.specs.Matches.{StandsAs}
use Rattle.ec_cluster.specs.Said.{said_in}
use Rattle.ec_cluster.specs.Sound.{IsFlying, IsReplyTo, IsSound}
use Rattle.ec_cluster.specs.Steps.{Advances as ClusterAdvances, IsBegun, Lives}
use Rattle.ec_cluster.specs.Views.{bricks_of, flight, log_of, next_of, size_of}
use Rattle.ec_cluster.specs.declared.cluster.Cluster.{Cluster}
use Rattle.ec_conduct.specs.Account.{Wait}
use Rattle.ec_conduct.specs.Conduct.{Keeps}
use Rattle.ec_conduct.specs.Given.{Given}
use Rattle.ec_conduct.specs.Opened.{account}
use Rattle.ec_conduct.specs.Own.{Own, Hears}
use Rattle.ec_conduct.specs.Table.{Send, entries_of}
use Rattle.ec_history.specs.Accounts.{hears}
use Rattle.ec_history.specs.Run.{heard}
use Rattle.ec_txn.specs.Steps.{Adds, number_of}
use Rattle.ec_txn.specs.declared.ctx.Ctx.{Ctx}
use Rattle.ec_wire.specs.declared.answer.Answer.{Answer}
use Rattle.ec_wire.specs.declared.entry.Entry.{Entry}
use Rattle.ec_wire.specs.declared.entry.Entry.TheVariants.{Heard}
use Rattle.ec_wire.specs.declared.message.Body.TheVariants.{ToBrick}
use Rattle.ec_wire.specs.declared.message.Message.{Message}
use Rattle.ec_wire.specs.declared.reply.Reply.{Reply}
use Rattle.ec_wire.specs.declared.request.Request.{Request}
use Rattle.ec_clients.specs.Calls.{IsMade, IsRunning, OfClients, begun_with, ctx_of, request_message}
use Rattle.ec_clients.specs.Come.{Come, come, come_after}
use Rattle.ec_clients.specs.Frames.{ChangesAt}
use Rattle.ec_clients.specs.Going.{Going, answer_entries, sent_entries}
use Rattle.ec_clients.specs.Hearing.{IsAwaited, IsIdle, IsReplyAt, reply_in, reply_message}
use Rattle.ec_clients.specs.Ledger.{ledger}
use Rattle.ec_clients.specs.Steps.{AreOfCourse, Breaks, Goes, Seen}
use Rattle.ec_clients.specs.Views.{is_dead_at, joined, running_at, slots_of}
use Rattle.ec_clients.specs.declared.clients.Clients.{Clients}
use Rattle.ec_clients.specs.declared.clients.Running.{Running}
use Rattle.ec_clients.proofs.Entries.{heard_own, heard_made, heard_moves}
use Rattle.ec_clients.proofs.Goings.{child_is, goes_off, goes_on, said_append, stands_now}
use Rattle.ec_clients.proofs.Moves.{Moved, calls_move, keeps_front}
use Rattle.ec_clients.proofs.Places.{out_moves, put_here, some_is, take_out}

wait_is : (re : ℕ) (o : Option Wait) → number_of o ≡ Some re → (w : Wait) × (o ≡ Some w) × (w.number ≡ re)
wait_is re None e = absurd (cc)
wait_is re (Some w) e = (w, refl, some_is w.number re e)

same_request : (p q : Request) → ToBrick p ≡ ToBrick q → p ≡ q
same_request p q e = cc

module _ {C : Type 0} (stands : Ctx → Given → C → List Own → Type 0) (by_table : Ctx → Given → List Own → Type 0) (keeps : (x : Ctx) (given : Given) (call : C) (es : List Own) → stands x given call es → Keeps given es) where
  -- The call of client j hears the reply that it waits for; it is taken out of its slot.
  module _ (s t : Cluster) (c d : Clients C) (i j b re : ℕ) (reply : Reply) (r : Running C) (call : C) (sends : List Send) (answer : Option Answer) (flies : flight s i ≡ Some (reply_message i r.number j b re reply)) (sound : IsSound s) (adv : ClusterAdvances (Lives j) s t (Heard i ∷ [])) (runs : slice_get (slots_of c) j ≡ Some (Some r)) (awaits : (x : Ctx) (given : Given) (es : List Own) → stands x given r.call es → Some re ≡ number_of ((account given es).waits b)) (same : d ≡ record c { running = d.running }) (at : ChangesAt (slots_of c) (slots_of d) j None) (lives : is_dead_at c j ≡ false) (adds : (x : Ctx) (given : Given) (es : List Own) (w : Wait) → stands x given r.call es → (account given es).waits b ≡ Some w → IsFitReply w.request reply → Adds (stands x given call) given.geometry.n (es ++ Hears b w.number reply ∷ []) (next_of t) sends answer) where
    abbrev a : ℕ
    a = r.number

    abbrev msg : Message
    msg = reply_message i a j b re reply

    said_then : said_in (log_of t) ≡ said_in (log_of s)
    said_then = ap said_in adv.log ∙ said_append (λ i. None) (log_of s) (Heard i ∷ [])

    module _ (p : Come) (h : Seen stands by_table s c None p) where
      is_running : IsRunning stands c.options (ledger p) j r
      is_running = (h.clients.slots.runs j r runs).0

      made : IsMade c.options (said_in (log_of s)) (ledger p) a is_running.asker
      made = h.clients.calls.made a is_running.asker is_running.made

      same_child : is_running.child ≡ made.child
      same_child = child_is c.options is_running.asker.op is_running.child made.child (some_is _ _ (sym is_running.begun ∙ made.begun))

      abbrev given : Given
      given = begun_with c.options is_running.asker.op made.child

      meets : stands (ctx_of c.options a j made.child) given r.call (p.books.own a)
      meets = subst (λ (n : ℕ). stands (ctx_of c.options a j n) (begun_with c.options is_running.asker.op n) r.call (p.books.own a)) same_child is_running.meets

      wait : (w : Wait) × ((account given (p.books.own a)).waits b ≡ Some w) × (w.number ≡ re)
      wait = wait_is re ((account given (p.books.own a)).waits b) (sym (awaits _ _ _ meets))

      waits : p.net.awaits a b ≡ Some re
      waits = (made.waits is_running.unanswered).same b ∙ sym (awaits _ _ _ meets)

      was_sent : said_in (log_of s) re ≡ Some (request_message re a j b wait.0.request)
      was_sent = subst (λ (n : ℕ). said_in (log_of s) n ≡ Some (request_message n a j b wait.0.request)) wait.2 (subst (λ (z : ℕ). said_in (log_of s) wait.0.number ≡ Some (request_message wait.0.number a z b wait.0.request)) is_running.of_client ((made.waits is_running.unanswered).sent b wait.0 wait.1))

      fits : IsFitReply wait.0.request reply
      fits =
          let f : IsFlying (length (bricks_of s)) (said_in (log_of s)) i msg = sound.flies i msg flies in
          let y : IsReplyTo (said_in (log_of s)) msg re reply = f.fit in
          let asked : y.asked ≡ request_message re a j b wait.0.request = some_is _ _ (sym y.sent ∙ was_sent) in
          subst (λ (q : Request). IsFitReply q reply) (same_request y.request wait.0.request (sym y.body ∙ ap (λ (z : Message). z.body) asked)) y.fits

      it_adds : Adds (stands (ctx_of c.options a j made.child) given call) c.options.geometry.n (p.books.own a ++ Hears b wait.0.number reply ∷ []) (next_of t) sends answer
      it_adds = adds (ctx_of c.options a j made.child) given (p.books.own a) wait.0 meets wait.1 fits

      now_meets : stands (ctx_of c.options a j made.child) given call ((p.books.own a ++ Hears b re reply ∷ []) ++ entries_of (next_of t) sends answer)
      now_meets = subst (λ (n : ℕ). stands (ctx_of c.options a j made.child) given call ((p.books.own a ++ Hears b n reply ∷ []) ++ entries_of (next_of t) sends answer)) wait.2 it_adds.stands

      abbrev heard_it : Come
      heard_it = record { net = heard p.net (Some msg); story = p.story; books = hears p.net p.books (Some msg) }

      moved : Moved (ledger p) (ledger heard_it) a
      moved = heard_moves c.options.geometry p i a j b re reply waits is_running.unanswered

      made_now : IsMade c.options (said_in (log_of s)) (ledger heard_it) a is_running.asker
      made_now = heard_made c.options.geometry p i a j b re reply waits is_running.unanswered c.options is_running.asker (said_in (log_of s)) made wait.0 wait.1 (keeps_front given (p.books.own a ++ Hears b re reply ∷ []) (entries_of (next_of t) sends answer) (keeps _ _ call _ now_meets))

      going_here : Going stands by_table t d a j call sends answer heard_it
      going_here =
          let k : OfClients stands by_table c None (said_in (log_of s)) (ledger p) = h.clients in
          subst (λ (z : Clients C). Going stands by_table t z a j call sends answer heard_it) (sym same) (record {
            seen = record {
              said = h.said ∙ sym said_then;
              clients = subst (λ (f : ℕ → Option Message). OfClients stands by_table (record c { running = d.running }) (Some a) f (ledger heard_it)) (sym said_then) (record {
                count = k.count;
                gfid = k.gfid;
                dead = k.dead;
                released = k.released;
                calls = calls_move c.options (said_in (log_of s)) (said_in (log_of s)) (ledger p) (ledger heard_it) a is_running.asker k.calls (λ x m e. e) moved is_running.made made_now;
                slots = out_moves stands by_table c.options (slots_of d) (ledger p) (ledger heard_it) a (take_out stands by_table c.options (slots_of c) (slots_of d) (ledger p) j r k.slots runs at) refl moved.given refl is_running.unanswered moved.own;
              });
            };
            asker = is_running.asker;
            made = is_running.made;
            of_client = is_running.of_client;
            unanswered = is_running.unanswered;
            lives = lives_still;
            child = made.child;
            begun = (λ x. moved.given x a) ∙ made.begun;
            meets = subst (λ (es : List Own). stands (ctx_of c.options a j made.child) given call (es ++ entries_of (next_of t) sends answer)) (sym (heard_own c.options.geometry p i a j b re reply waits is_running.unanswered a ∙ put_here p.books.own a _)) now_meets;
          })
        where
          lives_still : p.net.dead j ≡ false
          lives_still = h.clients.dead j ∙ lives

      said_no : p.net.said i ≡ Some msg
      said_no = (λ k. h.said k i) ∙ (sound.flies i msg flies).sent

      pub heard_going : Going stands by_table t d a j call sends answer (come_after c.options.geometry p (Heard i))
      heard_going = subst (λ (o : Option Message). Going stands by_table t d a j call sends answer (record { net = heard p.net o; story = p.story; books = hears p.net p.books o })) (sym said_no) going_here

    pub heard_goes : Goes c.options.geometry (Seen stands by_table s c None) (Going stands by_table t d r.number j call sends answer) s t (Heard i ∷ [])
    heard_goes = record {
      log = adv.log;
      size = adv.size;
      sound = adv.sound;
      leads = λ p h. heard_going p h;
      runs = λ records p h m. adv.runs records p.net m (h.clients.dead j ∙ lives);
    }

-- as a caller has it
joined_is : {X : Type 0} (o : Option (Option X)) (x : X) → joined o ≡ Some x → o ≡ Some (Some x)
joined_is None x e = absurd (cc)
joined_is (Some y) x e = ap Some e

pub slot_there : {X : Type 0} (xs : List (Option X)) (j : ℕ) (x : X) → joined (slice_get xs j) ≡ Some x → j < length xs
slot_there [] j x e = absurd (cc)
slot_there (y ∷ ys) zero x e = omega arith
slot_there (y ∷ ys) (suc j) x e = let h = slot_there ys j x e in omega arith

module _ {C : Type 0} (stands : Ctx → Given → C → List Own → Type 0) (by_table : Ctx → Given → List Own → Type 0) (keeps : (x : Ctx) (given : Given) (call : C) (es : List Own) → stands x given call es → Keeps given es) (s t : Cluster) (c d : Clients C) (i a j b re : ℕ) (there : IsReplyAt s i a j b re) (aw : IsAwaited stands c a j b re) (sound : IsSound s) (message : Message) (num : ℕ) (reply : Reply) (flies : flight s i ≡ Some message) (body : reply_in message.body ≡ Some reply) (adv : ClusterAdvances (Lives message.client) s t (Heard i ∷ [])) (r : Running C) (was : slice_get (slots_of c) j ≡ Some (Some r)) (same : d ≡ record c { running = d.running }) (at : ChangesAt (slots_of c) (slots_of d) j None) (lives : is_dead_at c j ≡ false) (next : num ≡ next_of t) (call : C) (sends : List Send) (answer : Option Answer) (adds : (x : Ctx) (given : Given) (es : List Own) (w : Wait) → stands x given r.call es → (account given es).waits b ≡ Some w → IsFitReply w.request reply → Adds (stands x given call) given.geometry.n (es ++ Hears b w.number reply ∷ []) num sends answer) where
  is_message : message ≡ reply_message i a j b re there.reply
  is_message = some_is _ _ (sym flies ∙ there.flies)

  is_reply : reply ≡ there.reply
  is_reply = some_is reply there.reply (sym body ∙ ap (λ (m : Message). reply_in m.body) is_message)

  is_running_one : r ≡ aw.running
  is_running_one = some_is _ _ (ap joined (sym was) ∙ aw.runs)

  has_number : r.number ≡ a
  has_number = ap (λ (z : Running C). z.number) is_running_one ∙ aw.number

  flies_here : flight s i ≡ Some (reply_message i r.number j b re reply)
  flies_here = there.flies ∙ sym (λ k. Some (reply_message i (has_number k) j b re (is_reply k)))

  awaits_here : (x : Ctx) (given : Given) (es : List Own) → stands x given r.call es → Some re ≡ number_of ((account given es).waits b)
  awaits_here x given es st = aw.awaits x given es (subst (λ (z : Running C). stands x given z.call es) is_running_one st)

  adds_here : (x : Ctx) (given : Given) (es : List Own) (w : Wait) → stands x given r.call es → (account given es).waits b ≡ Some w → IsFitReply w.request reply → Adds (stands x given call) given.geometry.n (es ++ Hears b w.number reply ∷ []) (next_of t) sends answer
  adds_here x given es w st wa fi = subst (λ (n : ℕ). Adds (stands x given call) given.geometry.n (es ++ Hears b w.number reply ∷ []) n sends answer) next (adds x given es w st wa fi)

  adv_here : ClusterAdvances (Lives j) s t (Heard i ∷ [])
  adv_here = subst (λ (z : Message). ClusterAdvances (Lives z.client) s t (Heard i ∷ [])) is_message adv

  pub heard_at : Goes c.options.geometry (Seen stands by_table s c None) (Going stands by_table t d r.number j call sends answer) s t (Heard i ∷ [])
  heard_at = heard_goes stands by_table keeps s t c d i j b re reply r call sends answer flies_here sound adv_here was awaits_here same at lives adds_here

  pub heard_below : size_of s ≡ c.options.geometry.n → (p : Come) → Seen stands by_table s c None p → All (λ (x : Send). x.0 < size_of t) sends
  heard_below size p h = subst (λ (n : ℕ). All (λ (x : Send). x.0 < n) sends) (sym (adv.size ∙ size)) (it_adds stands by_table keeps s t c d i j b re reply r call sends answer flies_here sound adv_here was awaits_here same at lives adds_here p h).below

  pub heard_to : (p : Come) → Seen stands by_table s c None p → All (λ (x : Send). x.0 < c.options.geometry.n) sends
  heard_to p h = (it_adds stands by_table keeps s t c d i j b re reply r call sends answer flies_here sound adv_here was awaits_here same at lives adds_here p h).below

  pub heard_fit : (p : Come) → Seen stands by_table s c None p → All (λ (x : Send). IsFit x.1) sends
  heard_fit p h = (it_adds stands by_table keeps s t c d i j b re reply r call sends answer flies_here sound adv_here was awaits_here same at lives adds_here p h).fit

  pub heard_then : (u : Cluster) (e : Clients C) (fs : List Entry) → Goes d.options.geometry (Going stands by_table t d r.number j call sends answer) (Seen stands by_table u e None) t u fs → Goes c.options.geometry (Seen stands by_table s c None) (Seen stands by_table u e None) s u (Heard i ∷ fs)
  heard_then u e fs g = goes_on c.options.geometry (Seen stands by_table s c None) (Going stands by_table t d r.number j call sends answer) (Seen stands by_table u e None) s t u (Heard i ∷ []) fs heard_at (subst (λ (z : Clients C). Goes z.options.geometry (Going stands by_table t d r.number j call sends answer) (Seen stands by_table u e None) t u fs) same g)

  pub hears_all : (u : Cluster) (e : Clients C) → next_of t ≡ next_of s → Goes d.options.geometry (Going stands by_table t d r.number j call sends answer) (Seen stands by_table u e None) t u (sent_entries r.number j (next_of t) sends ++ answer_entries r.number answer) → Goes c.options.geometry (Seen stands by_table s c None) (Seen stands by_table u e None) s u (Heard i ∷ (sent_entries a j (next_of s) sends ++ answer_entries a answer))
  hears_all u e num g = subst (λ (x : ℕ). Goes c.options.geometry (Seen stands by_table s c None) (Seen stands by_table u e None) s u (Heard i ∷ (sent_entries x j (next_of s) sends ++ answer_entries x answer))) has_number
      (subst (λ (n : ℕ). Goes c.options.geometry (Seen stands by_table s c None) (Seen stands by_table u e None) s u (Heard i ∷ (sent_entries r.number j n sends ++ answer_entries r.number answer))) num (heard_then u e (sent_entries r.number j (next_of t) sends ++ answer_entries r.number answer) g))

  pub heard_off : (u : Cluster) → Breaks d.options.geometry AreOfCourse (Going stands by_table t d r.number j call sends answer) t u → Breaks c.options.geometry (IsBegun (λ e. e ≡ Heard i)) (Seen stands by_table s c None) s u
  heard_off u g = goes_off c.options.geometry (Seen stands by_table s c None) (Going stands by_table t d r.number j call sends answer) s t u (Heard i ∷ []) AreOfCourse (IsBegun (λ e. e ≡ Heard i)) (λ fs k. (refl, k)) heard_at (subst (λ (z : Clients C). Breaks z.options.geometry AreOfCourse (Going stands by_table t d r.number j call sends answer) t u) same g)

-- there is no memory once it is heard
pub heard_breaks : {C : Type 0} (stands : Ctx → Given → C → List Own → Type 0) (by_table : Ctx → Given → List Own → Type 0) (s t : Cluster) (c : Clients C) (i j : ℕ) → ClusterAdvances (Lives j) s t (Heard i ∷ []) → is_dead_at c j ≡ false → Breaks c.options.geometry (IsBegun (λ e. e ≡ Heard i)) (Seen stands by_table s c None) s t
heard_breaks stands by_table s t c i j adv lives = record {
  entries = Heard i ∷ [];
  log = adv.log;
  begun = (refl, refl);
  runs = λ records p h m.
      let g = adv.runs records p.net m (h.clients.dead j ∙ lives) in
      let now = stands_now t records (come c.options.geometry (Heard i ∷ []) p).net g.1 in
      (g.0, subst (λ (n : ℕ). StandsAs n records (come c.options.geometry (Heard i ∷ []) p).net) adv.size now);
}

-- whether a reply is waited for
module _ {C : Type 0} (stands : Ctx → Given → C → List Own → Type 0) (c : Clients C) (j a b re : ℕ) where
  pub awaited : (run : Running C) (num : ℕ) → running_at c j ≡ Some run → run.number ≡ a → ((x : Ctx) (given : Given) (es : List Own) → stands x given run.call es → Some num ≡ number_of ((account given es).waits b)) → nat_eq num re ≡ true → IsAwaited stands c a j b re
  awaited run num e f h t = record { running = run; runs = e; number = f; awaits = λ x given es s. sym (ap Some (eqb-true num re t)) ∙ h x given es s }

  pub idle : (run : Running C) (o : Option ℕ) → running_at c j ≡ Some run → ((x : Ctx) (given : Given) (es : List Own) → stands x given run.call es → o ≡ number_of ((account given es).waits b)) → (o ≡ Some re → ⊥) → IsIdle stands c a j b re
  idle run o e h ne r f q x given es s w = ne (h x given es (subst (λ (z : Running C). stands x given z.call es) (some_is r run (sym f ∙ e)) s) ∙ w)

  pub idle_other : (run : Running C) → running_at c j ≡ Some run → run.number ≢ a → IsIdle stands c a j b re
  idle_other run e ne r f q x _ es s w = ne (ap (λ (z : Running C). z.number) (some_is run r (sym e ∙ f)) ∙ q)

  pub idle_none : running_at c j ≡ None → IsIdle stands c a j b re
  idle_none e r f q x _ es s w = absurd (let bad : None ≡ Some r = sym e ∙ f in cc)

pub heard_breaks_at : {C : Type 0} (stands : Ctx → Given → C → List Own → Type 0) (by_table : Ctx → Given → List Own → Type 0) (s t : Cluster) (c : Clients C) (i a j b re : ℕ) (there : IsReplyAt s i a j b re) (message : Message) → flight s i ≡ Some message → ClusterAdvances (Lives message.client) s t (Heard i ∷ []) → is_dead_at c j ≡ false → Breaks c.options.geometry (IsBegun (λ e. e ≡ Heard i)) (Seen stands by_table s c None) s t
heard_breaks_at stands by_table s t c i a j b re there message flies adv lives = heard_breaks stands by_table s t c i j (subst (λ (z : Message). ClusterAdvances (Lives z.client) s t (Heard i ∷ [])) (some_is _ _ (sym flies ∙ there.flies)) adv) lives

pub adv_at : (s t : Cluster) (i a j b re : ℕ) (there : IsReplyAt s i a j b re) (message : Message) → flight s i ≡ Some message → ClusterAdvances (Lives message.client) s t (Heard i ∷ []) → ClusterAdvances (Lives j) s t (Heard i ∷ [])
adv_at s t i a j b re there message flies adv = subst (λ (z : Message). ClusterAdvances (Lives z.client) s t (Heard i ∷ [])) (some_is _ _ (sym flies ∙ there.flies)) adv
