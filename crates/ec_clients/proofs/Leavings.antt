-- A call gives up a brick.
use Rattle.std.proofs.Common.{◌≡◌, ℕ, ◌<◌, false, Option, Some, None, List, [], ◌∷◌, ◌++◌, refl, sym, ◌∙◌, ap, subst}
use Rattle.std.specs.Prelude.{All, slice_get}
use Rattle.ec_brick.specs.Fit.{IsFit}
use Rattle.ec_cluster.specs.Said.{said_in}
use Rattle.ec_cluster.specs.Steps.{Advances as ClusterAdvances, IsAllowed, IsBegun}
use Rattle.ec_cluster.specs.Views.{log_of, next_of, size_of}
use Rattle.ec_cluster.specs.declared.cluster.Cluster.{Cluster}
use Rattle.ec_conduct.specs.Account.{Wait}
use Rattle.ec_conduct.specs.Conduct.{Keeps}
use Rattle.ec_conduct.specs.Given.{Given}
use Rattle.ec_conduct.specs.Opened.{account}
use Rattle.ec_conduct.specs.Own.{Own, GivesUp}
use Rattle.ec_conduct.specs.Table.{Send, entries_of}
use Rattle.ec_history.specs.Run.{Net}
use Rattle.ec_txn.specs.Steps.{Adds, number_of}
use Rattle.ec_txn.specs.declared.ctx.Ctx.{Ctx}
use Rattle.ec_wire.specs.declared.answer.Answer.{Answer}
use Rattle.ec_wire.specs.declared.entry.Entry.TheVariants.{GivenUp}
use Rattle.ec_wire.specs.declared.message.Message.{Message}
use Rattle.ec_clients.specs.Calls.{IsMade, IsRunning, OfClients, begun_with, ctx_of, request_message}
use Rattle.ec_clients.specs.Come.{Come, come_after}
use Rattle.ec_clients.specs.Frames.{ChangesAt}
use Rattle.ec_clients.specs.Going.{Going, answer_entries, sent_entries}
use Rattle.ec_clients.specs.Hearing.{IsWaiting}
use Rattle.ec_clients.specs.Ledger.{ledger}
use Rattle.ec_clients.specs.Steps.{AreOfCourse, Breaks, Goes, Seen}
use Rattle.ec_clients.specs.Views.{is_dead_at, joined, slots_of}
use Rattle.ec_clients.specs.declared.clients.Clients.{Clients}
use Rattle.ec_clients.specs.declared.clients.Running.{Running}
use Rattle.ec_clients.proofs.Entries.{left_own, left_made, left_moves}
use Rattle.ec_clients.proofs.Goings.{child_is, goes_off, goes_on, said_append}
use Rattle.ec_clients.proofs.Moves.{Moved, calls_move, keeps_front}
use Rattle.ec_clients.proofs.Places.{out_moves, put_here, some_is, take_out}

wait_is : (re : ℕ) (o : Option Wait) → number_of o ≡ Some re → (w : Wait) × (o ≡ Some w) × (w.number ≡ re)
wait_is re None e = absurd (cc)
wait_is re (Some w) e = (w, refl, some_is w.number re e)

module _ {C : Type 0} (stands : Ctx → Given → C → List Own → Type 0) (by_table : Ctx → Given → List Own → Type 0) (keeps : (x : Ctx) (given : Given) (call : C) (es : List Own) → stands x given call es → Keeps given es) where
  -- The call of client j gives up the request that it waits for; it is taken out of its slot.
  module _ (s t : Cluster) (c d : Clients C) (i j b : ℕ) (r : Running C) (call : C) (sends : List Send) (answer : Option Answer) (adv : ClusterAdvances (IsAllowed (size_of s) (GivenUp j b i)) s t (GivenUp j b i ∷ [])) (runs : slice_get (slots_of c) j ≡ Some (Some r)) (awaits : (x : Ctx) (given : Given) (es : List Own) → stands x given r.call es → Some i ≡ number_of ((account given es).waits b)) (same : d ≡ record c { running = d.running }) (at : ChangesAt (slots_of c) (slots_of d) j None) (lives : is_dead_at c j ≡ false) (adds : (x : Ctx) (given : Given) (es : List Own) (w : Wait) → stands x given r.call es → (account given es).waits b ≡ Some w → Adds (stands x given call) given.geometry.n (es ++ GivesUp b w.number ∷ []) (next_of t) sends answer) where
    abbrev a : ℕ
    a = r.number

    said_then : said_in (log_of t) ≡ said_in (log_of s)
    said_then = ap said_in adv.log ∙ said_append (λ i. None) (log_of s) (GivenUp j b i ∷ [])

    module _ (p : Come) (h : Seen stands by_table s c None p) where
      is_running : IsRunning stands c.options (ledger p) j r
      is_running = (h.clients.slots.runs j r runs).0

      made : IsMade c.options (said_in (log_of s)) (ledger p) a is_running.asker
      made = h.clients.calls.made a is_running.asker is_running.made

      same_child : is_running.child ≡ made.child
      same_child = child_is c.options is_running.asker.op is_running.child made.child (some_is _ _ (sym is_running.begun ∙ made.begun))

      abbrev given : Given
      given = begun_with c.options is_running.asker.op made.child

      meets : stands (ctx_of c.options a j made.child) given r.call (p.books.own a)
      meets = subst (λ (n : ℕ). stands (ctx_of c.options a j n) (begun_with c.options is_running.asker.op n) r.call (p.books.own a)) same_child is_running.meets

      wait : (w : Wait) × ((account given (p.books.own a)).waits b ≡ Some w) × (w.number ≡ i)
      wait = wait_is i ((account given (p.books.own a)).waits b) (sym (awaits _ _ _ meets))

      waits : p.net.awaits a b ≡ Some i
      waits = (made.waits is_running.unanswered).same b ∙ sym (awaits _ _ _ meets)

      was_sent : said_in (log_of s) i ≡ Some (request_message i a j b wait.0.request)
      was_sent = subst (λ (n : ℕ). said_in (log_of s) n ≡ Some (request_message n a j b wait.0.request)) wait.2 (subst (λ (z : ℕ). said_in (log_of s) wait.0.number ≡ Some (request_message wait.0.number a z b wait.0.request)) is_running.of_client ((made.waits is_running.unanswered).sent b wait.0 wait.1))

      it_adds : Adds (stands (ctx_of c.options a j made.child) given call) c.options.geometry.n (p.books.own a ++ GivesUp b wait.0.number ∷ []) (next_of t) sends answer
      it_adds = adds (ctx_of c.options a j made.child) given (p.books.own a) wait.0 meets wait.1

      now_meets : stands (ctx_of c.options a j made.child) given call ((p.books.own a ++ GivesUp b i ∷ []) ++ entries_of (next_of t) sends answer)
      now_meets = subst (λ (n : ℕ). stands (ctx_of c.options a j made.child) given call ((p.books.own a ++ GivesUp b n ∷ []) ++ entries_of (next_of t) sends answer)) wait.2 it_adds.stands

      abbrev left_it : Come
      left_it = come_after c.options.geometry p (GivenUp j b i)

      said_no : p.net.said i ≡ Some (request_message i a j b wait.0.request)
      said_no = (λ k. h.said k i) ∙ was_sent

      moved : Moved (ledger p) (ledger left_it) a
      moved = left_moves c.options.geometry p i a j b wait.0.request said_no

      made_now : IsMade c.options (said_in (log_of s)) (ledger left_it) a is_running.asker
      made_now = left_made c.options.geometry p i a j b wait.0.request said_no c.options is_running.asker (said_in (log_of s)) made wait.0 is_running.unanswered wait.1 wait.2 (keeps_front given (p.books.own a ++ GivesUp b i ∷ []) (entries_of (next_of t) sends answer) (keeps _ _ call _ now_meets))

      pub left_going : Going stands by_table t d a j call sends answer left_it
      left_going =
          let k : OfClients stands by_table c None (said_in (log_of s)) (ledger p) = h.clients in
          subst (λ (z : Clients C). Going stands by_table t z a j call sends answer left_it) (sym same) (record {
            seen = record {
              said = h.said ∙ sym said_then;
              clients = subst (λ (f : ℕ → Option Message). OfClients stands by_table (record c { running = d.running }) (Some a) f (ledger left_it)) (sym said_then) (record {
                count = k.count;
                gfid = k.gfid;
                dead = k.dead;
                released = k.released;
                calls = calls_move c.options (said_in (log_of s)) (said_in (log_of s)) (ledger p) (ledger left_it) a is_running.asker k.calls (λ x m e. e) moved is_running.made made_now;
                slots = out_moves stands by_table c.options (slots_of d) (ledger p) (ledger left_it) a (take_out stands by_table c.options (slots_of c) (slots_of d) (ledger p) j r k.slots runs at) refl moved.given refl is_running.unanswered moved.own;
              });
            };
            asker = is_running.asker;
            made = is_running.made;
            of_client = is_running.of_client;
            unanswered = is_running.unanswered;
            lives = lives_still;
            child = made.child;
            begun = (λ x. moved.given x a) ∙ made.begun;
            meets = subst (λ (es : List Own). stands (ctx_of c.options a j made.child) given call (es ++ entries_of (next_of t) sends answer)) (sym (left_own c.options.geometry p i a j b wait.0.request said_no a ∙ put_here p.books.own a _)) now_meets;
          })
        where
          lives_still : p.net.dead j ≡ false
          lives_still = h.clients.dead j ∙ lives

      may_give_up : (m : Net) → m ≡ p.net → m.owed ≡ [] → IsAllowed (size_of s) (GivenUp j b i) m
      may_give_up m same owed = subst (λ (n : Net). IsAllowed (size_of s) (GivenUp j b i) n) (sym same) (record {
        message = request_message i a j b wait.0.request;
        said = said_no;
        calling = record { asker = is_running.asker; made = is_running.made; of_client = is_running.of_client; unanswered = is_running.unanswered; lives = h.clients.dead j ∙ lives };
        waits = waits;
        nothing_owed = subst (λ (n : Net). n.owed ≡ []) same owed;
      })

    pub left_goes : Goes c.options.geometry (Seen stands by_table s c None) (Going stands by_table t d r.number j call sends answer) s t (GivenUp j b i ∷ [])
    left_goes = record {
      log = adv.log;
      size = adv.size;
      sound = adv.sound;
      leads = λ p h. left_going p h;
      runs = λ records p h m. adv.runs records p.net m (may_give_up p h p.net refl m.owes);
    }

-- as a caller has it
module _ {C : Type 0} (stands : Ctx → Given → C → List Own → Type 0) (by_table : Ctx → Given → List Own → Type 0) (keeps : (x : Ctx) (given : Given) (call : C) (es : List Own) → stands x given call es → Keeps given es) (s t : Cluster) (c d : Clients C) (i j b num : ℕ) (aw : IsWaiting stands c j b i) (adv : ClusterAdvances (IsAllowed (size_of s) (GivenUp j b i)) s t (GivenUp j b i ∷ [])) (r : Running C) (was : slice_get (slots_of c) j ≡ Some (Some r)) (same : d ≡ record c { running = d.running }) (at : ChangesAt (slots_of c) (slots_of d) j None) (lives : is_dead_at c j ≡ false) (next : num ≡ next_of t) (taken : next_of t ≡ next_of s) (call : C) (sends : List Send) (answer : Option Answer) (adds : (x : Ctx) (given : Given) (es : List Own) (w : Wait) → stands x given r.call es → (account given es).waits b ≡ Some w → Adds (stands x given call) given.geometry.n (es ++ GivesUp b w.number ∷ []) num sends answer) where
  is_running_one : r ≡ aw.running
  is_running_one = some_is _ _ (ap joined (sym was) ∙ aw.runs)

  awaits_here : (x : Ctx) (given : Given) (es : List Own) → stands x given r.call es → Some i ≡ number_of ((account given es).waits b)
  awaits_here x given es st = aw.awaits x given es (subst (λ (z : Running C). stands x given z.call es) is_running_one st)

  adds_here : (x : Ctx) (given : Given) (es : List Own) (w : Wait) → stands x given r.call es → (account given es).waits b ≡ Some w → Adds (stands x given call) given.geometry.n (es ++ GivesUp b w.number ∷ []) (next_of t) sends answer
  adds_here x given es w st wa = subst (λ (n : ℕ). Adds (stands x given call) given.geometry.n (es ++ GivesUp b w.number ∷ []) n sends answer) next (adds x given es w st wa)

  pub left_at : Goes c.options.geometry (Seen stands by_table s c None) (Going stands by_table t d r.number j call sends answer) s t (GivenUp j b i ∷ [])
  left_at = left_goes stands by_table keeps s t c d i j b r call sends answer adv was awaits_here same at lives adds_here

  pub left_below : size_of s ≡ c.options.geometry.n → (p : Come) → Seen stands by_table s c None p → All (λ (x : Send). x.0 < size_of t) sends
  left_below size p h = subst (λ (n : ℕ). All (λ (x : Send). x.0 < n) sends) (sym (adv.size ∙ size)) (it_adds stands by_table keeps s t c d i j b r call sends answer adv was awaits_here same at lives adds_here p h).below

  pub left_to : (p : Come) → Seen stands by_table s c None p → All (λ (x : Send). x.0 < c.options.geometry.n) sends
  left_to p h = (it_adds stands by_table keeps s t c d i j b r call sends answer adv was awaits_here same at lives adds_here p h).below

  pub left_fit : (p : Come) → Seen stands by_table s c None p → All (λ (x : Send). IsFit x.1) sends
  left_fit p h = (it_adds stands by_table keeps s t c d i j b r call sends answer adv was awaits_here same at lives adds_here p h).fit

  pub leaves_all : (u : Cluster) (e : Clients C) → Goes d.options.geometry (Going stands by_table t d r.number j call sends answer) (Seen stands by_table u e None) t u (sent_entries r.number j (next_of t) sends ++ answer_entries r.number answer) → Goes c.options.geometry (Seen stands by_table s c None) (Seen stands by_table u e None) s u (GivenUp j b i ∷ (sent_entries r.number j (next_of s) sends ++ answer_entries r.number answer))
  leaves_all u e g = subst (λ (n : ℕ). Goes c.options.geometry (Seen stands by_table s c None) (Seen stands by_table u e None) s u (GivenUp j b i ∷ (sent_entries r.number j n sends ++ answer_entries r.number answer))) taken
      (goes_on c.options.geometry (Seen stands by_table s c None) (Going stands by_table t d r.number j call sends answer) (Seen stands by_table u e None) s t u (GivenUp j b i ∷ []) (sent_entries r.number j (next_of t) sends ++ answer_entries r.number answer) left_at (subst (λ (z : Clients C). Goes z.options.geometry (Going stands by_table t d r.number j call sends answer) (Seen stands by_table u e None) t u (sent_entries r.number j (next_of t) sends ++ answer_entries r.number answer)) same g))

  pub left_off : (u : Cluster) → Breaks d.options.geometry AreOfCourse (Going stands by_table t d r.number j call sends answer) t u → Breaks c.options.geometry (IsBegun (λ e. e ≡ GivenUp j b i)) (Seen stands by_table s c None) s u
  left_off u g = goes_off c.options.geometry (Seen stands by_table s c None) (Going stands by_table t d r.number j call sends answer) s t u (GivenUp j b i ∷ []) AreOfCourse (IsBegun (λ e. e ≡ GivenUp j b i)) (λ fs k. (refl, k)) left_at (subst (λ (z : Clients C). Breaks z.options.geometry AreOfCourse (Going stands by_table t d r.number j call sends answer) t u) same g)
