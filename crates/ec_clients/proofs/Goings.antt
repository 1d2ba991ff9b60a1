-- A call that is out of its slot sends its requests.
use Rattle.std.proofs.Common.{◌≡◌, ⊎_elim, ℕ, zero, suc, ◌+◌, ◌<◌, false, Option, Some, None, List, [], ◌∷◌, ◌++◌, length, refl, sym, ◌∙◌, ap, subst, arith, append_assoc, append-nil}
use Rattle.std.specs.Prelude.{Result, Ok, Err, OnErr, slice_get}
use Rattle.ec_attr.specs.declared.geometry.Geometry.{Geometry}
use Rattle.ec_store.specs.Put.{put}
use Rattle.ec_store.specs.Records.{Records}
use Rattle.ec_cluster.specs.Matches.{Matches, StandsAs}
use Rattle.ec_cluster.specs.Said.{said_after, said_in, said_with}
use Rattle.ec_cluster.specs.Sound.{IsSound}
use Rattle.ec_cluster.specs.Steps.{Advances as ClusterAdvances, IsOfClient}
use Rattle.ec_cluster.specs.Views.{bricks_of, log_of, next_of, size_of}
use Rattle.ec_cluster.specs.declared.cluster.Cluster.{Cluster}
use Rattle.ec_conduct.specs.Conduct.{Keeps}
use Rattle.ec_conduct.specs.Given.{Given}
use Rattle.ec_conduct.specs.Own.{Own, Sends}
use Rattle.ec_conduct.specs.Table.{Send, entries_of}
use Rattle.ec_history.specs.IsRun.{IsRun}
use Rattle.ec_history.specs.Run.{Net, run}
use Rattle.ec_history.specs.Accounts.{sender}
use Rattle.ec_txn.specs.declared.ctx.Ctx.{Ctx}
use Rattle.ec_wire.specs.declared.answer.Answer.{Answer}
use Rattle.ec_wire.specs.declared.entry.Entry.{Entry}
use Rattle.ec_wire.specs.declared.entry.Entry.TheVariants.{Sent}
use Rattle.ec_wire.specs.declared.message.Message.{Message}
use Rattle.ec_wire.specs.declared.op.Op.{Op}
use Rattle.ec_wire.specs.declared.request.Request.{Request}
use Rattle.ec_clients.specs.Calls.{IsMade, OfClients, begun_with, ctx_of, request_message}
use Rattle.ec_clients.specs.Come.{Come, come, come_after}
use Rattle.ec_clients.specs.Frames.{Grows, released_by, with_released}
use Rattle.ec_clients.specs.Going.{Going}
use Rattle.ec_clients.specs.Ledger.{ledger}
use Rattle.ec_clients.specs.Steps.{AreOfCourse, Breaks, Goes}
use Rattle.ec_clients.specs.Views.{is_released, slots_of}
use Rattle.ec_clients.specs.declared.clients.Clients.{Clients}
use Rattle.ec_clients.specs.declared.options.Options.{Options}
use Rattle.ec_clients.proofs.Entries.{asked_made, asked_moves, asked_own, let_go_is, sender_is}
use Rattle.ec_clients.proofs.Frames.{said_is}
use Rattle.ec_clients.proofs.Moves.{Moved, calls_move, keeps_front}
use Rattle.ec_clients.proofs.Places.{out_moves, put_here, put_is, some_is}

-- the log

pub said_append : (f : ℕ → Option Message) (xs ys : List Entry) → said_after f (xs ++ ys) ≡ said_after (said_after f xs) ys
said_append f [] ys = refl
said_append f (x ∷ xs) ys = said_append (said_with f x) xs ys

pub come_append : (g : Geometry) (xs ys : List Entry) (p : Come) → come g (xs ++ ys) p ≡ come g ys (come g xs p)
come_append g [] ys p = refl
come_append g (x ∷ xs) ys p = come_append g xs ys (come_after g p x)

-- the net of what has come is the net of a run
pub net_is : (g : Geometry) (es : List Entry) (p : Come) → (come g es p).net ≡ run es p.net
net_is g [] p = refl
net_is g (e ∷ es) p = net_is g es (come_after g p e)

pub is_run_append : (n : ℕ) (g : Geometry) (xs ys : List Entry) (p : Come) → IsRun n xs p.net → IsRun n ys (come g xs p).net → IsRun n (xs ++ ys) p.net
is_run_append n g [] ys p h k = k
is_run_append n g (x ∷ xs) ys p h k = (h.0, is_run_append n g xs ys (come_after g p x) h.1 k)

-- steps one after the other
module _ (g : Geometry) (A B D : Come → Type 0) (s t u : Cluster) (es fs : List Entry) where
  pub goes_on : Goes g A B s t es → Goes g B D t u fs → Goes g A D s u (es ++ fs)
  goes_on x y = record {
    log = y.log ∙ (ap (λ (l : List Entry). l ++ fs) x.log ∙ append_assoc (log_of s) es fs);
    size = y.size ∙ x.size;
    sound = y.sound;
    leads = λ p a. subst D (sym (come_append g es fs p)) (y.leads (come g es p) (x.leads p a));
    runs = λ records p a m.
        let one = x.runs records p a m in
        let two = y.runs records (come g es p) (x.leads p a) one.1 in
        (is_run_append (size_of s) g es fs p one.0 (subst (λ (n : ℕ). IsRun n fs (come g es p).net) x.size two.0), subst (λ (c : Come). Matches u records c.net) (sym (come_append g es fs p)) two.1);
  }

module _ (g : Geometry) (A B : Come → Type 0) (s t u : Cluster) (es : List Entry) where
  pub goes_off : (P Q : List Entry → Type 0) → ((fs : List Entry) → P fs → Q (es ++ fs)) → Goes g A B s t es → Breaks g P B t u → Breaks g Q A s u
  goes_off P Q begun x y = record {
    entries = es ++ y.entries;
    log = y.log ∙ (ap (λ (l : List Entry). l ++ y.entries) x.log ∙ append_assoc (log_of s) es y.entries);
    begun = begun y.entries y.begun;
    runs = λ records p a m.
        let one = x.runs records p a m in
        let two = y.runs records (come g es p) (x.leads p a) one.1 in
        (is_run_append (size_of s) g es y.entries p one.0 (subst (λ (n : ℕ). IsRun n y.entries (come g es p).net) x.size two.0), subst (λ (c : Come). StandsAs (size_of s) records c.net) (sym (come_append g es y.entries p)) (subst (λ (n : ℕ). StandsAs n records (come g y.entries (come g es p)).net) x.size two.1));
  }

-- nothing was done
has_place : {X : Type 0} (xs : List X) (b : ℕ) → b < length xs → (x : X) × (slice_get xs b ≡ Some x)
has_place [] b lt = absurd (omega arith)
has_place (x ∷ xs) zero lt = (x, refl)
has_place (x ∷ xs) (suc b) lt = has_place xs b (omega arith)

pub stands_now : (s : Cluster) (records : List Records) (m : Net) → Matches s records m → StandsAs (size_of s) records m
stands_now s records m h = λ b r lt e. let k = has_place (bricks_of s) b lt in (h.bricks b k.0 r k.1 e).known.known

pub breaks_now : (g : Geometry) (P : List Entry → Type 0) (none : P []) (A : Come → Type 0) (s t : Cluster) → log_of t ≡ log_of s → Breaks g P A s t
breaks_now g P none A s t e = record {
  entries = [];
  log = e ∙ sym (append-nil _);
  begun = none;
  runs = λ records p a m. (tt, stands_now s records p.net m);
}

-- a message with the next number
pub grows : (s : Cluster) (msg : Message) → IsSound s → msg.no ≡ next_of s → Grows (said_in (log_of s)) (put (said_in (log_of s)) msg.no (Some msg))
grows s msg sound num i m e = ⊎_elim
    (λ p. absurd (let bad : None ≡ Some m = sym (sound.placed.none_later i (let q = p.0 in omega arith)) ∙ e in cc))
    (λ p. p.1 ∙ e)
    (put_is (said_in (log_of s)) msg.no (Some msg) i)

pub child_is : (o : Options) (op : Op) (m n : ℕ) → begun_with o op m ≡ begun_with o op n → m ≡ n
child_is o op m n e = ap (λ (x : Given). x.child) e

module _ {C : Type 0} (stands : Ctx → Given → C → List Own → Type 0) (by_table : Ctx → Given → List Own → Type 0) (keeps : (x : Ctx) (given : Given) (call : C) (es : List Own) → stands x given call es → Keeps given es) where
  -- one request is sent
  module _ (s t : Cluster) (c : Clients C) (a j b : ℕ) (q : Request) (r : Clients C) (same : r ≡ record c { released = r.released }) (first : (n : ℕ) → released_by q ≡ Some n → is_released c n ≡ false) (released : (i : ℕ) → is_released r i ≡ with_released (is_released c) (released_by q) i) (sound : IsSound s) (next : next_of t ≡ next_of s + 1) (adv : ClusterAdvances (IsOfClient a j) s t (Sent (request_message (next_of s) a j b q) ∷ [])) where
    abbrev msg : Message
    msg = request_message (next_of s) a j b q

    said_now : said_in (log_of t) ≡ put (said_in (log_of s)) (next_of s) (Some msg)
    said_now = ap said_in adv.log ∙ said_append (λ i. None) (log_of s) (Sent msg ∷ [])

    module _ (call : C) (rest : List Send) (answer : Option Answer) (p : Come) (h : Going stands by_table s c a j call ((b, q) ∷ rest) answer p) where
      abbrev after_it : Come
      after_it = come_after c.options.geometry p (Sent msg)

      let_go_false : (n : ℕ) → released_by q ≡ Some n → p.net.let_go n ≡ false
      let_go_false n e = h.seen.clients.released n ∙ first n e

      by : sender p.net p.books msg q ≡ Some a
      by = sender_is p.net p.books msg q let_go_false h.unanswered

      moved : Moved (ledger p) (ledger after_it) a
      moved = asked_moves c.options.geometry p (next_of s) a j b q by

      more : List Own
      more = p.books.own a ++ Sends b (next_of s) q ∷ []

      whole : stands (ctx_of c.options a j h.child) (begun_with c.options h.asker.op h.child) call (p.books.own a ++ Sends b (next_of s) q ∷ entries_of (next_of s + 1) rest answer)
      whole = h.meets

      keeps_it : Keeps (begun_with c.options h.asker.op h.child) (p.books.own a ++ Sends b (next_of s) q ∷ [])
      keeps_it = keeps_front (begun_with c.options h.asker.op h.child) (p.books.own a ++ Sends b (next_of s) q ∷ []) (entries_of (next_of s + 1) rest answer) (subst (Keeps (begun_with c.options h.asker.op h.child)) (sym (append_assoc (p.books.own a) (Sends b (next_of s) q ∷ []) (entries_of (next_of s + 1) rest answer))) (keeps _ _ call _ whole))

      made : IsMade c.options (said_in (log_of s)) (ledger p) a h.asker
      made = h.seen.clients.calls.made a h.asker h.made

      same_child : h.child ≡ made.child
      same_child = child_is c.options h.asker.op h.child made.child (some_is _ _ (sym h.begun ∙ made.begun))

      made_now : IsMade c.options (said_in (log_of t)) (ledger after_it) a h.asker
      made_now = asked_made c.options.geometry p (next_of s) a j b q by c.options h.asker (said_in (log_of s)) (said_in (log_of t)) made h.of_client h.unanswered
          (subst (Grows (said_in (log_of s))) (sym said_now) (grows s msg sound refl))
          ((λ i. said_now i (next_of s)) ∙ put_here (said_in (log_of s)) (next_of s) (Some msg))
          (subst (λ (n : ℕ). Keeps (begun_with c.options h.asker.op n) (p.books.own a ++ Sends b (next_of s) q ∷ [])) same_child keeps_it)

      own_now : after_it.books.own a ≡ p.books.own a ++ Sends b (next_of s) q ∷ []
      own_now = asked_own c.options.geometry p (next_of s) a j b q by a ∙ put_here p.books.own a _

      clients_now : OfClients stands by_table (record c { released = r.released }) (Some a) (said_in (log_of t)) (ledger after_it)
      clients_now =
          let k : OfClients stands by_table c (Some a) (said_in (log_of s)) (ledger p) = h.seen.clients in
          record {
            count = moved.calls ∙ k.count;
            gfid = moved.gfid ∙ k.gfid;
            dead = λ x. (λ i. moved.dead i x) ∙ k.dead x;
            released = λ i. let_go_is p.net.let_go q i ∙ ((λ n. with_released (λ x. k.released x n) (released_by q) i) ∙ (sym (released i) ∙ ap (λ (z : Clients C). is_released z i) same));
            calls = calls_move c.options (said_in (log_of s)) (said_in (log_of t)) (ledger p) (ledger after_it) a h.asker k.calls (subst (Grows (said_in (log_of s))) (sym said_now) (grows s msg sound refl)) moved h.made made_now;
            slots = out_moves stands by_table c.options (slots_of c) (ledger p) (ledger after_it) a k.slots moved.asker moved.given moved.answered h.unanswered moved.own;
          }

      pub sent_goes : Going stands by_table t r a j call rest answer after_it
      sent_goes = subst (λ (z : Clients C). Going stands by_table t z a j call rest answer after_it) (sym same) (record {
        seen = record {
          said = said_is c.options.geometry p (Sent msg) ∙ ((λ i. put (h.seen.said i) (next_of s) (Some msg)) ∙ sym said_now);
          clients = clients_now;
        };
        asker = h.asker;
        made = h.made;
        of_client = h.of_client;
        unanswered = h.unanswered;
        lives = h.lives;
        child = h.child;
        begun = (λ i. moved.given i a) ∙ h.begun;
        meets =
            let E : ℕ → List Own = λ (n : ℕ). entries_of n rest answer in
            subst (λ (es : List Own). stands (ctx_of c.options a j h.child) (begun_with c.options h.asker.op h.child) call es)
            (sym ((λ i. own_now i ++ E (next i)) ∙ append_assoc (p.books.own a) (Sends b (next_of s) q ∷ []) (E (next_of s + 1))))
            whole;
      })

    pub sends_one : (call : C) (rest : List Send) (answer : Option Answer) → Goes c.options.geometry (Going stands by_table s c a j call ((b, q) ∷ rest) answer) (Going stands by_table t r a j call rest answer) s t (Sent (request_message (next_of s) a j b q) ∷ [])
    sends_one call rest answer = record {
      log = adv.log;
      size = adv.size;
      sound = adv.sound;
      leads = λ p h. sent_goes call rest answer p h;
      runs = λ records p h m. adv.runs records p.net m (record { asker = h.asker; made = h.made; of_client = h.of_client; lives = h.lives });
    }

-- an error before anything was done, whatever the call
pub none_done : {A E C : Type 0} (g : Geometry) (r : Result A E) (B : C → List Send → Option Answer → Come → Type 0) (s t : Cluster) → log_of t ≡ log_of s → OnErr r ((x : C) (rest : List Send) (answer : Option Answer) → Breaks g AreOfCourse (B x rest answer) s t)
none_done g (Ok a) B s t e = tt
none_done g (Err x) B s t e = λ x rest answer. breaks_now g AreOfCourse refl (B x rest answer) s t e
