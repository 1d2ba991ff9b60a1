-- A call comes back to its slot, or is answered.
use Rattle.std.proofs.Common.{◌≡◌, ℕ, true, Option, Some, None, List, [], ◌∷◌, ◌++◌, refl, sym, ◌∙◌, ap, subst, append-nil}
use Rattle.std.specs.Prelude.{is_some, slice_get}
use Rattle.ec_cluster.specs.Said.{said_in}
use Rattle.ec_cluster.specs.Sound.{IsSound}
use Rattle.ec_cluster.specs.Steps.{Advances as ClusterAdvances, IsAllowed}
use Rattle.ec_cluster.specs.Views.{log_of, size_of}
use Rattle.ec_cluster.specs.declared.cluster.Cluster.{Cluster}
use Rattle.ec_conduct.specs.Conduct.{Keeps}
use Rattle.ec_conduct.specs.Given.{Given}
use Rattle.ec_conduct.specs.Opened.{account}
use Rattle.ec_conduct.specs.Own.{Own, Answers}
use Rattle.ec_history.specs.Run.{Net}
use Rattle.ec_txn.specs.Steps.{answer_of}
use Rattle.ec_txn.specs.declared.turn.Turn.{Turn}
use Rattle.ec_txn.specs.declared.turn.Turn.TheVariants.{Wait as Waiting, Done}
use Rattle.ec_txn.specs.declared.ctx.Ctx.{Ctx}
use Rattle.ec_wire.specs.declared.answer.Answer.{Answer}
use Rattle.ec_wire.specs.declared.entry.Entry.TheVariants.{Answered}
use Rattle.ec_wire.specs.declared.message.Message.{Message}
use Rattle.ec_clients.specs.Calls.{HasEnded, IsMade, OfClients, begun_with, ctx_of}
use Rattle.ec_clients.specs.Come.{Come, come_after}
use Rattle.ec_clients.specs.Frames.{ChangesAt}
use Rattle.ec_clients.specs.Going.{Going, answer_entries}
use Rattle.ec_clients.specs.Ledger.{ledger}
use Rattle.ec_clients.specs.Steps.{Goes, Seen}
use Rattle.ec_clients.specs.Views.{slots_of}
use Rattle.ec_clients.specs.declared.clients.Clients.{Clients}
use Rattle.ec_clients.specs.declared.clients.Running.{Running}
use Rattle.ec_clients.proofs.Entries.{calls_end}
use Rattle.ec_clients.proofs.Frames.{said_is}
use Rattle.ec_clients.proofs.Goings.{child_is, said_append}
use Rattle.ec_clients.proofs.Moves.{account_more}
use Rattle.ec_clients.proofs.Places.{out_ends, put_back, put_here, put_other, some_is}

module _ {C : Type 0} (stands : Ctx → Given → C → List Own → Type 0) (by_table : Ctx → Given → List Own → Type 0) (keeps : (x : Ctx) (given : Given) (call : C) (es : List Own) → stands x given call es → Keeps given es) (tables : (x : Ctx) (given : Given) (call : C) (es : List Own) → stands x given call es → by_table x given es) where
  -- it comes back to its slot
  pub comes_back : (s : Cluster) (c d : Clients C) (r : Running C) (j : ℕ) (p : Come) → d ≡ record c { running = d.running } → slice_get (slots_of c) j ≡ Some None → ChangesAt (slots_of c) (slots_of d) j (Some r) → Going stands by_table s c r.number j r.call [] None p → Seen stands by_table s d None p
  comes_back s c d r j p same free at h = subst (λ (z : Clients C). Seen stands by_table s z None p) (sym same) (record {
    said = h.seen.said;
    clients = (let k : OfClients stands by_table c (Some r.number) (said_in (log_of s)) (ledger p) = h.seen.clients in record {
      count = k.count;
      gfid = k.gfid;
      dead = k.dead;
      released = k.released;
      calls = k.calls;
      slots = put_back stands by_table c.options (slots_of c) (slots_of d) (ledger p) j r k.slots free at (record {
        asker = h.asker;
        made = h.made;
        of_client = h.of_client;
        unanswered = h.unanswered;
        child = h.child;
        begun = h.begun;
        meets = subst (stands (ctx_of c.options r.number j h.child) (begun_with c.options h.asker.op h.child) r.call) (append-nil (p.books.own r.number)) h.meets;
      });
    });
  })

  -- or it is answered
  module _ (s t : Cluster) (c : Clients C) (a j : ℕ) (call : C) (answer : Answer) (adv : ClusterAdvances (IsAllowed (size_of s) (Answered a answer)) s t (Answered a answer ∷ [])) where
    said_then : said_in (log_of t) ≡ said_in (log_of s)
    said_then = ap said_in adv.log ∙ said_append (λ i. None) (log_of s) (Answered a answer ∷ [])

    module _ (p : Come) (h : Going stands by_table s c a j call [] (Some answer) p) where
      abbrev after_it : Come
      after_it = come_after c.options.geometry p (Answered a answer)

      made : IsMade c.options (said_in (log_of s)) (ledger p) a h.asker
      made = h.seen.clients.calls.made a h.asker h.made

      same_child : h.child ≡ made.child
      same_child = child_is c.options h.asker.op h.child made.child (some_is _ _ (sym h.begun ∙ made.begun))

      has_ended : HasEnded stands by_table c.options (ledger after_it) a h.asker
      has_ended = record {
        child = h.child;
        begun = h.begun;
        tabled = subst (λ (z : ℕ). by_table (ctx_of c.options a z h.child) (begun_with c.options h.asker.op h.child) (after_it.books.own a)) (sym h.of_client)
            (subst (by_table (ctx_of c.options a j h.child) (begun_with c.options h.asker.op h.child)) (sym (put_here p.books.own a (p.books.own a ++ Answers answer ∷ []))) (tables _ _ call _ h.meets));
        call = call;
        stood = subst (λ (z : ℕ). stands (ctx_of c.options a z h.child) (begun_with c.options h.asker.op h.child) call (after_it.books.own a)) (sym h.of_client)
            (subst (stands (ctx_of c.options a j h.child) (begun_with c.options h.asker.op h.child) call) (sym (put_here p.books.own a (p.books.own a ++ Answers answer ∷ []))) h.meets);
        over = subst (λ (es : List Own). is_some (account (begun_with c.options h.asker.op h.child) es).answer ≡ true) (sym (put_here p.books.own a (p.books.own a ++ Answers answer ∷ [])))
            (λ i. is_some (account_more (begun_with c.options h.asker.op h.child) (p.books.own a) (Answers answer) i).answer);
      }

      pub is_answered : Seen stands by_table t c None after_it
      is_answered =
          let k : OfClients stands by_table c (Some a) (said_in (log_of s)) (ledger p) = h.seen.clients in
          record {
            said = said_is c.options.geometry p (Answered a answer) ∙ (h.seen.said ∙ sym said_then);
            clients = subst (λ (f : ℕ → Option Message). OfClients stands by_table c None f (ledger after_it)) (sym said_then) (record {
              count = k.count;
              gfid = k.gfid;
              dead = k.dead;
              released = k.released;
              calls = calls_end c.options.geometry c.options p (said_in (log_of s)) a answer h.asker k.calls h.made made (subst (λ (n : ℕ). Keeps (begun_with c.options h.asker.op n) (p.books.own a ++ Answers answer ∷ [])) same_child (keeps _ _ call _ h.meets));
              slots = out_ends stands by_table c.options (slots_of c) (ledger p) (ledger after_it) a h.asker k.slots refl refl refl (λ x ne. put_other p.books.own a _ x ne) h.made has_ended;
            });
          }

      pub may_answer : (m : Net) → m ≡ p.net → m.owed ≡ [] → IsAllowed (size_of s) (Answered a answer) m
      may_answer m same owed = subst (λ (n : Net). IsAllowed (size_of s) (Answered a answer) n) (sym same) (j, record { asker = h.asker; made = h.made; of_client = h.of_client; unanswered = h.unanswered; lives = h.lives }, subst (λ (n : Net). n.owed ≡ []) same owed)

    pub ends_goes : Goes c.options.geometry (Going stands by_table s c a j call [] (Some answer)) (Seen stands by_table t c None) s t (Answered a answer ∷ [])
    ends_goes = record {
      log = adv.log;
      size = adv.size;
      sound = adv.sound;
      leads = λ p h. is_answered p h;
      runs = λ records p h m. adv.runs records p.net m (may_answer p h p.net refl m.owes);
    }

  pub back_goes : (s : Cluster) (c d : Clients C) (r : Running C) (j : ℕ) → IsSound s → d ≡ record c { running = d.running } → slice_get (slots_of c) j ≡ Some None → ChangesAt (slots_of c) (slots_of d) j (Some r) → Goes c.options.geometry (Going stands by_table s c r.number j r.call [] None) (Seen stands by_table s d None) s s []
  back_goes s c d r j sound same free at = record {
    log = sym (append-nil _);
    size = refl;
    sound = sound;
    leads = λ p h. comes_back s c d r j p same free at h;
    runs = λ records p h m. (tt, m);
  }

  -- as the turn tells
  pub waits_goes : (s : Cluster) (c d : Clients C) (r : Running C) (j : ℕ) (turn : Turn) → turn ≡ Waiting → IsSound s → d ≡ record c { running = d.running } → slice_get (slots_of c) j ≡ Some None → ChangesAt (slots_of c) (slots_of d) j (Some r) → Goes c.options.geometry (Going stands by_table s c r.number j r.call [] (answer_of turn)) (Seen stands by_table s d None) s s (answer_entries r.number (answer_of turn))
  waits_goes s c d r j turn is sound same free at = subst (λ (t : Turn). Goes c.options.geometry (Going stands by_table s c r.number j r.call [] (answer_of t)) (Seen stands by_table s d None) s s (answer_entries r.number (answer_of t))) (sym is) (back_goes s c d r j sound same free at)

  pub done_goes : (s t : Cluster) (c : Clients C) (a j : ℕ) (call : C) (answer : Answer) (turn : Turn) → turn ≡ Done answer → ClusterAdvances (IsAllowed (size_of s) (Answered a answer)) s t (Answered a answer ∷ []) → Goes c.options.geometry (Going stands by_table s c a j call [] (answer_of turn)) (Seen stands by_table t c None) s t (answer_entries a (answer_of turn))
  done_goes s t c a j call answer turn is adv = subst (λ (u : Turn). Goes c.options.geometry (Going stands by_table s c a j call [] (answer_of u)) (Seen stands by_table t c None) s t (answer_entries a (answer_of u))) (sym is) (ends_goes s t c a j call answer adv)
