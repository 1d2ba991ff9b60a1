-- A call begins.
use Rattle.std.proofs.Common.{◌≡◌, ℕ, ◌+◌, ◌<◌, false, cond, Option, Some, None, List, [], ◌∷◌, ◌++◌, refl, sym, ◌∙◌, ap, subst, arith}
use Rattle.std.specs.Prelude.{All}
use Rattle.ec_cluster.specs.Said.{said_in}
use Rattle.ec_cluster.specs.Steps.{Advances as ClusterAdvances, IsAllowed, IsBegun}
use Rattle.ec_cluster.specs.Views.{log_of, next_of, size_of}
use Rattle.ec_cluster.specs.declared.cluster.Cluster.{Cluster}
use Rattle.ec_conduct.specs.Account.{Account, account_from, sent}
use Rattle.ec_conduct.specs.Given.{Given}
use Rattle.ec_conduct.specs.Opened.{account, opened}
use Rattle.ec_conduct.specs.Own.{Own}
use Rattle.ec_conduct.specs.Table.{Send, entries_of}
use Rattle.ec_history.specs.Run.{Net}
use Rattle.ec_history.specs.Story.{makes_a_child}
use Rattle.ec_txn.specs.Steps.{Adds, given_of}
use Rattle.ec_txn.specs.declared.ctx.Ctx.{Ctx}
use Rattle.ec_wire.specs.declared.answer.Answer.{Answer}
use Rattle.ec_wire.specs.declared.entry.Entry.{Entry}
use Rattle.ec_wire.specs.declared.entry.Entry.TheVariants.{Called}
use Rattle.ec_wire.specs.declared.message.Message.{Message}
use Rattle.ec_wire.specs.declared.op.Op.{Op}
use Rattle.ec_wire.specs.declared.request.Request.{Request}
use Rattle.ec_wire.specs.declared.request.Request.TheVariants.{Ask, Release, Query, PreOp, ReadChunks, WriteChunks, SetLength, PostOp, Clear, NameGet, NamesAfter, NameSet, NamesPut, Make, Made, Unmake, Mark, Unmark, GfidsAfter}
use Rattle.ec_clients.specs.Calls.{IsUnmade, OfClients, begun_with, ctx_of}
use Rattle.ec_clients.specs.Come.{Come, come_after}
use Rattle.ec_clients.specs.Going.{Going, answer_entries, sent_entries}
use Rattle.ec_clients.specs.Ledger.{ledger}
use Rattle.ec_clients.specs.Steps.{AreOfCourse, Breaks, Goes, Seen}
use Rattle.ec_clients.specs.Views.{is_dead_at, slots_of}
use Rattle.ec_clients.specs.declared.clients.Clients.{Clients}
use Rattle.ec_clients.proofs.Entries.{calls_begin, gfid_is, given_is}
use Rattle.ec_clients.proofs.Goings.{goes_off, goes_on, said_append}
use Rattle.ec_clients.proofs.Places.{begins_out, put_here}

-- the answer in an account

sent_answer : (c : Account) (b i : ℕ) (q : Request) → (sent c b i q).answer ≡ c.answer
sent_answer c b i (Ask g domain kind) = refl
sent_answer c b i (Release g n) = refl
sent_answer c b i (Query g n) = refl
sent_answer c b i (PreOp g n at dirty) = refl
sent_answer c b i (ReadChunks g n first count) = refl
sent_answer c b i (WriteChunks g n first chunks) = refl
sent_answer c b i (SetLength g n keep length) = refl
sent_answer c b i (PostOp g n at version size attr) = refl
sent_answer c b i (Clear g n at) = refl
sent_answer c b i (NameGet g n name) = refl
sent_answer c b i (NamesAfter g n start) = refl
sent_answer c b i (NameSet g n name child) = refl
sent_answer c b i (NamesPut g n start upto list) = refl
sent_answer c b i (Make g n child) = refl
sent_answer c b i (Made g n child) = refl
sent_answer c b i (Unmake g n child) = refl
sent_answer c b i (Mark g n heal head) = refl
sent_answer c b i (Unmark g n at dirty) = refl
sent_answer c b i (GfidsAfter start dirty) = refl

answer_from : (c : Account) (i : ℕ) (ss : List Send) (answer : Option Answer) → c.answer ≡ None → (account_from c (entries_of i ss answer)).answer ≡ answer
answer_from c i [] None e = e
answer_from c i [] (Some x) e = refl
answer_from c i (s ∷ ss) answer e = answer_from (sent c s.0 i s.1) (i + 1) ss answer (sent_answer c s.0 i s.1 ∙ e)

-- the answer of a call that has just begun
pub first_answer : (given : Given) (i : ℕ) (ss : List Send) (answer : Option Answer) → (account given ([] ++ entries_of i ss answer)).answer ≡ answer
first_answer given i ss answer = answer_from (opened given) i ss answer refl

module _ {C : Type 0} (stands : Ctx → Given → C → List Own → Type 0) (by_table : Ctx → Given → List Own → Type 0) (s t : Cluster) (c d : Clients C) (j : ℕ) (op : Op) (call : C) (sends : List Send) (answer : Option Answer) (adv : ClusterAdvances (IsAllowed (size_of s) (Called (c.calls + 1) j op)) s t (Called (c.calls + 1) j op ∷ [])) (same : d ≡ record c { calls = c.calls + 1; next_gfid = d.next_gfid }) (gfid : d.next_gfid ≡ cond (makes_a_child op) (c.next_gfid + 1) c.next_gfid) (lives : is_dead_at c j ≡ false) (adds : Adds (stands (ctx_of c.options (c.calls + 1) j c.next_gfid) (begun_with c.options op c.next_gfid) call) c.options.geometry.n [] (next_of t) sends answer) where
  said_then : said_in (log_of t) ≡ said_in (log_of s)
  said_then = ap said_in adv.log ∙ said_append (λ i. None) (log_of s) (Called (c.calls + 1) j op ∷ [])

  module _ (p : Come) (h : Seen stands by_table s c None p) where
    abbrev k : OfClients stands by_table c None (said_in (log_of s)) (ledger p)
    k = h.clients

    abbrev a : ℕ
    a = p.net.calls + 1

    abbrev began : Come
    began = come_after c.options.geometry p (Called a j op)

    unmade : IsUnmade (ledger p) a
    unmade = k.calls.later a (k.calls.range a (omega arith))

    gfid_now : began.story.next_gfid ≡ d.next_gfid
    gfid_now = gfid_is c.options p (said_in (log_of s)) j op k.calls ∙ ((λ i. cond (makes_a_child op) (k.gfid i + 1) (k.gfid i)) ∙ sym gfid)

    clients_now : OfClients stands by_table (record c { calls = c.calls + 1; next_gfid = d.next_gfid }) (Some a) (said_in (log_of s)) (ledger began)
    clients_now = record {
      count = ap (λ (n : ℕ). n + 1) k.count;
      gfid = gfid_now;
      dead = k.dead;
      released = k.released;
      calls = calls_begin c.options p (said_in (log_of s)) j op k.calls;
      slots = begins_out stands by_table c.options (slots_of c) (ledger p) (ledger began) a (record { client = j; op = op }) _ k.slots unmade.asker unmade.answered refl refl refl refl;
    }

    meets : stands (ctx_of c.options a j p.story.next_gfid) (begun_with c.options op p.story.next_gfid) call (p.books.own a ++ entries_of (next_of t) sends answer)
    meets = subst (λ (es : List Own). stands (ctx_of c.options a j p.story.next_gfid) (begun_with c.options op p.story.next_gfid) call (es ++ entries_of (next_of t) sends answer)) (sym unmade.own)
        (subst (λ (n : ℕ). stands (ctx_of c.options a j n) (begun_with c.options op n) call (entries_of (next_of t) sends answer)) (sym k.gfid)
        (subst (λ (n : ℕ). stands (ctx_of c.options (n + 1) j c.next_gfid) (begun_with c.options op c.next_gfid) call (entries_of (next_of t) sends answer)) (sym k.count) adds.stands))

    going_here : Going stands by_table t d a j call sends answer began
    going_here = subst (λ (z : Clients C). Going stands by_table t z a j call sends answer began) (sym same) (record {
      seen = record {
        said = h.said ∙ sym said_then;
        clients = subst (λ (f : ℕ → Option Message). OfClients stands by_table (record c { calls = c.calls + 1; next_gfid = d.next_gfid }) (Some a) f (ledger began)) (sym said_then) clients_now;
      };
      asker = record { client = j; op = op };
      made = put_here p.net.asker a (Some (record { client = j; op = op }));
      of_client = refl;
      unanswered = unmade.answered;
      lives = k.dead j ∙ lives;
      child = p.story.next_gfid;
      begun = given_is c.options p (said_in (log_of s)) j op k.calls;
      meets = meets;
    })

    pub begins_going : Going stands by_table t d (c.calls + 1) j call sends answer (come_after c.options.geometry p (Called (c.calls + 1) j op))
    begins_going = subst (λ (n : ℕ). Going stands by_table t d (n + 1) j call sends answer (come_after c.options.geometry p (Called (n + 1) j op))) k.count going_here

    pub may_call : (m : Net) → m ≡ p.net → m.owed ≡ [] → IsAllowed (size_of s) (Called (c.calls + 1) j op) m
    may_call m e owed = subst (λ (n : Net). IsAllowed (size_of s) (Called (c.calls + 1) j op) n) (sym e) (ap (λ (n : ℕ). n + 1) (sym k.count), k.dead j ∙ lives, subst (λ (n : Net). n.owed ≡ []) e owed)

  pub begins_goes : Goes c.options.geometry (Seen stands by_table s c None) (Going stands by_table t d (c.calls + 1) j call sends answer) s t (Called (c.calls + 1) j op ∷ [])
  begins_goes = record {
    log = adv.log;
    size = adv.size;
    sound = adv.sound;
    leads = λ p h. begins_going p h;
    runs = λ records p h m. adv.runs records p.net m (may_call p h p.net refl m.owes);
  }

  pub begins_then : (u : Cluster) (e : Clients C) (fs : List Entry) → Goes d.options.geometry (Going stands by_table t d (c.calls + 1) j call sends answer) (Seen stands by_table u e None) t u fs → Goes c.options.geometry (Seen stands by_table s c None) (Seen stands by_table u e None) s u (Called (c.calls + 1) j op ∷ fs)
  begins_then u e fs g = goes_on c.options.geometry (Seen stands by_table s c None) (Going stands by_table t d (c.calls + 1) j call sends answer) (Seen stands by_table u e None) s t u (Called (c.calls + 1) j op ∷ []) fs begins_goes (subst (λ (z : Clients C). Goes z.options.geometry (Going stands by_table t d (c.calls + 1) j call sends answer) (Seen stands by_table u e None) t u fs) same g)

  pub begins_off : (u : Cluster) → Breaks d.options.geometry AreOfCourse (Going stands by_table t d (c.calls + 1) j call sends answer) t u → Breaks c.options.geometry (IsBegun (λ e. e ≡ Called (c.calls + 1) j op)) (Seen stands by_table s c None) s u
  begins_off u g = goes_off c.options.geometry (Seen stands by_table s c None) (Going stands by_table t d (c.calls + 1) j call sends answer) s t u (Called (c.calls + 1) j op ∷ []) AreOfCourse (IsBegun (λ e. e ≡ Called (c.calls + 1) j op)) (λ fs k. (refl, k)) begins_goes (subst (λ (z : Clients C). Breaks z.options.geometry AreOfCourse (Going stands by_table t d (c.calls + 1) j call sends answer) t u) same g)

  pub begins_below : size_of s ≡ c.options.geometry.n → All (λ (x : Send). x.0 < size_of t) sends
  begins_below size = subst (λ (n : ℕ). All (λ (x : Send). x.0 < n) sends) (sym (adv.size ∙ size)) adds.below

  pub begins_all : (u : Cluster) (e : Clients C) → next_of t ≡ next_of s → Goes d.options.geometry (Going stands by_table t d (c.calls + 1) j call sends answer) (Seen stands by_table u e None) t u (sent_entries (c.calls + 1) j (next_of t) sends ++ answer_entries (c.calls + 1) answer) → Goes c.options.geometry (Seen stands by_table s c None) (Seen stands by_table u e None) s u (Called (c.calls + 1) j op ∷ (sent_entries (c.calls + 1) j (next_of s) sends ++ answer_entries (c.calls + 1) answer))
  begins_all u e num g = subst (λ (n : ℕ). Goes c.options.geometry (Seen stands by_table s c None) (Seen stands by_table u e None) s u (Called (c.calls + 1) j op ∷ (sent_entries (c.calls + 1) j n sends ++ answer_entries (c.calls + 1) answer))) num (begins_then u e (sent_entries (c.calls + 1) j (next_of t) sends ++ answer_entries (c.calls + 1) answer) g)

-- what the call promised as it began
pub begun_adds : {C : Type 0} (stands : Ctx → Given → C → List Own → Type 0) (c : Clients C) (j : ℕ) (op : Op) (call : C) (sends : List Send) (x : Ctx) (num n : ℕ) (told : Option Answer) → x ≡ ctx_of c.options (c.calls + 1) j c.next_gfid → num ≡ n → (adds : (answer : Option Answer) × Adds (stands x (given_of x op None []) call) x.geometry.n [] num sends answer) → ((y : Ctx) (given : Given) (es : List Own) → stands y given call es → told ≡ (account given es).answer) → Adds (stands (ctx_of c.options (c.calls + 1) j c.next_gfid) (begun_with c.options op c.next_gfid) call) c.options.geometry.n [] n sends told
begun_adds stands c j op call sends x num n told is next adds tells =
    let same : told ≡ adds.0 = tells x (given_of x op None []) ([] ++ entries_of num sends adds.0) adds.1.stands ∙ first_answer (given_of x op None []) num sends adds.0 in
    subst (λ (y : Ctx). Adds (stands y (given_of y op None []) call) y.geometry.n [] n sends told) is
    (subst (λ (i : ℕ). Adds (stands x (given_of x op None []) call) x.geometry.n [] i sends told) next
    (subst (λ (o : Option Answer). Adds (stands x (given_of x op None []) call) x.geometry.n [] num sends o) (sym same) adds.1))
