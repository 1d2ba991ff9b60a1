-- In the end a settled call waits for nobody; one without an answer would wait for a brick.
use Rattle.std.proofs.Common.{◌≡◌, ℕ, ◌<◌, Bool, true, false, is_some, Option, Some, None, List, [], ◌∷◌, ◌++◌, refl, sym, ap, subst, ◌∙◌, append-nil, arith}
use Rattle.ec_attr.specs.declared.config.Config.{Config}
use Rattle.ec_brick.specs.State.{State}
use Rattle.ec_calls.specs.declared.any.AnyCall.{AnyCall}
use Rattle.ec_clients.specs.Beginning.{beginning}
use Rattle.ec_clients.specs.Calls.{IsMade, begun_with, ctx_of, request_message}
use Rattle.ec_clients.specs.Come.{Come, come, nothing_left}
use Rattle.ec_clients.specs.Ledger.{ledger}
use Rattle.ec_clients.specs.Owned.{Sees}
use Rattle.ec_clients.specs.declared.clients.Clients.{Clients}
use Rattle.ec_cluster.specs.Said.{said_in}
use Rattle.ec_cluster.specs.Views.{log_of}
use Rattle.ec_cluster.specs.declared.cluster.Cluster.{Cluster}
use Rattle.ec_conduct.specs.Account.{Wait}
use Rattle.ec_conduct.specs.Given.{Given}
use Rattle.ec_conduct.specs.Opened.{account}
use Rattle.ec_conduct.specs.Own.{Own}
use Rattle.ec_history.specs.Accounts.{Books, books, no_books}
use Rattle.ec_history.specs.Flat.{Tree}
use Rattle.ec_history.specs.IsRun.{IsRun}
use Rattle.ec_history.specs.Run.{Asker, Net, after, fresh, run}
use Rattle.ec_history.specs.Script.{Step, entries_of}
use Rattle.ec_history.specs.Story.{opening}
use Rattle.ec_history.proofs.Runs.{joins, rest}
use Rattle.ec_txn.specs.Rounds.{IsWaiting}
use Rattle.ec_txn.specs.Steps.{number_of}
use Rattle.ec_txn.specs.declared.ctx.Ctx.{Ctx}
use Rattle.ec_wire.specs.declared.entry.Entry.{Entry}
use Rattle.ec_wire.specs.declared.entry.Entry.TheVariants.{Called}
use Rattle.ec_wire.specs.declared.message.Message.{Message}
use Rattle.ec_wire.specs.declared.op.Op.{Op}
use Rattle.ec_law_calls.specs.World.{IsLogged}
use Rattle.ec_law_settled.specs.Answered.{AnsweredInEveryWorld, CallWaitLaws}
use Rattle.ec_law_settled.specs.Laws.{SettledLaws, WaitsForNobody}
use Rattle.ec_law_settled.specs.Settled.{IsSettledCall}
use Rattle.ec_law_settled.specs.Worlds.{OfEveryWorldsCall}
use Rattle.ec_law_settled.proofs.Booked.{asker_along}
use Rattle.ec_law_settled.proofs.Counted.{IsCounted, counted, fresh_counted}
use Rattle.ec_law_settled.proofs.Places.{put_here}
use Rattle.ec_law_settled.proofs.Unbooked.{AreUnanswered, unanswered_account, unanswered_along}
use Rattle.ec_law_settled.proofs.Worlds.{come_books, come_net}

some_is : {X : Type 0} (x y : X) → Some x ≡ Some y → x ≡ y
some_is x y e = cc

none_is : {X : Type 0} (x : X) → None ≡ Some x → ⊥
none_is x e = cc

-- a call that a client runs, without an answer by its own entries, waits for a brick in the net
module _ (stands : Ctx → Given → AnyCall → List Own → Type 0) (by_table : Ctx → Given → List Own → Type 0) (wakes : CallWaitLaws stands) (n : ℕ) (s : Cluster) (c : Clients AnyCall) (p : Come) (h : Sees stands by_table s c p)
    (counted_then : IsCounted n p.net) (unbooked : AreUnanswered p.net p.books) (call : ℕ) (asker : Asker) (made : p.net.asker call ≡ Some asker) (unanswered : p.net.answered call ≡ false) where
  is : IsMade c.options (said_in (log_of s)) (ledger p) call asker
  is = h.seen.clients.calls.made call asker made

  abbrev given : Given
  given = begun_with c.options asker.op is.child

  waits : IsWaiting (account given (p.books.own call))
  waits =
      let slot = h.seen.clients.slots.unanswered call asker made unanswered (none_is call) in
      let runs = (h.seen.clients.slots.runs asker.client slot.0 slot.1).0 in
      let begun : begun_with c.options runs.asker.op runs.child ≡ given = some_is (begun_with c.options runs.asker.op runs.child) given (sym runs.begun ∙ (ap p.books.given slot.2 ∙ is.begun)) in
      let meets = subst (λ (z : Given). stands (ctx_of c.options slot.0.number asker.client runs.child) z slot.0.call (p.books.own slot.0.number)) begun runs.meets in
      let here = subst (λ (a : ℕ). stands (ctx_of c.options slot.0.number asker.client runs.child) given slot.0.call (p.books.own a)) slot.2 meets in
      wakes.waits (ctx_of c.options slot.0.number asker.client runs.child) given slot.0.call (p.books.own call) here (unanswered_account given (p.books.own call) (unbooked call unanswered))

  pub awaited : (b : ℕ) × (b < n) × (i : ℕ) × (p.net.awaits call b ≡ Some i)
  awaited = by ((account given (p.books.own call)).waits waits.0) refl waits.1
    where
      by : (o : Option Wait) → (account given (p.books.own call)).waits waits.0 ≡ o → is_some o ≡ true → (b : ℕ) × (b < n) × (i : ℕ) × (p.net.awaits call b ≡ Some i)
      by None e t = absurd (cc)
      by (Some w) e t =
          let told = is.waits unanswered in
          let sent = told.sent waits.0 w e in
          (waits.0, counted_then.brick w.number (request_message w.number call asker.client waits.0 w.request) (ap (λ (f : ℕ → Option Message). f w.number) h.seen.said ∙ sent), w.number, told.same waits.0 ∙ ap number_of e)

module _ (stands : Ctx → Given → AnyCall → List Own → Type 0) (by_table : Ctx → Given → List Own → Type 0) (wakes : CallWaitLaws stands) (laws : SettledLaws (OfEveryWorldsCall stands by_table)) (config : Config) (bricks : ℕ → State) (tree : Tree) (next : ℕ) (s : Cluster) (c : Clients AnyCall)
    (logged : IsLogged stands by_table config bricks tree next s c) (earlier : List Entry) (call client : ℕ) (op : Op) (called : Step) (steps : List Step) (parts : log_of s ≡ earlier ++ entries_of (called ∷ steps)) (settled : IsSettledCall config.geometry.n (run earlier (fresh bricks)) call client op called steps) where
  abbrev es : List Entry
  es = entries_of (called ∷ steps)

  abbrev start : Net
  start = run earlier (fresh bricks)

  abbrev p : Come
  p = come c.options.geometry (log_of s) (beginning bricks tree logged.first)

  net_is : p.net ≡ run (log_of s) (fresh bricks)
  net_is = come_net c.options.geometry (log_of s) (beginning bricks tree logged.first)

  ends_is : run (log_of s) (fresh bricks) ≡ run es start
  ends_is = ap (λ (l : List Entry). run l (fresh bricks)) parts ∙ joins earlier es (fresh bricks)

  counted_then : IsCounted config.geometry.n p.net
  counted_then = subst (IsCounted config.geometry.n) (sym net_is) (counted config.geometry.n (log_of s) (fresh bricks) logged.is_run (fresh_counted config.geometry.n bricks))

  unbooked : AreUnanswered p.net p.books
  unbooked = subst (λ (b : Books). AreUnanswered p.net b) (sym (come_books c.options.geometry (log_of s) (beginning bricks tree logged.first)))
      (subst (λ (m : Net). AreUnanswered m (books c.options.geometry nothing_left (log_of s) (fresh bricks) (opening tree logged.first) no_books)) (sym net_is)
      (unanswered_along c.options.geometry (log_of s) (fresh bricks) (opening tree logged.first) no_books (λ a e. refl)))

  runs_es : IsRun config.geometry.n es start
  runs_es = rest config.geometry.n earlier es (fresh bricks) (subst (λ (l : List Entry). IsRun config.geometry.n l (fresh bricks)) parts logged.is_run)

  -- who called, as the entries begin and in the end
  asker_by : (e : Entry) (tail : List Entry) → e ≡ Called call client op → IsRun config.geometry.n (e ∷ tail) start → (run (e ∷ tail) start).asker call ≡ Some (record { client = client; op = op })
  asker_by e tail is runs = subst (λ (z : Entry). (run (z ∷ tail) start).asker call ≡ Some (record { client = client; op = op })) (sym is) (by (subst (λ (z : Entry). IsRun config.geometry.n (z ∷ tail) start) is runs))
    where
      by : IsRun config.geometry.n (Called call client op ∷ tail) start → (run tail (after start (Called call client op))).asker call ≡ Some (record { client = client; op = op })
      by runs = asker_along config.geometry.n tail (after start (Called call client op)) runs.1 call (omega arith) ∙ put_here start.asker call (Some (record { client = client; op = op })) call refl

  made : p.net.asker call ≡ Some (record { client = client; op = op })
  made = ap (λ (m : Net). m.asker call) (net_is ∙ ends_is) ∙ asker_by called.named (called.follow ++ entries_of steps) settled.is runs_es

  waits_none : WaitsForNobody config.geometry.n start call es
  waits_none = laws.waits config bricks tree next s c logged earlier [] call client op called steps (parts ∙ sym (append-nil (earlier ++ es))) settled

  pub is_answered : (run (log_of s) (fresh bricks)).answered call ≡ true
  is_answered = by ((run (log_of s) (fresh bricks)).answered call) refl
    where
      by : (t : Bool) → (run (log_of s) (fresh bricks)).answered call ≡ t → (run (log_of s) (fresh bricks)).answered call ≡ true
      by true e = e
      by false e =
          let w = awaited stands by_table wakes config.geometry.n s c p logged.sees counted_then unbooked call (record { client = client; op = op }) made (ap (λ (m : Net). m.answered call) net_is ∙ e) in
          let none : (run es start).awaits call w.0 ≡ None = waits_none (ap (λ (m : Net). m.answered call) (sym ends_is) ∙ e) w.0 w.1 in
          absurd (none_is w.2 (sym none ∙ (ap (λ (m : Net). m.awaits call w.0) (sym (net_is ∙ ends_is)) ∙ w.3)))

pub answered_laws : (stands : Ctx → Given → AnyCall → List Own → Type 0) (by_table : Ctx → Given → List Own → Type 0) → CallWaitLaws stands → SettledLaws (OfEveryWorldsCall stands by_table) → AnsweredInEveryWorld stands by_table
answered_laws stands by_table wakes laws config bricks tree next s c logged earlier call client op called steps parts settled =
    is_answered stands by_table wakes laws config bricks tree next s c logged earlier call client op called steps parts settled
