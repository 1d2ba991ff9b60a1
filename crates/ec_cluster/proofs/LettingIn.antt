-- The asks of a lock table, and the waiters that are let in, after a request.
use Rattle.std.proofs.Common.{◌≡◌, ℕ, zero, suc, ◌<◌, true, false, cond, Option, Some, None, List, [], ◌∷◌, ◌++◌, length, get_or, map, filter, refl, sym, subst, arith}
use Rattle.std.proofs.lemmas.List.Elements.{All-append, All-filter}
use Rattle.std.specs.List.{All}
use Rattle.ec_brick.specs.Rows.{fence, row_of}
use Rattle.ec_brick.specs.State.{State}
use Rattle.ec_brick.specs.Step.{Failing, Fine, Before, Within, Out, Work, by_row, executed, fenced, head_read, judged, quiet, refusal_of, step, version_of, work, worked}
use Rattle.ec_brick.specs.declared.row.Row.{Row}
use Rattle.ec_attr.specs.declared.head.Head.{Head}
use Rattle.ec_locks.specs.Asked.{granted, granted_by_queue}
use Rattle.ec_locks.specs.Table.{by_queue, is_behind, is_let_in, let_in, put, stays, waiter_of}
use Rattle.ec_locks.specs.declared.ask.Ask.{Ask as Asking}
use Rattle.ec_locks.specs.declared.ask.Leaving.{Leaving}
use Rattle.ec_locks.specs.declared.ask.Leaving.TheVariants.{Number}
use Rattle.ec_store.specs.Records.{head_at}
use Rattle.ec_wire.specs.declared.message.Body.TheVariants.{ToBrick}
use Rattle.ec_wire.specs.declared.message.Message.{Message}
use Rattle.ec_wire.specs.declared.reply.Reply.{Reply}
use Rattle.ec_wire.specs.declared.request.Request.{Request}
use Rattle.ec_wire.specs.declared.request.Request.TheVariants.{Ask, Release, GfidsAfter}
use Rattle.ec_cluster.specs.Inner.{WasAsked}
use Rattle.ec_cluster.specs.Sound.{IsAsked}

all_none : {X : Type 0} (P : X → Type 0) → All P []
all_none P = λ k d lt. absurd (omega arith)

all_cons : {X : Type 0} (P : X → Type 0) (x : X) (xs : List X) → P x → All P xs → All P (x ∷ xs)
all_cons P x xs p h = λ k d lt. go k d lt
  where
    go : (k : ℕ) (d : _) → k < length (x ∷ xs) → P (get_or (x ∷ xs) k d)
    go zero d lt = p
    go (suc k) d lt = h k d (omega arith)

all_head : {X : Type 0} (P : X → Type 0) (x : X) (xs : List X) → All P (x ∷ xs) → P x
all_head P x xs h = h 0 x (omega arith)

all_tail : {X : Type 0} (P : X → Type 0) (x : X) (xs : List X) → All P (x ∷ xs) → All P xs
all_tail P x xs h = λ k d lt. h (suc k) d (omega arith)

module _ (said : ℕ → Option Message) (b : ℕ) where
  was_asked : (a : Asking) → IsAsked said b a → WasAsked said b (waiter_of a)
  was_asked a h = record { message = h.message; request = Ask a.gfid a.domain a.kind; sent = h.sent; client = h.client; brick = h.brick; body = h.body }

  all_waiters : (asks : List Asking) → All (IsAsked said b) asks → All (WasAsked said b) (map waiter_of asks)
  all_waiters [] h = all_none (WasAsked said b)
  all_waiters (a ∷ asks) h = all_cons (WasAsked said b) (waiter_of a) (map waiter_of asks) (was_asked a (all_head (IsAsked said b) a asks h)) (all_waiters asks (all_tail (IsAsked said b) a asks h))

  all_let_in : (l : Leaving) (before asks : List Asking) → All (IsAsked said b) asks → All (IsAsked said b) (let_in l before asks)
  all_let_in l before [] h = all_none (IsAsked said b)
  all_let_in l before (a ∷ asks) h =
      let rest = all_let_in l (before ++ a ∷ []) asks (all_tail (IsAsked said b) a asks h) in
      elim (is_let_in l before a) as (λ c. All (IsAsked said b) (cond c (a ∷ let_in l (before ++ a ∷ []) asks) (let_in l (before ++ a ∷ []) asks))) [ true ↦ all_cons (IsAsked said b) a (let_in l (before ++ a ∷ []) asks) (all_head (IsAsked said b) a asks h) rest | false ↦ rest ]

  all_put : (asks : List Asking) (e : Asking) → IsAsked said b e → All (IsAsked said b) asks → All (IsAsked said b) (put asks e)
  all_put [] e p h = all_cons (IsAsked said b) e [] p h
  all_put (a ∷ asks) e p h =
      let one = all_head (IsAsked said b) a asks h in
      elim (is_behind a e) as (λ c. All (IsAsked said b) (cond c (e ∷ a ∷ asks) (a ∷ put asks e))) [ true ↦ all_cons (IsAsked said b) e (a ∷ asks) p h | false ↦ all_cons (IsAsked said b) a (put asks e) one (all_put asks e p (all_tail (IsAsked said b) a asks h)) ]

  all_by_queue : (done asks : List Asking) → All (IsAsked said b) done → All (IsAsked said b) asks → All (IsAsked said b) (by_queue done asks)
  all_by_queue done [] d h = d
  all_by_queue done (a ∷ asks) d h = all_by_queue (put done a) asks (all_put done a (all_head (IsAsked said b) a asks h) d) (all_tail (IsAsked said b) a asks h)

  pub granted_asked : (l : Leaving) (asks : List Asking) → All (IsAsked said b) asks → All (WasAsked said b) (granted l asks)
  granted_asked l asks h = all_waiters (let_in l [] asks) (all_let_in l [] asks h)

  pub cut_asked : (l : Leaving) (asks : List Asking) → All (IsAsked said b) asks → All (WasAsked said b) (granted_by_queue l asks)
  cut_asked l asks h = all_waiters (by_queue [] (let_in l [] asks)) (all_by_queue [] (let_in l [] asks) (all_none (IsAsked said b)) (all_let_in l [] asks h))

  pub left_asked : (l : Leaving) (asks : List Asking) → All (IsAsked said b) asks → All (IsAsked said b) (filter (stays l) asks)
  left_asked l asks h = All-filter (stays l) (IsAsked said b) asks h

-- an outcome that leaves the locks
record LeavesLocks (s : State) (out : Out) : Type 0 where
  same_asks : out.brick.asks ≡ s.asks
  nobody : out.lets_in ≡ []

worked_locks : (s : State) (f : Failing) (w : Work) (v : Option ℕ) → w.done.asks ≡ s.asks → w.broken.asks ≡ s.asks → LeavesLocks s (worked s f w v)
worked_locks s Fine w v d e = record { same_asks = d; nobody = refl }
worked_locks s Before w v d e = record { same_asks = refl; nobody = refl }
worked_locks s Within w v d e = record { same_asks = e; nobody = refl }

judged_locks : (s : State) (f : Failing) (w : Work) (v : Option ℕ) (o : Option Reply) → w.done.asks ≡ s.asks → w.broken.asks ≡ s.asks → LeavesLocks s (judged s f w v o)
judged_locks s f w v None d e = worked_locks s f w v d e
judged_locks s f w v (Some y) d e = record { same_asks = refl; nobody = refl }

read_locks : (s : State) (f : Failing) (w : Work) (r : Row) (h : Option Head) → w.done.asks ≡ s.asks → w.broken.asks ≡ s.asks → LeavesLocks s (head_read s f w r h)
read_locks s Fine w r h d e = judged_locks s Fine w (version_of h) (refusal_of s r h) d e
read_locks s Before w r h d e = record { same_asks = refl; nobody = refl }
read_locks s Within w r h d e = judged_locks s Within w (version_of h) (refusal_of s r h) d e

fenced_locks : (s : State) (f : Failing) (w : Work) (r : Row) (o : Option Reply) → w.done.asks ≡ s.asks → w.broken.asks ≡ s.asks → LeavesLocks s (fenced s f w r o)
fenced_locks s f w r None d e = read_locks s f w r (head_at s.records r.subject.0) d e
fenced_locks s f w r (Some y) d e = record { same_asks = refl; nobody = refl }

row_locks : (s : State) (f : Failing) (w : Work) (o : Option Row) → w.done.asks ≡ s.asks → w.broken.asks ≡ s.asks → LeavesLocks s (by_row s f w o)
row_locks s f w None d e = record { same_asks = refl; nobody = refl }
row_locks s f w (Some r) d e = fenced_locks s f w r (fence s.asks r) d e

-- what a request leaves in the lock table, and whom it lets in
pub record KeepsAsked (said : ℕ → Option Message) (b : ℕ) (out : Out) : Type 0 where
  pub asks : All (IsAsked said b) out.brick.asks
  pub waiters : All (WasAsked said b) out.lets_in

module _ (said : ℕ → Option Message) (b : ℕ) (s : State) (m : Message) (sent : said m.no ≡ Some m) (to : m.brick ≡ b) (h : All (IsAsked said b) s.asks) where
  left_so : (out : Out) → LeavesLocks s out → KeepsAsked said b out
  left_so out k = record { asks = subst (All (IsAsked said b)) (sym k.same_asks) h; waiters = subst (All (WasAsked said b)) (sym k.nobody) (all_none (WasAsked said b)) }

  executed_asked : (f : Failing) (q : Request) → m.body ≡ ToBrick q → KeepsAsked said b (executed s f m.client m.no q)
  executed_asked f (Ask g domain kind) e =
      let a : Asking = record { number = m.no; client = m.client; gfid = g; domain = domain; kind = kind } in
      let is : IsAsked said b a = record { message = m; sent = sent; client = refl; brick = to; body = e } in
      record { asks = All-append (IsAsked said b) s.asks (a ∷ []) h (all_cons (IsAsked said b) a [] is (all_none (IsAsked said b))); waiters = all_none (WasAsked said b) }
  executed_asked f (Release g n) e = record { asks = left_asked said b (Number n) s.asks h; waiters = granted_asked said b (Number n) s.asks h }
  executed_asked Fine (GfidsAfter past dirty) e = record { asks = h; waiters = all_none (WasAsked said b) }
  executed_asked Before (GfidsAfter past dirty) e = record { asks = h; waiters = all_none (WasAsked said b) }
  executed_asked Within (GfidsAfter past dirty) e = record { asks = h; waiters = all_none (WasAsked said b) }
  executed_asked f q e = left_so (by_row s f (work s q) (row_of q)) (row_locks s f (work s q) (row_of q) refl refl)

  pub step_asked : (f : Failing) (q : Request) → m.body ≡ ToBrick q → KeepsAsked said b (step s f m.client m.no q)
  step_asked f q e = elim s.up as (λ up. KeepsAsked said b (cond up (executed s f m.client m.no q) (quiet s))) [ true ↦ executed_asked f q e | false ↦ record { asks = h; waiters = all_none (WasAsked said b) } ]
