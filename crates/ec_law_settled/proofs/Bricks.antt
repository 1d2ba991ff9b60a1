-- What a brick that is up makes of a request, but of its records.
use Rattle.std.proofs.Common.{◌≡◌, ◌⊎◌, inl, inr, ℕ, Bool, true, false, cond, ◌&&◌, Option, Some, None, List, [], ◌∷◌, ◌++◌, map, refl, sym, ap, subst, ◌∙◌}
use Rattle.std.specs.Prelude.{◌||◌, filter}
use Rattle.ec_attr.specs.declared.gfid.Gfid.{Gfid}
use Rattle.ec_attr.specs.declared.head.Head.{Head}
use Rattle.ec_attr.specs.declared.kind.Domain.{Domain}
use Rattle.ec_attr.specs.declared.kind.LockKind.{LockKind}
use Rattle.ec_brick.proofs.Steps.{row_keeps, row_lets_in, step_up}
use Rattle.ec_brick.specs.Meets.{is_locking}
use Rattle.ec_brick.specs.Replies.{Says, Nothing, Is, of_record, own_of}
use Rattle.ec_brick.specs.Rows.{row_of}
use Rattle.ec_brick.specs.State.{State}
use Rattle.ec_brick.specs.Step.{Before, Failing, Fine, Out, Within, Work, asked, by_row, executed, fenced, head_read, judged, released, step, work, worked}
use Rattle.ec_brick.specs.declared.row.Row.{Row}
use Rattle.ec_conduct.specs.Conduct.{is_release}
use Rattle.ec_locks.specs.Asked.{granted, has_to_wait}
use Rattle.ec_locks.specs.Table.{has_number, let_in, queued, stays, waited, waiter_of}
use Rattle.ec_locks.specs.declared.ask.Ask.{Ask as Asking}
use Rattle.ec_locks.specs.declared.ask.Leaving.{Leaving}
use Rattle.ec_locks.specs.declared.ask.Leaving.TheVariants.{Number}
use Rattle.ec_store.specs.Records.{Record, Records, head_at}
use Rattle.ec_wire.specs.declared.reply.Reply.{Reply}
use Rattle.ec_wire.specs.declared.reply.Reply.TheVariants.{Granted}
use Rattle.ec_wire.specs.declared.request.Request.{Request}
use Rattle.ec_wire.specs.declared.request.Request.TheVariants.{Ask, Release, Query, ReadChunks, NameGet, NamesAfter, GfidsAfter}

-- ## Requests that are no lock and no release

-- they leave the locks,
kept_asks : (s : State) (f : Failing) (client number : ℕ) (q : Request) → is_locking q ≡ false → (executed s f client number q).brick.asks ≡ s.asks
kept_asks s f client number (Ask g domain kind) e = absurd (cc)
kept_asks s f client number (Release g n) e = absurd (cc)
kept_asks s Fine client number (GfidsAfter past dirty) e = refl
kept_asks s Before client number (GfidsAfter past dirty) e = refl
kept_asks s Within client number (GfidsAfter past dirty) e = refl
kept_asks s f client number q e = row_keeps (λ (x : State). x.asks ≡ s.asks) s f (work s q) (row_of q) refl refl refl

-- let nobody in,
nobody_in : (s : State) (f : Failing) (client number : ℕ) (q : Request) → is_locking q ≡ false → (executed s f client number q).lets_in ≡ []
nobody_in s f client number (Ask g domain kind) e = absurd (cc)
nobody_in s f client number (Release g n) e = absurd (cc)
nobody_in s Fine client number (GfidsAfter past dirty) e = refl
nobody_in s Before client number (GfidsAfter past dirty) e = refl
nobody_in s Within client number (GfidsAfter past dirty) e = refl
nobody_in s f client number q e = row_lets_in s f (work s q) (row_of q)

-- and have a reply
abbrev pub Speaks : Says → Type 0
Speaks Nothing = ⊥
Speaks says = Unit {0}

of_record_speaks : (o : Option Record) (say : Record → Says) → ((r : Record) → Speaks (say r)) → Speaks (of_record o say)
of_record_speaks None say h = tt
of_record_speaks (Some r) say h = h r

own_speaks : (q : Request) (m : Records) → is_locking q ≡ false → Speaks (own_of q m)
own_speaks (Ask g domain kind) m e = absurd (cc)
own_speaks (Release g n) m e = absurd (cc)
own_speaks (Query g n) m e = of_record_speaks (m g.0) _ (λ r. tt)
own_speaks (ReadChunks g n first count) m e = of_record_speaks (m g.0) _ (λ r. tt)
own_speaks (NameGet g n name) m e = of_record_speaks (m g.0) _ (λ r. tt)
own_speaks (NamesAfter g n start) m e = of_record_speaks (m g.0) _ (λ r. tt)
own_speaks q m e = tt

worked_speaks : (s : State) (f : Failing) (w : Work) (v : Option ℕ) → Speaks w.own → Speaks (worked s f w v).says
worked_speaks s Fine w v own = own
worked_speaks s Before w v own = tt
worked_speaks s Within w v own = tt

judged_speaks : (s : State) (f : Failing) (w : Work) (v : Option ℕ) (o : Option Reply) → Speaks w.own → Speaks (judged s f w v o).says
judged_speaks s f w v None own = worked_speaks s f w v own
judged_speaks s f w v (Some y) own = tt

read_speaks : (s : State) (f : Failing) (w : Work) (r : Row) (h : Option Head) → Speaks w.own → Speaks (head_read s f w r h).says
read_speaks s Fine w r h own = judged_speaks s Fine w _ _ own
read_speaks s Before w r h own = tt
read_speaks s Within w r h own = judged_speaks s Within w _ _ own

fenced_speaks : (s : State) (f : Failing) (w : Work) (r : Row) (o : Option Reply) → Speaks w.own → Speaks (fenced s f w r o).says
fenced_speaks s f w r None own = read_speaks s f w r (head_at s.records r.subject.0) own
fenced_speaks s f w r (Some y) own = tt

row_speaks : (s : State) (f : Failing) (q : Request) (o : Option Row) → (o ≡ None → ⊥) → Speaks (own_of q s.records) → Speaks (by_row s f (work s q) o).says
row_speaks s f q None some own = absurd (some refl)
row_speaks s f q (Some r) some own = fenced_speaks s f (work s q) r _ own

speaks_so : (s : State) (f : Failing) (client number : ℕ) (q : Request) → is_locking q ≡ false → Speaks (executed s f client number q).says
speaks_so s f client number (Ask g domain kind) e = absurd (cc)
speaks_so s f client number (Release g n) e = absurd (cc)
speaks_so s Fine client number (GfidsAfter past dirty) e = tt
speaks_so s Before client number (GfidsAfter past dirty) e = tt
speaks_so s Within client number (GfidsAfter past dirty) e = tt
speaks_so s f client number q e = row_speaks s f q (row_of q) (λ h. absurd (cc)) (own_speaks q s.records e)

-- ## Every request

kept_up : (s : State) (f : Failing) (client number : ℕ) (q : Request) → (executed s f client number q).brick.up ≡ s.up
kept_up s f client number (Ask g domain kind) = refl
kept_up s f client number (Release g n) = refl
kept_up s Fine client number (GfidsAfter past dirty) = refl
kept_up s Before client number (GfidsAfter past dirty) = refl
kept_up s Within client number (GfidsAfter past dirty) = refl
kept_up s f client number q = row_keeps (λ (x : State). x.up ≡ s.up) s f (work s q) (row_of q) refl refl refl

pub step_keeps_up : (s : State) (f : Failing) (client number : ℕ) (q : Request) → s.up ≡ true → (step s f client number q).brick.up ≡ s.up
step_keeps_up s f client number q up = ap (λ (o : Out). o.brick.up) (step_up s f client number q up) ∙ kept_up s f client number q

-- ## Lock tables of at most one ask

pub few_queued : (a : Asking) (n : ℕ) → queued (a ∷ []) n ≡ false
few_queued a n = refl

pub few_waited : (a : Asking) (n : ℕ) → waited (a ∷ []) n ≡ false
few_waited a n = at (has_number n a)
  where
    at : (t : Bool) → ((t && false) || false) ≡ false
    at true = refl
    at false = refl

few_let_in : (l : Leaving) (a : Asking) → let_in l [] (a ∷ []) ≡ []
few_let_in l a = at (stays l a)
  where
    at : (t : Bool) → cond (t && false) (a ∷ []) [] ≡ []
    at true = refl
    at false = refl

few_stay : (l : Leaving) (a : Asking) → (filter (stays l) (a ∷ []) ≡ a ∷ []) ⊎ (filter (stays l) (a ∷ []) ≡ [])
few_stay l a = at (stays l a)
  where
    at : (t : Bool) → (cond t (a ∷ []) [] ≡ a ∷ []) ⊎ (cond t (a ∷ []) [] ≡ [])
    at true = inl refl
    at false = inr refl

abbrev pub AreFew : List Asking → Type 0
AreFew [] = Unit {0}
AreFew (a ∷ []) = Unit {0}
AreFew (a ∷ c ∷ asks) = ⊥

abbrev pub is_ask_of : Request → Bool
is_ask_of (Ask g domain kind) = true
is_ask_of q = false

-- What an execution makes of such a table: it stays, is empty, or has the ask alone. Nobody is let in, and but for a Release there is
-- a reply.
pub record Outcome (s : State) (number : ℕ) (q : Request) (o : Out) : Type 0 where
  pub nobody : o.lets_in ≡ []
  pub says : is_release q ≡ false → Speaks o.says
  pub quiet : is_release q ≡ true → o.says ≡ Nothing
  pub asks : (o.brick.asks ≡ s.asks) ⊎ ((o.brick.asks ≡ []) ⊎ ((a : Asking) × (is_ask_of q ≡ true) × (a.number ≡ number) × (o.brick.asks ≡ a ∷ [])))

pub granted_first : (s : State) (a : Asking) → s.asks ≡ [] → (asked s a).says ≡ Is Granted
granted_first s a e = ap (λ (xs : List Asking). cond (has_to_wait xs a) Nothing (Is Granted)) e

asked_outcome : (s : State) (number client : ℕ) (g : Gfid) (domain : Domain) (kind : LockKind) → s.asks ≡ [] → Outcome s number (Ask g domain kind) (asked s (record { number = number; client = client; gfid = g; domain = domain; kind = kind }))
asked_outcome s number client g domain kind e =
    let a : Asking = record { number = number; client = client; gfid = g; domain = domain; kind = kind } in
    record { nobody = refl; says = λ speaks. subst Speaks (sym (granted_first s a e)) tt; quiet = λ r. absurd (cc); asks = inr (inr (a, refl, refl, ap (λ (xs : List Asking). xs ++ a ∷ []) e)) }

released_outcome : (s : State) (number n : ℕ) (g : Gfid) → AreFew s.asks → Outcome s number (Release g n) (released s n)
released_outcome s number n g few = record { nobody = nobody_by s.asks few; says = λ speaks. absurd (cc); quiet = λ r. refl; asks = asks_by s.asks few }
  where
    nobody_by : (xs : List Asking) → AreFew xs → granted (Number n) xs ≡ []
    nobody_by [] few = refl
    nobody_by (a ∷ []) few = ap (map waiter_of) (few_let_in (Number n) a)
    nobody_by (a ∷ c ∷ xs) few = absurd few

    asks_by : (xs : List Asking) → AreFew xs → (filter (stays (Number n)) xs ≡ xs) ⊎ ((filter (stays (Number n)) xs ≡ []) ⊎ ((a : Asking) × (false ≡ true) × (a.number ≡ number) × (filter (stays (Number n)) xs ≡ a ∷ [])))
    asks_by [] few = inl refl
    asks_by (a ∷ []) few = elim (few_stay (Number n) a) [ inl w ↦ inl w | inr w ↦ inr (inl w) ]
    asks_by (a ∷ c ∷ xs) few = absurd few

pub executed_outcome : (s : State) (f : Failing) (client number : ℕ) (q : Request) → AreFew s.asks → (is_ask_of q ≡ true → s.asks ≡ []) → Outcome s number q (executed s f client number q)
executed_outcome s f client number (Ask g domain kind) few none = asked_outcome s number client g domain kind (none refl)
executed_outcome s f client number (Release g n) few none = released_outcome s number n g few
executed_outcome s f client number q few none = record { nobody = nobody_in s f client number q refl; says = λ speaks. speaks_so s f client number q refl; quiet = λ r. absurd (cc); asks = inl (kept_asks s f client number q refl) }

pub step_outcome : (s : State) (f : Failing) (client number : ℕ) (q : Request) → s.up ≡ true → AreFew s.asks → (is_ask_of q ≡ true → s.asks ≡ []) → Outcome s number q (step s f client number q)
step_outcome s f client number q up few none = subst (Outcome s number q) (sym (step_up s f client number q up)) (executed_outcome s f client number q few none)
