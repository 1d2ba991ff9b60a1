-- Own entries that are by a table that goes in order are in order.
use Rattle.std.proofs.Common.{◌≡◌, inl, inr, ℕ, ◌+◌, Bool, true, false, refl, sym, ◌∙◌, ap, subst, List, [], ◌∷◌, ◌++◌, Option, Some, None}
use Rattle.ec_attr.specs.declared.kind.LockKind.{LockKind}
use Rattle.ec_conduct.specs.Account.{Account, Place, after}
use Rattle.ec_conduct.specs.Done.{is_lock, is_make, is_post, tried}
use Rattle.ec_conduct.specs.Given.{Given, bricks_of}
use Rattle.ec_conduct.specs.Opened.{account, opened}
use Rattle.ec_conduct.specs.Own.{Own, Sends, Hears, GivesUp, Answers}
use Rattle.ec_conduct.specs.Table.{IsByTable, IsByTurns, IsFromOutside, Send, Step, Turned, sent_all, step_entries, with_answer}
use Rattle.ec_conduct.proofs.Fronts.{account_append}
use Rattle.ec_conduct.proofs.Steps.{step_account}
use Rattle.ec_wire.specs.declared.request.Request.{Request}
use Rattle.ec_txn.specs.Rounds.{IsFirst, IsTaken, give_back, round, subject, unlock, where_so}
use Rattle.ec_txn.specs.Tables.{Begins, Goes, Table}
use Rattle.ec_txn.specs.declared.stage.Next.{Next}
use Rattle.ec_txn.specs.declared.stage.Next.TheVariants.{Go, Say}
use Rattle.ec_txn.proofs.Lists.{bricks_none, sent_append}
use Rattle.ec_txn.proofs.Steps.{opened_place}
use Rattle.ec_law_turns.specs.Orderly.{KeepsOrder, Ordered, is_shared}
use Rattle.ec_law_calls.specs.Parts.{GoesInOrder, Part, Locks, Works}
use Rattle.ec_law_calls.proofs.Clean.{Clean}
use Rattle.ec_law_calls.proofs.Sends.{AllInOrder, each_append, give_back_releases, order_append, order_entries, ordered_append, releases_in_order, unlock_releases, IsRelease}
use Rattle.ec_law_calls.proofs.Stages.{Before, In, comes, holds_outside, holds_released, is_locked, is_locking, is_making, is_posted, round_in, round_ordered, was_locked, was_making, was_posted}

some_same : {X : Type 0} (x y : X) → Some x ≡ Some y → x ≡ y
some_same x y e = cc

none_some : {X : Type 0} (x : X) → None ≡ Some x → ⊥
none_some x e = cc

module _ {P : Type 0} (kind : LockKind) (t : Table P) (order : GoesInOrder kind t) where
  -- What a step does to an account: its sends are in order, and the stage that follows finds the account as its part wants.
  pub record Leaves (c : Account) (i : ℕ) (step : Step P) : Type 0 where
    pub ordered : AllInOrder c i step.sends
    pub goes_on : (q : P) → step.stage ≡ Some q → In kind (order.part q) (with_answer (sent_all c i step.sends) step.answer)

  -- a stage sends what it asks
  asks_leave : (q : P) (c d : Account) (i n : ℕ) → Before kind (order.part q) d → Leaves d i (record { stage = Some q; sends = round n (t.asks q c); answer = None; kept = None })
  asks_leave q c d i n h = record {
    ordered = round_ordered kind (order.part q) d i (t.asks q c) (order.asks q c) h n;
    goes_on = λ z e. subst (λ (y : P). In kind (order.part y) (sent_all d i (round n (t.asks q c)))) (some_same q z e) (round_in kind (order.part q) d i (t.asks q c) (order.asks q c) h n);
  }

  -- a stage lasts, and asks again or nothing
  again_leaves : (p : P) (c : Account) (i : ℕ) (so : Bool) → t.again p ≡ so → In kind (order.part p) c → Leaves c i (record { stage = Some p; sends = round (bricks_of c.given) (where_so so (t.asks p c)); answer = None; kept = None })
  again_leaves p c i false so h = subst (λ (ss : List Send). Leaves c i (record { stage = Some p; sends = ss; answer = None; kept = None })) (sym (bricks_none (bricks_of c.given))) (record {
    ordered = tt;
    goes_on = λ z e. subst (λ (y : P). In kind (order.part y) c) (some_same p z e) h;
  })
  again_leaves p c i true so h = asks_leave p c c i (bricks_of c.given) (subst (λ (y : Part). Before kind y c) (sym w) (comes kind Works Works c tt (subst (λ (y : Part). In kind y c) w h)))
    where
      w : order.part p ≡ Works
      w = order.again p so

  -- a next stage, after the asks that weren't granted are released
  goes_leave : (p q : P) (c : Account) (i n g : ℕ) → t.follows p c (Go q) → In kind (order.part p) c → Leaves c i (record { stage = Some q; sends = unlock c g ++ round n (t.asks q c); answer = None; kept = None })
  goes_leave p q c i n g follows h =
      let b = comes kind (order.part p) (order.part q) c (order.next p q c follows) h in
      let d = sent_all c i (unlock c g) in
      let k = i + Rattle.std.specs.Prelude.length (unlock c g) in
      let bd = holds_released (was_locked (order.part q)) (was_posted (order.part q)) (was_making (order.part q)) (is_locking (order.part q)) kind c i (unlock c g) (unlock_releases c g) b in
      let l = asks_leave q c d k n bd in
      record {
        ordered = order_append c i (unlock c g) (round n (t.asks q c)) (releases_in_order c i (unlock c g) (unlock_releases c g)) l.ordered;
        goes_on = λ z e. subst (λ (a : Account). In kind (order.part z) a) (sym (sent_append c i (unlock c g) (round n (t.asks q c)))) (l.goes_on z e);
      }

  taken : (p : P) (c : Account) (i : ℕ) (step : Step P) (next : Next P) → In kind (order.part p) c → t.follows p c next → IsTaken (subject c.given.op) c (λ q. t.asks q c) next step → Leaves c i step
  taken p c i step (Go q) h follows is = subst (Leaves c i) (sym is) (goes_leave p q c i (bricks_of c.given) (subject c.given.op) follows h)
  taken p c i step (Say answer) h follows is = subst (Leaves c i) (sym is) (record {
    ordered = releases_in_order c i (unlock c (subject c.given.op) ++ give_back c (subject c.given.op)) (each_append IsRelease (unlock c (subject c.given.op)) (give_back c (subject c.given.op)) (unlock_releases c (subject c.given.op)) (give_back_releases c (subject c.given.op)));
    goes_on = λ z e. absurd (none_some z e);
  })

  step_leaves : (p : P) (c : Account) (i : ℕ) (step : Step P) → In kind (order.part p) c → Goes t p c step → Leaves c i step
  step_leaves p c i step h (inl (waits, is)) = subst (Leaves c i) (sym is) (again_leaves p c i (t.again p) refl h)
  step_leaves p c i step h (inr (idle, quiet, next, follows, is)) = taken p c i step next h follows is

  -- ## The first step

  opened_clean : (given : Given) → given.kept ≡ None → (test : Request → Bool) (b : ℕ) → Clean test (opened given) b
  opened_clean given e test b = record { waits = refl; window = λ g. ap (λ (p : Place). tried test p.window) (opened_place given g b e) }

  opened_unqueried : (given : Given) → given.kept ≡ None → Rattle.ec_law_calls.proofs.Windows.Unqueried (opened given)
  opened_unqueried given e g = ap (λ o. (Rattle.ec_conduct.specs.Opened.kept_dealings o g).queried) e

  first_before : (given : Given) → given.kept ≡ None → Before kind (Locks 0) (opened given)
  first_before given e = record {
    unlocked = λ b z. opened_clean given e is_lock b;
    unposted = λ b z. opened_clean given e is_post b;
    unmade = λ b z. opened_clean given e is_make b;
    unqueried = λ z. opened_unqueried given e;
    alone = λ b z. opened_clean given e is_shared b;
  }

  first_leaves : (given : Given) (i : ℕ) (step : Step P) (next : Next P) → given.kept ≡ None → t.starts given next → IsFirst (bricks_of given) (λ q. t.asks q (opened given)) next step → Leaves (opened given) i step
  first_leaves given i step (Go q) e starts is = subst (Leaves (opened given) i) (sym is) (asks_leave q (opened given) (opened given) i (bricks_of given) (subst (λ (p : Part). Before kind p (opened given)) (sym (order.first given q starts)) (first_before given e)))
  first_leaves given i step (Say answer) e starts is = subst (Leaves (opened given) i) (sym is) (record { ordered = tt; goes_on = λ z w. absurd (none_some z w) })

  -- ## All steps

  outside_ordered : (c : Account) (e : Own) → IsFromOutside e → Ordered c e
  outside_ordered c (Sends b i r) out = absurd out
  outside_ordered c (Hears b i reply) out = tt
  outside_ordered c (GivesUp b i) out = tt
  outside_ordered c (Answers answer) out = absurd out

  -- own entries in order, and the account as the part of the stage wants it
  pub record IsInOrder (given : Given) (es : List Own) (stage : Option P) : Type 0 where
    pub ordered : KeepsOrder given es
    pub stands : (q : P) → stage ≡ Some q → In kind (order.part q) (account given es)

  by_turns : (given : Given) → given.kept ≡ None → (ts : List (Turned P)) (es : List Own) (stage : Option P) → IsByTurns (Begins t) (Goes t) given ts es stage → IsInOrder given es stage
  by_turns given e [] es stage (i, step, begins, entries, is) =
      let l = first_leaves given i step begins.0 e begins.1 begins.2 in
      record {
        ordered = subst (KeepsOrder given) (sym entries) (order_entries (opened given) i step.sends step.answer l.ordered);
        stands = λ q w. subst (λ (a : Account). In kind (order.part q) a) (sym (ap (account given) entries ∙ step_account (opened given) i step.sends step.answer)) (l.goes_on q (sym is ∙ w));
      }
  by_turns given e (turn ∷ ts) es stage (earlier, before, by, outside, went, entries, is) =
      let h = by_turns given e ts earlier (Some before) by in
      let a = account given earlier in
      let c = after a turn.what in
      let now = holds_outside (is_locked (order.part before)) (is_posted (order.part before)) (is_making (order.part before)) (is_locking (order.part before)) kind a turn.what outside (h.stands before refl) in
      let l = step_leaves before c turn.number turn.step now went in
      let fs = step_entries turn.number turn.step in
      record {
        ordered = subst (KeepsOrder given) (sym entries) (ordered_append (opened given) earlier (turn.what ∷ fs) h.ordered (outside_ordered a turn.what outside, order_entries c turn.number turn.step.sends turn.step.answer l.ordered));
        stands = λ q w. subst (λ (z : Account). In kind (order.part q) z) (sym (ap (account given) entries ∙ (account_append (opened given) earlier (turn.what ∷ fs) ∙ step_account c turn.number turn.step.sends turn.step.answer))) (l.goes_on q (sym is ∙ w));
      }

  pub by_table : (given : Given) (es : List Own) (stage : Option P) → given.kept ≡ None → IsByTable (Begins t) (Goes t) given es stage → KeepsOrder given es
  by_table given es stage e (ts, by) = (by_turns given e ts es stage by).ordered
