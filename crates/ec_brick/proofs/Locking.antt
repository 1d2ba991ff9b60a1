-- Requests that no grant guards.
use Rattle.std.proofs.Common.{◌≡◌, ℕ, Bool, true, false, cond, ◌&&◌, Option, Some, None, unwrap_or, is_some, IfSome, List, [], ◌∷◌, ◌++◌, filter, map, refl, sym, ◌∙◌, ap, subst, arith}
use Rattle.std.specs.List.{list_any}
use Rattle.ec_attr.specs.declared.gfid.Gfid.{Gfid}
use Rattle.ec_locks.specs.Asked.{AskedIs, granted, has_to_wait}
use Rattle.ec_locks.specs.Table.{conflicts, free, has, has_number, leaves, let_in, stays, waiter_of}
use Rattle.ec_locks.specs.declared.ask.Ask.{Ask as Asking}
use Rattle.ec_locks.specs.declared.ask.Leaving.TheVariants.{Number}
use Rattle.ec_locks.specs.declared.table.Asked.{Asked}
use Rattle.ec_locks.specs.declared.table.Asked.TheVariants.{Granted as AtOnce, Queued}
use Rattle.ec_locks.specs.declared.waiters.Waiter.{Waiter}
use Rattle.ec_wire.specs.declared.reply.Reply.TheVariants.{Fault, Gfids, Granted}
use Rattle.ec_wire.specs.declared.request.Request.TheVariants.{GfidsAfter}
use Rattle.ec_brick.specs.Gfids.{IsGfidPage}
use Rattle.ec_brick.specs.Index.{IndexIs}
use Rattle.ec_brick.specs.Inner.{granted_reply}
use Rattle.ec_brick.specs.Known.{IsKnownState}
use Rattle.ec_brick.specs.Meets.{Meets}
use Rattle.ec_brick.specs.Replies.{Is, Nothing, Replies, gfids_of, own_of}
use Rattle.ec_brick.specs.State.{State}
use Rattle.ec_brick.specs.Step.{Before, Fine, asked, released, unguarded}
use Rattle.ec_brick.proofs.Known.{all_known}
use Rattle.ec_brick.proofs.Sets.{same_set}

pub state_self : (b : State) → IsKnownState b b
state_self b = record { same_config = refl; known = all_known b.records; same_up = refl; same_asks = refl; same_removed = refl }

with_asks : (b : State) (asks now : List Asking) → now ≡ asks → IsKnownState (record b { asks = asks }) (record b { asks = now })
with_asks b asks now e = record { same_config = refl; known = all_known b.records; same_up = refl; same_asks = e; same_removed = refl }

asked_replies : (asks : List Asking) (a : Asking) (x : Asked) → AskedIs asks a x → Replies (cond (has_to_wait asks a) Nothing (Is Granted)) (granted_reply x)
asked_replies asks a AtOnce e = subst (λ t. Replies (cond t Nothing (Is Granted)) (Some Granted)) (sym e) refl
asked_replies asks a (Queued n) e = subst (λ t. Replies (cond t Nothing (Is Granted)) None) (sym e.0) refl

pub ask_meets : (b : State) (a : Asking) (now : List Asking) (x : Asked) → now ≡ b.asks ++ a ∷ [] → AskedIs b.asks a x → Meets (asked b a) (record { reply = granted_reply x; version = None; granted = [] }) (record b { asks = now })
ask_meets b a now x e is = record { state = with_asks b _ now e; says = asked_replies b.asks a x is; same_version = refl; same_lets_in = refl }

none_left : (n : ℕ) (asks : List Asking) → list_any (has_number n) asks ≡ false → filter (leaves (Number n)) asks ≡ []
none_left n [] e = refl
none_left n (a ∷ asks) e = let rest = none_left n asks in grind arith

any_more : (n : ℕ) (asks : List Asking) (a : Asking) → list_any (has_number n) asks ≡ false → has_number n a ≡ false → list_any (has_number n) (asks ++ a ∷ []) ≡ false
any_more n [] a e f = grind arith
any_more n (x ∷ asks) a e f = let rest = any_more n asks a in grind arith

let_in_step : (n : ℕ) (before rest : List Asking) (a : Asking) → filter (leaves (Number n)) before ≡ [] → let_in (Number n) before (a ∷ rest) ≡ let_in (Number n) (before ++ a ∷ []) rest
let_in_step n before rest a e = ap (λ x. cond (stays (Number n) a && (list_any (λ b. conflicts b a) x && free (filter (stays (Number n)) before) a)) (a ∷ let_in (Number n) (before ++ a ∷ []) rest) (let_in (Number n) (before ++ a ∷ []) rest)) e ∙ grind arith

-- an ask that isn't there lets nobody in
nobody : (n : ℕ) (before rest : List Asking) → list_any (has_number n) before ≡ false → list_any (has_number n) rest ≡ false → let_in (Number n) before rest ≡ []
nobody n before [] e f = refl
nobody n before (a ∷ rest) e f = let_in_step n before rest a (none_left n before e) ∙ nobody n (before ++ a ∷ []) rest (any_more n before a e (grind arith)) (grind arith)

pub released_waiters : (asks : List Asking) (n : ℕ) (o : Option (List Waiter)) → is_some o ≡ has asks n → IfSome o (λ l. l ≡ granted (Number n) asks) → unwrap_or o [] ≡ granted (Number n) asks
released_waiters asks n (Some l) e is = is
released_waiters asks n None e is = sym (ap (map waiter_of) (nobody n [] asks refl (sym e)))

pub release_meets : (b : State) (n : ℕ) (now : List Asking) (l : List Waiter) → now ≡ filter (stays (Number n)) b.asks → l ≡ granted (Number n) b.asks → Meets (released b n) (record { reply = None; version = None; granted = l }) (record b { asks = now })
release_meets b n now l e is = record { state = with_asks b _ now e; says = refl; same_version = refl; same_lets_in = is }

page_of : (after : Option Gfid) (s t : ℕ → Bool) (l : List Gfid) → ((g : ℕ) → s g ≡ t g) → IsGfidPage after s l → IsGfidPage after t l
page_of after s t l each p = subst (λ x. IsGfidPage after x l) (same_set s t each) p

pub dirty_meets : (b : State) (after : Option Gfid) (index : ℕ → Bool) (l : List Gfid) → IndexIs index b.records → IsGfidPage after index l → Meets (unguarded b Fine (own_of (GfidsAfter after true) b.records)) (record { reply = Some (Gfids l); version = None; granted = [] }) b
dirty_meets b after index l i p = record { state = state_self b; says = page_of after index (gfids_of b.records true) l i p; same_version = refl; same_lets_in = refl }

pub records_meet : (b : State) (after : Option Gfid) (l : List Gfid) → IsGfidPage after (λ g. is_some (b.records g)) l → Meets (unguarded b Fine (own_of (GfidsAfter after false) b.records)) (record { reply = Some (Gfids l); version = None; granted = [] }) b
records_meet b after l p = record { state = state_self b; says = p; same_version = refl; same_lets_in = refl }

pub fault_meets : (b : State) (after : Option Gfid) (dirty : Bool) → Meets (unguarded b Before (own_of (GfidsAfter after dirty) b.records)) (record { reply = Some Fault; version = None; granted = [] }) b
fault_meets b after dirty = record { state = state_self b; says = refl; same_version = refl; same_lets_in = refl }
