-- A brick that is up makes the step of its table.
use Rattle.std.proofs.Common.{◌≡◌, ℕ, true, false, cond, Option, Some, None, List, [], refl, sym, ◌∙◌, ap, subst, arith}
use Rattle.ec_store.specs.Records.{Records}
use Rattle.ec_wire.specs.declared.reply.Reply.{Reply}
use Rattle.ec_wire.specs.declared.request.Request.{Request}
use Rattle.ec_wire.specs.declared.request.Request.TheVariants.{Ask, Release, GfidsAfter}
use Rattle.ec_locks.specs.declared.ask.Ask.{Ask as Asking}
use Rattle.ec_brick.specs.Inner.{KeepsLocks}
use Rattle.ec_brick.specs.Meets.{Meets, MeetsLocks, is_locking}
use Rattle.ec_brick.specs.Replies.{Says}
use Rattle.ec_brick.specs.Rows.{fence, row_of}
use Rattle.ec_brick.specs.State.{State, state}
use Rattle.ec_brick.specs.Step.{Before, Failing, Fine, Out, Within, Work, by_row, executed, fenced, judged, quiet, step, unguarded, work}
use Rattle.ec_brick.specs.declared.brick.Brick.{Brick}
use Rattle.ec_brick.specs.declared.effects.Effects.{Effects}
use Rattle.ec_brick.specs.declared.row.Row.{Row}

pub step_up : (b : State) (f : Failing) (client number : ℕ) (q : Request) → b.up ≡ true → step b f client number q ≡ executed b f client number q
step_up b f client number q up = ap (λ t. cond t (executed b f client number q) (quiet b)) up

pub row_step : (b : State) (f : Failing) (client number : ℕ) (q : Request) (r : Row) → row_of q ≡ Some r → executed b f client number q ≡ by_row b f (work b q) (Some r)
row_step b f client number (Ask g domain kind) r e = cc
row_step b f client number (Release g n) r e = cc
row_step b f client number (GfidsAfter after dirty) r e = cc
row_step b f client number q r e = ap (by_row b f (work b q)) e

pub up_meets : (b : State) (f : Failing) (client number : ℕ) (q : Request) (e : Effects) (now : State) → b.up ≡ true → Meets (executed b f client number q) e now → Meets (step b f client number q) e now
up_meets b f client number q e now up h = subst (λ o. Meets o e now) (sym (step_up b f client number q up)) h

pub row_meets : (b : State) (f : Failing) (client number : ℕ) (q : Request) (r : Row) (e : Effects) (now : State) → b.up ≡ true → row_of q ≡ Some r → Meets (by_row b f (work b q) (Some r)) e now → Meets (step b f client number q) e now
row_meets b f client number q r e now up row h = up_meets b f client number q e now up (subst (λ o. Meets o e now) (sym (row_step b f client number q r row)) h)

-- what holds of a brick, of its state after the work and after a work that failed, holds after a guarded request
judged_keeps : (P : State → Type 0) (b : State) (f : Failing) (w : Work) (v : Option ℕ) (o : Option Reply) → P b → P w.done → P w.broken → P (judged b f w v o).brick
judged_keeps P b Fine w v None same done broken = done
judged_keeps P b Before w v None same done broken = same
judged_keeps P b Within w v None same done broken = broken
judged_keeps P b f w v (Some y) same done broken = same

fenced_keeps : (P : State → Type 0) (b : State) (f : Failing) (w : Work) (r : Row) (o : Option Reply) → P b → P w.done → P w.broken → P (fenced b f w r o).brick
fenced_keeps P b f w r (Some y) same done broken = same
fenced_keeps P b Fine w r None same done broken = judged_keeps P b Fine w _ _ same done broken
fenced_keeps P b Before w r None same done broken = same
fenced_keeps P b Within w r None same done broken = judged_keeps P b Within w _ _ same done broken

pub row_keeps : (P : State → Type 0) (b : State) (f : Failing) (w : Work) (o : Option Row) → P b → P w.done → P w.broken → P (by_row b f w o).brick
row_keeps P b f w None same done broken = same
row_keeps P b f w (Some r) same done broken = fenced_keeps P b f w r _ same done broken

judged_lets_in : (b : State) (f : Failing) (w : Work) (v : Option ℕ) (o : Option Reply) → (judged b f w v o).lets_in ≡ []
judged_lets_in b Fine w v None = refl
judged_lets_in b Before w v None = refl
judged_lets_in b Within w v None = refl
judged_lets_in b f w v (Some y) = refl

fenced_lets_in : (b : State) (f : Failing) (w : Work) (r : Row) (o : Option Reply) → (fenced b f w r o).lets_in ≡ []
fenced_lets_in b f w r (Some y) = refl
fenced_lets_in b Fine w r None = judged_lets_in b Fine w _ _
fenced_lets_in b Before w r None = refl
fenced_lets_in b Within w r None = judged_lets_in b Within w _ _

pub row_lets_in : (b : State) (f : Failing) (w : Work) (o : Option Row) → (by_row b f w o).lets_in ≡ []
row_lets_in b f w None = refl
row_lets_in b f w (Some r) = fenced_lets_in b f w r _

pub locks_meet : (out : Out) (q : Request) (e : Effects) (now : State) → Meets out e now → MeetsLocks out q e now
locks_meet out q e now h = record { same_config = h.state.same_config; same_up = h.state.same_up; same_asks = h.state.same_asks; same_lets_in = h.same_lets_in; says = λ locking. h.says }

no_locking : (q : Request) (r : Row) → row_of q ≡ Some r → is_locking q ≡ false
no_locking (Ask g domain kind) r e = cc
no_locking (Release g n) r e = cc
no_locking q r e = refl

-- a guarded request leaves the locks
pub row_locks : (old new : Brick) (m : Records) (f : Failing) (client number : ℕ) (q : Request) (r : Row) (e : Effects) → old.up ≡ true → row_of q ≡ Some r → KeepsLocks old new → e.granted ≡ [] → MeetsLocks (step (state old m) f client number q) q e (state new m)
row_locks old new m f client number q r e up row kept granted =
    let b = state old m in
    subst (λ o. MeetsLocks o q e (state new m)) (sym (step_up b f client number q up ∙ row_step b f client number q r row))
    (record { same_config = row_keeps (λ s. new.config ≡ s.config) b f (work b q) (Some r) kept.same_config kept.same_config kept.same_config; same_up = row_keeps (λ s. new.up ≡ s.up) b f (work b q) (Some r) kept.same_up kept.same_up kept.same_up; same_asks = row_keeps (λ s. new.locks ≡ s.asks) b f (work b q) (Some r) kept.same_locks kept.same_locks kept.same_locks; same_lets_in = granted ∙ sym (row_lets_in b f (work b q) (Some r)); says = λ locking. (let not = no_locking q r row in cc) })

unguarded_brick : (b : State) (f : Failing) (own : Says) → (unguarded b f own).brick ≡ b
unguarded_brick b Fine own = refl
unguarded_brick b Before own = refl
unguarded_brick b Within own = refl

unguarded_lets_in : (b : State) (f : Failing) (own : Says) → (unguarded b f own).lets_in ≡ []
unguarded_lets_in b Fine own = refl
unguarded_lets_in b Before own = refl
unguarded_lets_in b Within own = refl

pub gfids_locks : (b : State) (f : Failing) (client number : ℕ) (q : Request) (e : Effects) → b.up ≡ true → (own : Says) → executed b f client number q ≡ unguarded b f own → is_locking q ≡ false → e.granted ≡ [] → MeetsLocks (step b f client number q) q e b
gfids_locks b f client number q e up own is not granted =
    subst (λ o. MeetsLocks o q e b) (sym (step_up b f client number q up ∙ is))
    (record { same_config = ap (λ s. s.config) (sym (unguarded_brick b f own)); same_up = ap (λ s. s.up) (sym (unguarded_brick b f own)); same_asks = ap (λ s. s.asks) (sym (unguarded_brick b f own)); same_lets_in = granted ∙ sym (unguarded_lets_in b f own); says = λ locking. cc })

pub same_fence : (asks : List Asking) (q : Request) (r s : Row) (y : Reply) → row_of q ≡ Some r → row_of q ≡ Some s → fence asks r ≡ Some y → fence asks s ≡ Some y
same_fence asks q r s y e f h = let same : r ≡ s = grind arith in subst (λ (x : Row). fence asks x ≡ Some y) same h
