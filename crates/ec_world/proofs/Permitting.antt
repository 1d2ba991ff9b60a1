-- What isn't refused.
use Rattle.std.proofs.Common.{◌≡◌, ℕ, ◌<◌, ◌≤◌, Bool, true, false, cond, Option, Some, None, List, [], ◌∷◌, refl, sym, ◌∙◌, ap, subst, arith, length, zero, suc}
use Rattle.std.proofs.lemmas.Bool.Decides.{nat_tests}
use Rattle.std.specs.Prelude.{is_some, nat_lt, slice_get}
use Rattle.ec_clients.specs.Hearing.{IsWaiting}
use Rattle.ec_clients.specs.Views.{is_dead_at, joined, running_at}
use Rattle.ec_clients.specs.declared.clients.Clients.{Clients}
use Rattle.ec_clients.proofs.Places.{some_is}
use Rattle.ec_clients.specs.declared.clients.Running.{Running}
use Rattle.ec_conduct.specs.Given.{Given}
use Rattle.ec_conduct.specs.Own.{Own}
use Rattle.ec_txn.specs.declared.ctx.Ctx.{Ctx}
use Rattle.ec_cluster.specs.Tears.{bytes_at}
use Rattle.ec_cluster.specs.Views.{flight, is_up_at, size_of}
use Rattle.ec_cluster.specs.declared.cluster.Cluster.{Cluster}
use Rattle.ec_wire.specs.Lanes.{is_going}
use Rattle.ec_wire.specs.declared.event.Which.{Which}
use Rattle.ec_wire.specs.declared.event.Which.TheVariants.{Number, ToBrick, ToClient}
use Rattle.ec_wire.specs.declared.message.Message.{Message}
use Rattle.ec_world.specs.Refusals.{IsAwaitedBy, IsFound, brick_of, busy, bytes_refusal, call_refusal, die_refusal, give_up_refusal, idle, return_refusal, stop_refusal, tear_refusal, until_refusal}
use Rattle.ec_world.specs.declared.refused.Refused.{Refused}
use Rattle.ec_world.specs.declared.refused.Refused.TheVariants.{Dead, Down, NoBrick, TooMany, Up}

pub may_stop : (s : Cluster) (b : ℕ) → b < size_of s → is_up_at s b ≡ true → stop_refusal s b ≡ None
may_stop s b lt up = (λ i. cond (below i) (cond (up i) None (Some (Down b))) (Some (NoBrick b)))
  where
    below : nat_lt b (size_of s) ≡ true
    below = grind (arith, nat_tests)

pub may_return : (s : Cluster) (b : ℕ) → b < size_of s → is_up_at s b ≡ false → return_refusal s b ≡ None
may_return s b lt down = (λ i. cond (below i) (cond (down i) (Some (Up b)) None) (Some (NoBrick b)))
  where
    below : nat_lt b (size_of s) ≡ true
    below = grind (arith, nat_tests)

-- the number that a script names is in flight
going_flies : (client b : ℕ) (way : Bool) (m : Option Message) → is_going client b way m ≡ true → is_some m ≡ true
going_flies client b way None e = absurd (cc)
going_flies client b way (Some m) e = refl

pub found_flies : (s : Cluster) (which : Which) (n : ℕ) → IsFound s which (Some n) → is_some (flight s n) ≡ true
found_flies s (Number x) n e = test (is_some (flight s x)) refl e
  where
    test : (u : Bool) → is_some (flight s x) ≡ u → Some n ≡ cond u (Some x) None → is_some (flight s n) ≡ true
    test true f h = (λ i. is_some (flight s (some_is n x h i))) ∙ f
    test false f h = absurd (cc)
found_flies s (ToBrick client b) n e = going_flies client b true (flight s n) e.0
found_flies s (ToClient client b) n e = going_flies client b false (flight s n) e.0

pub may_die : {C : Type 0} (c : Clients C) (j : ℕ) → is_dead_at c j ≡ false → die_refusal c j ≡ None
may_die c j lives = (λ i. cond (lives i) (Some (Dead j)) None)

pub may_call : {C : Type 0} (c : Clients C) (j : ℕ) (wrong : Option ℕ) → is_dead_at c j ≡ false → running_at c j ≡ None → wrong ≡ None → call_refusal c j wrong ≡ None
may_call c j wrong lives free right = (λ i. cond (lives i) (Some (Dead j)) (busy (free i) (right i)))

pub slot_idle : {X : Type 0} (xs : List (Option X)) (j : ℕ) → j < length xs → joined (slice_get xs j) ≡ None → slice_get xs j ≡ Some None
slot_idle xs j lt e = let p = has_slot xs j lt in p.1 ∙ ap Some (sym (ap joined p.1) ∙ e)
  where
    has_slot : {Y : Type 0} (ys : List Y) (b : ℕ) → b < length ys → (y : Y) × (slice_get ys b ≡ Some y)
    has_slot [] b l = absurd (omega arith)
    has_slot (y ∷ ys) zero l = (y, refl)
    has_slot (y ∷ ys) (suc b) l = has_slot ys b (omega arith)

pub may_give_up : {C : Type 0} (s : Cluster) (c : Clients C) (j b n : ℕ) → b < size_of s → is_dead_at c j ≡ false → give_up_refusal s c j b (Some n) ≡ None
may_give_up s c j b n lt lives = (λ i. cond (below i) (cond (lives i) (Some (Dead j)) None) (Some (NoBrick b)))
  where
    below : nat_lt b (size_of s) ≡ true
    below = grind (arith, nat_tests)

-- a call that waits for a brick, as its client has it
pub waiting_of : {C : Type 0} (stands : Ctx → Given → C → List Own → Type 0) (c : Clients C) (j b n : ℕ) → IsAwaitedBy stands (running_at c j) b (Some n) → IsWaiting stands c j b n
waiting_of {C} stands c j b n h = by (running_at c j) refl h
  where
    by : (o : Option (Running C)) → running_at c j ≡ o → IsAwaitedBy stands o b (Some n) → IsWaiting stands c j b n
    by None e k = absurd (cc)
    by (Some r) e k = record { running = r; runs = e; awaits = k }

pub may_tear : (s : Cluster) (which : Which) (n most bytes : ℕ) → bytes_at s n ≡ Some most → is_up_at s (brick_of (flight s n)) ≡ true → bytes ≤ most → tear_refusal s which (Some n) bytes ≡ None
may_tear s which n most bytes e up le = (λ i. bytes_refusal n (e i) (up i) (brick_of (flight s n)) bytes) ∙ (λ i. cond (enough i) (Some (TooMany bytes)) None)
  where
    enough : nat_lt most bytes ≡ false
    enough = grind (arith, nat_tests)

pub may_until : {C : Type 0} (c : Clients C) (j : ℕ) (r : Running C) → is_dead_at c j ≡ false → running_at c j ≡ Some r → until_refusal c j ≡ None
may_until c j r lives runs = (λ i. cond (lives i) (Some (Dead j)) (idle (runs i) j))
