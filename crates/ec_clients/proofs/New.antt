-- Clients that have made no call.
use Rattle.std.proofs.Common.{BTreeSet, ◌≡◌, ℕ, zero, suc, Bool, false, Option, Some, None, List, [], ◌∷◌, ◌++◌, ◌+◌, refl, sym, ◌∙◌, ap, arith, subst, length, replicate}
use Rattle.std.proofs.lemmas.List.{length-replicate}
use Rattle.std.specs.Prelude.{slice_get}
use Rattle.std.specs.BTreeSet.{IsEmpty, contains}
use Rattle.std.specs.Ordering.{nat_cmp}
use Rattle.ec_brick.specs.State.{State}
use Rattle.ec_cluster.specs.Said.{said_in}
use Rattle.ec_cluster.specs.Views.{log_of}
use Rattle.ec_cluster.specs.declared.cluster.Cluster.{Cluster}
use Rattle.ec_conduct.specs.Given.{Given}
use Rattle.ec_conduct.specs.Own.{Own}
use Rattle.ec_history.specs.Flat.{Tree}
use Rattle.ec_txn.specs.declared.ctx.Ctx.{Ctx}
use Rattle.ec_clients.specs.Beginning.{beginning}
use Rattle.ec_clients.specs.Owned.{Sees}
use Rattle.ec_clients.specs.Views.{is_released, is_true, slots_of}
use Rattle.ec_clients.specs.declared.clients.Clients.{Clients}
use Rattle.ec_clients.specs.declared.clients.Running.{Running}

replicate_suc : {X : Type 0} (n : ℕ) (x : X) → replicate n x ++ x ∷ [] ≡ replicate (suc n) x
replicate_suc zero x = refl
replicate_suc (suc n) x = ap (λ (l : List _). x ∷ l) (replicate_suc n x)

pub replicate_more : {X : Type 0} (n : ℕ) (x : X) → replicate n x ++ x ∷ [] ≡ replicate (n + 1) x
replicate_more n x = let e : suc n ≡ n + 1 = omega arith in replicate_suc n x ∙ ap (λ (k : ℕ). replicate k x) e

pub replicate_all : {X : Type 0} (xs : List X) (n m : ℕ) (x : X) → xs ≡ replicate n x → n ≡ m → length xs ≡ m
replicate_all xs n m x e f = ap length e ∙ (length-replicate n x ∙ f)

pub none_released : (s : BTreeSet ℕ) → IsEmpty s → (i : ℕ) → contains nat_cmp s i ≡ false
none_released s e i = subst (λ (ks : List ℕ). contains nat_cmp (record { keys = ks }) i ≡ false) (sym e) refl

idle_at : {X : Type 0} (n j : ℕ) (r : X) → slice_get (replicate {A = Option X} n None) j ≡ Some (Some r) → ⊥
idle_at zero j r e = absurd (cc)
idle_at (suc n) zero r e = absurd (cc)
idle_at (suc n) (suc j) r e = idle_at n j r e

alive_at : (n j : ℕ) → is_true (slice_get (replicate n false) j) ≡ false
alive_at zero j = refl
alive_at (suc n) zero = refl
alive_at (suc n) (suc j) = alive_at n j

module _ {C : Type 0} (stands : Ctx → Given → C → List Own → Type 0) (by_table : Ctx → Given → List Own → Type 0) where
  pub new_sees : (c : Clients C) (n : ℕ) → slots_of c ≡ replicate n None → c.dead.items ≡ replicate n false → c.calls ≡ 0 → ((i : ℕ) → is_released c i ≡ false) → (s : Cluster) (bricks : ℕ → State) (tree : Tree) → log_of s ≡ [] → Sees stands by_table s c (beginning bricks tree c.next_gfid)
  new_sees c n slots dead calls released s bricks tree log = record {
    seen = record {
      said = ap said_in (sym log);
      clients = record {
        count = sym calls;
        gfid = refl;
        dead = λ j. sym (ap (λ (xs : List Bool). is_true (slice_get xs j)) dead ∙ alive_at n j);
        released = λ i. sym (released i);
        calls = record {
          made = λ a asker e. absurd (cc);
          given = λ a given e. absurd (cc);
          later = λ a e. record { asker = refl; given = refl; answered = refl; own = refl; awaits = λ b. refl };
          range = λ a lt. refl;
          no_grants = λ j. refl;
          no_stripes = λ j. refl;
        };
        slots = record {
          runs = λ j r e. absurd (idle_at n j r (ap (λ (xs : List (Option (Running C))). slice_get xs j) (sym slots) ∙ e));
          unanswered = λ a asker e un out. absurd (cc);
          ended = λ a asker e un. absurd (cc);
        };
      };
    };
    owned = λ i m q e b. absurd (cc);
    below = λ i m e. absurd (cc);
    booked = record { asks = λ i m g domain kind e b. absurd (cc); releases = λ a b i n g has. absurd (let lt = has.1 in omega arith) };
  }
