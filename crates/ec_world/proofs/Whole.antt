-- A world that is begun, and that goes on.
use Rattle.std.proofs.Common.{◌≡◌, ◌⊎◌, inr, ℕ, List, [], Option, Result, Ok, Err, refl, sym, ◌∙◌, ap, subst}
use Rattle.ec_brick.specs.State.{State}
use Rattle.ec_attr.specs.declared.geometry.Geometry.{Geometry}
use Rattle.ec_calls.specs.declared.any.AnyCall.{AnyCall}
use Rattle.ec_clients.specs.Beginning.{HasClients, beginning}
use Rattle.ec_clients.specs.Come.{Come, come}
use Rattle.ec_clients.specs.Owned.{Sees}
use Rattle.ec_clients.specs.declared.clients.Clients.{Clients}
use Rattle.ec_clients.proofs.Goings.{net_is}
use Rattle.ec_cluster.specs.Matches.{Matches}
use Rattle.ec_cluster.specs.Open.{IsEmpty, opened_state}
use Rattle.ec_cluster.specs.Sound.{IsSound}
use Rattle.ec_cluster.specs.Views.{log_of, size_of}
use Rattle.ec_cluster.specs.declared.cluster.Cluster.{Cluster}
use Rattle.ec_conduct.specs.Given.{Given}
use Rattle.ec_conduct.specs.Own.{Own}
use Rattle.ec_history.specs.Flat.{Tree, blank}
use Rattle.ec_history.specs.Run.{Net, fresh, run}
use Rattle.ec_history.specs.Script.{Step}
use Rattle.ec_store.specs.Records.{Records}
use Rattle.ec_txn.specs.declared.ctx.Ctx.{Ctx}
use Rattle.ec_wire.specs.declared.entry.Entry.{Entry}
use Rattle.ec_wire.specs.declared.event.Event.{Event}
use Rattle.ec_world.proofs.Held.{held_unanswered}
use Rattle.ec_world.proofs.Outcomes.{stays_world}
use Rattle.ec_world.specs.Events.{FirstOfEvent, OfEvent, Outcome, Stepped}
use Rattle.ec_world.specs.Unanswered.{AreHeld, AreUnanswered}
use Rattle.ec_world.specs.Whole.{IsAs, IsOpen, StaysOpen}
use Rattle.ec_world.specs.World.{IsWorld}
use Rattle.ec_world.specs.declared.refused.Refused.{Refused}
use Rattle.ec_world.specs.declared.refused.Refused.TheVariants.{NoMessage, NoneBetween, Busy, Idle, Dead, Down, Up, NoBrick, NotAsked, NotTearable, TooMany, NotKeeping, Unbuilt, NoMemory}
use Rattle.ec_world.specs.declared.world.World.{World}

-- bricks without records, and a tree without files
some_bricks : Geometry → ℕ → State
some_bricks g b = opened_state (record { geometry = g }) (λ x. Option.None)

some_tree : Tree
some_tree g = blank

module _ {C : Type 0} (stands : Ctx → Given → C → List Own → Type 0) (by_table : Ctx → Given → List Own → Type 0) (s : Cluster) (c : Clients C) where
  -- clients that have made no call, over a cluster with an empty log
  pub begun_world : (first : ℕ) → IsSound s → IsEmpty s → size_of s ≡ c.options.geometry.n → HasClients c → ((bricks : ℕ → State) (tree : Tree) → Sees stands by_table s c (beginning bricks tree first)) → IsWorld stands by_table s c
  begun_world first sound empty size many h = record {
    sound = sound;
    size = size;
    many = many;
    first = first;
    sees = λ bricks tree. subst (λ (l : List Entry). Sees stands by_table s c (come c.options.geometry l (beginning bricks tree first))) (sym empty.log) (h bricks tree);
  }

  -- what the clients see, whatever the bricks were at first
  pub sees_over : IsWorld stands by_table s c → (bricks : ℕ → State) → (p : Come) × Sees stands by_table s c p × (p.net ≡ run (log_of s) (fresh bricks))
  sees_over w bricks = (come c.options.geometry (log_of s) (beginning bricks some_tree w.first), w.sees bricks some_tree, net_is c.options.geometry (log_of s) (beginning bricks some_tree w.first))

  pub sees_some : IsWorld stands by_table s c → (p : Come) × Sees stands by_table s c p
  sees_some w = let x = sees_over w (some_bricks c.options.geometry) in (x.0, x.1)

  pub unanswered_is : IsWorld stands by_table s c → (calls : List ℕ) → AreHeld c calls → (bricks : ℕ → State) → AreUnanswered (run (log_of s) (fresh bricks)) calls
  unanswered_is w calls h bricks = let x = sees_over w bricks in subst (λ (m : Net). AreUnanswered m calls) x.2 (held_unanswered stands by_table s c x.0 x.1 calls h)

module _ {C : Type 0} (stands : Ctx → Given → C → List Own → Type 0) (by_table : Ctx → Given → List Own → Type 0) (Told : Type 0) where
  keeps_size : (Of First : Come → List Step → Type 0) (s t : Cluster) (c d : Clients C) (before after : List Records) (o : Option Refused) (result : Result (Unit {0}) Refused) → Stepped stands by_table Told Of First s t c d before after o result → (result ≡ Err NoMemory → ⊥) → size_of t ≡ size_of s
  keeps_size Of First s t c d before after o (Ok x) h ne = h.1.size
  keeps_size Of First s t c d before after o (Err NoMemory) h ne = absurd (ne refl)
  keeps_size Of First s t c d before after o (Err Unbuilt) h ne = ap size_of h.1
  keeps_size Of First s t c d before after o (Err (NoMessage n)) h ne = ap size_of h.1
  keeps_size Of First s t c d before after o (Err (NoneBetween x y)) h ne = ap size_of h.1
  keeps_size Of First s t c d before after o (Err (Busy n)) h ne = ap size_of h.1
  keeps_size Of First s t c d before after o (Err (Idle n)) h ne = ap size_of h.1
  keeps_size Of First s t c d before after o (Err (Dead n)) h ne = ap size_of h.1
  keeps_size Of First s t c d before after o (Err (Down n)) h ne = ap size_of h.1
  keeps_size Of First s t c d before after o (Err (Up n)) h ne = ap size_of h.1
  keeps_size Of First s t c d before after o (Err (NoBrick n)) h ne = ap size_of h.1
  keeps_size Of First s t c d before after o (Err (NotAsked x y)) h ne = ap size_of h.1
  keeps_size Of First s t c d before after o (Err (NotTearable n)) h ne = ap size_of h.1
  keeps_size Of First s t c d before after o (Err (TooMany n)) h ne = ap size_of h.1
  keeps_size Of First s t c d before after o (Err (NotKeeping n)) h ne = ap size_of h.1

module _ (stands : Ctx → Given → AnyCall → List Own → Type 0) (by_table : Ctx → Given → List Own → Type 0) where
  open_after : (t : World) (result : Result (Unit {0}) Refused) → ((result ≡ Err NoMemory → ⊥) → IsOpen stands by_table t) → StaysOpen stands by_table t result
  open_after t (Ok x) h = h (λ e. absurd (cc))
  open_after t (Err (NoMessage n)) h = h (λ e. absurd (cc))
  open_after t (Err (NoneBetween x y)) h = h (λ e. absurd (cc))
  open_after t (Err (Busy n)) h = h (λ e. absurd (cc))
  open_after t (Err (Idle n)) h = h (λ e. absurd (cc))
  open_after t (Err (Dead n)) h = h (λ e. absurd (cc))
  open_after t (Err (Down n)) h = h (λ e. absurd (cc))
  open_after t (Err (Up n)) h = h (λ e. absurd (cc))
  open_after t (Err (NoBrick n)) h = h (λ e. absurd (cc))
  open_after t (Err (NotAsked x y)) h = h (λ e. absurd (cc))
  open_after t (Err (NotTearable n)) h = h (λ e. absurd (cc))
  open_after t (Err (TooMany n)) h = h (λ e. absurd (cc))
  open_after t (Err (NotKeeping n)) h = h (λ e. absurd (cc))
  open_after t (Err Unbuilt) h = h (λ e. absurd (cc))
  open_after t (Err NoMemory) h = tt

  -- an event leaves a world open
  pub stays_open : (Told : Type 0) (event : Event) (w t : World) (before after : List Records) (result : Result (Unit {0}) Refused) → IsOpen stands by_table w → t.bricks ≡ w.bricks → Outcome stands by_table Told event w.cluster t.cluster w.clients t.clients before after result → StaysOpen stands by_table t result
  stays_open Told event w t before after result o bricks h = open_after t result (λ ne. let world = stays_world stands by_table Told event w.cluster t.cluster w.clients t.clients before after result o.world h ne in record { world = world; size = keeps_size stands by_table Told (OfEvent (size_of w.cluster) event) (FirstOfEvent (size_of w.cluster) event) w.cluster t.cluster w.clients t.clients before after h.0 result h.2 ne ∙ (o.size ∙ sym bricks) })

  pub begun_as : (w : World) (bricks : ℕ → State) (first : ℕ) (records : List Records) → ((bricks : ℕ → State) (tree : Tree) → Sees stands by_table w.cluster w.clients (beginning bricks tree first)) → Matches w.cluster records (fresh bricks) → IsAs stands by_table w records (fresh bricks)
  begun_as w bricks first records h m = record { come = beginning bricks some_tree first; net = refl; sees = h bricks some_tree; matches = m }
