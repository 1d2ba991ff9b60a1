-- What comes of an event, from what comes of its steps.
use Rattle.std.proofs.Common.{◌≡◌, ℕ, [], ◌++◌, Option, Some, None, List, Result, Ok, Err, refl, sym, ◌∙◌, ap, subst}
use Rattle.ec_attr.specs.declared.geometry.Geometry.{Geometry}
use Rattle.ec_brick.specs.State.{State}
use Rattle.ec_clients.specs.Beginning.{HasClients, beginning}
use Rattle.ec_clients.specs.Come.{Come, come}
use Rattle.ec_clients.specs.Owned.{Sees}
use Rattle.ec_clients.specs.declared.clients.Clients.{Clients}
use Rattle.ec_clients.specs.declared.options.Options.{Options}
use Rattle.ec_clients.proofs.Goings.{come_append}
use Rattle.ec_cluster.specs.Views.{log_of, size_of}
use Rattle.ec_cluster.specs.declared.cluster.Cluster.{Cluster}
use Rattle.ec_conduct.specs.Given.{Given}
use Rattle.ec_conduct.specs.Own.{Own}
use Rattle.ec_history.specs.Flat.{Tree}
use Rattle.ec_history.specs.Script.{Step, entries_of}
use Rattle.ec_store.specs.Records.{Records}
use Rattle.ec_txn.specs.declared.ctx.Ctx.{Ctx}
use Rattle.ec_wire.specs.declared.entry.Entry.{Entry}
use Rattle.ec_wire.specs.declared.event.Event.{Event}
use Rattle.ec_world.specs.Events.{Advances, FirstOfEvent, OfEvent, Outcome, Refuses, Stepped}
use Rattle.ec_world.specs.Refusals.{IsRefusal}
use Rattle.ec_world.specs.World.{IsWorld}
use Rattle.ec_world.specs.declared.refused.Refused.{Refused}
use Rattle.ec_world.specs.declared.refused.Refused.TheVariants.{NoMessage, NoneBetween, Busy, Idle, Dead, Down, Up, NoBrick, NotAsked, NotTearable, TooMany, NotKeeping, Unbuilt, NoMemory}
use Rattle.ec_world.proofs.Advancing.{same_breaks}
use Rattle.ec_world.proofs.Becoming.{stepped_by}

module _ {C : Type 0} (stands : Ctx → Given → C → List Own → Type 0) (by_table : Ctx → Given → List Own → Type 0) (Told : Type 0) (event other : Event) (is : other ≡ event) (s t : Cluster) (c d : Clients C) where
  pub store_outcome : (before after : List Records) (o : Option Refused) (result : Result (Unit {0}) Refused) → IsRefusal stands s c event o → Stepped stands by_table Told (OfEvent (size_of s) event) (FirstOfEvent (size_of s) event) s t c d before after o result → Outcome stands by_table Told other s t c d before after result
  store_outcome before after o result r x = subst (λ (e : Event). Outcome stands by_table Told e s t c d before after result) (sym is) (o, r, x)

  -- of steps that no store decides
  pub told_outcome : (records : List Records) (o : Option Refused) (result : Result (Unit {0}) Refused) → IsRefusal stands s c event o → Stepped stands by_table (Unit {0}) (OfEvent (size_of s) event) (FirstOfEvent (size_of s) event) s t c d records records o result → Outcome stands by_table Told other s t c d records records result
  told_outcome records o result r x = store_outcome records records o result r (stepped_by stands by_table (Unit {0}) Told (OfEvent (size_of s) event) (OfEvent (size_of s) event) (FirstOfEvent (size_of s) event) (FirstOfEvent (size_of s) event) s t c d records records (λ told. tt) (λ p steps h m y. y) (λ p steps h m y. y) o o (λ e. e) (λ e y. y) result x)

-- what is refused at once
module _ {C : Type 0} (stands : Ctx → Given → C → List Own → Type 0) (by_table : Ctx → Given → List Own → Type 0) (Told : Type 0) (First : Come → List Step → Type 0) (s : Cluster) (c : Clients C) (records : List Records) (o : Option Refused) (none : (p : Come) → First p []) where
  pub refuses_same : (e : Refused) → o ≡ Some e → Refuses stands by_table Told First s s c c records records o e
  refuses_same NoMemory h = same_breaks stands by_table Told First s s c records none refl
  refuses_same (NoMessage n) h = (h, refl, refl, refl)
  refuses_same (NoneBetween x y) h = (h, refl, refl, refl)
  refuses_same (Busy n) h = (h, refl, refl, refl)
  refuses_same (Idle n) h = (h, refl, refl, refl)
  refuses_same (Dead n) h = (h, refl, refl, refl)
  refuses_same (Down n) h = (h, refl, refl, refl)
  refuses_same (Up n) h = (h, refl, refl, refl)
  refuses_same (NoBrick n) h = (h, refl, refl, refl)
  refuses_same (NotAsked x y) h = (h, refl, refl, refl)
  refuses_same (NotTearable n) h = (h, refl, refl, refl)
  refuses_same (TooMany n) h = (h, refl, refl, refl)
  refuses_same (NotKeeping n) h = (h, refl, refl, refl)
  refuses_same Unbuilt h = (h, refl, refl, refl)

module _ {C : Type 0} (stands : Ctx → Given → C → List Own → Type 0) (by_table : Ctx → Given → List Own → Type 0) (Told : Type 0) where
  advanced : (Of : Come → List Step → Type 0) (s t : Cluster) (c d : Clients C) (before after : List Records) → IsWorld stands by_table s c → Advances stands by_table Told Of s t c d before after → IsWorld stands by_table t d
  advanced Of s t c d before after w x = record {
    sound = x.sound;
    size = x.size ∙ (w.size ∙ sym (ap (λ (o : Options). o.geometry.n) x.options));
    many = record { slots = x.many.slots ∙ w.many.slots; lives = x.many.lives ∙ w.many.lives };
    first = w.first;
    sees = λ bricks tree. subst (λ (z : Come). Sees stands by_table t d z) (sym (goes bricks tree)) (x.leads (come c.options.geometry (log_of s) (beginning bricks tree w.first)) (w.sees bricks tree));
  }
    where
      goes : (bricks : ℕ → State) (tree : Tree) → come d.options.geometry (log_of t) (beginning bricks tree w.first) ≡ come c.options.geometry (entries_of x.steps) (come c.options.geometry (log_of s) (beginning bricks tree w.first))
      goes bricks tree = ap (λ (o : Options). come o.geometry (log_of t) (beginning bricks tree w.first)) x.options ∙ (ap (λ (l : List Entry). come c.options.geometry l (beginning bricks tree w.first)) x.log ∙ come_append c.options.geometry (log_of s) (entries_of x.steps) (beginning bricks tree w.first))

  same_world : (s t : Cluster) (c d : Clients C) → IsWorld stands by_table s c → t ≡ s → d ≡ c → IsWorld stands by_table t d
  same_world s t c d w e f = subst (λ (u : Cluster). IsWorld stands by_table u d) (sym e) (subst (λ (x : Clients C). IsWorld stands by_table s x) (sym f) w)

  stepped_world : (Of First : Come → List Step → Type 0) (s t : Cluster) (c d : Clients C) (before after : List Records) (o : Option Refused) (result : Result (Unit {0}) Refused) → IsWorld stands by_table s c → Stepped stands by_table Told Of First s t c d before after o result → (result ≡ Err NoMemory → ⊥) → IsWorld stands by_table t d
  stepped_world Of First s t c d before after o (Ok x) w h ne = advanced Of s t c d before after w h.1
  stepped_world Of First s t c d before after o (Err NoMemory) w h ne = absurd (ne refl)
  stepped_world Of First s t c d before after o (Err (NoMessage n)) w h ne = same_world s t c d w h.1 h.2
  stepped_world Of First s t c d before after o (Err (NoneBetween x y)) w h ne = same_world s t c d w h.1 h.2
  stepped_world Of First s t c d before after o (Err (Busy n)) w h ne = same_world s t c d w h.1 h.2
  stepped_world Of First s t c d before after o (Err (Idle n)) w h ne = same_world s t c d w h.1 h.2
  stepped_world Of First s t c d before after o (Err (Dead n)) w h ne = same_world s t c d w h.1 h.2
  stepped_world Of First s t c d before after o (Err (Down n)) w h ne = same_world s t c d w h.1 h.2
  stepped_world Of First s t c d before after o (Err (Up n)) w h ne = same_world s t c d w h.1 h.2
  stepped_world Of First s t c d before after o (Err (NoBrick n)) w h ne = same_world s t c d w h.1 h.2
  stepped_world Of First s t c d before after o (Err (NotAsked x y)) w h ne = same_world s t c d w h.1 h.2
  stepped_world Of First s t c d before after o (Err (NotTearable n)) w h ne = same_world s t c d w h.1 h.2
  stepped_world Of First s t c d before after o (Err (TooMany n)) w h ne = same_world s t c d w h.1 h.2
  stepped_world Of First s t c d before after o (Err (NotKeeping n)) w h ne = same_world s t c d w h.1 h.2
  stepped_world Of First s t c d before after o (Err Unbuilt) w h ne = same_world s t c d w h.1 h.2

  -- a world stays one, but for want of memory
  pub stays_world : (event : Event) (s t : Cluster) (c d : Clients C) (before after : List Records) (result : Result (Unit {0}) Refused) → IsWorld stands by_table s c → Outcome stands by_table Told event s t c d before after result → (result ≡ Err NoMemory → ⊥) → IsWorld stands by_table t d
  stays_world event s t c d before after result w h ne = stepped_world (OfEvent (size_of s) event) (FirstOfEvent (size_of s) event) s t c d before after h.0 result w h.2 ne
