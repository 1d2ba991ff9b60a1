-- What comes of an event, said in other words.
use Rattle.std.proofs.Common.{◌≡◌, ℕ, Option, Some, None, List, Result, Ok, Err, [], ◌∷◌, refl}
use Rattle.ec_clients.specs.Come.{Come}
use Rattle.ec_clients.specs.Owned.{Sees}
use Rattle.ec_clients.specs.declared.clients.Clients.{Clients}
use Rattle.ec_cluster.specs.Matches.{Matches}
use Rattle.ec_cluster.specs.declared.cluster.Cluster.{Cluster}
use Rattle.ec_conduct.specs.Given.{Given}
use Rattle.ec_conduct.specs.Own.{Own}
use Rattle.ec_history.specs.Run.{Net}
use Rattle.ec_history.specs.Script.{IsOneStep, Names, Step}
use Rattle.ec_store.specs.Records.{Records}
use Rattle.ec_txn.specs.declared.ctx.Ctx.{Ctx}
use Rattle.ec_wire.specs.declared.entry.Entry.{Entry}
use Rattle.ec_wire.specs.declared.event.Event.{Event}
use Rattle.ec_world.specs.Events.{Advances, Breaks, Stepped}
use Rattle.ec_world.specs.Steps.{NoneOr, OneStep}
use Rattle.ec_world.specs.declared.refused.Refused.{Refused}
use Rattle.ec_world.specs.declared.refused.Refused.TheVariants.{NoMessage, NoneBetween, Busy, Idle, Dead, Down, Up, NoBrick, NotAsked, NotTearable, TooMany, NotKeeping, Unbuilt, NoMemory}

-- one step that an event names
pub one_named : (Is : Net → Entry → Type 0) (event : Event) (p : Come) (steps : List Step) → ((e : Entry) → Is p.net e → Names p.net event e) → OneStep Is p steps → IsOneStep p.net event steps
one_named Is event p [] f h = absurd h
one_named Is event p (s ∷ []) f h = (f s.named h.0, h.1)
one_named Is event p (s ∷ r ∷ steps) f h = absurd h

-- one step, of which more is said
pub one_as : (Is Be : Net → Entry → Type 0) (p : Come) (steps : List Step) → ((e : Entry) → Is p.net e → Be p.net e) → OneStep Is p steps → OneStep Be p steps
one_as Is Be p [] f h = absurd h
one_as Is Be p (s ∷ []) f h = (f s.named h.0, h.1)
one_as Is Be p (s ∷ r ∷ steps) f h = absurd h

module _ {C : Type 0} (stands : Ctx → Given → C → List Own → Type 0) (by_table : Ctx → Given → List Own → Type 0) (Told Now : Type 0) (Of Be : Come → List Step → Type 0) (s t : Cluster) (c d : Clients C) (before after : List Records) (told : Now → Told) (be : (p : Come) (steps : List Step) → Sees stands by_table s c p → Matches s before p.net → Of p steps → Be p steps) where
  pub advances_as : Advances stands by_table Told Of s t c d before after → Advances stands by_table Now Be s t c d before after
  advances_as h = record {
    steps = h.steps;
    log = h.log;
    size = h.size;
    options = h.options;
    many = h.many;
    sound = h.sound;
    leads = h.leads;
    runs = λ now p g m. let r = h.runs (told now) p g m in (r.0, r.1, be p h.steps g m r.2);
  }

  pub breaks_as : Breaks stands by_table Told Of s t c before after → Breaks stands by_table Now Be s t c before after
  breaks_as h = record { steps = h.steps; log = h.log; runs = λ now p g m. let r = h.runs (told now) p g m in (r.0, r.1, be p h.steps g m r.2) }

module _ {C : Type 0} (stands : Ctx → Given → C → List Own → Type 0) (by_table : Ctx → Given → List Own → Type 0) (Told Now : Type 0) (Of Be First Then : Come → List Step → Type 0) (s t : Cluster) (c d : Clients C) (before after : List Records) (told : Now → Told) (be : (p : Come) (steps : List Step) → Sees stands by_table s c p → Matches s before p.net → Of p steps → Be p steps) (also : (p : Come) (steps : List Step) → Sees stands by_table s c p → Matches s before p.net → First p steps → Then p steps) where
  module _ (o q : Option Refused) (free : o ≡ None → q ≡ None) (same : (e : Refused) → o ≡ Some e → q ≡ Some e) where
    pub stepped_by : (result : Result (Unit {0}) Refused) → Stepped stands by_table Told Of First s t c d before after o result → Stepped stands by_table Now Be Then s t c d before after q result
    stepped_by (Ok x) h = (free h.0, advances_as stands by_table Told Now Of Be s t c d before after told be h.1)
    stepped_by (Err NoMemory) h = breaks_as stands by_table Told Now First Then s t c d before after told also h
    stepped_by (Err (NoMessage n)) h = (same (NoMessage n) h.0, h.1, h.2, h.3)
    stepped_by (Err (NoneBetween x y)) h = (same (NoneBetween x y) h.0, h.1, h.2, h.3)
    stepped_by (Err (Busy n)) h = (same (Busy n) h.0, h.1, h.2, h.3)
    stepped_by (Err (Idle n)) h = (same (Idle n) h.0, h.1, h.2, h.3)
    stepped_by (Err (Dead n)) h = (same (Dead n) h.0, h.1, h.2, h.3)
    stepped_by (Err (Down n)) h = (same (Down n) h.0, h.1, h.2, h.3)
    stepped_by (Err (Up n)) h = (same (Up n) h.0, h.1, h.2, h.3)
    stepped_by (Err (NoBrick n)) h = (same (NoBrick n) h.0, h.1, h.2, h.3)
    stepped_by (Err (NotAsked x y)) h = (same (NotAsked x y) h.0, h.1, h.2, h.3)
    stepped_by (Err (NotTearable n)) h = (same (NotTearable n) h.0, h.1, h.2, h.3)
    stepped_by (Err (TooMany n)) h = (same (TooMany n) h.0, h.1, h.2, h.3)
    stepped_by (Err (NotKeeping n)) h = (same (NotKeeping n) h.0, h.1, h.2, h.3)
    stepped_by (Err Unbuilt) h = (same Unbuilt h.0, h.1, h.2, h.3)

-- where one step at most was begun
none_or_as : (Of Be : Come → List Step → Type 0) (p : Come) (steps : List Step) → (Of p steps → Be p steps) → NoneOr Of p steps → NoneOr Be p steps
none_or_as Of Be p [] f h = tt
none_or_as Of Be p (s ∷ steps) f h = f h

module _ {C : Type 0} (stands : Ctx → Given → C → List Own → Type 0) (by_table : Ctx → Given → List Own → Type 0) (Told Now : Type 0) (Of Be : Come → List Step → Type 0) (s t : Cluster) (c d : Clients C) (before after : List Records) (told : Now → Told) (be : (p : Come) (steps : List Step) → Sees stands by_table s c p → Matches s before p.net → Of p steps → Be p steps) where
  pub one_breaks_as : Breaks stands by_table Told (NoneOr Of) s t c before after → Breaks stands by_table Now (NoneOr Be) s t c before after
  one_breaks_as h = breaks_as stands by_table Told Now (NoneOr Of) (NoneOr Be) s t c d before after told (λ p steps g m x. none_or_as Of Be p steps (λ y. be p steps g m y) x) h

  pub stepped_as : (o q : Option Refused) → (o ≡ None → q ≡ None) → ((e : Refused) → o ≡ Some e → q ≡ Some e) → (result : Result (Unit {0}) Refused) → Stepped stands by_table Told Of (NoneOr Of) s t c d before after o result → Stepped stands by_table Now Be (NoneOr Be) s t c d before after q result
  stepped_as o q free same result h = stepped_by stands by_table Told Now Of Be (NoneOr Of) (NoneOr Be) s t c d before after told be (λ p steps g m x. none_or_as Of Be p steps (λ y. be p steps g m y) x) o q free same result h

-- one step that is an event
module _ {C : Type 0} (stands : Ctx → Given → C → List Own → Type 0) (by_table : Ctx → Given → List Own → Type 0) (Told : Type 0) (event : Event) (s t : Cluster) (c d : Clients C) (before after : List Records) where
  pub event_advances : (Is : Net → Entry → Type 0) → ((p : Come) → Sees stands by_table s c p → Matches s before p.net → (e : Entry) → Is p.net e → Names p.net event e) → Advances stands by_table Told (OneStep Is) s t c d before after → Advances stands by_table Told (λ p steps. IsOneStep p.net event steps) s t c d before after
  event_advances Is names h = advances_as stands by_table Told Told (OneStep Is) (λ p steps. IsOneStep p.net event steps) s t c d before after (λ told. told) (λ p steps g m x. one_named Is event p steps (names p g m) x) h

  pub named_advances : Advances stands by_table Told (OneStep (λ m e. Names m event e)) s t c d before after → Advances stands by_table Told (λ p steps. IsOneStep p.net event steps) s t c d before after
  named_advances h = event_advances (λ m e. Names m event e) (λ p g m e x. x) h

  pub named_breaks : Breaks stands by_table Told (NoneOr (OneStep (λ m e. Names m event e))) s t c before after → Breaks stands by_table Told (NoneOr (λ p. IsOneStep p.net event)) s t c before after
  named_breaks h = one_breaks_as stands by_table Told Told (OneStep (λ m e. Names m event e)) (λ p steps. IsOneStep p.net event steps) s t c d before after (λ told. told) (λ p steps g m x. one_named (λ m e. Names m event e) event p steps (λ e y. y) x) h

-- of what nothing refuses
module _ {C : Type 0} (stands : Ctx → Given → C → List Own → Type 0) (by_table : Ctx → Given → List Own → Type 0) (Told : Type 0) (Of First : Come → List Step → Type 0) (s t : Cluster) (c d : Clients C) (before after : List Records) where
  pub no_memory : (e : Refused) → Stepped stands by_table Told Of First s t c d before after None (Err e) → Breaks stands by_table Told First s t c before after
  no_memory NoMemory h = h
  no_memory (NoMessage n) h = absurd (let x = h.0 in cc)
  no_memory (NoneBetween x y) h = absurd (let x = h.0 in cc)
  no_memory (Busy n) h = absurd (let x = h.0 in cc)
  no_memory (Idle n) h = absurd (let x = h.0 in cc)
  no_memory (Dead n) h = absurd (let x = h.0 in cc)
  no_memory (Down n) h = absurd (let x = h.0 in cc)
  no_memory (Up n) h = absurd (let x = h.0 in cc)
  no_memory (NoBrick n) h = absurd (let x = h.0 in cc)
  no_memory (NotAsked x y) h = absurd (let x = h.0 in cc)
  no_memory (NotTearable n) h = absurd (let x = h.0 in cc)
  no_memory (TooMany n) h = absurd (let x = h.0 in cc)
  no_memory (NotKeeping n) h = absurd (let x = h.0 in cc)
  no_memory Unbuilt h = absurd (let x = h.0 in cc)
