-- What an event promises.
use Rattle.std.specs.Prelude.{◌≡◌, ℕ, ◌++◌, map, Option, Some, None, List, Result, Ok, Err}
use Rattle.ec_attr.specs.Bricks.{bricks_below}
use Rattle.ec_clients.specs.Beginning.{AreAsMany}
use Rattle.ec_clients.specs.Come.{Come, come}
use Rattle.ec_clients.specs.Owned.{Sees}
use Rattle.ec_clients.specs.declared.clients.Clients.{Clients}
use Rattle.ec_cluster.specs.Matches.{Matches, StandsAs}
use Rattle.ec_cluster.specs.Sound.{IsSound}
use Rattle.ec_cluster.specs.Views.{log_of, size_of}
use Rattle.ec_cluster.specs.declared.cluster.Cluster.{Cluster}
use Rattle.ec_conduct.specs.Given.{Given}
use Rattle.ec_conduct.specs.Own.{Own}
use Rattle.ec_history.specs.IsRun.{IsRun}
use Rattle.ec_history.specs.Run.{Net}
use Rattle.ec_history.specs.Script.{AllFollowAll, IsOfEvent, IsOneStep, Settles, Step, entries_of}
use Rattle.ec_store.specs.Records.{Records}
use Rattle.ec_txn.specs.declared.ctx.Ctx.{Ctx}
use Rattle.ec_wire.specs.declared.entry.Entry.TheVariants.{Cut as CutOff}
use Rattle.ec_wire.specs.declared.event.Event.{Event}
use Rattle.ec_wire.specs.declared.event.Event.TheVariants.{Cut, Settle, Until}
use Rattle.ec_world.specs.Refusals.{IsRefusal}
use Rattle.ec_world.specs.Steps.{NoneOr}
use Rattle.ec_world.specs.declared.refused.Refused.{Refused}
use Rattle.ec_world.specs.declared.refused.Refused.TheVariants.{NoMemory}

-- An event that is done: the log goes on by its steps, which lead from all that is as before to what is as after. Where
-- the stores tell and the cluster matches the net they are a run and the steps that `Of` says, and the cluster matches
-- the net after them.
pub record Advances {C : Type 0} (stands : Ctx → Given → C → List Own → Type 0) (by_table : Ctx → Given → List Own → Type 0) (Told : Type 0) (Of : Come → List Step → Type 0) (s t : Cluster) (c d : Clients C) (before after : List Records) : Type 0 where
  pub steps : List Step
  pub log : log_of t ≡ log_of s ++ entries_of steps
  pub size : size_of t ≡ size_of s
  pub options : d.options ≡ c.options
  pub many : AreAsMany c d
  pub sound : IsSound t
  pub leads : (p : Come) → Sees stands by_table s c p → Sees stands by_table t d (come c.options.geometry (entries_of steps) p)
  pub runs : Told → (p : Come) → Sees stands by_table s c p → Matches s before p.net → IsRun (size_of s) (entries_of steps) p.net × Matches t after (come c.options.geometry (entries_of steps) p).net × Of p steps

-- Where there is no memory the log goes on by the first steps, of the last of which entries at the end may be missing that
-- follow from what it names. Where the stores tell and the cluster matches the net these entries are a run, the steps are
-- such as `First` says, and the stores stand as the entries say.
pub record Breaks {C : Type 0} (stands : Ctx → Given → C → List Own → Type 0) (by_table : Ctx → Given → List Own → Type 0) (Told : Type 0) (First : Come → List Step → Type 0) (s t : Cluster) (c : Clients C) (before after : List Records) : Type 0 where
  pub steps : List Step
  pub log : log_of t ≡ log_of s ++ entries_of steps
  pub runs : Told → (p : Come) → Sees stands by_table s c p → Matches s before p.net → IsRun (size_of s) (entries_of steps) p.net × StandsAs (size_of s) after (come c.options.geometry (entries_of steps) p).net × First p steps

-- a refused event changes nothing
abbrev pub Refuses : {C : Type 0} → (Ctx → Given → C → List Own → Type 0) → (Ctx → Given → List Own → Type 0) → Type 0 → (Come → List Step → Type 0) → Cluster → Cluster → Clients C → Clients C → List Records → List Records → Option Refused → Refused → Type 0
Refuses stands by_table Told First s t c d before after o NoMemory = Breaks stands by_table Told First s t c before after
Refuses stands by_table Told First s t c d before after o e = (o ≡ Some e) × (t ≡ s) × (d ≡ c) × (after ≡ before)

-- An event is done where nothing refuses it, by steps such as `Of` says, refused by its first cause, or ends for want of
-- memory, after first steps such as `First` says.
abbrev pub Stepped : {C : Type 0} → (Ctx → Given → C → List Own → Type 0) → (Ctx → Given → List Own → Type 0) → Type 0 → (Come → List Step → Type 0) → (Come → List Step → Type 0) → Cluster → Cluster → Clients C → Clients C → List Records → List Records → Option Refused → Result (Unit {0}) Refused → Type 0
Stepped stands by_table Told Of First s t c d before after o (Ok x) = (o ≡ None) × Advances stands by_table Told Of s t c d before after
Stepped stands by_table Told Of First s t c d before after o (Err e) = Refuses stands by_table Told First s t c d before after o e

-- the steps of an event, as the history of a run has them
abbrev pub OfEvent : ℕ → Event → Come → List Step → Type 0
OfEvent n event p steps = IsOfEvent n p.net event steps

-- the first bricks that are up end the client's locks, bricks rising
abbrev pub FirstCuts : ℕ → Net → ℕ → List Step → Type 0
FirstCuts n m client steps = (more : List ℕ) × (map (CutOff client) (bricks_below n (λ b. (m.brick b).up)) ≡ map (λ s. s.named) steps ++ map (CutOff client) more) × AllFollowAll steps

-- The first steps of an event: each that a settling takes is what its rules name next, a client is cut off from bricks that
-- are up, the lowest first, and any other event is one step.
abbrev pub FirstOfEvent : ℕ → Event → Come → List Step → Type 0
FirstOfEvent n Settle p steps = Settles p.net steps
FirstOfEvent n (Until client phase) p steps = Settles p.net steps
FirstOfEvent n (Cut client None) p steps = FirstCuts n p.net client steps
FirstOfEvent n event p steps = NoneOr (λ q. IsOneStep q.net event) p steps

-- What comes of an event: it is refused by the first of its causes, or is done.
abbrev pub Outcome : {C : Type 0} → (Ctx → Given → C → List Own → Type 0) → (Ctx → Given → List Own → Type 0) → Type 0 → Event → Cluster → Cluster → Clients C → Clients C → List Records → List Records → Result (Unit {0}) Refused → Type 0
Outcome stands by_table Told event s t c d before after result =
    (o : Option Refused) × IsRefusal stands s c event o × Stepped stands by_table Told (OfEvent (size_of s) event) (FirstOfEvent (size_of s) event) s t c d before after o result
