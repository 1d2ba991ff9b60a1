-- A world goes on from what it was begun with.
use Rattle.std.proofs.Common.{◌≡◌, ◌⊎◌, inl, inr, ℕ, List, [], Option, Result, Ok, Err, refl, sym, ◌∙◌, ap, subst}
use Rattle.ec_attr.specs.declared.config.Config.{Config}
use Rattle.ec_attr.specs.declared.geometry.Geometry.{Geometry}
use Rattle.ec_brick.specs.State.{State}
use Rattle.ec_calls.specs.declared.any.AnyCall.{AnyCall}
use Rattle.ec_clients.specs.Beginning.{beginning}
use Rattle.ec_clients.specs.Come.{Come, come}
use Rattle.ec_clients.specs.Owned.{Sees}
use Rattle.ec_clients.specs.declared.clients.Clients.{Clients}
use Rattle.ec_clients.specs.declared.options.Options.{Options}
use Rattle.ec_clients.proofs.Goings.{come_append}
use Rattle.ec_cluster.specs.Views.{log_of, size_of}
use Rattle.ec_cluster.specs.declared.cluster.Cluster.{Cluster}
use Rattle.ec_conduct.specs.Given.{Given}
use Rattle.ec_conduct.specs.Own.{Own}
use Rattle.ec_history.specs.Flat.{Tree}
use Rattle.ec_history.specs.IsRun.{IsRun}
use Rattle.ec_history.specs.Run.{fresh}
use Rattle.ec_history.specs.Script.{Step, entries_of}
use Rattle.ec_history.specs.Starts.{IsStart}
use Rattle.ec_law_answers.specs.Laws.{AnswerLaws}
use Rattle.ec_law_calls.specs.World.{IsLogged, WorldLaws}
use Rattle.ec_law_commits.specs.Laws.{CommitLaws}
use Rattle.ec_law_causes.specs.Laws.{WorldCauseLaws}
use Rattle.ec_law_heads.specs.Worlds.{WorldHeadLaws}
use Rattle.ec_law_names.specs.Laws.{WorldNameLaws}
use Rattle.ec_law_parts.specs.Laws.{WorldFlatLaws}
use Rattle.ec_law_settled.specs.Answered.{AnsweredInEveryWorld}
use Rattle.ec_law_sizes.specs.Records.{WorldSizeLaws}
use Rattle.ec_law_stands.specs.Laws.{WorldStandLaws}
use Rattle.ec_law_stripes.specs.HeldStripes.{WorldHeldLaws}
use Rattle.ec_store.specs.Records.{Records}
use Rattle.ec_txn.specs.declared.ctx.Ctx.{Ctx}
use Rattle.ec_wire.specs.declared.entry.Entry.{Entry}
use Rattle.ec_wire.specs.declared.event.Event.{Event}
use Rattle.ec_world.specs.Events.{Advances, FirstOfEvent, OfEvent, Stepped}
use Rattle.ec_world.specs.Consistency.{AreAllOfVolume, ButForMemory, IsConsistent, BeganWith, ConsistencyLaws}
use Rattle.ec_world.specs.Whole.{Steps}
use Rattle.ec_world.specs.declared.refused.Refused.{Refused}
use Rattle.ec_world.specs.declared.refused.Refused.TheVariants.{NoMessage, NoneBetween, Busy, Idle, Dead, Down, Up, NoBrick, NotAsked, NotTearable, TooMany, NotKeeping, Unbuilt, NoMemory}
use Rattle.ec_world.specs.declared.world.World.{World}

-- what holds of all results but one holds of each, but for want of memory
pub but_for_memory : (result : Result (Unit {0}) Refused) (P : Type 0) → ((result ≡ Err NoMemory → ⊥) → P) → ButForMemory result P
but_for_memory (Ok x) P h = h (λ e. absurd (cc))
but_for_memory (Err (NoMessage n)) P h = h (λ e. absurd (cc))
but_for_memory (Err (NoneBetween x y)) P h = h (λ e. absurd (cc))
but_for_memory (Err (Busy n)) P h = h (λ e. absurd (cc))
but_for_memory (Err (Idle n)) P h = h (λ e. absurd (cc))
but_for_memory (Err (Dead n)) P h = h (λ e. absurd (cc))
but_for_memory (Err (Down n)) P h = h (λ e. absurd (cc))
but_for_memory (Err (Up n)) P h = h (λ e. absurd (cc))
but_for_memory (Err (NoBrick n)) P h = h (λ e. absurd (cc))
but_for_memory (Err (NotAsked x y)) P h = h (λ e. absurd (cc))
but_for_memory (Err (NotTearable n)) P h = h (λ e. absurd (cc))
but_for_memory (Err (TooMany n)) P h = h (λ e. absurd (cc))
but_for_memory (Err (NotKeeping n)) P h = h (λ e. absurd (cc))
but_for_memory (Err Unbuilt) P h = h (λ e. absurd (cc))
but_for_memory (Err NoMemory) P h = tt

module _ (stands : Ctx → Given → AnyCall → List Own → Type 0) (by_table : Ctx → Given → List Own → Type 0) (w t : World) (geometry : Geometry) (first : ℕ) (from : BeganWith stands by_table w geometry first) where
  -- an event that is done
  goes_on : (Told : Type 0) (Of : Come → List Step → Type 0) (before after : List Records) → Advances stands by_table Told Of w.cluster t.cluster w.clients t.clients before after → BeganWith stands by_table t geometry first
  goes_on Told Of before after x = record {
    coded = ap (λ (o : Options). o.geometry) x.options ∙ from.coded;
    sees = λ bricks tree. subst (λ (z : Come). Sees stands by_table t.cluster t.clients z) (sym (joined bricks tree)) (led bricks tree);
  }
    where
      led : (bricks : ℕ → State) (tree : Tree) → Sees stands by_table t.cluster t.clients (come geometry (entries_of x.steps) (come geometry (log_of w.cluster) (beginning bricks tree first)))
      led bricks tree = subst (λ (g : Geometry). Sees stands by_table t.cluster t.clients (come g (entries_of x.steps) (come geometry (log_of w.cluster) (beginning bricks tree first)))) from.coded
          (x.leads (come geometry (log_of w.cluster) (beginning bricks tree first)) (from.sees bricks tree))

      joined : (bricks : ℕ → State) (tree : Tree) → come geometry (log_of t.cluster) (beginning bricks tree first) ≡ come geometry (entries_of x.steps) (come geometry (log_of w.cluster) (beginning bricks tree first))
      joined bricks tree = ap (λ (l : List Entry). come geometry l (beginning bricks tree first)) x.log ∙ come_append geometry (log_of w.cluster) (entries_of x.steps) (beginning bricks tree first)

  -- one that is refused
  stays : t.cluster ≡ w.cluster → t.clients ≡ w.clients → BeganWith stands by_table t geometry first
  stays e f = record {
    coded = ap (λ (c : Clients AnyCall). c.options.geometry) f ∙ from.coded;
    sees = λ bricks tree. subst (λ (c : Clients AnyCall). Sees stands by_table t.cluster c (come geometry (log_of t.cluster) (beginning bricks tree first))) (sym f)
        (subst (λ (s : Cluster). Sees stands by_table s w.clients (come geometry (log_of s) (beginning bricks tree first))) (sym e) (from.sees bricks tree));
  }

  stepped : (Told : Type 0) (Of First : Come → List Step → Type 0) (before after : List Records) (o : Option Refused) (result : Result (Unit {0}) Refused) → Stepped stands by_table Told Of First w.cluster t.cluster w.clients t.clients before after o result → ButForMemory result (BeganWith stands by_table t geometry first)
  stepped Told Of First before after o (Ok x) h = goes_on Told Of before after h.1
  stepped Told Of First before after o (Err NoMemory) h = tt
  stepped Told Of First before after o (Err (NoMessage n)) h = stays h.1 h.2
  stepped Told Of First before after o (Err (NoneBetween x y)) h = stays h.1 h.2
  stepped Told Of First before after o (Err (Busy n)) h = stays h.1 h.2
  stepped Told Of First before after o (Err (Idle n)) h = stays h.1 h.2
  stepped Told Of First before after o (Err (Dead n)) h = stays h.1 h.2
  stepped Told Of First before after o (Err (Down n)) h = stays h.1 h.2
  stepped Told Of First before after o (Err (Up n)) h = stays h.1 h.2
  stepped Told Of First before after o (Err (NoBrick n)) h = stays h.1 h.2
  stepped Told Of First before after o (Err (NotAsked x y)) h = stays h.1 h.2
  stepped Told Of First before after o (Err (NotTearable n)) h = stays h.1 h.2
  stepped Told Of First before after o (Err (TooMany n)) h = stays h.1 h.2
  stepped Told Of First before after o (Err (NotKeeping n)) h = stays h.1 h.2
  stepped Told Of First before after o (Err Unbuilt) h = stays h.1 h.2

  -- whatever comes of an event, but for want of memory
  pub stays_from : (Told : Type 0) (event : Event) (before after : List Records) (result : Result (Unit {0}) Refused) → Steps stands by_table Told event w t before after result → ButForMemory result (BeganWith stands by_table t geometry first)
  stays_from Told event before after result (inl h) = but_for_memory result (BeganWith stands by_table t geometry first) (λ ne. stays (ap (λ (x : World). x.cluster) h.same) (ap (λ (x : World). x.clients) h.same))
  stays_from Told event before after result (inr h) = stepped Told (OfEvent (size_of w.cluster) event) (FirstOfEvent (size_of w.cluster) event) before after h.1.0 result h.1.2

-- no event has reached it
pub from_beginning : (stands : Ctx → Given → AnyCall → List Own → Type 0) (by_table : Ctx → Given → List Own → Type 0) (w : World) (geometry : Geometry) (next first : ℕ) → w.clients.options.geometry ≡ geometry → first ≡ next → log_of w.cluster ≡ []
    → ((bricks : ℕ → State) (tree : Tree) → Sees stands by_table w.cluster w.clients (beginning bricks tree next)) → BeganWith stands by_table w geometry first
from_beginning stands by_table w geometry next first coded same empty h = record {
  coded = coded;
  sees = λ bricks tree. subst (λ (l : List Entry). Sees stands by_table w.cluster w.clients (come geometry l (beginning bricks tree first))) (sym empty)
      (subst (λ (f : ℕ). Sees stands by_table w.cluster w.clients (beginning bricks tree f)) (sym same) (h bricks tree));
}

-- all is consistent at each moment of the log of a world
pub consistency_laws : (stands : Ctx → Given → AnyCall → List Own → Type 0) (by_table : Ctx → Given → List Own → Type 0) → WorldLaws stands by_table → AnswerLaws stands by_table → CommitLaws stands by_table → WorldFlatLaws stands by_table → WorldHeadLaws stands by_table → WorldNameLaws stands by_table → WorldCauseLaws stands by_table → WorldSizeLaws stands by_table → WorldHeldLaws stands by_table → WorldStandLaws stands by_table → AnsweredInEveryWorld stands by_table → ConsistencyLaws stands by_table
consistency_laws stands by_table laws answers commits flats heads names causes sizes stripes bricks_stand settled config records bricks tree next w start of_volume from runs = record {
  no_two_alike = λ g call es rest parts. laws.no_two_alike config records bricks tree next g call w.cluster w.clients start logged es rest parts;
  above_others = λ g call es rest parts. laws.above_others config records bricks tree next g call w.cluster w.clients start logged es rest parts;
  answered_after_commit = λ g call_of es rest parts call op answer h says. answers.answered_after_commit config records bricks tree next g call_of w.cluster w.clients start logged es rest parts call op answer h says;
  answered_by_one_commit = λ g es rest parts call op answer h says. commits.answered_by_one_commit config records bricks tree next g w.cluster w.clients start logged es rest parts call op answer h says;
  agree_at_flat_file = λ g es rest parts. flats.agree config records bricks tree next g w.cluster w.clients start logged es rest parts;
  heads_stand = λ g es rest parts. heads.heads config records bricks tree next g w.cluster w.clients start logged es rest parts (of_volume g);
  sizes_held = λ g es rest parts. sizes.sized config records bricks tree next g w.cluster w.clients start logged es rest parts;
  stripes_held = λ g es rest parts. stripes.held config records bricks tree next g w.cluster w.clients start logged es rest parts;
  names_held = λ g es rest parts. names.held config records bricks tree next g w.cluster w.clients start logged es rest parts;
  stand = λ g es rest parts. bricks_stand.stand config records bricks tree next g w.cluster w.clients start logged es rest parts;
  may_begin_again = λ es rest parts. bricks_stand.again config records bricks tree next 0 w.cluster w.clients start logged es rest parts;
  settled_is_answered = λ earlier call client op called steps parts is. settled config bricks tree next w.cluster w.clients logged earlier call client op called steps parts is;
  in_order = λ es rest parts. laws.in_order config bricks tree next w.cluster w.clients logged es rest parts;
  answered_with_cause = λ es rest call answer parts. causes.cause config bricks tree next w.cluster w.clients logged es rest call answer parts;
}
  where
    logged : IsLogged stands by_table config bricks tree next w.cluster w.clients
    logged = record {
      geometry = from.coded;
      first = next;
      sees = subst (λ (geometry : Geometry). Sees stands by_table w.cluster w.clients (come geometry (log_of w.cluster) (beginning bricks tree next))) (sym from.coded) (from.sees bricks tree);
      next_gfid = laws.first_gfid config.geometry bricks tree next w.cluster w.clients (from.sees bricks tree);
      is_run = runs;
    }

-- the same, of what comes of an event
pub consistent_after : (stands : Ctx → Given → AnyCall → List Own → Type 0) (by_table : Ctx → Given → List Own → Type 0) → ConsistencyLaws stands by_table
    → (config : Config) (records : ℕ → Records) (bricks : ℕ → State) (tree : Tree) (next : ℕ) (t : World) (result : Result (Unit {0}) Refused) → IsStart config records bricks tree next → AreAllOfVolume config records tree → ButForMemory result (BeganWith stands by_table t config.geometry next) → IsRun config.geometry.n (log_of t.cluster) (fresh bricks)
    → ButForMemory result (IsConsistent config records bricks tree next (log_of t.cluster))
consistent_after stands by_table laws config records bricks tree next t (Ok x) start of_volume from runs = laws config records bricks tree next t start of_volume from runs
consistent_after stands by_table laws config records bricks tree next t (Err NoMemory) start of_volume from runs = tt
consistent_after stands by_table laws config records bricks tree next t (Err (NoMessage n)) start of_volume from runs = laws config records bricks tree next t start of_volume from runs
consistent_after stands by_table laws config records bricks tree next t (Err (NoneBetween x y)) start of_volume from runs = laws config records bricks tree next t start of_volume from runs
consistent_after stands by_table laws config records bricks tree next t (Err (Busy n)) start of_volume from runs = laws config records bricks tree next t start of_volume from runs
consistent_after stands by_table laws config records bricks tree next t (Err (Idle n)) start of_volume from runs = laws config records bricks tree next t start of_volume from runs
consistent_after stands by_table laws config records bricks tree next t (Err (Dead n)) start of_volume from runs = laws config records bricks tree next t start of_volume from runs
consistent_after stands by_table laws config records bricks tree next t (Err (Down n)) start of_volume from runs = laws config records bricks tree next t start of_volume from runs
consistent_after stands by_table laws config records bricks tree next t (Err (Up n)) start of_volume from runs = laws config records bricks tree next t start of_volume from runs
consistent_after stands by_table laws config records bricks tree next t (Err (NoBrick n)) start of_volume from runs = laws config records bricks tree next t start of_volume from runs
consistent_after stands by_table laws config records bricks tree next t (Err (NotAsked x y)) start of_volume from runs = laws config records bricks tree next t start of_volume from runs
consistent_after stands by_table laws config records bricks tree next t (Err (NotTearable n)) start of_volume from runs = laws config records bricks tree next t start of_volume from runs
consistent_after stands by_table laws config records bricks tree next t (Err (TooMany n)) start of_volume from runs = laws config records bricks tree next t start of_volume from runs
consistent_after stands by_table laws config records bricks tree next t (Err (NotKeeping n)) start of_volume from runs = laws config records bricks tree next t start of_volume from runs
consistent_after stands by_table laws config records bricks tree next t (Err Unbuilt) start of_volume from runs = laws config records bricks tree next t start of_volume from runs
