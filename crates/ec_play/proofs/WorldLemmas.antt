-- What a world promises, as something that a script is played on.
use Rattle.std.proofs.Common.{◌≡◌, inl, inr, ℕ, List, Option, Some, Result, Ok, Err, refl, sym, ap, subst, ◌∙◌}
use Rattle.ec_attr.specs.declared.geometry.Geometry.{Geometry}
use Rattle.ec_calls.specs.declared.any.AnyCall.{AnyCall}
use Rattle.ec_clients.specs.Come.{Come, come}
use Rattle.ec_clients.specs.declared.clients.Clients.{Clients}
use Rattle.ec_clients.proofs.Goings.{net_is}
use Rattle.ec_cluster.specs.Matches.{Matches, StandsAs}
use Rattle.ec_cluster.specs.Open.{IsEmpty}
use Rattle.ec_cluster.specs.Views.{size_of}
use Rattle.ec_cluster.specs.declared.cluster.Cluster.{Cluster}
use Rattle.ec_conduct.specs.Given.{Given}
use Rattle.ec_conduct.specs.Own.{Own}
use Rattle.ec_history.specs.IsRun.{IsRun}
use Rattle.ec_history.specs.Run.{Net, run}
use Rattle.ec_history.specs.Script.{IsOfEvent, entries_of}
use Rattle.ec_script.specs.Printed.{IsEvent}
use Rattle.ec_store.specs.Records.{Records}
use Rattle.ec_txn.specs.declared.ctx.Ctx.{Ctx}
use Rattle.ec_wire.specs.declared.event.Event.{Event}
use Rattle.ec_wire.specs.declared.event.Event.TheVariants as event
use Rattle.ec_world.specs.Events.{Advances, Breaks as BreaksIn, FirstOfEvent, OfEvent, Stepped}
use Rattle.ec_world.specs.Refusals.{IsRefusal}
use Rattle.ec_world.specs.Consistency.{ButForMemory, BeganWith}
use Rattle.ec_world.specs.Whole.{IsAs, IsNotBuilt, IsOpen, IsUnbuilt, StaysOpen, Steps as StepsOf}
use Rattle.ec_world.specs.World.{FitsEvent}
use Rattle.ec_world.specs.declared.refused.Refused.{Refused}
use Rattle.ec_world.specs.declared.refused.Refused.TheVariants as refused
use Rattle.ec_world.specs.declared.world.World.{World}
use Rattle.ec_play.specs.Meaning.{Breaks, Does, Refuses, Steps}
use Rattle.ec_play.specs.World.{IsFresh, meaning_of}

module _ (stands : Ctx → Given → AnyCall → List Own → Type 0) (by_table : Ctx → Given → List Own → Type 0) where
  -- an event that is done
  world_does : (Told : Type 0) (e : Event) (s t : World) (before after : List Records) → t.bricks ≡ s.bricks → IsOpen stands by_table t
      → Advances stands by_table Told (OfEvent (size_of s.cluster) e) s.cluster t.cluster s.clients t.clients before after
      → ((geometry : Geometry) (first : ℕ) → BeganWith stands by_table s geometry first → BeganWith stands by_table t geometry first)
      → Does (meaning_of stands by_table) Told s t before after e
  world_does Told e s t before after same stays x since = record {
    entries = entries_of x.steps;
    goes_on = x.log;
    bricks = same;
    keeps = stays;
    since = since;
    runs = λ told m at.
        let p : Come = at.is_as.come in
        let went : IsRun (size_of s.cluster) (entries_of x.steps) p.net × Matches t.cluster after (come s.clients.options.geometry (entries_of x.steps) p).net × OfEvent (size_of s.cluster) e p x.steps = x.runs told p at.is_as.sees (subst (λ (net : Net). Matches s.cluster before net) (sym at.is_as.net) at.is_as.matches) in (
          record {
            steps = x.steps;
            of_steps = refl;
            of_event = subst (λ (n : ℕ). IsOfEvent n m e x.steps) at.size (subst (λ (m : Net). IsOfEvent (size_of s.cluster) m e x.steps) at.is_as.net went.2);
            is_run = subst (λ (n : ℕ). IsRun n (entries_of x.steps) m) at.size (subst (λ (m : Net). IsRun (size_of s.cluster) (entries_of x.steps) m) at.is_as.net went.0);
          },
          record {
            size = stays.size;
            is_as = record {
              come = come s.clients.options.geometry (entries_of x.steps) p;
              net = net_is s.clients.options.geometry (entries_of x.steps) p ∙ ap (run (entries_of x.steps)) at.is_as.net;
              sees = x.leads p at.is_as.sees;
              matches = subst (λ (net : Net). Matches t.cluster after net) (net_is s.clients.options.geometry (entries_of x.steps) p ∙ ap (run (entries_of x.steps)) at.is_as.net) went.1;
            };
          },
        );
  }

  -- an event that ends for want of memory
  world_breaks : (Told : Type 0) (e : Event) (s t : World) (before after : List Records) → t.bricks ≡ s.bricks
      → BreaksIn stands by_table Told (FirstOfEvent (size_of s.cluster) e) s.cluster t.cluster s.clients before after
      → Breaks (meaning_of stands by_table) Told s t before after e
  world_breaks Told e s t before after same x = record {
    entries = entries_of x.steps;
    goes_on = x.log;
    bricks = same;
    runs = λ told m at.
        let p : Come = at.is_as.come in
        let went : IsRun (size_of s.cluster) (entries_of x.steps) p.net × StandsAs (size_of s.cluster) after (come s.clients.options.geometry (entries_of x.steps) p).net × FirstOfEvent (size_of s.cluster) e p x.steps = x.runs told p at.is_as.sees (subst (λ (net : Net). Matches s.cluster before net) (sym at.is_as.net) at.is_as.matches) in
        let net : (come s.clients.options.geometry (entries_of x.steps) p).net ≡ run (entries_of x.steps) m = net_is s.clients.options.geometry (entries_of x.steps) p ∙ ap (run (entries_of x.steps)) at.is_as.net in (
          record {
            steps = x.steps;
            of_steps = refl;
            from = p;
            net = at.is_as.net;
            first = subst (λ (n : ℕ). FirstOfEvent n e p x.steps) at.size went.2;
            is_run = subst (λ (n : ℕ). IsRun n (entries_of x.steps) m) at.size (subst (λ (m : Net). IsRun (size_of s.cluster) (entries_of x.steps) m) at.is_as.net went.0);
          },
          subst (λ (n : ℕ). StandsAs n after (run (entries_of x.steps) m)) at.size (subst (λ (m : Net). StandsAs (size_of s.cluster) after m) net went.1),
        );
  }

  -- a world whose parts are as before is as before
  same_parts : (s t : World) → t ≡ record s { clients = t.clients; cluster = t.cluster } → t.cluster ≡ s.cluster → t.clients ≡ s.clients → t ≡ s
  same_parts s t same c d = same ∙ (ap (λ (x : Cluster). record s { clients = t.clients; cluster = x }) c ∙ ap (λ (x : Clients AnyCall). record s { clients = x; cluster = s.cluster }) d)

  -- an event that is refused
  world_refuses : (Told : Type 0) (e : Event) (why : Refused) (s t : World) (before after : List Records) → t ≡ record s { clients = t.clients; cluster = t.cluster }
      → ¬ (IsUnbuilt e) → (o : Option Refused) → IsRefusal stands s.cluster s.clients e o → (o ≡ Some why) × (t.cluster ≡ s.cluster) × (t.clients ≡ s.clients) × (after ≡ before)
      → Refuses (meaning_of stands by_table) Told s t before after e why
  world_refuses Told e why s t before after same built o refusal h = record {
    same = same_parts s t same h.1 h.2;
    kept = h.3;
    refused = inr (built, subst (IsRefusal stands s.cluster s.clients e) h.0 refusal);
  }

  world_not_built : (Told : Type 0) (e : Event) (s t : World) (before after : List Records) → IsNotBuilt s t before after e (Err refused.Unbuilt) → Refuses (meaning_of stands by_table) Told s t before after e refused.Unbuilt
  world_not_built Told e s t before after h = record {
    same = h.same;
    kept = h.kept;
    refused = inl (h.unbuilt, refl);
  }

  same_bricks : (s t : World) → t ≡ record s { clients = t.clients; cluster = t.cluster } → t.bricks ≡ s.bricks
  same_bricks s t same = ap (λ (w : World). w.bricks) same

  world_stepped : (Told : Type 0) (e : Event) (s t : World) (before after : List Records) (result : Result (Unit {0}) Refused) → t ≡ record s { clients = t.clients; cluster = t.cluster }
      → ¬ (IsUnbuilt e) → (o : Option Refused) → IsRefusal stands s.cluster s.clients e o
      → Stepped stands by_table Told (OfEvent (size_of s.cluster) e) (FirstOfEvent (size_of s.cluster) e) s.cluster t.cluster s.clients t.clients before after o result → StaysOpen stands by_table t result → ((geometry : Geometry) (first : ℕ) → BeganWith stands by_table s geometry first → ButForMemory result (BeganWith stands by_table t geometry first))
      → Steps (meaning_of stands by_table) Told s t before after e result
  world_stepped Told e s t before after (Ok x) same built o r h stays since = world_does Told e s t before after (same_bricks s t same) stays h.1 since
  world_stepped Told e s t before after (Err refused.NoMemory) same built o r h stays since = world_breaks Told e s t before after (same_bricks s t same) h
  world_stepped Told e s t before after (Err (refused.NoMessage n)) same built o r h stays since = world_refuses Told e (refused.NoMessage n) s t before after same built o r h
  world_stepped Told e s t before after (Err (refused.NoneBetween x y)) same built o r h stays since = world_refuses Told e (refused.NoneBetween x y) s t before after same built o r h
  world_stepped Told e s t before after (Err (refused.Busy n)) same built o r h stays since = world_refuses Told e (refused.Busy n) s t before after same built o r h
  world_stepped Told e s t before after (Err (refused.Idle n)) same built o r h stays since = world_refuses Told e (refused.Idle n) s t before after same built o r h
  world_stepped Told e s t before after (Err (refused.Dead n)) same built o r h stays since = world_refuses Told e (refused.Dead n) s t before after same built o r h
  world_stepped Told e s t before after (Err (refused.Down n)) same built o r h stays since = world_refuses Told e (refused.Down n) s t before after same built o r h
  world_stepped Told e s t before after (Err (refused.Up n)) same built o r h stays since = world_refuses Told e (refused.Up n) s t before after same built o r h
  world_stepped Told e s t before after (Err (refused.NoBrick n)) same built o r h stays since = world_refuses Told e (refused.NoBrick n) s t before after same built o r h
  world_stepped Told e s t before after (Err (refused.NotAsked x y)) same built o r h stays since = world_refuses Told e (refused.NotAsked x y) s t before after same built o r h
  world_stepped Told e s t before after (Err (refused.NotTearable n)) same built o r h stays since = world_refuses Told e (refused.NotTearable n) s t before after same built o r h
  world_stepped Told e s t before after (Err (refused.TooMany n)) same built o r h stays since = world_refuses Told e (refused.TooMany n) s t before after same built o r h
  world_stepped Told e s t before after (Err (refused.NotKeeping n)) same built o r h stays since = world_refuses Told e (refused.NotKeeping n) s t before after same built o r h
  world_stepped Told e s t before after (Err refused.Unbuilt) same built o r h stays since = world_refuses Told e refused.Unbuilt s t before after same built o r h

  -- what comes of an event
  pub world_steps : (Told : Type 0) (e : Event) (s t : World) (before after : List Records) (result : Result (Unit {0}) Refused) → t ≡ record s { clients = t.clients; cluster = t.cluster }
      → StepsOf stands by_table Told e s t before after result → StaysOpen stands by_table t result → ((geometry : Geometry) (first : ℕ) → BeganWith stands by_table s geometry first → ButForMemory result (BeganWith stands by_table t geometry first))
      → Steps (meaning_of stands by_table) Told s t before after e result
  world_steps Told e s t before after result same (inl h) stays since =
      subst (λ (r : Result (Unit {0}) Refused). Steps (meaning_of stands by_table) Told s t before after e r) (sym h.refused)
      (world_not_built Told e s t before after (subst (λ (r : Result (Unit {0}) Refused). IsNotBuilt s t before after e r) h.refused h))
  world_steps Told e s t before after result same (inr h) stays since = world_stepped Told e s t before after result same h.0 h.1.0 h.1.1 h.1.2 stays since

  -- a world that is opened is one on which a script can be played
  pub fresh_world : (Told : Type 0) (w : World) (records : List Records) (m : Net) → IsOpen stands by_table w → IsEmpty w.cluster → (Told → IsAs stands by_table w records m) → IsFresh stands by_table Told w records m
  fresh_world Told w records m opened empty as_net = record {
    keeps = opened;
    log = empty.log;
    stands = λ told. record { size = opened.size; is_as = as_net told };
  }

-- an event that a line can order is of clients that there are
pub world_fits : (e : Event) → IsEvent e → FitsEvent e
world_fits (event.Call c o) h = h.0.1
world_fits (event.Die c) h = h.1
world_fits (event.Deliver m) h = tt
world_fits (event.Lose m) h = tt
world_fits (event.GiveUp c b) h = tt
world_fits (event.Stop b) h = tt
world_fits (event.Return b) h = tt
world_fits (event.Cut c b) h = tt
world_fits (event.Tear m bytes) h = tt
world_fits (event.Yield c) h = tt
world_fits event.Settle h = tt
world_fits (event.Until c phase) h = tt
world_fits (event.Replace b) h = tt
