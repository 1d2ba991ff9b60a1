-- One event more, and what stands where it isn't obeyed or told.
use Rattle.std.proofs.Common.{◌≡◌, ◌≢◌, ℕ, Bool, List, [], ◌∷◌, ◌++◌, Option, Some, Ok, refl, sym, ap, subst, ◌∙◌}
use Rattle.std.specs.Io.KnownBytes.{Appends}
use Rattle.std.proofs.KnownBytes.{Appends-trans}
use Rattle.std.proofs.lemmas.Grind.{flat_map-append}
use Rattle.ec_cluster.specs.Matches.{StandsAs}
use Rattle.ec_history.specs.Run.{Net, run}
use Rattle.ec_history.proofs.Runs.{joins, longer}
use Rattle.ec_store.specs.Causes.{Begins}
use Rattle.ec_store.specs.Records.{Records}
use Rattle.ec_wire.specs.declared.event.Event.{Event}
use Rattle.ec_world.specs.declared.refused.Refused.{Refused}
use Rattle.ec_world.specs.declared.refused.Refused.TheVariants as refused
use Rattle.ec_play.specs.Going.{Broken, Goes, HalfTold, Obeys, Plays}
use Rattle.ec_play.specs.Meaning.{Breaks, Does, Fails, Meaning, Refuses}
use Rattle.ec_play.specs.Texts.{entry_line, text_of}
use Rattle.ec_play.proofs.LogLemmas.{log_more}

-- an event that is done
plays_more : {W : Type 0} (M : Meaning W) (Told : Type 0) (start : Net) (events : List Event) (event : Event) (s t : W) (before after : List Records)
    → Plays M Told start events s before → Does M Told s t before after event → Plays M Told start (events ++ event ∷ []) t after
plays_more M Told start events event s t before after p d = record {
  of_script = λ told. rw (d.goes_on, d.bricks) (log_more (M.bricks s) start events event (M.log s) d.entries (p.of_script told) (d.runs told (run (M.log s) start) (p.stands told)).0);
  is_run = λ told. rw (d.goes_on, d.bricks) (longer (M.bricks s) (M.log s) d.entries start (p.is_run told) (d.runs told (run (M.log s) start) (p.stands told)).0.is_run);
  stands = λ told. rw d.goes_on (subst (λ (m : Net). M.stands t after m) (sym (joins (M.log s) d.entries start)) (d.runs told (run (M.log s) start) (p.stands told)).1);
  keeps = d.keeps;
}

-- and all its text is written
pub obeyed_event : {W : Type 0} (M : Meaning W) (Told : Type 0) (logs : Bool) (start : Net) (old : Option (List ℕ)) (events : List Event) (event : Event) (s t : W) (before after : List Records) (was written : Option (List ℕ))
    → Goes M Told logs start old events s before was → (d : Does M Told s t before after event) → Appends was written (text_of logs d.entries)
    → Obeys M Told logs start old events (Ok (Some event)) t after written
obeyed_event M Told logs start old events event s t before after was written g d text = record {
  after = events ++ event ∷ [];
  order = refl;
  goes = record {
    plays = plays_more M Told start events event s t before after g.plays d;
    text =
        let all : text_of logs (M.log t) ≡ text_of logs (M.log s) ++ text_of logs d.entries = ap (text_of logs) d.goes_on ∙ flat_map-append (entry_line logs) (M.log s) d.entries in
        rw all (Appends-trans old was written (text_of logs (M.log s)) (text_of logs d.entries) g.text text);
  };
}

-- and its text is written in part
pub half_told : {W : Type 0} (M : Meaning W) (Told : Type 0) (logs : Bool) (start : Net) (old : Option (List ℕ)) (events : List Event) (event : Event) (s t : W) (before after : List Records) (was written : Option (List ℕ))
    → Goes M Told logs start old events s before was → (d : Does M Told s t before after event) → Begins was written (text_of logs d.entries)
    → HalfTold M Told logs start old events event s t after written
half_told M Told logs start old events event s t before after was written g d begun = record {
  plays = plays_more M Told start events event s t before after g.plays d;
  told = record {
    latest = d.entries;
    parts = d.goes_on;
    front = begun.0;
    rest = begun.1;
    begun = begun.2;
    text = Appends-trans old was written (text_of logs (M.log s)) begun.0 g.text begun.3;
  };
}

-- an event that ends for want of memory
pub broken : {W : Type 0} (M : Meaning W) (Told : Type 0) (logs : Bool) (start : Net) (old : Option (List ℕ)) (events : List Event) (event : Event) (s t : W) (before after : List Records) (was : Option (List ℕ))
    → Goes M Told logs start old events s before was → Breaks M Told s t before after event → Broken M Told logs start old event s t after was
broken M Told logs start old events event s t before after was g b = record {
  latest = b.entries;
  parts = b.goes_on;
  begun = λ told. (b.runs told (run (M.log s) start) (g.plays.stands told)).0;
  cut = record {
    is_run = λ told. rw b.goes_on (longer (M.bricks s) (M.log s) b.entries start (g.plays.is_run told) (b.runs told (run (M.log s) start) (g.plays.stands told)).0.is_run);
    hold = λ told. rw b.goes_on (subst (λ (m : Net). StandsAs (M.bricks s) after m) (sym (joins (M.log s) b.entries start)) (b.runs told (run (M.log s) start) (g.plays.stands told)).1);
  };
  text = g.text;
}

-- an event that is refused
pub unchanged : {W : Type 0} (M : Meaning W) (Told : Type 0) (logs : Bool) (start : Net) (old : Option (List ℕ)) (events : List Event) (event : Event) (r : Refused) (s t : W) (before after : List Records) (was : Option (List ℕ))
    → Goes M Told logs start old events s before was → Refuses M Told s t before after event r → Goes M Told logs start old events t after was
unchanged M Told logs start old events event r s t before after was g e = record {
  plays = record {
    of_script = λ told. rw e.same (g.plays.of_script told);
    is_run = λ told. rw e.same (g.plays.is_run told);
    stands = λ told. rw (e.same, e.kept) (g.plays.stands told);
    keeps = rw e.same g.plays.keeps;
  };
  text = rw e.same g.text;
}

-- what isn't want of memory is a refusal
pub refuses : {W : Type 0} (M : Meaning W) (Told : Type 0) (s t : W) (before after : List Records) (event : Event) (r : Refused) → r ≢ refused.NoMemory → Fails M Told s t before after event r → Refuses M Told s t before after event r
refuses M Told s t before after event (refused.NoMessage number) other e = e
refuses M Told s t before after event (refused.NoneBetween client brick) other e = e
refuses M Told s t before after event (refused.Busy call) other e = e
refuses M Told s t before after event (refused.Idle client) other e = e
refuses M Told s t before after event (refused.Dead client) other e = e
refuses M Told s t before after event (refused.Down brick) other e = e
refuses M Told s t before after event (refused.Up brick) other e = e
refuses M Told s t before after event (refused.NoBrick brick) other e = e
refuses M Told s t before after event (refused.NotAsked client brick) other e = e
refuses M Told s t before after event (refused.NotTearable number) other e = e
refuses M Told s t before after event (refused.TooMany bytes) other e = e
refuses M Told s t before after event (refused.NotKeeping client) other e = e
refuses M Told s t before after event refused.Unbuilt other e = e
refuses M Told s t before after event refused.NoMemory other e = absurd (other refl)
