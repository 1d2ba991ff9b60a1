-- What a script is played on means to the log of a run, and what it promises of an event.
use Rattle.std.specs.Prelude.{◌≡◌, ℕ, List, ◌++◌, Result, Ok, Err}
use Rattle.ec_attr.specs.declared.geometry.Geometry.{Geometry}
use Rattle.ec_clients.specs.Come.{Come}
use Rattle.ec_cluster.specs.Matches.{StandsAs}
use Rattle.ec_history.specs.IsRun.{IsRun}
use Rattle.ec_history.specs.Run.{Net, run}
use Rattle.ec_history.specs.Script.{IsOfEvent, Step, entries_of}
use Rattle.ec_store.specs.Records.{Records}
use Rattle.ec_wire.specs.declared.entry.Entry.{Entry}
use Rattle.ec_wire.specs.declared.event.Event.{Event}
use Rattle.ec_world.specs.Events.{FirstOfEvent}
use Rattle.ec_world.specs.declared.refused.Refused.{Refused}
use Rattle.ec_world.specs.declared.refused.Refused.TheVariants.{NoMemory}

pub record Meaning (W : Type 0) : Type 1 where
  -- its log, and how many bricks it has
  pub log : W → List Entry
  pub bricks : W → ℕ
  -- what holds of it between two events
  pub keeps : W → Type 0
  -- it and the records of the stores are as a net says
  pub stands : W → List Records → Net → Type 0
  -- it was begun with this geometry and this next gfid
  pub since : W → Geometry → ℕ → Type 0
  -- it refuses an event
  pub refuses : W → Event → Refused → Type 0

-- These entries are those of an event, and a run.
pub record IsDone (n : ℕ) (m : Net) (event : Event) (entries : List Entry) : Type 0 where
  pub steps : List Step
  pub of_steps : entries ≡ entries_of steps
  pub of_event : IsOfEvent n m event steps
  pub is_run : IsRun n entries m

-- These entries are those of the first steps of an event, and a run. Of the last of these steps entries at the end may be
-- missing that follow from what it names.
pub record IsBegun (n : ℕ) (m : Net) (event : Event) (entries : List Entry) : Type 0 where
  pub steps : List Step
  pub of_steps : entries ≡ entries_of steps
  pub from : Come
  pub net : from.net ≡ m
  pub first : FirstOfEvent n event from steps
  pub is_run : IsRun n entries m

-- An event that is done. `Told` says that the stores tell their records.
pub record Does {W : Type 0} (M : Meaning W) (Told : Type 0) (s t : W) (before after : List Records) (event : Event) : Type 0 where
  pub entries : List Entry
  pub goes_on : M.log t ≡ M.log s ++ entries
  pub bricks : M.bricks t ≡ M.bricks s
  pub keeps : M.keeps t
  pub since : (geometry : Geometry) (first : ℕ) → M.since s geometry first → M.since t geometry first
  pub runs : Told → (m : Net) → M.stands s before m → IsDone (M.bricks s) m event entries × M.stands t after (run entries m)

-- An event that ends for want of memory: the log has the entries of its first steps, which are a run, and the stores stand
-- as these say.
pub record Breaks {W : Type 0} (M : Meaning W) (Told : Type 0) (s t : W) (before after : List Records) (event : Event) : Type 0 where
  pub entries : List Entry
  pub goes_on : M.log t ≡ M.log s ++ entries
  pub bricks : M.bricks t ≡ M.bricks s
  pub runs : Told → (m : Net) → M.stands s before m → IsBegun (M.bricks s) m event entries × StandsAs (M.bricks s) after (run entries m)

-- An event that is refused changes nothing.
pub record Refuses {W : Type 0} (M : Meaning W) (Told : Type 0) (s t : W) (before after : List Records) (event : Event) (why : Refused) : Type 0 where
  pub same : t ≡ s
  pub kept : after ≡ before
  pub refused : M.refuses s event why

abbrev pub Fails : {W : Type 0} → Meaning W → Type 0 → W → W → List Records → List Records → Event → Refused → Type 0
Fails M Told s t before after event NoMemory = Breaks M Told s t before after event
Fails M Told s t before after event why = Refuses M Told s t before after event why

-- what a step promises
abbrev pub Steps : {W : Type 0} → Meaning W → Type 0 → W → W → List Records → List Records → Event → Result (Unit {0}) Refused → Type 0
Steps M Told s t before after event (Ok x) = Does M Told s t before after event
Steps M Told s t before after event (Err why) = Fails M Told s t before after event why
