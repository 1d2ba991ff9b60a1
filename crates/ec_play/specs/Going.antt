-- A run between two lines of its script, and what one line makes of it.
use Rattle.std.specs.Prelude.{◌≡◌, ◌≢◌, ◌⊎◌, ℕ, ◌+◌, Bool, List, [], ◌∷◌, ◌++◌, length, Option, Some, None, Result, Ok, Err}
use Rattle.std.specs.Io.KnownBytes.{Appends, Keeps}
use Rattle.ec_history.specs.IsRun.{IsRun}
use Rattle.ec_history.specs.Run.{Net, run}
use Rattle.ec_history.specs.Script.{IsLogOf}
use Rattle.ec_script.specs.declared.fault.LineFault.{LineFault}
use Rattle.ec_script.specs.declared.fault.LineFault.TheVariants as fault
use Rattle.ec_store.specs.Causes.{Begins}
use Rattle.ec_store.specs.Records.{Records}
use Rattle.ec_wire.specs.declared.entry.Entry.{Entry}
use Rattle.ec_wire.specs.declared.event.Event.{Event}
use Rattle.ec_world.specs.declared.refused.Refused.TheVariants as refused
use Rattle.ec_play.specs.declared.obeying.Stop.{Stop}
use Rattle.ec_play.specs.declared.obeying.Stop.TheVariants as stop
use Rattle.ec_play.specs.declared.status.ScriptWhy.{ScriptWhy}
use Rattle.ec_play.specs.declared.status.ScriptWhy.TheVariants as why
use Rattle.ec_play.specs.declared.status.Status.{Status}
use Rattle.ec_play.specs.declared.status.Status.TheVariants as status
use Rattle.ec_play.specs.Ends.{IsCutShort, IsHalfTold}
use Rattle.ec_play.specs.Lines.{lines}
use Rattle.ec_world.specs.Unanswered.{AreUnanswered}
use Rattle.ec_play.specs.Meaning.{IsBegun, Meaning}
use Rattle.ec_play.specs.Orders.{orders, with_order}
use Rattle.ec_play.specs.Texts.{open_text, text_of}

-- These events were obeyed, from a net on: the log, what is played on and the stores are as they say.
pub record Plays {W : Type 0} (M : Meaning W) (Told : Type 0) (start : Net) (events : List Event) (w : W) (stores : List Records) : Type 0 where
  pub of_script : Told → IsLogOf (M.bricks w) start events (M.log w)
  pub is_run : Told → IsRun (M.bricks w) (M.log w) start
  pub stands : Told → M.stands w stores (run (M.log w) start)
  pub keeps : M.keeps w

-- and their text is written
pub record Goes {W : Type 0} (M : Meaning W) (Told : Type 0) (logs : Bool) (start : Net) (old : Option (List ℕ)) (events : List Event) (w : W) (stores : List Records) (written : Option (List ℕ)) : Type 0 where
  pub plays : Plays M Told start events w stores
  pub text : Appends old written (text_of logs (M.log w))

-- an event more was obeyed, and its text is written in part
pub record HalfTold {W : Type 0} (M : Meaning W) (Told : Type 0) (logs : Bool) (start : Net) (old : Option (List ℕ)) (events : List Event) (event : Event) (s t : W) (stores : List Records) (written : Option (List ℕ)) : Type 0 where
  pub plays : Plays M Told start (events ++ event ∷ []) t stores
  pub told : IsHalfTold logs old written (M.log s) (M.log t)

-- an event ended for want of memory, and none of its text is written
pub record Broken {W : Type 0} (M : Meaning W) (Told : Type 0) (logs : Bool) (start : Net) (old : Option (List ℕ)) (event : Event) (s t : W) (stores : List Records) (written : Option (List ℕ)) : Type 0 where
  pub latest : List Entry
  pub parts : M.log t ≡ M.log s ++ latest
  pub begun : Told → IsBegun (M.bricks s) (run (M.log s) start) event latest
  pub cut : IsCutShort Told (M.bricks s) start (M.log t) stores
  pub text : Appends old written (text_of logs (M.log s))

-- but for want of memory
abbrev pub ButForMemory : Result (Unit {0}) Stop → Type 0 → Type 0
ButForMemory (Err stop.NoMemory) holds = Unit {0}
ButForMemory result holds = holds

-- why a line isn't obeyed, by what it orders
abbrev pub IsBadAs : {W : Type 0} → Meaning W → W → Result (Option Event) LineFault → ScriptWhy → Type 0
IsBadAs M w said (why.Line f) = (said ≡ Err f) × (f ≢ fault.NoMemory)
IsBadAs M w said (why.Event r) = (event : Event) × (said ≡ Ok (Some event)) × M.refuses w event r × (r ≢ refused.NoMemory)

-- What stands where a line isn't obeyed or its text isn't written whole. `s` is as it was before the line, and the line
-- says so.
abbrev pub Stopped : {W : Type 0} → Meaning W → Type 0 → Bool → Net → Option (List ℕ) → List Event → Result (Option Event) LineFault → W → W → List Records → Option (List ℕ) → Stop → Type 0
Stopped M Told logs start old events said s t stores written (stop.Bad because) =
    Goes M Told logs start old events t stores written × IsBadAs M t said because
Stopped M Told logs start old events said s t stores written stop.WriteFault =
    (event : Event) × (said ≡ Ok (Some event)) × HalfTold M Told logs start old events event s t stores written
Stopped M Told logs start old events said s t stores written stop.NoMemory =
    Goes M Told logs start old events t stores written
    ⊎ ((event : Event) × (said ≡ Ok (Some event)) × (Broken M Told logs start old event s t stores written ⊎ HalfTold M Told logs start old events event s t stores written))

-- what stands after a line that is obeyed
pub record Obeys {W : Type 0} (M : Meaning W) (Told : Type 0) (logs : Bool) (start : Net) (old : Option (List ℕ)) (events : List Event) (said : Result (Option Event) LineFault) (t : W) (stores : List Records) (written : Option (List ℕ)) : Type 0 where
  pub after : List Event
  pub order : with_order events said ≡ Some after
  pub goes : Goes M Told logs start old after t stores written

-- the lines before this number were obeyed, and their text is written
abbrev pub Between : {W : Type 0} → Meaning W → Type 0 → Bool → Net → Option (List ℕ) → Option (List ℕ) → Option (List ℕ) → ℕ → W → List Records → Option (List ℕ) → Type 0
Between M Told logs start None now old number w stores written = Unit {0}
Between M Told logs start (Some input) None old number w stores written = ⊥
Between M Told logs start (Some input) (Some rest) old number w stores written =
    (front : List (List ℕ)) × (events : List Event)
    × (lines input ≡ front ++ lines rest) × (number ≡ length front + 1) × (orders front [] 1 ≡ Some events)
    × Goes M Told logs start old events w stores written

-- The calls without an answer are told.
pub record TellsOpen (m : Net) (old new : Option (List ℕ)) : Type 0 where
  pub calls : List ℕ
  pub unanswered : AreUnanswered m calls
  pub text : Appends old new (open_text calls)

-- They are told in part.
pub record BeginsOpen (m : Net) (old new : Option (List ℕ)) : Type 0 where
  pub calls : List ℕ
  pub unanswered : AreUnanswered m calls
  pub text : Begins old new (open_text calls)

-- the last lines of a run
abbrev pub Finishes : Status → Net → Option (List ℕ) → Option (List ℕ) → Type 0
Finishes status.Done m old new = TellsOpen m old new
Finishes (status.BadScript line because) m old new = ⊥
Finishes (status.BadVolume line because) m old new = ⊥
Finishes status.BadWords m old new = ⊥
Finishes status.ReadFault m old new = ⊥
Finishes status.WriteFault m old new = BeginsOpen m old new
Finishes (status.WrongBricks because) m old new = ⊥
Finishes (status.StoreFault b) m old new = ⊥
Finishes status.NoMemory m old new = Keeps old new ⊎ BeginsOpen m old new
