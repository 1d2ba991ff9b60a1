-- What a status says of a script that is played, of its log and of what is written.
use Rattle.std.specs.Prelude.{◌≡◌, ◌≢◌, ◌⊎◌, ℕ, ◌+◌, Bool, List, [], ◌∷◌, ◌++◌, length, Option, Some, Ok, Err}
use Rattle.std.specs.Io.KnownBytes.{Appends}
use Rattle.ec_cluster.specs.Matches.{StandsAs}
use Rattle.ec_history.specs.IsRun.{IsRun}
use Rattle.ec_history.specs.Run.{Net, run}
use Rattle.ec_history.specs.Script.{IsLogOf}
use Rattle.ec_script.specs.declared.fault.LineFault.TheVariants as fault
use Rattle.ec_store.specs.Records.{Records}
use Rattle.ec_wire.specs.declared.entry.Entry.{Entry}
use Rattle.ec_wire.specs.declared.event.Event.{Event}
use Rattle.ec_world.specs.declared.refused.Refused.{Refused}
use Rattle.ec_world.specs.declared.refused.Refused.TheVariants as refused
use Rattle.ec_play.specs.declared.status.ScriptWhy.{ScriptWhy}
use Rattle.ec_play.specs.declared.status.ScriptWhy.TheVariants as why
use Rattle.ec_play.specs.declared.status.Status.{Status}
use Rattle.ec_play.specs.declared.status.Status.TheVariants as status
use Rattle.ec_play.specs.Lines.{lines}
use Rattle.ec_world.specs.Unanswered.{AreUnanswered}
use Rattle.ec_play.specs.Meaning.{IsBegun, Meaning}
use Rattle.ec_play.specs.Orders.{line_order, orders}
use Rattle.ec_play.specs.Texts.{open_text, text_of}

-- The log is that of these events, from a net on, and a run; the stores hold what it leaves. It is that of something to
-- play on that stands between two events.
pub record IsPlayed {W : Type 0} (M : Meaning W) (Told : Type 0) (n : ℕ) (start : Net) (events : List Event) (log : List Entry) (stores : List Records) : Type 0 where
  pub of_script : Told → IsLogOf n start events log
  pub is_run : Told → IsRun n log start
  pub hold : Told → StandsAs n stores (run log start)
  pub stage : W
  pub of_log : M.log stage ≡ log
  pub keeps : M.keeps stage

-- The log is a run, and the stores hold what it leaves.
pub record IsCutShort (Told : Type 0) (n : ℕ) (start : Net) (log : List Entry) (stores : List Records) : Type 0 where
  pub is_run : Told → IsRun n log start
  pub hold : Told → StandsAs n stores (run log start)

-- The first lines of a script order these events.
pub record IsFront (input : List ℕ) (front rest : List (List ℕ)) (events : List Event) : Type 0 where
  pub parts : lines input ≡ front ++ rest
  pub order : orders front [] 1 ≡ Some events

-- These lines were obeyed, and their text is written.
pub record IsObeyed {W : Type 0} (M : Meaning W) (Told : Type 0) (n : ℕ) (logs : Bool) (start : Net) (input : List ℕ) (front rest : List (List ℕ)) (events : List Event) (old new : Option (List ℕ)) (log : List Entry) (stores : List Records) : Type 0 where
  pub are_front : IsFront input front rest events
  pub played : IsPlayed M Told n start events log stores
  pub text : Appends old new (text_of logs log)

-- The next line orders an event.
pub record IsNext (front : List (List ℕ)) (line : List ℕ) (event : Event) : Type 0 where
  pub order : line_order (length front + 1) line ≡ Ok (Some event)

-- The text of the last event is written in part: that of the entries before it whole, and a front part of its own.
pub record IsHalfTold (logs : Bool) (old new : Option (List ℕ)) (earlier log : List Entry) : Type 0 where
  pub latest : List Entry
  pub parts : log ≡ earlier ++ latest
  pub front : List ℕ
  pub rest : List ℕ
  pub begun : text_of logs latest ≡ front ++ rest
  pub text : Appends old new (text_of logs earlier ++ front)

-- A line more was obeyed, but its text is written in part.
pub record IsHalfWritten {W : Type 0} (M : Meaning W) (Told : Type 0) (n : ℕ) (logs : Bool) (start : Net) (input : List ℕ) (old new : Option (List ℕ)) (log : List Entry) (stores : List Records) : Type 0 where
  pub front : List (List ℕ)
  pub line : List ℕ
  pub rest : List (List ℕ)
  pub events : List Event
  pub event : Event
  pub earlier : List Entry
  pub are_front : IsFront input front (line ∷ rest) events
  pub next : IsNext front line event
  pub before : Told → IsLogOf n start events earlier
  pub played : IsPlayed M Told n start (events ++ event ∷ []) log stores
  pub told : IsHalfTold logs old new earlier log

-- All lines were obeyed, but the calls without an answer are told in part.
pub record IsHalfOpen {W : Type 0} (M : Meaning W) (Told : Type 0) (n : ℕ) (logs : Bool) (start : Net) (input : List ℕ) (old new : Option (List ℕ)) (log : List Entry) (stores : List Records) : Type 0 where
  pub events : List Event
  pub calls : List ℕ
  pub front : List ℕ
  pub rest : List ℕ
  pub all : orders (lines input) [] 1 ≡ Some events
  pub unanswered : AreUnanswered (run log start) calls
  pub played : IsPlayed M Told n start events log stores
  pub begun : open_text calls ≡ front ++ rest
  pub text : Appends old new (text_of logs log ++ front)

-- The event of the line that follows ended for want of memory: the log has the entries of its first steps, and none of its
-- text is written.
pub record IsBroken (Told : Type 0) (n : ℕ) (logs : Bool) (start : Net) (input : List ℕ) (old new : Option (List ℕ)) (log : List Entry) (stores : List Records) : Type 0 where
  pub front : List (List ℕ)
  pub line : List ℕ
  pub rest : List (List ℕ)
  pub events : List Event
  pub last : Event
  pub earlier : List Entry
  pub latest : List Entry
  pub are_front : IsFront input front (line ∷ rest) events
  pub next : IsNext front line last
  pub parts : log ≡ earlier ++ latest
  pub before : Told → IsLogOf n start events earlier
  pub begun : Told → IsBegun n (run earlier start) last latest
  pub cut : IsCutShort Told n start log stores
  pub text : Appends old new (text_of logs earlier)

-- All lines were obeyed, and all is written.
pub record IsWhole {W : Type 0} (M : Meaning W) (Told : Type 0) (n : ℕ) (logs : Bool) (start : Net) (input : List ℕ) (old new : Option (List ℕ)) (log : List Entry) (stores : List Records) : Type 0 where
  pub events : List Event
  pub calls : List ℕ
  pub all : orders (lines input) [] 1 ≡ Some events
  pub unanswered : AreUnanswered (run log start) calls
  pub played : IsPlayed M Told n start events log stores
  pub text : Appends old new (text_of logs log ++ open_text calls)

-- Lines were obeyed, and the source gave no more.
pub record IsUnread {W : Type 0} (M : Meaning W) (Told : Type 0) (n : ℕ) (logs : Bool) (start : Net) (input : List ℕ) (old new : Option (List ℕ)) (log : List Entry) (stores : List Records) : Type 0 where
  pub front : List (List ℕ)
  pub rest : List (List ℕ)
  pub events : List Event
  pub obeyed : IsObeyed M Told n logs start input front rest events old new log stores

-- What is played on stands as the log and the stores say, and refuses the event.
pub record IsRefused {W : Type 0} (M : Meaning W) (Told : Type 0) (start : Net) (event : Event) (r : Refused) (log : List Entry) (stores : List Records) : Type 0 where
  pub stage : W
  pub of_log : M.log stage ≡ log
  pub stands : Told → M.stands stage stores (run log start)
  pub refuses : M.refuses stage event r
  pub other : r ≢ refused.NoMemory

-- why a line isn't obeyed
abbrev pub IsBadFor : {W : Type 0} → Meaning W → Type 0 → Net → ℕ → List ℕ → List Entry → List Records → ScriptWhy → Type 0
IsBadFor M Told start number line log stores (why.Line f) = (line_order number line ≡ Err f) × (f ≢ fault.NoMemory)
IsBadFor M Told start number line log stores (why.Event r) = (event : Event) × (line_order number line ≡ Ok (Some event)) × IsRefused M Told start event r log stores

-- The lines before this one were obeyed, and this one can't be.
pub record IsBad {W : Type 0} (M : Meaning W) (Told : Type 0) (n : ℕ) (logs : Bool) (start : Net) (number : ℕ) (because : ScriptWhy) (input : List ℕ) (old new : Option (List ℕ)) (log : List Entry) (stores : List Records) : Type 0 where
  pub front : List (List ℕ)
  pub line : List ℕ
  pub rest : List (List ℕ)
  pub events : List Event
  pub obeyed : IsObeyed M Told n logs start input front (line ∷ rest) events old new log stores
  pub at : number ≡ length front + 1
  pub bad : IsBadFor M Told start number line log stores because

-- what a run that plays a script, and has this status, says
abbrev pub Ends : {W : Type 0} → Meaning W → Type 0 → ℕ → Bool → Net → Status → List ℕ → Option (List ℕ) → Option (List ℕ) → List Entry → List Records → Type 0
Ends M Told n logs start status.Done input old new log stores = IsWhole M Told n logs start input old new log stores
Ends M Told n logs start (status.BadScript number because) input old new log stores = IsBad M Told n logs start number because input old new log stores
Ends M Told n logs start (status.BadVolume line because) input old new log stores = ⊥
Ends M Told n logs start status.BadWords input old new log stores = ⊥
Ends M Told n logs start status.ReadFault input old new log stores = IsUnread M Told n logs start input old new log stores
Ends M Told n logs start status.WriteFault input old new log stores =
    IsHalfWritten M Told n logs start input old new log stores ⊎ IsHalfOpen M Told n logs start input old new log stores
Ends M Told n logs start (status.WrongBricks because) input old new log stores = ⊥
Ends M Told n logs start (status.StoreFault b) input old new log stores = ⊥
Ends M Told n logs start status.NoMemory input old new log stores =
    IsUnread M Told n logs start input old new log stores
    ⊎ IsBroken Told n logs start input old new log stores
    ⊎ IsHalfWritten M Told n logs start input old new log stores
    ⊎ IsHalfOpen M Told n logs start input old new log stores
