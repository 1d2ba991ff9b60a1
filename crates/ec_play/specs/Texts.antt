-- What a run writes of its log, and of the calls without an answer.
use Rattle.std.specs.Prelude.{ℕ, Bool, true, false, List, [], ◌∷◌, ◌++◌, codes, decimal, if◌then◌else◌}
use Rattle.std.specs.List.{flat_map}
use Rattle.ec_wire.specs.Entries.{entry_text}
use Rattle.ec_wire.specs.declared.entry.Entry.{Entry}
use Rattle.ec_wire.specs.declared.entry.Entry.TheVariants.{Called, Sent, Executed, Heard, Lost, GivenUp, Stopped, Returned, Cut, Died, Yielded, Torn, Answered, Replaced}

abbrev pub is_answer : Entry → Bool
is_answer (Called call client op) = false
is_answer (Sent message) = false
is_answer (Executed number version failed) = false
is_answer (Heard number) = false
is_answer (Lost number) = false
is_answer (GivenUp client brick number) = false
is_answer (Stopped brick) = false
is_answer (Returned brick) = false
is_answer (Cut client brick) = false
is_answer (Died client) = false
is_answer (Yielded client) = false
is_answer (Torn number bytes version) = false
is_answer (Answered call answer) = true
is_answer (Replaced brick removed all) = false

-- whether the line of an entry is written: of all entries, or of answers alone
abbrev pub is_told : Bool → Entry → Bool
is_told true e = true
is_told false e = is_answer e

-- the line of an entry, or nothing where it isn't written
abbrev pub entry_line : Bool → Entry → List ℕ
entry_line logs e = if is_told logs e then entry_text e ++ 10 ∷ [] else []

-- the lines of entries, in order
abbrev pub text_of : Bool → List Entry → List ℕ
text_of logs entries = flat_map (entry_line logs) entries

-- the line of a call without an answer
abbrev pub open_line : ℕ → List ℕ
open_line call = codes "open " ++ decimal call ++ 10 ∷ []

-- the lines of calls without an answer
abbrev pub open_text : List ℕ → List ℕ
open_text calls = flat_map open_line calls
