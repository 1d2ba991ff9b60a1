-- The numbers of the statuses, and which of them come before the script is asked for.
use Rattle.std.specs.Prelude.{ℕ, Bool, true, false}
use Rattle.ec_play.specs.declared.obeying.Stop.{Stop}
use Rattle.ec_play.specs.declared.obeying.Stop.TheVariants as stop
use Rattle.ec_play.specs.declared.status.Status.{Status}
use Rattle.ec_play.specs.declared.status.Status.TheVariants.{Done, BadScript, BadVolume, BadWords, ReadFault, WriteFault, WrongBricks, StoreFault, NoMemory}

-- the number of a status, with which the program ends
abbrev pub number_of_status : Status → ℕ
number_of_status Done = 0
number_of_status (BadScript line why) = 1
number_of_status (BadVolume line why) = 2
number_of_status BadWords = 3
number_of_status ReadFault = 4
number_of_status WriteFault = 5
number_of_status (WrongBricks why) = 6
number_of_status (StoreFault b) = 7
number_of_status NoMemory = 8

-- the run ended before it asked for the script
abbrev pub is_refusal : Status → Bool
is_refusal Done = false
is_refusal (BadScript line why) = false
is_refusal (BadVolume line why) = true
is_refusal BadWords = true
is_refusal ReadFault = false
is_refusal WriteFault = false
is_refusal (WrongBricks why) = true
is_refusal (StoreFault b) = true
is_refusal NoMemory = false

-- the status of a script that goes no further than a line
abbrev pub stop_status : ℕ → Stop → Status
stop_status line (stop.Bad why) = BadScript line why
stop_status line stop.WriteFault = WriteFault
stop_status line stop.NoMemory = NoMemory

-- but for a run that ends for want of memory
abbrev pub ButForMemoryIn : Status → Type 0 → Type 0
ButForMemoryIn NoMemory holds = Unit {0}
ButForMemoryIn how holds = holds
