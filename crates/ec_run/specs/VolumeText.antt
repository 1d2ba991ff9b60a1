-- What is read of a volume file, and what a refusal of it says.
use Rattle.std.specs.Prelude.{◌≡◌, ◌<◌, ◌+◌, ◌^◌, ℕ, ◌⊎◌, List, length, Option, Some, None}
use Rattle.ec_volfile.specs.Faults.{IsFirstFault}
use Rattle.ec_run.specs.declared.volume.TheConstants.{MOST_VOLUME_BYTES}
use Rattle.ec_run.specs.declared.volume.VolumeError.{VolumeError}
use Rattle.ec_run.specs.declared.volume.VolumeError.TheVariants.{ReadFault, Refused, NoMemory}

-- the most bytes that are taken of a volume file: one more than it may have
abbrev pub most_of_volume : ℕ
most_of_volume = MOST_VOLUME_BYTES + 1

-- the bytes are all that was left, or both are more than a volume file may have
abbrev pub IsTextOf : Option (List ℕ) → List ℕ → Type 0
IsTextOf None bytes = Unit {0}
IsTextOf (Some text) bytes = (text ≡ bytes) ⊎ ((2 ^ 20 < length text) × (2 ^ 20 < length bytes))

-- the first fault of the file is the one that is named
abbrev pub IsRefusedFor : List ℕ → VolumeError → Type 0
IsRefusedFor text ReadFault = Unit {0}
IsRefusedFor text (Refused line why) = IsFirstFault text line why
IsRefusedFor text NoMemory = Unit {0}
