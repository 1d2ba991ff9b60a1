-- What functions answer that may run out of memory.
use Rattle.std.specs.Prelude.{◌≡◌, ℕ, Result, Ok, Err}
use Rattle.ec_volfile.specs.declared.fault.VolumeFault.{VolumeFault}
use Rattle.ec_volfile.specs.declared.fault.VolumeFault.TheVariants.{NoMemory}
use Rattle.ec_volfile.specs.declared.volume.Volume.{Volume}
use Rattle.ec_volfile.specs.Outline.{Outline, outline}

-- What a function returned, seen by a view, is what was to be, unless memory ran out.
abbrev pub Fails : {Y : Type 0} → VolumeFault → Result Y VolumeFault → Type 0
Fails NoMemory read = Unit {0}
Fails f read = read ≡ Err f

abbrev pub Gives : {X Y : Type 0} → (X → Y) → Result X VolumeFault → Result Y VolumeFault → Type 0
Gives view (Ok x) read = read ≡ Ok (view x)
Gives view (Err f) read = Fails f read

-- What was read is this, unless memory ran out. Then the number of the line tells nothing.
abbrev pub FailsAt : {Y : Type 0} → ℕ → VolumeFault → Result Y (ℕ × VolumeFault) → Type 0
FailsAt n NoMemory read = Unit {0}
FailsAt n f read = read ≡ Err (n, f)

abbrev pub Reads : Result Volume (ℕ × VolumeFault) → Result Outline (ℕ × VolumeFault) → Type 0
Reads (Ok v) read = read ≡ Ok (outline v)
Reads (Err e) read = FailsAt e.0 e.1 read

-- what was read is this volume, unless memory ran out
abbrev pub IsReadAs : Result Volume (ℕ × VolumeFault) → Volume → Type 0
IsReadAs (Ok w) v = w ≡ v
IsReadAs (Err e) v = e.1 ≡ NoMemory
