-- The causes of faults, and texts that are written in part.
use Rattle.std.specs.Prelude.{◌≡◌, ℕ, ◌+◌, ◌-◌, ◌^◌, ◌<◌, ◌≤◌, min, List, length, ◌++◌, Option, Result, OnErr, IfOk, IsErrOf}
use Rattle.std.specs.Io.KnownBytes.{Appends}
use Rattle.ec_store.specs.declared.ends.SinkFault.{SinkFault}
use Rattle.ec_store.specs.declared.ends.SinkFault.TheVariants.{Failed}

-- a count of faults has risen, or stands at its type's end
abbrev pub Rose : ℕ → ℕ → Type 0
Rose before now = min (before + 1) (2 ^ 64 - 1) ≤ now

-- a text is written from its front on, maybe not to its end
abbrev pub Begins : Option (List ℕ) → Option (List ℕ) → List ℕ → Type 0
Begins old new text = (front : List ℕ) × (rest : List ℕ) × (text ≡ front ++ rest) × Appends old new front

-- a read fails only where the count rose
pub record HasCause {T E : Type 0} (before now : ℕ) (result : Result T E) : Type 0 where
  pub later : before ≤ now
  pub failed : OnErr result (Rose before now)

-- a write fails, or takes nothing of bytes, only where the count rose
pub record HasWriteCause (before now : ℕ) (bytes : List ℕ) (result : Result ℕ SinkFault) : Type 0 where
  pub later : before ≤ now
  pub failed : IsErrOf result Failed → Rose before now
  pub stuck : IfOk result (λ n. n ≡ 0 → 0 < length bytes → Rose before now)
