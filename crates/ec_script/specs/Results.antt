-- What the grammar says, and what a function found of it.
use Rattle.std.specs.Prelude.{◌≡◌, Option, Some, None, Result, Ok, Err, ◌⊎◌}
use Rattle.ec_script.specs.declared.fault.LineFault.{LineFault}
use Rattle.ec_script.specs.declared.fault.LineFault.TheVariants.{BadNumber, NoMemory}

-- the first fault is the one that counts
infixl 10 ◌>>=◌
abbrev pub ◌>>=◌ : {A B : Type 0} → Result A LineFault → (A → Result B LineFault) → Result B LineFault
(Ok x) >>= f = f x
(Err e) >>= f = Err e

-- what stands in a number's place and is none is a bad number
abbrev pub numbered : {A : Type 0} → Option A → Result A LineFault
numbered None = Err BadNumber
numbered (Some x) = Ok x

-- a fault that the grammar says, unless memory ran out
abbrev pub Fails : {A : Type 0} → LineFault → Result A LineFault → Type 0
Fails e said = (e ≡ NoMemory) ⊎ (said ≡ Err e)

-- what a function found, seen by view, is what the grammar says, unless memory ran out
abbrev pub Finds : {X A : Type 0} → (X → A) → Result X LineFault → Result A LineFault → Type 0
Finds view (Ok x) said = said ≡ Ok (view x)
Finds view (Err e) said = Fails e said
